use Rattle.std.proofs.Common.{ℕ, ◌<◌, List, length, sym, subst}
use Rattle.std.proofs.lemmas.List.{length-map}
use Rattle.lasp_graph.specs.States.{Held, held_of, held_at, grown, AreJoinable}
use Rattle.lasp_graph.proofs.StateLists.{turn-at-ok, turn-at-err, held-found}
use Rattle.lasp_graph.proofs.states.States.join_at.Goals as goal

pub join_shared-requires : goal.join_shared-requires
join_shared-requires c =
    let within = subst (λ (n : ℕ). c.args.i < n) (length-map c.self.inside.states.items _) (subst (λ (l : List Held). c.args.i < length l) (sym c.self.view_is) c.requires.within) in
    let joinable = subst (λ (l : List Held). AreJoinable (held_at l c.args.i) (held_of c.args.other.now)) (sym c.self.view_is) c.requires.joinable in
    subst (λ (h : Held). AreJoinable h (held_of c.args.other.now)) (sym (held-found c.self.inside.states.items c.args.i c.index_mut.result.now within c.index_mut.ensures.value)) joinable

pub returns-clause-ok : goal.returns-clause-ok
returns-clause-ok c =
    rw (← c.self.view_is) (turn-at-ok c.join_shared.result c.self.inside.states.items c.args.i c.index_mut.result.now c.join_shared.new.shared (λ (h : Held). grown h (held_of c.args.other.now))
    (subst (λ (n : ℕ). c.args.i < n) (length-map c.self.inside.states.items _) (subst (λ (l : List Held). c.args.i < length l) (sym c.self.view_is) c.requires.within)) c.index_mut.ensures.value c.join_shared.ensures.ok)

pub returns-clause-err : goal.returns-clause-err
returns-clause-err c = rw (← c.self.view_is) (turn-at-err c.join_shared.result c.self.inside.states.items c.args.i c.index_mut.result.now c.join_shared.new.shared c.index_mut.ensures.value c.join_shared.ensures.err)
