use Rattle.std.proofs.Common.{rules, ◌≡◌, ℕ, ℤ, ◌<◌, List, length, OnOk, to_z, of_z, sym, subst}
use mir.Syntax.{w128}
use Rattle.std.proofs.lemmas.List.{length-map}
use Rattle.lasp_graph.specs.States.{Held, extended}
use Rattle.lasp_graph.proofs.StateLists.{shown, turn-at-ok, turn-at-err}
use Rattle.lasp_graph.proofs.states.States.extend_at.Goals as goal

pub returns-clause-ok : goal.returns-clause-ok
returns-clause-ok c =
    let same : to_z w128 (of_z w128 c.args.number) ≡ c.args.number = search rules in
    rw (← c.self.view_is) (turn-at-ok c.extend_shared.result c.self.inside.states.items c.args.i c.index_mut.result.now c.extend_shared.new.shared (λ (h : Held). extended h c.args.rows.now c.args.number)
    (subst (λ (n : ℕ). c.args.i < n) (length-map c.self.inside.states.items _) (subst (λ (l : List Held). c.args.i < length l) (sym c.self.view_is) c.requires.within)) c.index_mut.ensures.value
    (subst (λ (n : ℤ). OnOk c.extend_shared.result (shown c.extend_shared.new.shared ≡ extended (shown c.index_mut.result.now) c.args.rows.now n)) same c.extend_shared.ensures.ok))

pub returns-clause-err : goal.returns-clause-err
returns-clause-err c = rw (← c.self.view_is) (turn-at-err c.extend_shared.result c.self.inside.states.items c.args.i c.index_mut.result.now c.extend_shared.new.shared c.index_mut.ensures.value c.extend_shared.ensures.err)
