use Rattle.std.proofs.Common.{rules, ◌≡◌, ℕ, ℤ, ◌<◌, List, length, OnOk, IfOk, to_z, of_z, sym, subst}
use mir.Syntax.{w128}
use Rattle.std.proofs.lemmas.List.{length-map}
use Rattle.model_sets.specs.Rows.{of_rows}
use Rattle.model_sets.specs.Equations.{changed}
use Rattle.lasp_graph.specs.States.{Held, extended}
use Rattle.lasp_graph.proofs.StateLists.{shown, held-found, turn-at-ok, turn-at-err}
use Rattle.lasp_graph.proofs.states.States.take_in_at.Goals as goal

pub returns-clause-ok : goal.returns-clause-ok
returns-clause-ok c =
    let same : to_z w128 (of_z w128 c.args.number) ≡ c.args.number = search rules in
    rw (← c.self.view_is) (turn-at-ok c.take_in_shared.result c.self.inside.states.items c.args.i c.index_mut.result.now c.take_in_shared.new.shared (λ (h : Held). extended h (of_rows c.args.rows.items) c.args.number)
    (subst (λ (n : ℕ). c.args.i < n) (length-map c.self.inside.states.items _) (subst (λ (l : List Held). c.args.i < length l) (sym c.self.view_is) c.requires.within)) c.index_mut.ensures.value
    (subst (λ (n : ℤ). OnOk c.take_in_shared.result (shown c.take_in_shared.new.shared ≡ extended (shown c.index_mut.result.now) (of_rows c.args.rows.items) n)) same c.take_in_shared.ensures.ok))

pub returns-clause-told : goal.returns-clause-told
returns-clause-told c =
    rw (← c.self.view_is) (subst (λ (h : Held). IfOk c.take_in_shared.result (λ told. told ≡ changed h.content.rows (of_rows c.args.rows.items)))
    (held-found c.self.inside.states.items c.args.i c.index_mut.result.now (subst (λ (n : ℕ). c.args.i < n) (length-map c.self.inside.states.items _) (subst (λ (l : List Held). c.args.i < length l) (sym c.self.view_is) c.requires.within)) c.index_mut.ensures.value)
    c.take_in_shared.ensures.told)

pub returns-clause-err : goal.returns-clause-err
returns-clause-err c = rw (← c.self.view_is) (turn-at-err c.take_in_shared.result c.self.inside.states.items c.args.i c.index_mut.result.now c.take_in_shared.new.shared c.index_mut.ensures.value c.take_in_shared.ensures.err)
