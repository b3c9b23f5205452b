use Rattle.std.proofs.Common.{rules, to_z, of_z, ◌≡◌, ◌+◌, ◌≤◌, List, length, ap, subst, ◌∙◌}
use mir.Syntax.{w128}
use Rattle.model_values.specs.Row.{Row}
use Rattle.model_sets.specs.Rows.{of_rows}
use Rattle.model_sets.specs.Equations.{changed}
use Rattle.model_sets.proofs.RowLaws.{ascending-of_rows}
use Rattle.model_states.specs.Content.{row_limit}
use Rattle.lasp_graph.specs.States.{Held, held_at, extended}
use Rattle.lasp_replica.specs.Unread.{rows_with, IsTakenOn}
use Rattle.lasp_replica.proofs.InPlaceLaws.{are-new, extended-new, few-fit, up-to-date}
use Rattle.lasp_replica.proofs.replica.Replica.take_in.Goals as goal

pub returns-then-takes_rows-clause-state : goal.returns-then-takes_rows-clause-state
returns-then-takes_rows-clause-state c =
    let r = c.args.self.now in
    let s = (held_at r.states c.args.var).content.rows in
    let few = subst (λ (rows : List Row). length s + length rows ≤ row_limit) c.deref.ensures.value (c.takes_rows.ensures.few c.if-takes_rows.true) in
    up-to-date r c.args.var (of_rows c.args.given.rows.items) c.args.given.number c.requires.whole c.requires.number (few-fit s c.args.given.rows.items few)

pub take_on-requires-clause-new : goal.take_on-requires-clause-new
take_on-requires-clause-new c =
    let h = held_at c.args.self.now.states c.args.var in
    are-new h (of_rows c.args.given.rows.items) c.in_ok-new.new (ascending-of_rows c.args.given.rows.items) (c.in_ok-new.ensures.new ∙ ap (λ (rows : List Row). changed h.content.rows (of_rows rows)) c.deref-2.ensures.value)

pub returns-clause-ok : goal.returns-clause-ok
returns-clause-ok c =
    let h = held_at c.args.self.now.states c.args.var in
    let new : c.in_ok-new.new ≡ changed h.content.rows (of_rows c.args.given.rows.items) = c.in_ok-new.ensures.new ∙ ap (λ (rows : List Row). changed h.content.rows (of_rows rows)) c.deref-2.ensures.value in
    let number : to_z w128 (of_z w128 c.args.given.number) ≡ c.args.given.number = search rules in
    let held = (λ j. extended h c.in_ok-new.new (number j)) ∙ extended-new h (of_rows c.args.given.rows.items) c.in_ok-new.new c.args.given.number new in
    subst (λ (s : Held). IsTakenOn c.args.var s c.in_ok-take_on.field-0 c.args.self.now c.take_on.new.self) held c.in_ok-take_on.ensures.ok

pub returns-clause-state : goal.returns-clause-state
returns-clause-state c =
    let r = c.args.self.now in
    up-to-date r c.args.var (of_rows c.args.given.rows.items) c.args.given.number c.requires.whole c.requires.number
    (subst (λ (rows : List Row). length (rows_with r c.args.var (of_rows rows)) ≤ row_limit) c.deref-2.ensures.value c.in_ok-new.ensures.small)
