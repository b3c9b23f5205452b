use Rattle.std.proofs.Common.{◌≡◌, nat_le, List, sym, ap, subst, ◌∙◌}
use Rattle.std.specs.Arc.{arc_value}
use Rattle.model_values.specs.Row.{Row}
use Rattle.model_sets.specs.Rows.{of_rows}
use Rattle.model_sets.specs.Equations.{changed}
use Rattle.model_states.specs.Content.{join_contents, of_set, size_of, row_limit}
use Rattle.lasp_graph.specs.States.{HasRows, Held, held_at}
use Rattle.lasp_replica.proofs.TakeLaws.{states-at}
use Rattle.lasp_replica.proofs.FinishLaws.{held-rows}
use Rattle.lasp_replica.proofs.InPlaceLaws.{held-there, too-large, new-fit, new-many}
use Rattle.lasp_replica.proofs.replica.Replica.rows_to_take.Goals as goal

pub at-requires : goal.at-requires
at-requires c = states-at c.args.self.now c.requires.replica c.args.var c.from.result c.from.ensures c.requires.derived.declared

pub rows_of-present-requires : goal.rows_of-present-requires
rows_of-present-requires c =
    let r = c.args.self.now in
    let old = held-there r.states c.from.result c.args.var (arc_value c.at.result.now) c.deref.result.now c.from.ensures c.at.ensures c.deref.ensures in
    subst (λ (h : Held). HasRows h.shape) (sym old) (held-rows r c.requires.replica c.args.var c.requires.derived)

pub returns-then-not-rows_fit-clause-large : goal.returns-then-not-rows_fit-clause-large
returns-then-not-rows_fit-clause-large c = λ _.
    let r = c.args.self.now in
    let old = held-there r.states c.from.result c.args.var (arc_value c.at.result.now) c.deref.result.now c.from.ensures c.at.ensures c.deref.ensures in
    let present : c.rows_of-present.result.now ≡ (held_at r.states c.args.var).content.rows = c.rows_of-present.ensures ∙ ap (λ (h : Held). h.content.rows) old in
    let new : c.in_ok-new.new ≡ changed (held_at r.states c.args.var).content.rows (of_rows c.args.rows.now) = c.in_ok-new.ensures ∙ (λ i. changed (present i) (c.in_ok-given.ensures i)) in
    too-large r c.args.var (of_rows c.args.rows.now) c.requires.whole
    (new-many (held_at r.states c.args.var).content.rows (of_rows c.args.rows.now) c.in_ok-new.new new c.rows_fit.result (c.rows_fit.ensures ∙ ap (λ (s : List Row). nat_le (size_of (join_contents (of_set s) (of_set c.in_ok-new.new))) row_limit) present) c.if-not-rows_fit.true)

pub returns-clause-new : goal.returns-clause-new
returns-clause-new c =
    let r = c.args.self.now in
    let old = held-there r.states c.from.result c.args.var (arc_value c.at.result.now) c.deref.result.now c.from.ensures c.at.ensures c.deref.ensures in
    let present : c.rows_of-present.result.now ≡ (held_at r.states c.args.var).content.rows = c.rows_of-present.ensures ∙ ap (λ (h : Held). h.content.rows) old in
    c.in_ok-new.ensures ∙ (λ i. changed (present i) (c.in_ok-given.ensures i))

pub returns-clause-small : goal.returns-clause-small
returns-clause-small c =
    let r = c.args.self.now in
    let old = held-there r.states c.from.result c.args.var (arc_value c.at.result.now) c.deref.result.now c.from.ensures c.at.ensures c.deref.ensures in
    let present : c.rows_of-present.result.now ≡ (held_at r.states c.args.var).content.rows = c.rows_of-present.ensures ∙ ap (λ (h : Held). h.content.rows) old in
    let new : c.in_ok-new.new ≡ changed (held_at r.states c.args.var).content.rows (of_rows c.args.rows.now) = c.in_ok-new.ensures ∙ (λ i. changed (present i) (c.in_ok-given.ensures i)) in
    new-fit (held_at r.states c.args.var).content.rows (of_rows c.args.rows.now) c.in_ok-new.new new c.rows_fit.result (c.rows_fit.ensures ∙ ap (λ (s : List Row). nat_le (size_of (join_contents (of_set s) (of_set c.in_ok-new.new))) row_limit) present) c.if-not-rows_fit.false
