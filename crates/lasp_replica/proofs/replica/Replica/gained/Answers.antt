use Rattle.std.proofs.Common.{◌≡◌, ℕ, ◌<◌, List, length, Option, Some, IsSome, IfOk, refl, sym, ap, subst, ◌∙◌}
use Rattle.std.specs.Arc.{arc_value}
use Rattle.model_values.specs.Row.{Row}
use Rattle.model_sets.specs.Equations.{changed}
use Rattle.model_graph.specs.Graph.{kind_at}
use Rattle.lasp_state.specs.declared.state.State.{State}
use Rattle.lasp_graph.specs.States.{Held, held_of, held_at}
use Rattle.lasp_replica.specs.Asked.{IsGained}
use Rattle.lasp_graph.specs.States.{HasRows}
use Rattle.lasp_replica.proofs.FinishLaws.{job-derived, state-there, held-found, held-rows, result-rows, gained-news}
use Rattle.lasp_replica.proofs.replica.Replica.gained.Goals as goal

pub at-requires : goal.at-requires
at-requires c =
    let r = c.args.self.now in
    let job = c.args.job.now in
    subst (λ (n : ℕ). n < length r.states) (sym c.from.ensures) (state-there r c.requires.replica job.var (job-derived r job c.requires.replica c.requires.job))

pub rows_of-present-requires : goal.rows_of-present-requires
rows_of-present-requires c =
    let r = c.args.self.now in
    let job = c.args.job.now in
    let found = held-found r.states c.from.result job.var c.deref.result.now c.from.ensures (c.at.ensures ∙ ap (λ (s : State). Some (held_of s)) (sym c.deref.ensures)) in
    subst (λ (h : Held). HasRows h.shape) found (held-rows r c.requires.replica job.var (job-derived r job c.requires.replica c.requires.job))

pub rows_of-requires : goal.rows_of-requires
rows_of-requires c = result-rows c.args.self.now c.args.job.now c.args.state.now c.requires.replica c.requires.job c.requires.result

pub returns-in-Some : goal.returns-in-Some
returns-in-Some c =
    let r = c.args.self.now in
    let job = c.args.job.now in
    let found = held-found r.states c.from.result job.var c.deref.result.now c.from.ensures (c.at.ensures ∙ ap (λ (s : State). Some (held_of s)) (sym c.deref.ensures)) in
    let gained = subst (λ (g : Option (List Row)). IsGained (kind_at (arc_value job.graph) job.var) job.inputs (arc_value job.before) g) c.in-Some.is job.gained in
    let own = c.requires.job.gained (subst (λ (g : Option (List Row)). IsSome g) (sym c.in-Some.is) refl) in
    subst (λ (rows : List Row). IfOk c.new_rows.result (λ s. s ≡ rows))
    (ap (λ (p : List Row). changed p c.in-Some.rows) (c.rows_of-present.ensures ∙ ap (λ (h : Held). h.content.rows) (sym found))
    ∙ gained-news r job c.args.state.now c.requires.replica c.requires.job c.requires.result c.in-Some.rows own gained c.ascends.ensures) c.new_rows.ensures

pub returns-in-None : goal.returns-in-None
returns-in-None c =
    let r = c.args.self.now in
    let job = c.args.job.now in
    let found = held-found r.states c.from.result job.var c.deref.result.now c.from.ensures (c.at.ensures ∙ ap (λ (s : State). Some (held_of s)) (sym c.deref.ensures)) in
    let present : c.rows_of-present.result.now ≡ (held_at r.states job.var).content.rows = c.rows_of-present.ensures ∙ ap (λ (h : Held). h.content.rows) (sym found) in
    subst (λ (rows : List Row). IfOk c.new_rows-in-None.result (λ s. s ≡ rows)) (λ i. changed (present i) (c.rows_of.ensures i)) c.new_rows-in-None.ensures
