use Rattle.std.proofs.Common.{◌≡◌, sym, subst, ◌∙◌}
use Rattle.model_graph.specs.Message.{Message}
use Rattle.model_deltas.specs.Before.{IsDelta}
use Rattle.model_deltas.proofs.DeltaLaws.{delta-lawful}
use Rattle.lasp_delta.specs.Delta.{going_on}
use Rattle.lasp_delta.proofs.since.delta_since.Goals as goal

pub of-requires : goal.of-requires
of-requires c =
    let after : Message = c.requires.0 in
    let leads = c.requires.1 in
    let from : c.in_ok-from.from ≡ c.args.before.now.counts = c.in_ok-from.ensures ∙ c.as_slice.ensures ∙ c.counts.ensures in
    subst IsDelta (λ i. going_on (sym from i) (sym (c.in_ok-carried.ensures after leads) i)) (delta-lawful c.args.before.now after c.recall.ensures leads.lawful leads.earlier)

pub returns : goal.returns
returns c = λ after leads.
    let from : c.in_ok-from.from ≡ c.args.before.now.counts = c.in_ok-from.ensures ∙ c.as_slice.ensures ∙ c.counts.ensures in
    c.of.ensures ∙ (λ i. going_on (from i) (c.in_ok-carried.ensures after leads i))
