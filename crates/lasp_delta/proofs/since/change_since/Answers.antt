use Rattle.std.proofs.Common.{◌≡◌, Some, sym, ap, ◌∙◌}
use Rattle.std.specs.Prelude.{slice_get}
use Rattle.std.proofs.lemmas.Result.{IfOk-weaker}
use Rattle.model_graph.specs.Message.{Message}
use Rattle.model_deltas.specs.Delta.{changed_sources}
use Rattle.lasp_state.specs.declared.state.State.{State}
use Rattle.lasp_wire.specs.Sent.{kind_of, sent}
use Rattle.lasp_delta.specs.Since.{LeadTo}
use Rattle.lasp_delta.proofs.KindLaws.{no-set}
use Rattle.lasp_delta.proofs.SinceLaws.{since-alike, set-here, other-here}
use Rattle.lasp_delta.proofs.since.change_since.Goals as goal

pub changed_source-requires : goal.changed_source-requires
changed_source-requires c = record { alike = since-alike c.args.before.now c.args.tail.now c.requires.leads.0 c.requires.leads.1; within = c.requires.within }

pub returns-in_ok-try_clone-in-Set : goal.returns-in_ok-try_clone-in-Set
returns-in_ok-try_clone-in-Set c = λ after leads.
    set-here c.args.before.now c.args.tail.now after leads c.args.i (sent c.source_at.result.0.now c.source_at.result.1.now) c.source_at.ensures (ap kind_of c.in-Set.is)
    ∙ ap (λ (s : State). Some (sent c.source_at.result.0.now s)) (sym c.in_ok-try_clone-in-Set.ensures)

pub returns-in_default : goal.returns-in_default
returns-in_default c =
    IfOk-weaker c.changed_source.result (λ x. slice_get (changed_sources c.args.before.now.sources 0 c.args.tail.now.sources) c.args.i ≡ Some (sent x.0.now x.1))
    (λ x. (after : Message) → LeadTo c.args.before.now c.args.tail.now after → slice_get (changed_sources c.args.before.now.sources 0 after.sources) c.args.i ≡ Some (sent x.0.now x.1))
    (λ x is after leads. sym (other-here c.args.before.now c.args.tail.now after leads c.args.i (sent c.source_at.result.0.now c.source_at.result.1.now) c.source_at.ensures (no-set c.source_at.result.1.now c.in_default.not-Set)) ∙ is)
    c.changed_source.ensures
