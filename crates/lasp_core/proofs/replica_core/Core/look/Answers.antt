use Rattle.std.proofs.Common.{◌≡◌, ◌∙◌, sym, ap, subst}
use Rattle.model_states.specs.Threshold.{meets}
use Rattle.model_journal.specs.Journal.{val}
use Rattle.model_core.specs.Core.{Core}
use Rattle.model_core.specs.Known.{HasLeast}
use Rattle.lasp_state.specs.State.{content_of}
use Rattle.lasp_state.specs.Threshold.{threshold_of}
use Rattle.lasp_replica.specs.Replica.{frame_of, entries_of}
use Rattle.lasp_replica.specs.declared.replica.Replica.{Replica}
use Rattle.lasp_core.proofs.CoresLaws.{looked-sound}
use Rattle.lasp_core.proofs.replica_core.Core.look.Goals as goal

pub is_met_by-met-requires-clause-known : goal.is_met_by-met-requires-clause-known
is_met_by-met-requires-clause-known c is_known =
    let content : content_of c.deref.result.now ≡ val c.args.self.now.frame c.args.self.now.entries c.args.var =
    ap content_of c.deref.ensures ∙ c.state.ensures.content ∙ ap (λ (r : Replica). val (frame_of r) (entries_of r) c.args.var) c.ready_read.ensures ∙ ap (λ (k : Core). val k.frame k.entries c.args.var) c.self.view_is in
    subst (HasLeast (threshold_of c.args.threshold.now)) (sym content) (c.requires.known is_known)

pub invariant_of-self-2 : goal.invariant_of-self-2
invariant_of-self-2 c =
    looked-sound c.self.inside.replica c.ready_read.new.replica c.self.inside.parked.items c.remove_read.new.reads.items c.self.inside.opened c.saturating_add-self-inside.result c.ready_read.ensures c.self.invariant (c.remove_read.ensures.reads, c.remove_read.ensures.items) c.saturating_add-self-inside.ensures

pub returns-clause-met : goal.returns-clause-met
returns-clause-met c =
    let content : content_of c.deref.result.now ≡ val c.args.self.now.frame c.args.self.now.entries c.args.var =
    ap content_of c.deref.ensures ∙ c.state.ensures.content ∙ ap (λ (r : Replica). val (frame_of r) (entries_of r) c.args.var) c.ready_read.ensures ∙ ap (λ (k : Core). val k.frame k.entries c.args.var) c.self.view_is in
    c.is_met_by-met.ensures ∙ ap (meets (threshold_of c.args.threshold.now)) content
