use Rattle.std.proofs.Common.{◌≡◌, ◌∙◌, sym, ap, subst}
use Rattle.model_states.specs.Content.{Content}
use Rattle.model_states.specs.Threshold.{Threshold, meets}
use Rattle.model_journal.specs.Journal.{val}
use Rattle.model_core.specs.Core.{Core, is_met}
use Rattle.model_core.specs.Known.{HasLeast}
use Rattle.lasp_state.specs.State.{content_of}
use Rattle.lasp_state.specs.Threshold.{threshold_of}
use Rattle.lasp_core.specs.Reads.{read_of}
use Rattle.lasp_replica.specs.Replica.{frame_of, entries_of}
use Rattle.lasp_replica.specs.Jobs.{counted_up}
use Rattle.lasp_core.specs.Core.{IsSound, opened_read}
use Rattle.lasp_replica.specs.declared.replica.Replica.{Replica}
use Rattle.lasp_core.specs.declared.replica_core.Core.TheInside.{Inside}
use Rattle.lasp_core.proofs.CoresLaws.{ready-sound, parked-sound, counted-sound}
use Rattle.lasp_core.proofs.replica_core.Core.open_read_with.Goals as goal
use Rattle.lasp_core.proofs.replica_core.Core.open_read_with.Goals.{then-not-is_met_by+in_ok-twin+in_ok-push, else-not-is_met_by}

pub is_met_by-requires-clause-known : goal.is_met_by-requires-clause-known
is_met_by-requires-clause-known c is_known =
    let threshold : threshold_of c.deref-2.result.now ≡ threshold_of c.args.threshold = ap threshold_of (c.deref-2.ensures ∙ c.in_ok-new.ensures.ok) in
    let content : content_of c.deref-3.result.now ≡ val c.args.self.now.frame c.args.self.now.entries c.args.var =
    ap content_of c.deref-3.ensures ∙ c.state.ensures.content ∙ ap (λ (r : Replica). val (frame_of r) (entries_of r) c.args.var) c.ready_read.ensures ∙ ap (λ (k : Core). val k.frame k.entries c.args.var) c.self.view_is in
    subst (λ (z : Threshold × Content). HasLeast z.0 z.1) (λ i. (sym threshold i, sym content i)) (c.requires.known is_known)

pub invariant_of-self-2 : goal.invariant_of-self-2
invariant_of-self-2 c =
    let old = c.self.inside in
    let core = c.args.self.now in
    let new = c.if-not-is_met_by.self-inside in
    let next = c.saturating_add-self-inside.result in
    let t = threshold_of c.args.threshold in
    let threshold : threshold_of c.deref-2.result.now ≡ t = ap threshold_of (c.deref-2.ensures ∙ c.in_ok-new.ensures.ok) in
    let content : content_of c.deref-3.result.now ≡ val core.frame core.entries c.args.var =
    ap content_of c.deref-3.ensures ∙ c.state.ensures.content ∙ ap (λ (r : Replica). val (frame_of r) (entries_of r) c.args.var) c.ready_read.ensures ∙ ap (λ (k : Core). val k.frame k.entries c.args.var) c.self.view_is in
    let met : c.is_met_by.result ≡ is_met core.frame core.entries (opened_read core c.args.var t) = c.is_met_by.ensures ∙ (λ i. meets (threshold i) (content i)) in
    elim c.if-not-is_met_by.branch [
      | then-not-is_met_by+in_ok-twin+in_ok-push w ↦ (
          let read = w.in_ok-twin.field-0 in
          let same : read_of read ≡ opened_read core c.args.var t = w.in_ok-twin.ensures.read ∙ (λ i. record { number = (c.self.view_is i).opened; var = c.args.var; threshold = threshold_of (c.in_ok-new.ensures.ok i) }) in
          subst (λ (r : Replica). IsSound r new.parked.items next) (sym (ap (λ (s : Inside). s.replica) w.self-inside-is ∙ c.ready_read.ensures))
          (parked-sound old.replica old.parked.items new.parked.items old.opened old.owed next core read c.args.var t c.self.view_is c.self.invariant
          (c.saturating_add-self-inside.ensures ∙ ap (λ (s : Inside). counted_up s.opened 1) w.self-inside-is)
          c.requires.open (sym met ∙ w.if-not-is_met_by.true) same w.in_ok-twin.ensures.lacking
          (ap (λ (s : Inside). s.parked.items) w.self-inside-is ∙ w.in_ok-push.ensures.items)))
      | else-not-is_met_by w ↦ subst (λ (s : Inside). IsSound s.replica s.parked.items next) (sym w.self-inside-is)
          (ready-sound old.replica c.ready_read.new.replica old.parked.items next c.ready_read.ensures
          (counted-sound old.replica old.parked.items old.opened next c.self.invariant (c.saturating_add-self-inside.ensures ∙ ap (λ (s : Inside). counted_up s.opened 1) w.self-inside-is)))
    ]
