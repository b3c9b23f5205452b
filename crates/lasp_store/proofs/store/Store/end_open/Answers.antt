use Rattle.std.proofs.Common.{List, ap, subst, sym}
use Rattle.model_core.specs.Core.{Core}
use Rattle.model_journal.specs.Entry.{Entry, Frame}
use Rattle.model_journal.specs.Journal.{val}
use Rattle.model_core.specs.Known.{HasLeast}
use Rattle.lasp_state.specs.Threshold.{threshold_of}
use Rattle.lasp_store.specs.Turn.{frame_in}
use Rattle.lasp_store.proofs.store.Store.end_open.Goals as goal

pub open_read_with-opened-requires-clause-known : goal.open_read_with-opened-requires-clause-known
open_read_with-opened-requires-clause-known c is_known =
    let lent = c.deref_mut.result.now in
    let known = subst (λ (z : Frame × List Entry). HasLeast (threshold_of c.args.threshold) (val z.0 z.1 c.args.var)) (λ i. (ap frame_in c.requires.turn.frame i, c.requires.turn.seen i)) (c.requires.known is_known) in
    subst (λ (k : Core). HasLeast (threshold_of c.args.threshold) (val k.frame k.entries c.args.var)) (sym c.deref_mut.ensures.value) known
