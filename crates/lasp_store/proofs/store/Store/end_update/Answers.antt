use Rattle.std.proofs.Common.{List, IsTrue, subst}
use Rattle.std.specs.Prelude.{IfOk}
use Rattle.std.specs.List.{AllByRecursion}
use Rattle.lasp_state.specs.State.{op_of}
use Rattle.model_journal.specs.Entry as model
use Rattle.model_journal.specs.Entry.{Entry, Frame, entry}
use Rattle.model_core.specs.Core.{Core, IsCore, is_met}
use Rattle.lasp_store.proofs.TurnLaws.{core-same, entered-met, at-seen}
use Rattle.lasp_store.proofs.store.Store.end_update.Goals as goal

pub returns-clause-met : goal.returns-clause-met
returns-clause-met c =
    let d = c.update_with-updated.new.self in
    at-seen (λ (X : Frame) (L : List Entry). IfOk c.update_with-updated.result (λ reads. AllByRecursion (λ r. IsTrue (is_met X L r)) reads)) c.args.f.now c.end.new.h d c.end.ensures
    (entered-met c.deref_mut.result.now d (entry 0 (model.Update c.args.var (op_of c.args.op.now))) (core-same c.args.core.value c.deref_mut.result.now c.deref_mut.ensures.value (subst (λ (x : Core). IsCore x) c.deref.ensures c.recall.ensures.core)) c.update_with-updated.result c.update_with-updated.ensures.ok c.update_with-updated.ensures.released)
