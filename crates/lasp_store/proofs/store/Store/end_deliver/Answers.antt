use Rattle.std.proofs.Common.{List, IsTrue, sym, ap, subst}
use Rattle.std.specs.Prelude.{IfOk}
use Rattle.std.specs.List.{AllByRecursion}
use Rattle.std.specs.Arc.{arc_value}
use Rattle.model_journal.specs.Entry as model
use Rattle.model_journal.specs.Entry.{Entry, Frame, entry}
use Rattle.model_core.specs.Core.{Core, IsCore, is_met}
use Rattle.lasp_store.proofs.TurnLaws.{in-turn, core-same, on-ok, may-add, entered-met, at-seen}
use Rattle.lasp_store.proofs.store.Store.end_deliver.Goals as goal

pub end-requires : goal.end-requires
end-requires c =
    let p = c.args.f.now in
    let k = c.deref_mut.result.now in
    let d = c.deliver_part-delivered.new.self in
    may-add c.args.self.now p k d (entry 0 (model.Deliver c.args.number (arc_value c.args.m.now))) c.deliver_part-delivered.result
    (in-turn c.args.self.now p c.args.core.value k c.deref_mut.ensures.value c.requires.turn) (subst (λ (x : Core). IsCore x) c.deref-2.ensures c.recall-2.ensures.core) (sym c.requires.first) c.requires.first
    (on-ok c.deliver_part-delivered.result (λ is. record { frame = ap (λ (x : Core). x.frame) is; entries = ap (λ (x : Core). x.entries) is }) c.deliver_part-delivered.ensures.ok)
    c.deliver_part-delivered.ensures.err

pub returns-clause-met : goal.returns-clause-met
returns-clause-met c =
    let d = c.deliver_part-delivered.new.self in
    at-seen (λ (X : Frame) (L : List Entry). IfOk c.deliver_part-delivered.result (λ reads. AllByRecursion (λ r. IsTrue (is_met X L r)) reads)) c.args.f.now c.end.new.h d c.end.ensures
    (entered-met c.deref_mut.result.now d (entry 0 (model.Deliver c.args.number (arc_value c.args.m.now))) (core-same c.args.core.value c.deref_mut.result.now c.deref_mut.ensures.value (subst (λ (x : Core). IsCore x) c.deref.ensures c.recall.ensures.core)) c.deliver_part-delivered.result c.deliver_part-delivered.ensures.ok c.deliver_part-delivered.ensures.released)
