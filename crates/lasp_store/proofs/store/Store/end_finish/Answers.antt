use Rattle.std.proofs.Common.{List, IsTrue, ap, refl, subst}
use Rattle.std.specs.Prelude.{IfOk}
use Rattle.std.specs.List.{AllByRecursion}
use Rattle.model_journal.specs.Entry.{Bind, Entry, Frame, entry}
use Rattle.model_core.specs.Core.{Core, IsCore, is_met}
use Rattle.lasp_core.proofs.CoresLaws.{finished-met}
use Rattle.lasp_store.proofs.TurnLaws.{in-turn, core-same, on-ok, on-err, may-add, added-bound, ended-one, ended-same, at-seen}
use Rattle.lasp_store.proofs.store.Store.end_finish.Goals as goal

pub end-requires : goal.end-requires
end-requires c =
    let p = c.args.h.now in
    let job = c.args.job in
    let d = c.finish-finished.new.self in
    may-add c.args.self.now p c.deref_mut.result.now d (entry p.number (Bind job.var job.n)) c.finish-finished.result (in-turn c.args.self.now c.args.h.now c.args.core.value c.deref_mut.result.now c.deref_mut.ensures.value c.requires.turn) (subst (λ (x : Core). IsCore x) c.deref-2.ensures c.recall-2.ensures.core) refl tt
    (on-ok c.finish-finished.result (λ is. added-bound c.deref_mut.result.now d c.number.result p.number job.var job.n c.number.ensures is) c.finish-finished.ensures.ok)
    c.finish-finished.ensures.err

pub returns-clause-ok : goal.returns-clause-ok
returns-clause-ok c =
    let p = c.args.h.now in
    let job = c.args.job in
    let d = c.finish-finished.new.self in
    on-ok c.finish-finished.result
    (λ is. ended-one c.args.self.now p c.end.new.h c.deref_mut.result.now d (entry p.number (Bind job.var job.n)) (in-turn c.args.self.now c.args.h.now c.args.core.value c.deref_mut.result.now c.deref_mut.ensures.value c.requires.turn) c.end.ensures (added-bound c.deref_mut.result.now d c.number.result p.number job.var job.n c.number.ensures is))
    c.finish-finished.ensures.ok

pub returns-clause-err : goal.returns-clause-err
returns-clause-err c =
    let d = c.finish-finished.new.self in
    on-err c.finish-finished.result (λ same. ended-same c.args.self.now c.args.h.now c.end.new.h c.deref_mut.result.now d (in-turn c.args.self.now c.args.h.now c.args.core.value c.deref_mut.result.now c.deref_mut.ensures.value c.requires.turn) c.end.ensures (ap (λ (x : Core). x.entries) same)) c.finish-finished.ensures.err

pub returns-clause-met : goal.returns-clause-met
returns-clause-met c =
    let d = c.finish-finished.new.self in
    at-seen (λ (X : Frame) (L : List Entry). IfOk c.finish-finished.result (λ reads. AllByRecursion (λ r. IsTrue (is_met X L r)) reads)) c.args.h.now c.end.new.h d c.end.ensures
    (finished-met c.deref_mut.result.now d (entry c.number.result (Bind c.args.job.var c.args.job.n)) c.args.job.var (core-same c.args.core.value c.deref_mut.result.now c.deref_mut.ensures.value (subst (λ (x : Core). IsCore x) c.deref.ensures c.recall.ensures.core)) c.finish-finished.result c.finish-finished.ensures.ok c.finish-finished.ensures.released)
