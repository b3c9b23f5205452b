use Rattle.std.proofs.Common.{◌+◌, ℕ, List, Option, sym, subst, ◌∙◌, arith}
use Rattle.std.specs.Prelude.{IfSome, IfNone}
use Rattle.model_graph.specs.Graph.{Decl}
use Rattle.model_readings.specs.Lawful.{FitsAll}
use Rattle.lasp_fns.specs.Steps as counted
use Rattle.lasp_graph.specs.Library.{library_of}
use Rattle.lasp_replica.specs.declared.job.Job.{Job}
use Rattle.lasp_replica.specs.Jobs.{IsJobNow, IsUnclean}
use Rattle.lasp_store.specs.Turn.{frame_of}
use Rattle.lasp_store.specs.Settled.{IsDone, AreEvaluatedBelow}
use Rattle.lasp_store.specs.Passed.{HasPassed}
use Rattle.lasp_store.proofs.TurnLaws.{on-ok, on-err}
use Rattle.lasp_store.proofs.SettleLaws.{evaluated-done, evaluated-settled, graph-settled, settled-both, settled-number}
use Rattle.lasp_store.proofs.PassedLaws.{passed-both, passed-turn, passed-wider}
use Rattle.lasp_store.proofs.store.Store.settle_var.Goals as goal

pub returns-in-None-clause-ok : goal.returns-in-None-clause-ok
returns-in-None-clause-ok g c =
    let old = c.args.f.now in
    let new = c.settle_take.new.f in
    evaluated-done old new c.settle_take.ensures.pass c.settle_take.ensures.seated.legal c.args.var c.requires.var c.requires.below
    (subst (λ (o : Option Job). IfNone o (IsDone (frame_of new) new.seen c.args.var)) c.in-None.is c.in-Ok.ensures.none)

pub settle_job-requires-clause-first : goal.settle_job-requires-clause-first
settle_job-requires-clause-first g c = settled-number c.args.f.now c.settle_take.new.f c.settle_take.ensures.pass ∙ c.requires.first

pub settle_job-requires-clause-job : goal.settle_job-requires-clause-job
settle_job-requires-clause-job g c =
    let mid = c.settle_take.new.f in
    let now : IsJobNow (frame_of mid) mid.seen c.args.var c.in-Some.job = subst (λ (o : Option Job). IfSome o (IsJobNow (frame_of mid) mid.seen c.args.var)) c.in-Some.is c.in-Ok.ensures.job in
    subst (λ (y : ℕ). IsJobNow (frame_of mid) mid.seen y c.in-Some.job) (sym now.var) now

pub settle_job-requires-clause-below : goal.settle_job-requires-clause-below
settle_job-requires-clause-below g c =
    let mid = c.settle_take.new.f in
    let now : IsJobNow (frame_of mid) mid.seen c.args.var c.in-Some.job = subst (λ (o : Option Job). IfSome o (IsJobNow (frame_of mid) mid.seen c.args.var)) c.in-Some.is c.in-Ok.ensures.job in
    subst (λ (y : ℕ). AreEvaluatedBelow (frame_of mid) mid.seen y) (sym now.var)
    (evaluated-settled c.args.f.now mid c.settle_take.ensures.pass c.settle_take.ensures.seated.legal c.args.var (omega (arith, c.requires.var)) c.requires.below)

pub settle_job-requires-clause-fits : goal.settle_job-requires-clause-fits
settle_job-requires-clause-fits g c =
    subst (λ (ds : List Decl). FitsAll (library_of (counted.library_of c.args.lib.now)) ds)
    (sym (graph-settled c.args.f.now c.settle_take.new.f c.settle_take.ensures.pass c.settle_take.ensures.seated.legal)) c.requires.fits

pub returns-in-Some-clause-pass : goal.returns-in-Some-clause-pass
returns-in-Some-clause-pass g c = settled-both c.args.f.now c.settle_take.new.f c.settle_job.new.f c.settle_take.ensures.pass c.settle_job.ensures.pass

pub returns-in-Some-clause-ok : goal.returns-in-Some-clause-ok
returns-in-Some-clause-ok g c =
    let mid = c.settle_take.new.f in
    let new = c.settle_job.new.f in
    let now : IsJobNow (frame_of mid) mid.seen c.args.var c.in-Some.job = subst (λ (o : Option Job). IfSome o (IsJobNow (frame_of mid) mid.seen c.args.var)) c.in-Some.is c.in-Ok.ensures.job in
    on-ok c.settle_job.result (λ below. subst (λ (y : ℕ). AreEvaluatedBelow (frame_of new) new.seen (y + 1)) now.var below) c.settle_job.ensures.ok

pub returns-in-Err-clause-stopped : goal.returns-in-Err-clause-stopped
returns-in-Err-clause-stopped g c =
    let y = c.args.var in
    passed-wider y (y + 1) (y + 1) 1 3 c.args.f.now c.settle_take.new.f (omega arith) (omega arith) (passed-turn y (y + 1) c.args.f.now c.settle_take.new.f c.settle_take.ensures.turn)

pub returns-in-None-clause-once : goal.returns-in-None-clause-once
returns-in-None-clause-once g c = passed-turn c.args.var (c.args.var + 1) c.args.f.now c.settle_take.new.f c.settle_take.ensures.turn

pub settle_job-requires-clause-unclean : goal.settle_job-requires-clause-unclean
settle_job-requires-clause-unclean g c =
    let mid = c.settle_take.new.f in
    let now : IsJobNow (frame_of mid) mid.seen c.args.var c.in-Some.job = subst (λ (o : Option Job). IfSome o (IsJobNow (frame_of mid) mid.seen c.args.var)) c.in-Some.is c.in-Ok.ensures.job in
    subst (λ (y : ℕ). IsUnclean (frame_of mid) mid.seen y) (sym now.var)
    (subst (λ (o : Option Job). IfSome o (λ job. IsUnclean (frame_of mid) mid.seen c.args.var)) c.in-Some.is c.in-Ok.ensures.unclean)

pub returns-in-Some-clause-once : goal.returns-in-Some-clause-once
returns-in-Some-clause-once g c =
    let y = c.args.var in
    let old = c.args.f.now in
    let mid = c.settle_take.new.f in
    let new = c.settle_job.new.f in
    let now : IsJobNow (frame_of mid) mid.seen y c.in-Some.job = subst (λ (o : Option Job). IfSome o (IsJobNow (frame_of mid) mid.seen y)) c.in-Some.is c.in-Ok.ensures.job in
    on-ok c.settle_job.result
    (λ rest. passed-both y y (y + 1) 1 0 old mid new (omega arith) (omega arith) c.settle_job.ensures.pass (passed-turn y y old mid c.settle_take.ensures.turn) (subst (λ (z : ℕ). HasPassed z (z + 1) 0 mid new) now.var rest))
    c.settle_job.ensures.once

pub returns-in-Some-clause-stopped : goal.returns-in-Some-clause-stopped
returns-in-Some-clause-stopped g c =
    let y = c.args.var in
    let old = c.args.f.now in
    let mid = c.settle_take.new.f in
    let new = c.settle_job.new.f in
    let now : IsJobNow (frame_of mid) mid.seen y c.in-Some.job = subst (λ (o : Option Job). IfSome o (IsJobNow (frame_of mid) mid.seen y)) c.in-Some.is c.in-Ok.ensures.job in
    on-err c.settle_job.result
    (λ rest. passed-both y y (y + 1) 1 2 old mid new (omega arith) (omega arith) c.settle_job.ensures.pass (passed-turn y y old mid c.settle_take.ensures.turn) (subst (λ (z : ℕ). HasPassed z (z + 1) 2 mid new) now.var rest))
    c.settle_job.ensures.stopped
