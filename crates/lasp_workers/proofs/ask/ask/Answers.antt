use Rattle.std.proofs.Common.{◌≡◌, Bool, if◌then◌else◌, Option, subst, arith}
use Rattle.std.specs.Prelude.{IfSome}
use Rattle.lasp_fns.specs.Steps as counted
use Rattle.lasp_replica.specs.Jobs.{counted_up}
use Rattle.lasp_replica.specs.declared.job.Job.{Job}
use Rattle.lasp_core.specs.Core.{rows_of}
use Rattle.lasp_workers.specs.Worked.{HasEnded}
use Rattle.lasp_workers.proofs.WorkLaws.{added-none, asked-done, ended-none}
use Rattle.lasp_workers.proofs.ask.ask.Goals as goal

pub returns-in-Ok-true-clause-asked : goal.returns-in-Ok-true-clause-asked
returns-in-Ok-true-clause-asked g c =
    let took = c.in-Ok-Some.ensures in
    asked-done g.J.Jobs.place g.J.Jobs.frame g.J.Jobs.caller g.J.Jobs.list g.J.Jobs.looks g.J.Jobs.rows_owed 1 (counted.ticks_of c.args.lib.now) (counted.ticks_of c.do_job-done.new.lib) (rows_of c.in-Ok-Some.job)
    c.args.replica.now.node c.args.replica.now.jobs c.take.new.self c.do_job-done.new.jobs
    (added-none g.J.Jobs.place g.J.Jobs.frame g.J.Jobs.caller g.J.Jobs.list g.J.Jobs.looks g.J.Jobs.rows_owed c.args.replica.now.jobs c.take.new.self took.place took.frame took.caller took.list took.own took.alone took.later)
    (subst (λ (o : Option Job). IfSome o (λ job. g.J.Jobs.rows_owed c.take.new.self ≡ counted_up (g.J.Jobs.rows_owed c.args.replica.now.jobs) (rows_of job))) c.in-Ok-Some.field-0-is took.owed) (subst (λ (b : Bool). HasEnded g.J.Jobs.place g.J.Jobs.frame g.J.Jobs.caller g.J.Jobs.list g.J.Jobs.looks g.J.Jobs.rows_owed (if b then 1 else 0) c.take.new.self c.do_job-done.new.jobs) c.in-Ok-true.field-0-test c.in-Ok-true.ensures.ended) c.do_job-done.ensures.ticks

pub returns-in-Ok-false-clause-asked : goal.returns-in-Ok-false-clause-asked
returns-in-Ok-false-clause-asked g c =
    let took = c.in-Ok-Some.ensures in
    asked-done g.J.Jobs.place g.J.Jobs.frame g.J.Jobs.caller g.J.Jobs.list g.J.Jobs.looks g.J.Jobs.rows_owed 0 (counted.ticks_of c.args.lib.now) (counted.ticks_of c.do_job-done.new.lib) (rows_of c.in-Ok-Some.job)
    c.args.replica.now.node c.args.replica.now.jobs c.take.new.self c.do_job-done.new.jobs
    (added-none g.J.Jobs.place g.J.Jobs.frame g.J.Jobs.caller g.J.Jobs.list g.J.Jobs.looks g.J.Jobs.rows_owed c.args.replica.now.jobs c.take.new.self took.place took.frame took.caller took.list took.own took.alone took.later)
    (subst (λ (o : Option Job). IfSome o (λ job. g.J.Jobs.rows_owed c.take.new.self ≡ counted_up (g.J.Jobs.rows_owed c.args.replica.now.jobs) (rows_of job))) c.in-Ok-Some.field-0-is took.owed) (subst (λ (b : Bool). HasEnded g.J.Jobs.place g.J.Jobs.frame g.J.Jobs.caller g.J.Jobs.list g.J.Jobs.looks g.J.Jobs.rows_owed (if b then 1 else 0) c.take.new.self c.do_job-done.new.jobs) c.in-Ok-false.field-0-test c.in-Ok-false.ensures.ended) c.do_job-done.ensures.ticks

pub returns-in-Err-done-clause-asked : goal.returns-in-Err-done-clause-asked
returns-in-Err-done-clause-asked g c =
    let took = c.in-Ok-Some.ensures in
    asked-done g.J.Jobs.place g.J.Jobs.frame g.J.Jobs.caller g.J.Jobs.list g.J.Jobs.looks g.J.Jobs.rows_owed 0 (counted.ticks_of c.args.lib.now) (counted.ticks_of c.do_job-done.new.lib) (rows_of c.in-Ok-Some.job)
    c.args.replica.now.node c.args.replica.now.jobs c.take.new.self c.do_job-done.new.jobs
    (added-none g.J.Jobs.place g.J.Jobs.frame g.J.Jobs.caller g.J.Jobs.list g.J.Jobs.looks g.J.Jobs.rows_owed c.args.replica.now.jobs c.take.new.self took.place took.frame took.caller took.list took.own took.alone took.later)
    (subst (λ (o : Option Job). IfSome o (λ job. g.J.Jobs.rows_owed c.take.new.self ≡ counted_up (g.J.Jobs.rows_owed c.args.replica.now.jobs) (rows_of job))) c.in-Ok-Some.field-0-is took.owed) c.in-Err-done.ensures.ended c.do_job-done.ensures.ticks

pub returns-then-not-admits-clause-asked : goal.returns-then-not-admits-clause-asked
returns-then-not-admits-clause-asked g c =
    let took = c.in-Ok-Some.ensures in
    let back = c.give_back.ensures in
    asked-done g.J.Jobs.place g.J.Jobs.frame g.J.Jobs.caller g.J.Jobs.list g.J.Jobs.looks g.J.Jobs.rows_owed 0 (counted.ticks_of c.args.lib.now) (counted.ticks_of c.args.lib.now) (rows_of c.in-Ok-Some.job)
    c.args.replica.now.node c.args.replica.now.jobs c.take.new.self c.give_back.new.self
    (added-none g.J.Jobs.place g.J.Jobs.frame g.J.Jobs.caller g.J.Jobs.list g.J.Jobs.looks g.J.Jobs.rows_owed c.args.replica.now.jobs c.take.new.self took.place took.frame took.caller took.list took.own took.alone took.later)
    (subst (λ (o : Option Job). IfSome o (λ job. g.J.Jobs.rows_owed c.take.new.self ≡ counted_up (g.J.Jobs.rows_owed c.args.replica.now.jobs) (rows_of job))) c.in-Ok-Some.field-0-is took.owed)
    (ended-none g.J.Jobs.place g.J.Jobs.frame g.J.Jobs.caller g.J.Jobs.list g.J.Jobs.looks g.J.Jobs.rows_owed c.take.new.self c.give_back.new.self back.place back.frame back.caller back.list back.own back.alone back.later back.owed) (omega arith)

pub returns-in-Ok-false-clause-left : goal.returns-in-Ok-false-clause-left
returns-in-Ok-false-clause-left g c = λ _. c.in-Ok-false.ensures.left c.in-Ok-false.field-0-test

pub returns-in-Ok-false-clause-done : goal.returns-in-Ok-false-clause-done
returns-in-Ok-false-clause-done g c = λ _. c.in-Ok-false.ensures.left c.in-Ok-false.field-0-test
