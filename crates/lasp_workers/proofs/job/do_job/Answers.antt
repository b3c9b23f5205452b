use Rattle.std.proofs.Common.{◌≡◌, ◌∙◌, ◌<◌, true, false, sym, ap, subst}
use Rattle.model_states.specs.Content.{Content, size_of, row_limit}
use Rattle.lasp_fns.specs.Steps as counted
use Rattle.lasp_graph.specs.Library.{library_of}
use Rattle.lasp_workers.proofs.DoneLaws.{derived-behind, unfit-behind, large-behind, too-many}
use Rattle.lasp_workers.proofs.WorkLaws.{ended-none, ended-one, ended-both}
use Rattle.lasp_workers.proofs.job.do_job.Goals as goal

pub returns-then-not-fits-clause-left : goal.returns-then-not-fits-clause-left
returns-then-not-fits-clause-left g c = λ _.
    let lib = library_of (counted.library_of c.args.lib.now) in
    let X = g.J.Jobs.frame c.args.jobs.now in
    let h = g.J.Jobs.list c.args.jobs.now in
    unfit-behind lib X (g.J.Jobs.frame c.give_back.new.self) h (g.J.Jobs.list c.give_back.new.self) c.give_back.ensures.frame c.give_back.ensures.list
    (λ fits. let has : c.fits.result ≡ true = c.fits.ensures.1 (c.evaluated_jobs_have_results.ensures.fits X h c.args.job.var c.args.job c.requires.job lib fits) in
    absurd (let both : true ≡ false = sym has ∙ c.if-not-fits.true in cc))

pub returns-in-Ok-finish-clause-ended : goal.returns-in-Ok-finish-clause-ended
returns-in-Ok-finish-clause-ended g c =
    let told = c.in-Ok-finish.ensures in
    ended-one g.J.Jobs.place g.J.Jobs.frame g.J.Jobs.caller g.J.Jobs.list g.J.Jobs.looks g.J.Jobs.rows_owed c.args.jobs.now c.finish.new.self c.evaluate.new.self.var c.evaluate.new.self.n
    told.place told.frame told.caller told.ok told.own_ok told.alone told.later told.owed

pub give_back-requires-in-Err : goal.give_back-requires-in-Err
give_back-requires-in-Err g c =
    let X = g.J.Jobs.frame c.args.jobs.now in
    let h = g.J.Jobs.list c.args.jobs.now in
    derived-behind X (g.J.Jobs.frame c.finish.new.self) h (g.J.Jobs.list c.finish.new.self) c.args.job.var c.in-Err.job.var c.in-Err.ensures.frame c.in-Err.ensures.err
    (ap (λ j. j.var) c.in-Err.ensures.back ∙ c.evaluate.ensures.var.0) (c.variables_stay.ensures.job X h c.args.job c.requires.job.is)

pub returns-in-Ok-clause-ended : goal.returns-in-Ok-clause-ended
returns-in-Ok-clause-ended g c =
    let refused = c.in-Err.ensures in
    let back = c.give_back-in-Err.ensures in
    ended-both g.J.Jobs.place g.J.Jobs.frame g.J.Jobs.caller g.J.Jobs.list g.J.Jobs.looks g.J.Jobs.rows_owed c.args.jobs.now c.finish.new.self c.give_back-in-Err.new.self
    (ended-none g.J.Jobs.place g.J.Jobs.frame g.J.Jobs.caller g.J.Jobs.list g.J.Jobs.looks g.J.Jobs.rows_owed c.args.jobs.now c.finish.new.self refused.place refused.frame refused.caller refused.err refused.own_err refused.same refused.later refused.owed)
    (ended-none g.J.Jobs.place g.J.Jobs.frame g.J.Jobs.caller g.J.Jobs.list g.J.Jobs.looks g.J.Jobs.rows_owed c.finish.new.self c.give_back-in-Err.new.self back.place back.frame back.caller back.list back.own back.alone back.later back.owed)

pub returns-in-Err-TooManyRows-clause-left : goal.returns-in-Err-TooManyRows-clause-left
returns-in-Err-TooManyRows-clause-left g c = λ _.
    let X = g.J.Jobs.frame c.args.jobs.now in
    let h = g.J.Jobs.list c.args.jobs.now in
    let back = c.give_back-in-Err-TooManyRows.ensures in
    large-behind (library_of (counted.library_of c.args.lib.now)) X (g.J.Jobs.frame c.give_back-in-Err-TooManyRows.new.self) h (g.J.Jobs.list c.give_back-in-Err-TooManyRows.new.self) c.args.job.var
    back.frame back.list c.recall_legal.ensures.legal (record {
      derived = c.variables_stay.ensures.job X h c.args.job c.requires.job.is;
      large = subst (λ (s : Content). row_limit < size_of s) (c.evaluated_jobs_have_results.ensures.present X h c.args.job.var c.args.job c.requires.job) (too-many c.in-Err-TooManyRows.field-0 _ c.in-Err-TooManyRows.field-0-is c.in-Err-TooManyRows.ensures.content);
    })

pub returns-then-not-fits-clause-ended : goal.returns-then-not-fits-clause-ended
returns-then-not-fits-clause-ended g c =
    let back = c.give_back.ensures in
    ended-none g.J.Jobs.place g.J.Jobs.frame g.J.Jobs.caller g.J.Jobs.list g.J.Jobs.looks g.J.Jobs.rows_owed c.args.jobs.now c.give_back.new.self back.place back.frame back.caller back.list back.own back.alone back.later back.owed

pub returns-in-Err-TooManyRows-clause-ended : goal.returns-in-Err-TooManyRows-clause-ended
returns-in-Err-TooManyRows-clause-ended g c =
    let back = c.give_back-in-Err-TooManyRows.ensures in
    ended-none g.J.Jobs.place g.J.Jobs.frame g.J.Jobs.caller g.J.Jobs.list g.J.Jobs.looks g.J.Jobs.rows_owed c.args.jobs.now c.give_back-in-Err-TooManyRows.new.self back.place back.frame back.caller back.list back.own back.alone back.later back.owed

pub returns-clause-ended : goal.returns-clause-ended
returns-clause-ended g c =
    let back = c.give_back-in-Err-Memory.ensures in
    ended-none g.J.Jobs.place g.J.Jobs.frame g.J.Jobs.caller g.J.Jobs.list g.J.Jobs.looks g.J.Jobs.rows_owed c.args.jobs.now c.give_back-in-Err-Memory.new.self back.place back.frame back.caller back.list back.own back.alone back.later back.owed

pub evaluate-requires : goal.evaluate-requires
evaluate-requires g c = record { fits = c.fits.ensures.0 c.if-not-fits.false }
