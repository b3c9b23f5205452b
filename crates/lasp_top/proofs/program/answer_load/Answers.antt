use Rattle.std.proofs.Common.{refl, rules}
use Rattle.model_program.specs.Call.{view_of}
use Rattle.model_program.specs.Threads.{load_answer}
use Rattle.model_program.proofs.PlanLaws.{follows-says}
use Rattle.model_program.proofs.TopLaws.{load-answered}
use Rattle.lasp_call.specs.Words.{answered}
use Rattle.lasp_run.proofs.PartLaws.{gives-answered}
use Rattle.lasp_run.specs.Prelude.{reading_of, library_of, words_of}
use Rattle.lasp_top.proofs.program.answer_load.Goals as goal

pub returns : goal.returns
returns g c =
    let lib = library_of c.args.lib.now in
    let words = words_of c.args.words.now in
    let files = reading_of g.F.Files.content g.F.Files.faults c.args.files.now c.args.files.now in
    let answer = load_answer lib c.args.seed c.args.count in
    load-answered lib c.args.seed c.args.count words files (answered c.run_load-summary.result) _ _ _ refl (search rules) (search rules)
    (follows-says words (view_of files) answer (answered c.run_load-summary.result) (gives-answered answer c.run_load-summary.result c.run_load-summary.ensures)) c.end.ensures.out_later c.end.ensures.err_later c.end.ensures.ends
