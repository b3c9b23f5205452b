use Rattle.std.proofs.Common.{◌≡◌, ℕ, List, ap, subst, ◌∙◌, rules}
use Rattle.model_world.specs.Report.{report_of}
use Rattle.model_program.specs.Call.{view_of}
use Rattle.model_program.specs.Ends.{Ends}
use Rattle.model_program.specs.Follows.{Follows}
use Rattle.model_program.specs.Program.{running}
use Rattle.lasp_call.specs.Words.{answered}
use Rattle.lasp_run.specs.Prelude.{reading_of, writing_of, library_of, words_of}
use Rattle.model_program.specs.Threads.{plain_words}
use Rattle.lasp_top.proofs.PlainLaws.{run-answered, memory-answered}
use Rattle.lasp_top.proofs.program.answer_run.Goals as goal

pub returns-in-Ok : goal.returns-in-Ok
returns-in-Ok g c =
    let lib = library_of c.args.lib.now in
    let words = words_of c.args.words.now in
    let files = reading_of g.F.Files.content g.F.Files.faults c.args.files.now c.run_threaded-text.new.files in
    let out = writing_of g.O.Sink.written g.O.Sink.faults c.args.out.now c.end.new.out in
    let err = writing_of g.E.Sink.written g.E.Sink.faults c.args.err.now c.end.new.err in
    let answer = answered c.run_threaded-text.result in
    let read : words_of c.deref.result.now ≡ plain_words words = ap words_of c.deref.ensures.value ∙ c.in-Ok.ensures in
    let told : words_of c.deref-in-Ok.result.now ≡ plain_words words = ap words_of c.deref-in-Ok.ensures.value ∙ c.in-Ok.ensures in
    run-answered lib words files answer out err c.end.result c.run_threaded-text.ensures.same c.run_threaded-text.ensures.later
    (subst (λ (w : List (List ℕ)). Follows w (view_of files) (running lib report_of) answer) read c.run_threaded-text.ensures.follows) c.end.ensures.out_later c.end.ensures.err_later
    (subst (λ (w : List (List ℕ)). Ends w answer out err c.end.result) told c.end.ensures.ends)

pub returns-in-Err : goal.returns-in-Err
returns-in-Err g c =
    let words = words_of c.args.words.now in
    let files = reading_of g.F.Files.content g.F.Files.faults c.args.files.now c.args.files.now in
    let out = writing_of g.O.Sink.written g.O.Sink.faults c.args.out.now c.end-in-Err.new.out in
    let err = writing_of g.E.Sink.written g.E.Sink.faults c.args.err.now c.end-in-Err.new.err in
    memory-answered (library_of c.args.lib.now) words files out err c.end-in-Err.result (search rules) (search rules) c.end-in-Err.ensures.out_later c.end-in-Err.ensures.err_later c.end-in-Err.ensures.ends
