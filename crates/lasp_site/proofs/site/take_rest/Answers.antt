use Rattle.std.proofs.Common.{ℕ, sym, subst}
use Rattle.model_world.specs.Lawful.{opening_stage, AreLawful}
use Rattle.model_program.specs.Follows.{View, view}
use Rattle.model_site.specs.Program.{site_answer}
use Rattle.model_site.proofs.PlanLaws.{follows-says}
use Rattle.model_program.proofs.PlanLaws.{part-itself}
use Rattle.lasp_call.specs.Words.{words_of}
use Rattle.lasp_site.specs.Failure.{answered}
use Rattle.lasp_site.proofs.FileLaws.{gives-answered}
use Rattle.lasp_site.proofs.site.take_rest.Goals as goal

pub updated_state-requires-clause-lawful : goal.updated_state-requires-clause-lawful
updated_state-requires-clause-lawful g c = subst (λ (n : ℕ). AreLawful n (opening_stage c.args.graph.now) c.args.script.now.commands) (sym c.in-Ok.ensures.among) c.requires.lawful

pub returns-in-Ok-clause-follows : goal.returns-in-Ok-clause-follows
returns-in-Ok-clause-follows g c =
    let v : View = view (g.F.Files.content c.args.files.now) (g.F.Files.faults c.args.files.now) (g.F.Files.faults c.take_files.new.files) in
    let answer = site_answer c.args.me c.args.graph.now c.args.script.now (g.N.Node.view c.in-Ok.node).peer in
    c.in-Ok.ensures.rest c.args.script.now v (part-itself v) (answered c.updated_state.result) (follows-says (words_of c.args.words.now) v answer (answered c.updated_state.result) (gives-answered answer c.updated_state.result c.updated_state.ensures))

pub returns-in-Err-clause-follows : goal.returns-in-Err-clause-follows
returns-in-Err-clause-follows g c =
    let v : View = view (g.F.Files.content c.args.files.now) (g.F.Files.faults c.args.files.now) (g.F.Files.faults c.take_files.new.files) in
    c.in-Err.ensures.rest c.args.script.now v (part-itself v)
