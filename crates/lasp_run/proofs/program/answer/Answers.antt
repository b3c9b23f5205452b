use Rattle.std.proofs.Common.{sym, subst, refl, ◌∙◌}
use Rattle.std.specs.Prelude.{Err}
use Rattle.model_program.specs.Follows.{view, Follows}
use Rattle.model_program.specs.Program.{plan_of}
use Rattle.model_program.proofs.PlanLaws.{follows-says}
use Rattle.model_program.specs.declared.form.Form.{Form}
use Rattle.model_program.specs.declared.failure.Failure.TheVariants.{Refused}
use Rattle.model_program.specs.declared.refusal.Refusal.TheVariants.{Usage}
use Rattle.lasp_graph.specs.Library.{library_of}
use Rattle.lasp_call.specs.Words.{words_of}
use Rattle.lasp_run.proofs.program.answer.Goals as goal

pub returns-in-Wrong-clause-follows : goal.returns-in-Wrong-clause-follows
returns-in-Wrong-clause-follows g c =
    let v = view (g.F.Files.content c.args.files.now) (g.F.Files.faults c.args.files.now) (g.F.Files.faults c.args.files.now) in
    subst (λ (form : Form). Follows (words_of c.args.words.now) v (plan_of (library_of c.args.lib.now) (words_of c.args.words.now) form) (Err (Refused Usage))) (sym c.in-Wrong.is ∙ c.read_form.ensures.exact) (follows-says (words_of c.args.words.now) v (Err Usage) (Err (Refused Usage)) refl)

pub returns-in-Threaded-clause-follows : goal.returns-in-Threaded-clause-follows
returns-in-Threaded-clause-follows g c =
    let v = view (g.F.Files.content c.args.files.now) (g.F.Files.faults c.args.files.now) (g.F.Files.faults c.args.files.now) in
    subst (λ (form : Form). Follows (words_of c.args.words.now) v (plan_of (library_of c.args.lib.now) (words_of c.args.words.now) form) (Err (Refused Usage))) (sym c.in-Threaded.is ∙ c.read_form.ensures.exact) (follows-says (words_of c.args.words.now) v (Err Usage) (Err (Refused Usage)) refl)
