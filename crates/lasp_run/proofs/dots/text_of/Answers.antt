use Rattle.std.proofs.Common.{sym, ◌∙◌}
use Rattle.model_dots.proofs.WordLaws.{none-known}
use Rattle.lasp_run.proofs.dots.text_of.Goals as goal

pub run_dots-requires-clause-known : goal.run_dots-requires-clause-known
run_dots-requires-clause-known g c = none-known 1 c.args.script.now.commands (sym c.first_other.ensures ∙ c.in-None.is)
