use Rattle.lasp_run.proofs.NameLaws.{IsLeft}
use Rattle.lasp_run.proofs.name.name_in_script.Given as goal

abbrev pub invariant-loop-i : goal.invariant-loop-i
invariant-loop-i l = IsLeft l.script.commands l.number l.i l.left
