use Rattle.lasp_setops.specs.Width.{IsSetOfWidth}
use Rattle.tests_processes.proofs.made.rows.Given as goal

abbrev pub invariant-loop-n : goal.invariant-loop-n
invariant-loop-n l = IsSetOfWidth 16 l.set
