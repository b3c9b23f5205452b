use Rattle.lasp_logset.specs.Few.{AreSeen}
use Rattle.lasp_logset.proofs.few.Few.look.Given as goal

abbrev pub invariant-loop : goal.invariant-loop
invariant-loop l = AreSeen l.rows.entries l.self.places.items l.self.upto
