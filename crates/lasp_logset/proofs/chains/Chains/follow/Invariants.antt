use Rattle.lasp_logset.specs.Chains.{AreChained}
use Rattle.lasp_logset.proofs.chains.Chains.follow.Given as goal

abbrev pub invariant-loop : goal.invariant-loop
invariant-loop l = AreChained l.rows.entries l.self.newest.entries l.self.older.items
