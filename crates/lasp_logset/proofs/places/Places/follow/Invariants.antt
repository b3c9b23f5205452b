use Rattle.lasp_logset.specs.Places.{AreFound}
use Rattle.lasp_logset.proofs.places.Places.follow.Given as goal

abbrev pub invariant-loop : goal.invariant-loop
invariant-loop l = AreFound l.rows.entries l.self.newest.entries l.self.older.items
