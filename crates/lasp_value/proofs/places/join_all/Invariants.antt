use Rattle.std.proofs.Common.{◌≡◌, ◌≢◌, ◌↔◌, IsTrue}
use Rattle.lasp_value.specs.Places.{joined_places}
use Rattle.lasp_value.proofs.PlacesLaws.{joined_first}
use Rattle.lasp_value.proofs.places.join_all.Given as goal

-- The first places are joined; joining all again gives the same; whether one grew so far.
abbrev pub invariant-loop-i : goal.invariant-loop-i
invariant-loop-i g l =
    (l.into ≡ joined_first g.L.Lattice.join l.i l.fn.into l.others) × (joined_places g.L.Lattice.join l.into l.others ≡ joined_places g.L.Lattice.join l.fn.into l.others)
    × (IsTrue l.grew ↔ (l.into ≢ l.fn.into))
