-- What these cases come to, by computation.
use Rattle.std.proofs.Common.{◌≡◌, [], ◌∷◌, codes, Ok, refl}
use Rattle.std.specs.Fmt.{digits}
use Rattle.model_values.specs.Text.{escaped}
use Rattle.model_functions.specs.Map.{mapped}
use Rattle.model_functions.specs.Predicate.{passes}
use Rattle.model_graph.specs.Spelling.{spelled}
use Rattle.model_world.specs.World.{play}
use Rattle.model_examples.specs.Case.{told, lines}
use Rattle.model_examples.specs.Advertisements.{advertisement_graph, advertisement_script}

pub shown-told : told advertisement_graph advertisement_script ≡ Ok (lines (codes "0 shown [[10,\"red\"],[11,\"blue\"]]" ∷ codes "1 shown [[10,\"red\"],[11,\"blue\"]]" ∷ codes "2 shown [[10,\"red\"],[11,\"blue\"]]" ∷ codes "0 shown [[11,\"blue\"]]" ∷ codes "1 shown [[11,\"blue\"]]" ∷ codes "2 shown [[11,\"blue\"]]" ∷ codes "0 hits 3" ∷ codes "known 0 2 2 3" ∷ codes "known 1 2 2 3" ∷ codes "known 2 2 2 3" ∷ []))
unfolding play digits spelled escaped mapped passes
shown-told = refl

pub ruleset advertisements = (shown-told)
