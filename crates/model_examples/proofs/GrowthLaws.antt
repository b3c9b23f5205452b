-- What these cases come to, by computation.
use Rattle.std.proofs.Common.{◌≡◌, [], ◌∷◌, codes, Ok, refl}
use Rattle.std.specs.Fmt.{digits}
use Rattle.model_graph.specs.Spelling.{spelled}
use Rattle.model_world.specs.World.{play}
use Rattle.model_examples.specs.Case.{told, lines}
use Rattle.model_examples.specs.Graphs.{set_graph}
use Rattle.model_examples.specs.Growth.{growth_script}

pub grown-told : told set_graph growth_script ≡ Ok (lines (codes "1 a [5]" ∷ codes "1 b [7]" ∷ codes "known 0 1 0" ∷ codes "known 1 1 1" ∷ []))
unfolding play digits spelled
grown-told = refl

pub ruleset growth = (grown-told)
