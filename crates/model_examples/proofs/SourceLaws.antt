-- What these cases come to, by computation.
use Rattle.std.proofs.Common.{◌≡◌, [], ◌∷◌, codes, Ok, refl}
use Rattle.std.specs.Fmt.{digits}
use Rattle.model_values.specs.Text.{escaped}
use Rattle.model_world.specs.World.{play}
use Rattle.model_examples.specs.Case.{told, lines}
use Rattle.model_examples.specs.Graphs.{set_graph}
use Rattle.model_examples.specs.Sources.{growing_graph, absent_script, bound_script, carried_script, growing_script}

pub absent-told : told set_graph absent_script ≡ Ok (lines (codes "0 a []" ∷ codes "known 0 1" ∷ []))
unfolding play digits
absent-told = refl

pub bound-told : told set_graph bound_script ≡ Ok (lines (codes "0 a [5]" ∷ codes "known 0 2" ∷ []))
unfolding play digits
bound-told = refl

pub carried-told : told set_graph carried_script ≡ Ok (lines (codes "1 a [5]" ∷ codes "known 0 1 0" ∷ codes "known 1 0 1" ∷ []))
unfolding play digits
carried-told = refl

pub growing-told : told growing_graph growing_script ≡ Ok (lines (codes "0 m null" ∷ codes "0 m -5" ∷ codes "0 g [\"a\",\"b\"]" ∷ codes "known 0 4" ∷ []))
unfolding play digits escaped
growing-told = refl

pub ruleset sources = (absent-told, bound-told, carried-told, growing-told)
