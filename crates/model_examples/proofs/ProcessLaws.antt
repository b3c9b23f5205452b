-- What these cases come to, by computation.
use Rattle.std.proofs.Common.{◌≡◌, [], ◌∷◌, codes, Ok, refl}
use Rattle.std.specs.Fmt.{digits}
use Rattle.model_values.specs.Text.{escaped}
use Rattle.model_functions.specs.Map.{mapped}
use Rattle.model_world.specs.World.{play}
use Rattle.model_examples.specs.Case.{told, lines}
use Rattle.model_examples.specs.Processes.{union_graph, map_graph, successor_graph, product_graph, intersection_graph, union_script, map_script, successor_script, product_script, intersection_script}

pub union-told : told union_graph union_script ≡ Ok (lines (codes "0 u [2]" ∷ codes "known 0 3" ∷ []))
unfolding play digits
union-told = refl

pub collided-told : told map_graph map_script ≡ Ok (lines (codes "0 m [1]" ∷ codes "0 m [1]" ∷ codes "0 m []" ∷ codes "known 0 4" ∷ []))
unfolding play digits mapped
collided-told = refl

pub limit-told : told successor_graph successor_script ≡ Ok (lines (codes "0 m [9223372036854775807]" ∷ codes "known 0 1" ∷ []))
unfolding play digits mapped
limit-told = refl

pub product-told : told product_graph product_script ≡ Ok (lines (codes "0 p [[1,\"x\"]]" ∷ codes "known 0 4" ∷ []))
unfolding play digits escaped
product-told = refl

pub intersection-told : told intersection_graph intersection_script ≡ Ok (lines (codes "0 i []" ∷ codes "0 i [3]" ∷ codes "known 0 4" ∷ []))
unfolding play digits
intersection-told = refl

pub ruleset processes = (union-told, collided-told, limit-told, product-told, intersection-told)
