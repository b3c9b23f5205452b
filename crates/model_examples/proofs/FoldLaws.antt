-- What these cases come to, by computation.
use Rattle.std.proofs.Common.{◌≡◌, [], ◌∷◌, codes, Ok, refl}
use Rattle.std.specs.Fmt.{digits}
use Rattle.std.specs.Int.{int_wrap}
use Rattle.model_graph.specs.Spelling.{spelled}
use Rattle.model_world.specs.World.{play}
use Rattle.model_examples.specs.Case.{told, lines}
use Rattle.model_examples.specs.Folds.{sum_graph, folds_graph, sum_script, folds_script}

pub once-told : told sum_graph sum_script ≡ Ok (lines (codes "0 s 7" ∷ codes "0 s 0" ∷ codes "known 0 2 1" ∷ codes "known 1 1 1" ∷ []))
unfolding play digits spelled
once-told = refl

pub signed-told : told folds_graph folds_script ≡ Ok (lines (codes "0 s 4" ∷ codes "0 x -6" ∷ codes "0 r 0" ∷ codes "known 0 2" ∷ []))
unfolding play digits int_wrap
signed-told = refl

pub ruleset folds = (once-told, signed-told)
