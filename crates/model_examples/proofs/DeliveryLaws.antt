-- What these cases come to, by computation.
use Rattle.std.proofs.Common.{◌≡◌, [], ◌∷◌, codes, Ok, refl}
use Rattle.std.specs.Fmt.{digits}
use Rattle.model_graph.specs.Spelling.{spelled}
use Rattle.model_world.specs.World.{play}
use Rattle.model_examples.specs.Losses.{example_graph}
use Rattle.model_examples.specs.Case.{told, lines}
use Rattle.model_examples.specs.Graphs.{set_graph, counter_graph}
use Rattle.model_examples.specs.Deliveries.{crossing_script, late_script, repeated_script, unheard_script, lost_script}

pub survives-told : told set_graph crossing_script ≡ Ok (lines (codes "0 a [1]" ∷ codes "1 a [1]" ∷ codes "known 0 2 1" ∷ codes "known 1 2 1" ∷ []))
unfolding play digits spelled
survives-told = refl

pub late-told : told set_graph late_script ≡ Ok (lines (codes "1 a [5,6]" ∷ codes "known 0 2 0" ∷ codes "known 1 2 0" ∷ []))
unfolding play digits spelled
late-told = refl

pub unheard-told : told set_graph unheard_script ≡ Ok (lines (codes "1 a []" ∷ codes "known 0 1 0" ∷ codes "known 1 0 0" ∷ []))
unfolding play digits spelled
unheard-told = refl

pub lost-told : told example_graph lost_script ≡ Ok (lines (codes "1 a [5,7]" ∷ codes "known 0 2 0" ∷ codes "known 1 2 1" ∷ []))
unfolding play digits spelled
lost-told = refl

pub repeated-told : told counter_graph repeated_script ≡ Ok (lines (codes "0 c 3" ∷ codes "1 c 7" ∷ codes "known 0 1 0" ∷ codes "known 1 1 1" ∷ []))
unfolding play digits spelled
repeated-told = refl

pub ruleset deliveries = (survives-told, late-told, unheard-told, lost-told, repeated-told)
