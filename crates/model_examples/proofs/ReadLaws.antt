-- What these cases come to, by computation.
use Rattle.std.proofs.Common.{◌≡◌, [], ◌∷◌, codes, Ok, Err, refl}
use Rattle.std.specs.Fmt.{digits}
use Rattle.model_functions.specs.Predicate.{passes}
use Rattle.model_graph.specs.Spelling.{spelled}
use Rattle.model_world.specs.World.{play}
use Rattle.model_world.specs.declared.stop.Stop.TheVariants.{NotReached}
use Rattle.model_examples.specs.Case.{told, lines}
use Rattle.model_examples.specs.Graphs.{counter_graph}
use Rattle.model_examples.specs.Reads.{even_graph, pending_script, missed_script, reached_script, added_script, removed_script}

pub pending-told : told counter_graph pending_script ≡ Ok (lines (codes "known 0 1 0" ∷ codes "known 1 1 1" ∷ codes "read 0 pending" ∷ codes "read 1 reached" ∷ []))
unfolding play digits spelled
pending-told = refl

pub missed-told : told counter_graph missed_script ≡ Err (NotReached 2)
unfolding play digits
missed-told = refl

pub reached-told : told counter_graph reached_script ≡ Ok (lines (codes "known 0 1" ∷ []))
unfolding play digits
reached-told = refl

pub added-told : told even_graph added_script ≡ Ok (lines (codes "known 0 1" ∷ codes "read 0 reached" ∷ codes "read 1 pending" ∷ codes "read 2 pending" ∷ []))
unfolding play digits passes
added-told = refl

pub removed-told : told even_graph removed_script ≡ Ok (lines (codes "known 0 2" ∷ codes "read 0 reached" ∷ codes "read 1 reached" ∷ codes "read 2 reached" ∷ []))
unfolding play digits passes
removed-told = refl

pub ruleset reads = (pending-told, missed-told, reached-told, added-told, removed-told)
