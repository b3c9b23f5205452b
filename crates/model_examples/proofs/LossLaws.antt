-- What the example comes to, by computation.
use Rattle.std.proofs.Common.{◌≡◌, pos, false, [], ◌∷◌, ◌++◌, refl}
use Rattle.model_values.specs.Value.{int}
use Rattle.model_values.specs.Token.{single}
use Rattle.model_graph.specs.Evaluation.{rows_at}
use Rattle.model_graph.specs.Spelling.{spelled}
use Rattle.model_world.specs.Follow.{follow}
use Rattle.model_examples.specs.Losses.{example_commands, example_repeats, example_node}

pub example-counts : (example_node example_commands 1).counts ≡ 2 ∷ 1 ∷ []
unfolding follow spelled
example-counts = refl

pub example-rows : rows_at (example_node example_commands 1).contents 0 ≡ ((int (pos 5), single 0 1), false) ∷ ((int (pos 5), single 1 1), false) ∷ ((int (pos 7), single 0 2), false) ∷ []
unfolding follow spelled
example-rows = refl

pub example-repeats : example_node (example_commands ++ example_repeats) 1 ≡ example_node example_commands 1
unfolding follow spelled
example-repeats = refl

pub ruleset example = (example-counts, example-rows, example-repeats)
