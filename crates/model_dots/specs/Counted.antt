-- Runs in which nothing is bound: there each row that a replica knows has the token of an update that it counts.
use Rattle.std.specs.Prelude.{◌≡◌, ℕ, suc, ◌<◌, List, [], ◌∷◌, length, Some}
use Rattle.model_values.specs.Value.{Val}
use Rattle.model_values.specs.Token.{single}
use Rattle.model_sets.specs.Rows.{HasRow}
use Rattle.model_graph.specs.Graph.{Decl}
use Rattle.model_world.specs.Command as command
use Rattle.model_world.specs.Command.{Command}
use Rattle.model_world.specs.Delta.{Delta, known}
use Rattle.model_world.specs.Owner.{delta_at}
use Rattle.model_dots.specs.Dots.{AreGiven}

-- the command binds no mark
abbrev pub IsFree : Command → Type 0
IsFree (command.Bind p x m) = ⊥
IsFree _ = Unit {0}

abbrev pub AreFree : List Command → Type 0
AreFree [] = Unit {0}
AreFree (k ∷ rest) = IsFree k × AreFree rest

-- each row that is known by the counts has the token of an update that they count
abbrev pub AreCovered : List Decl → ℕ → List (List Delta) → List ℕ → Type 0
AreCovered g nodes all counts = (x : ℕ) → x < length g → AreGiven (known g nodes all counts x).rows counts

-- what an add brought has the row that it gave
abbrev pub AreNumbered : List (List Delta) → Type 0
AreNumbered all = (q j : ℕ) (v : Val) → (delta_at all q j).added ≡ Some v → HasRow (delta_at all q j).content.rows v (single q (suc j))
