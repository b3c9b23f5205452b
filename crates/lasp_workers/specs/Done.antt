-- When a worker has nothing more to do at a replica.
use Rattle.std.specs.Prelude.{ℕ, ◌<◌, ◌⊎◌, List}
use Rattle.model_functions.specs.Library.{Library}
use Rattle.model_states.specs.Content.{size_of, row_limit}
use Rattle.model_graph.specs.Graph.{kind_at}
use Rattle.model_graph.specs.Evaluation.{equation}
use Rattle.model_graph.specs.Lawful.{IsDerived}
use Rattle.model_readings.specs.Lawful.{FitsAll}
use Rattle.model_journal.specs.Entry.{Entry, Frame}
use Rattle.model_journal.specs.Journal.{graph, vals}
use Rattle.lasp_core.specs.Listed.{AreClean}

-- the variable is derived, and its process has too many rows on its inputs as they are
pub record IsTooLarge (X : Frame) (entries : List Entry) (y : ℕ) : Type 0 where
  pub derived : IsDerived (graph X entries) y
  pub large : row_limit < size_of (equation (kind_at (graph X entries) y) (vals X entries))

-- where the library has the functions of the graph, every derived variable has taken in its inputs as they are, or the process of one has too many rows on them
abbrev pub IsDone : Library → Frame → List Entry → Type 0
IsDone lib X entries = FitsAll lib (graph X entries) → AreClean X entries ⊎ ((y : ℕ) × IsTooLarge X entries y)
