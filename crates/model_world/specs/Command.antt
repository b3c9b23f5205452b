-- The commands of a script. The first number is the node, the second the variable.
use Rattle.std.specs.Prelude.{ℕ, ℤ, List}
use Rattle.model_values.specs.Value.{Val}
use Rattle.model_graph.specs.Graph.{Decl}

-- a threshold as a script has it: the number is the mark's
pub data Until : Type 0 where
  AtLeast : ℕ → Until
  Above : ℕ → Until
  Count : ℕ → Until
  Added : List Val → Until
  Removed : List Val → Until

pub data Command : Type 0 where
  Add : ℕ → ℕ → Val → Command
  Remove : ℕ → ℕ → Val → Command
  Insert : ℕ → ℕ → Val → Command
  Inc : ℕ → ℕ → ℕ → Command
  Max : ℕ → ℕ → ℤ → Command
  -- names the present content; marks are counted from 0
  Mark : ℕ → ℕ → Command
  -- joins the content of a mark in
  Bind : ℕ → ℕ → ℕ → Command
  Send : ℕ → Command
  -- a node takes the message with this number
  Deliver : ℕ → ℕ → Command
  -- every node sends, and takes the messages of all others
  Sync : Command
  Settle : Command
  Print : ℕ → ℕ → Command
  Read : ℕ → ℕ → Until → Command
  Await : ℕ → ℕ → Until → Command
  Declare : Decl → Command

-- a script: how many nodes there are, and the commands from number 1 on
pub record Script : Type 0 where
  pub nodes : ℕ
  pub commands : List Command
