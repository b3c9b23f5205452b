-- What a replica writes down: one entry for each change.
use Rattle.std.specs.Prelude.{ℕ, List}
use Rattle.model_states.specs.Update.{Op}
use Rattle.model_graph.specs.Graph.{Decl}
use Rattle.model_graph.specs.Message.{Message}

pub data Act : Type 0 where
  -- an update of a source
  Update : ℕ → Op → Act
  -- a message is joined in: its number among those sent, counted from 0, and the message
  Deliver : ℕ → Message → Act
  -- a derived variable takes in its equation on the contents that stood after the first so many entries
  Bind : ℕ → ℕ → Act
  -- a variable is declared
  Extend : Decl → Act

-- an act with the number of the caller who made it
pub record Entry : Type 0 where
  pub by : ℕ
  pub act : Act

-- an entry from its parts
abbrev pub entry : ℕ → Act → Entry
entry by act = record { by = by; act = act }

-- what no entry changes: the graph that the replica opened with, its number, and how many replicas there are
pub record Frame : Type 0 where
  pub opening : List Decl
  pub replica : ℕ
  pub nodes : ℕ
