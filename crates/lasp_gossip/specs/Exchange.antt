-- What a message is made of.
use Rattle.std.specs.Prelude.{◌≡◌, ℕ, ◌++◌, List, drop}
use Rattle.model_states.specs.Content.{Content}
use Rattle.model_graph.specs.Graph.{Decl}
use Rattle.model_graph.specs.Message.{Message, sent_from}

-- a message with the sources among the first x variables: with those that are left it is the whole
pub record IsBegun (g : List Decl) (contents : List Content) (counts : List ℕ) (x : ℕ) (m : Message) : Type 0 where
  pub counts_are : m.counts ≡ counts
  pub whole : m.sources ++ sent_from (drop x g) (drop x contents) ≡ sent_from g contents
