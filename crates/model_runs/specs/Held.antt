-- What a replica holds and what messages bring it, within the ranges of the message format.
use Rattle.std.specs.Prelude.{◌≡◌, ℕ, ◌<◌, List, length, map, take, IsTrue, IsFalse, FitsSigned}
use Rattle.std.specs.List.{AllByRecursion}
use mir.Syntax.{w64}
use Rattle.model_states.specs.Update.{Op, Add, Remove, Insert, Inc, Max, Join}
use Rattle.model_graph.specs.Graph.{Decl, OrSet, GSet, Counter, MaxReg, is_source, kind_at}
use Rattle.model_graph.specs.Evaluation.{content_at, least_of}
use Rattle.model_graph.specs.Lawful.{sources_among}
use Rattle.model_graph.specs.Message.{Message, Sent}
use Rattle.model_world.specs.World.{Peer}
use Rattle.model_wire.specs.Lawful.{IsSource, IsSourceValue}

-- each count is below a number
abbrev pub AreBelow : ℕ → List ℕ → Type 0
AreBelow most counts = AllByRecursion (λ n. n < most) counts

-- a replica among so many nodes: each source holds what a source of its kind may hold in a message, and derived variables hold nothing
pub record IsHeld (nodes : ℕ) (g : List Decl) (r : Peer) : Type 0 where
  pub long : length r.contents ≡ length g
  pub wide : length r.counts ≡ nodes
  pub sources : (x : ℕ) → x < length g → IsTrue (is_source (kind_at g x)) → IsSource nodes (kind_at g x) (content_at r.contents x)
  pub derived : (x : ℕ) → x < length g → IsFalse (is_source (kind_at g x)) → content_at r.contents x ≡ least_of nodes (kind_at g x)

abbrev pub IsSentSource : ℕ → Sent → Type 0
IsSentSource nodes s = IsSource nodes s.decl.kind s.content

-- a message to replicas of a graph: its sources are those of the graph's first declarations, each with what such a source may hold
pub record IsSentTo (nodes : ℕ) (g : List Decl) (m : Message) : Type 0 where
  pub wide : length m.counts ≡ nodes
  pub declared : ℕ
  pub sources : map (λ s. s.decl) m.sources ≡ sources_among (take declared g)
  pub each : AllByRecursion (IsSentSource nodes) m.sources

-- an update that a variable may get: its operation is one of the variable's kind, and what it brings is within the format
abbrev pub IsUpdate : ℕ → List Decl → ℕ → Op → Type 0
IsUpdate nodes g x (Add v) = (kind_at g x ≡ OrSet) × IsSourceValue v
IsUpdate nodes g x (Remove v) = (kind_at g x ≡ OrSet) × IsSourceValue v
IsUpdate nodes g x (Insert v) = (kind_at g x ≡ GSet) × IsSourceValue v
IsUpdate nodes g x (Inc by) = kind_at g x ≡ Counter
IsUpdate nodes g x (Max n) = (kind_at g x ≡ MaxReg) × FitsSigned w64 n
IsUpdate nodes g x (Join s) = IsSource nodes (kind_at g x) s
