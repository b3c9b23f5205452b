-- Which journals a replica may have.
use Rattle.std.specs.Prelude.{◌≡◌, ℕ, ◌<◌, ◌≤◌, IsTrue, List, [], ◌∷◌, ◌++◌, length, map, FitsSigned}
use mir.Syntax.{w64}
use Rattle.model_values.specs.Value.{Val}
use Rattle.model_values.specs.Size.{HasSmallInts, IsOfWidth, IsTokenOfWidth}
use Rattle.model_values.specs.Token.{Tok, single, both}
use Rattle.model_sets.specs.Rows.{HasRow}
use Rattle.model_sets.specs.Values.{IsHeld}
use Rattle.model_states.specs.Counts.{count_max, count_at}
use Rattle.model_states.specs.Content.{Content, IsOrdered, size_of, row_limit}
use Rattle.model_states.specs.Shape.{HasShape}
use Rattle.model_states.specs.Update.{Op, Add, Remove, Insert, Inc, Max, Join}
use Rattle.model_states.specs.Register.{FitsTop}
use Rattle.model_graph.specs.Graph.{Kind, OrSet, GSet, Counter, MaxReg, Decl, is_source, kind_at}
use Rattle.model_graph.specs.Evaluation.{content_at}
use Rattle.model_graph.specs.Lawful.{width_at, widths, MayFollow, IsGraph, IsDerived, sources_among, shape_of}
use Rattle.model_graph.specs.Message.{Sent}
use Rattle.model_journal.specs.Entry.{Act, Update, Deliver, Bind, Extend, Entry, Frame}
use Rattle.model_journal.specs.Journal.{Journal, Snapshot, snapshot_at, next, start}

-- the most updates of one replica
abbrev pub count_limit : ℕ
count_limit = 100000

-- ---- valid contents

-- each single token in the token is of one of the replicas, and of one of the updates that it may count
abbrev pub IsTokenOf : ℕ → Tok → Type 0
IsTokenOf nodes (single q k) = (q < nodes) × (1 ≤ k) × (k ≤ count_limit)
IsTokenOf nodes (both t s) = IsTokenOf nodes t × IsTokenOf nodes s

-- a value that a variable of width w may hold: not too large, and each number of 64 bits
abbrev pub IsValidValue : ℕ → Val → Type 0
IsValidValue w v = IsOfWidth w v × HasSmallInts v

-- a content that a variable of a kind and of width w may have among so many replicas
pub record IsValid (nodes : ℕ) (k : Kind) (w : ℕ) (s : Content) : Type 0 where
  pub ordered : IsOrdered s
  -- only the part of its kind is more than least, and a counter has a count for each replica
  pub shape : HasShape (shape_of nodes k) s
  pub few : size_of s ≤ row_limit
  pub values : (v : Val) (t : Tok) → HasRow s.rows v t → IsValidValue w v
  pub tokens : (v : Val) (t : Tok) → HasRow s.rows v t → IsTokenOfWidth w t × IsTokenOf nodes t
  pub elements : (v : Val) → IsHeld s.values v → IsValidValue w v
  pub counts : (q : ℕ) → count_at s.counts q ≤ count_max
  pub top : FitsTop s.top

-- each content is valid, and no replica is past the most updates
pub record IsValidSnapshot (nodes : ℕ) (s : Snapshot) : Type 0 where
  pub contents : (x : ℕ) → x < length s.graph → IsValid nodes (kind_at s.graph x) (width_at (widths s.graph) x) (content_at s.contents x)
  pub counts : (q : ℕ) → count_at s.counts q ≤ count_limit

-- no content has too many rows or elements, and no replica is past the most updates
pub record IsWithinLimits (s : Snapshot) : Type 0 where
  pub few : (x : ℕ) → x < length s.graph → size_of (content_at s.contents x) ≤ row_limit
  pub counts : (q : ℕ) → count_at s.counts q ≤ count_limit

-- ---- lawful entries

-- the operation is one of the kind; a content may be joined into every source
abbrev pub IsOpOf : Kind → Op → Type 0
IsOpOf k (Add v) = k ≡ OrSet
IsOpOf k (Remove v) = k ≡ OrSet
IsOpOf k (Insert v) = k ≡ GSet
IsOpOf k (Inc by) = k ≡ Counter
IsOpOf k (Max n) = k ≡ MaxReg
IsOpOf k (Join t) = IsTrue (is_source k)

-- what the operation has in it is small enough for a source: a value is one that width 1 may hold, a number has 64 bits, and a joined content is valid for its kind
abbrev pub IsSmallOp : ℕ → Kind → Op → Type 0
IsSmallOp nodes k (Add v) = IsValidValue 1 v
IsSmallOp nodes k (Remove v) = IsValidValue 1 v
IsSmallOp nodes k (Insert v) = IsValidValue 1 v
IsSmallOp nodes k (Inc by) = Unit {0}
IsSmallOp nodes k (Max n) = FitsSigned w64 n
IsSmallOp nodes k (Join t) = IsValid nodes k 1 t

-- what an entry may do after a journal
abbrev pub IsLawful : Frame → Journal → Act → Type 0
IsLawful X j (Update x op) = (x < length j.now.graph) × IsOpOf (kind_at j.now.graph x) op × IsSmallOp X.nodes (kind_at j.now.graph x) op
IsLawful X j (Deliver i m) = (length m.counts ≡ X.nodes) × ((more : List Decl) × (map (λ s. s.decl) m.sources ++ more ≡ sources_among j.now.graph))
IsLawful X j (Bind y n) = (n ≤ length j.past) × IsDerived (snapshot_at j n).graph y
IsLawful X j (Extend d) = MayFollow j.now.graph d

-- each source in a message is valid for its kind
abbrev pub AreValidSources : ℕ → List Sent → Type 0
AreValidSources nodes [] = Unit {0}
AreValidSources nodes (s ∷ sent) = IsValid nodes s.decl.kind 1 s.content × AreValidSources nodes sent

-- what an entry brings from elsewhere is valid
abbrev pub BringsValid : ℕ → Act → Type 0
BringsValid nodes (Update x op) = Unit {0}
BringsValid nodes (Deliver i m) = AreValidSources nodes m.sources
BringsValid nodes (Bind y n) = Unit {0}
BringsValid nodes (Extend d) = Unit {0}

-- each entry in turn is lawful, and what stands after it is valid
abbrev pub IsLegalFrom : Frame → Journal → List Entry → Type 0
IsLegalFrom X j [] = Unit {0}
IsLegalFrom X j (e ∷ entries) = IsLawful X j e.act × IsValidSnapshot X.nodes (next X j e).now × IsLegalFrom X (next X j e) entries

-- the opening graph is a graph, the replica is one of the nodes, and the entries are legal one after the other
pub record IsLegal (X : Frame) (entries : List Entry) : Type 0 where
  pub opening : IsGraph X.opening
  pub member : X.replica < X.nodes
  pub in_turn : IsLegalFrom X (start X) entries
