-- Which reads of a run wait at its nodes, and how many were opened there.
use Rattle.std.specs.Prelude.{◌≡◌, ℕ, ◌+◌, ◌<◌, ◌==◌, List, length, map, filter, slice_get, slice_index_or, slice_set, Option, Some, None, IfSome}
use Rattle.std.specs.List.{AllByRecursion}
use Rattle.std.specs.Option.{option_map}
use Rattle.model_states.specs.Content.{Content}
use Rattle.model_states.specs.Threshold.{Threshold}
use Rattle.model_core.specs.Core.{Read}
use Rattle.lasp_drive.specs.Node.{NodeView, LearnsAnd}
use Rattle.lasp_drive.specs.Reads.{Reads, unmet, opens_next, looks_once}
use Rattle.lasp_drive.specs.declared.driver.OpenRead.{OpenRead}

-- the reads that a run opened at node p
abbrev pub opened_at : ℕ → List (OpenRead Read) → List Read
opened_at p opened = map (λ (r : OpenRead Read). r.read) (filter (λ (r : OpenRead Read). r.node == p) opened)

-- the reads of node p, which shows this, before command number c: of those that the run opened there the ones wait whose variables haven't come to their thresholds. Each has its number from before the next one, and fewer were opened than c.
pub record IsWaiting (c p : ℕ) (opened : List (OpenRead Read)) (shown : List Content) (s : Reads) : Type 0 where
  pub waiting : s.waiting ≡ unmet shown (opened_at p opened)
  pub before : AllByRecursion (λ r. r.number < s.opened) (opened_at p opened)
  pub counted : s.opened < c

-- the same of node p where its reads are told
abbrev pub WaitsAt : ℕ → ℕ → List (OpenRead Read) → NodeView → Type 0
WaitsAt c p opened n = IfSome n.reads (IsWaiting c p opened n.shown)

-- the same of each node
abbrev pub AreWaiting : ℕ → List NodeView → List (OpenRead Read) → Type 0
AreWaiting c nodes opened = (p : ℕ) (n : NodeView) → slice_get nodes p ≡ Some n → WaitsAt c p opened n

-- the reads of node p
abbrev pub reads_at : List NodeView → ℕ → Option Reads
reads_at nodes p = slice_index_or (map (λ (n : NodeView). n.reads) nodes) p None

-- how many reads a node opened
abbrev pub opened_count : NodeView → Option ℕ
opened_count n = option_map (λ (s : Reads). s.opened) n.reads

abbrev pub opened_counts : List NodeView → List (Option ℕ)
opened_counts nodes = map opened_count nodes

-- how many reads node p has opened
abbrev pub opened_by : List NodeView → ℕ → Option ℕ
opened_by nodes p = slice_index_or (opened_counts nodes) p None

-- so many more
abbrev pub counted_on : ℕ → Option ℕ → Option ℕ
counted_on more = option_map (λ (n : ℕ). n + more)

-- each node opened so many reads more
abbrev pub GoOnByReads : List NodeView → List NodeView → (ℕ → ℕ) → Type 0
GoOnByReads old new more = (p : ℕ) → p < length old → opened_by new p ≡ counted_on (more p) (opened_by old p)

-- node p learned, and this became of its reads; all other nodes are as before
pub record LearnsAt (change : List Content → Reads → Reads) (old : List NodeView) (p : ℕ) (new : List NodeView) : Type 0 where
  pub now : NodeView
  pub is : new ≡ slice_set old p now
  pub learns : (n : NodeView) → slice_get old p ≡ Some n → LearnsAnd change n now

-- a read of variable x was opened at node p
abbrev pub OpensAt : List NodeView → ℕ → ℕ → Threshold → List NodeView → Type 0
OpensAt old p x threshold new = LearnsAt (opens_next x threshold) old p new

-- a read was opened and closed again at node p
abbrev pub LooksAt : List NodeView → ℕ → List NodeView → Type 0
LooksAt old p new = LearnsAt looks_once old p new
