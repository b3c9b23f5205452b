-- What a delta makes of a message, or why it can't be applied to it.
use Rattle.std.specs.Prelude.{◌≡◌, ℕ, ◌+◌, ◌≤◌, ◌<◌, List, [], ◌∷◌, map, if◌then◌else◌, nat_lt, Option, Some, None, Result, Ok, Err}
use Rattle.model_states.specs.Counts.{count_at, larger}
use Rattle.model_states.specs.Content.{Content, join_contents}
use Rattle.model_graph.specs.Evaluation.{first_large}
use Rattle.model_graph.specs.Message.{Sent, Message}
use Rattle.model_deltas.specs.Delta.{Delta, carried}

pub data Cause : Type 0 where
  -- the message counts fewer updates of a replica than the delta goes on from: the replica, how many the message has, and how many it needs
  Gap : ℕ → ℕ → ℕ → Cause
  -- the source at this place would have too many rows or elements
  TooManyRows : ℕ → Cause

-- the first replica, from replica q on, of which counts are below those that are needed
abbrev pub first_gap : ℕ → List ℕ → List ℕ → Option Cause
first_gap q counts [] = None
first_gap q counts (need ∷ from) = if nat_lt (count_at counts q) need then Some (Gap q (count_at counts q) need) else first_gap (q + 1) counts from

-- the first replica with a gap, in words: it has fewer than it needs, and no replica before it has
pub record IsFirstGap (counts from : List ℕ) (q have need : ℕ) : Type 0 where
  pub has : count_at counts q ≡ have
  pub needs : count_at from q ≡ need
  pub short : have < need
  pub before : (p : ℕ) → p < q → count_at from p ≤ count_at counts p

abbrev pub joined_source : Sent → Sent → Sent
joined_source s t = record { decl = s.decl; content = join_contents s.content t.content }

-- each source with what both have of it; a source that one of them lacks is as it is in the other
abbrev pub joined_sources : List Sent → List Sent → List Sent
joined_sources [] more = more
joined_sources (s ∷ sources) [] = s ∷ sources
joined_sources (s ∷ sources) (t ∷ more) = joined_source s t ∷ joined_sources sources more

-- what two messages have together
abbrev pub joined : Message → Message → Message
joined m n = record { counts = larger m.counts n.counts; sources = joined_sources m.sources n.sources }

abbrev pub contents_of : Message → List Content
contents_of m = map (λ s. s.content) m.sources

abbrev pub small_or : Message → Option ℕ → Result Message Cause
small_or m None = Ok m
small_or m (Some i) = Err (TooManyRows i)

-- a message, unless one of its sources is too large: then the first of these
abbrev pub limited : Message → Result Message Cause
limited m = small_or m (first_large 0 (contents_of m))

abbrev pub unless : Option Cause → Result Message Cause → Result Message Cause
unless None r = r
unless (Some cause) r = Err cause

-- the message with what the delta carries, unless it has a gap, or a source would be too large
abbrev pub applied : Message → Delta → Result Message Cause
applied m d = unless (first_gap 0 m.counts d.from) (limited (joined m (carried d)))
