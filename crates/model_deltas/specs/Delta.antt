-- A delta carries what changed from one message of a sender to a later one, with the counts of both.
use Rattle.std.specs.Prelude.{ℕ, ℤ, ◌==◌, if◌then◌else◌, List, [], ◌∷◌, ◌+◌, filter, Option, Some, None}
use Rattle.std.specs.Ordering.{int_eq}
use Rattle.model_values.specs.Value.{Val}
use Rattle.model_sets.specs.Values.{held}
use Rattle.model_sets.specs.Equations.{changed}
use Rattle.model_states.specs.Content.{Content}
use Rattle.model_graph.specs.Message.{Sent, Message, sent_at}

-- the counts from which it goes on, those to which it leads, and what changed in each source
pub record Delta : Type 0 where
  pub from : List ℕ
  pub counts : List ℕ
  pub sources : List Sent

-- the elements that the first lacks
abbrev pub new_values : List Val → List Val → List Val
new_values s t = filter (λ v. held s v == 0) t

-- each count that is another than before; else 0
abbrev pub changed_counts : List ℕ → List ℕ → List ℕ
changed_counts [] t = t
changed_counts (c ∷ s) [] = []
changed_counts (c ∷ s) (d ∷ t) = (if c == d then 0 else d) ∷ changed_counts s t

-- the number, where it is another than before
abbrev pub changed_top : Option ℤ → Option ℤ → Option ℤ
changed_top None t = t
changed_top (Some m) None = None
changed_top (Some m) (Some n) = if int_eq m n then None else Some n

-- what a source has that it had not before: rows that are new or newly dead, new elements, other counts, another number
abbrev pub changed_content : Content → Content → Content
changed_content s t = record { rows = changed s.rows t.rows; values = new_values s.values t.values; counts = changed_counts s.counts t.counts; top = changed_top s.top t.top }

abbrev pub changed_source : Content → Sent → Sent
changed_source s t = record { decl = t.decl; content = changed_content s t.content }

-- what changed in the sources from place i on; a source that the earlier message lacks is least in it
abbrev pub changed_sources : List Sent → ℕ → List Sent → List Sent
changed_sources before i [] = []
changed_sources before i (t ∷ after) = changed_source (sent_at before i) t ∷ changed_sources before (i + 1) after

-- the delta from a message to a later one of the same sender
abbrev pub delta_of : Message → Message → Delta
delta_of before after = record { from = before.counts; counts = after.counts; sources = changed_sources before.sources 0 after.sources }

-- what a delta carries, as a message
abbrev pub carried : Delta → Message
carried d = record { counts = d.counts; sources = d.sources }
