-- The reads of a node: which of them wait, and how many were opened.
use Rattle.std.specs.Prelude.{◌≡◌, ℕ, ◌+◌, ◌-◌, ◌^◌, ◌==◌, min, Bool, not, if◌then◌else◌, IsTrue, List, [], ◌∷◌, ◌++◌, filter, Option, IfSome}
use Rattle.model_states.specs.Content.{Content}
use Rattle.model_states.specs.Threshold.{Threshold, meets}
use Rattle.model_graph.specs.Evaluation.{content_at}
use Rattle.model_core.specs.Core.{Read}

-- the reads of a node
pub record Reads : Type 0 where
  pub waiting : List Read
  pub opened : ℕ

abbrev pub no_reads : Reads
no_reads = record { waiting = []; opened = 0 }

-- one more was opened; the count stands still at the greatest number of 64 bits
abbrev pub opened_more : ℕ → ℕ
opened_more opened = min (opened + 1) (2 ^ 64 - 1)

-- the read of a variable that is opened next
abbrev pub next_read : Reads → ℕ → Threshold → Read
next_read s x threshold = record { number = s.opened; var = x; threshold = threshold }

-- a read is one of variable x that waits for this threshold, and where the reads are told, under the next number
pub record IsNextRead (reads : Option Reads) (x : ℕ) (threshold : Threshold) (r : Read) : Type 0 where
  pub var : r.var ≡ x
  pub waits_for : r.threshold ≡ threshold
  pub number : IfSome reads (λ s. r.number ≡ s.opened)

-- a read was opened: it waits, unless its variable was at the threshold
abbrev pub opens : Read → Bool → Reads → Reads
opens r met s = record { waiting = (if met then s.waiting else s.waiting ++ r ∷ []); opened = opened_more s.opened }

-- the reads of this number wait no more
abbrev pub closes : ℕ → Reads → Reads
closes number s = record { waiting = filter (λ r. not (r.number == number)) s.waiting; opened = s.opened }

-- those of the reads whose variables haven't come to their thresholds
abbrev pub unmet : List Content → List Read → List Read
unmet shown rs = filter (λ r. not (meets r.threshold (content_at shown r.var))) rs

-- the reads whose variables have come to their thresholds wait no more
abbrev pub releases : List Content → Reads → Reads
releases shown s = record { waiting = unmet shown s.waiting; opened = s.opened }

-- each variable holds at least what it held: it is at every threshold that it has been at, `at_least` what it held among them
abbrev pub Grows : List Content → List Content → Type 0
Grows old new = (x : ℕ) (threshold : Threshold) → IsTrue (meets threshold (content_at old x)) → IsTrue (meets threshold (content_at new x))

-- a read was opened and closed again
abbrev pub looks : Reads → Reads
looks s = record { waiting = filter (λ r. not (r.number == s.opened)) s.waiting; opened = opened_more s.opened }

-- ---- what calls make of the reads of a node that shows this

-- nothing
abbrev pub as_they_are : List Content → Reads → Reads
as_they_are shown s = s

-- one more was opened, of this variable
abbrev pub opens_next : ℕ → Threshold → List Content → Reads → Reads
opens_next x threshold shown s = opens (next_read s x threshold) (meets threshold (content_at shown x)) s

-- the one of this number was closed
abbrev pub closes_one : ℕ → List Content → Reads → Reads
closes_one number shown s = closes number s

-- one was opened and closed again
abbrev pub looks_once : List Content → Reads → Reads
looks_once shown s = looks s
