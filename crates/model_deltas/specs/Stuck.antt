-- Where bytes can't be read on as a delta, and why: what stands before the place is whole, lawful and in order, and what stands there fails. Said by how the parts of a delta are spelled, and by nothing that reads them; the parts that it shares with a message fail as they do there.
use Rattle.std.specs.Prelude.{◌≡◌, ◌≢◌, ℕ, ◌<◌, ◌≤◌, List, [], ◌∷◌, ◌++◌, length, codes}
use Rattle.model_states.specs.Counts.{count_at}
use Rattle.model_graph.specs.Spelling.{number, spelled_counts}
use Rattle.model_wire.specs.declared.wire_why.WireWhy.{WireWhy}
use Rattle.model_wire.specs.declared.wire_why.WireWhy.TheVariants.{Magic, Range, Rest}
use Rattle.model_wire.specs.Lawful.{AreAtMost}
use Rattle.model_wire.specs.Stuck.{Failure, EndsWithin, IsRefused, FailsBehind, EitherFails, FailsNumber, FailsCounted, FailsByte, FailsAmong, FailsCounts, FailsSources, AreCounts, spelled_all_counts}
use Rattle.model_deltas.specs.Before.{IsDelta}
use Rattle.model_deltas.specs.Spelling.{spelled_delta}

-- ---- counts

-- the first of the counts to which a delta leads: none is below the one from which it goes on
pub record AreLater (from counts : List ℕ) : Type 0 where
  pub each : AreAtMost 100000 counts
  pub rises : (q : ℕ) → q < length counts → count_at from q ≤ count_at counts q

-- a count for each from which the delta goes on; that one is the least that it may be
abbrev pub FailsLater : List ℕ → Failure
FailsLater from = FailsAmong (length from) (AreLater from) (number 8) (λ before. FailsNumber 8 (count_at from (length before)) 100000 Range)

-- both lists of counts
pub record IsSpan (span : List ℕ × List ℕ) : Type 0 where
  pub from : AreCounts span.0
  pub wide : length span.1 ≡ length span.0
  pub later : AreLater span.0 span.1

abbrev pub spelled_span : List ℕ × List ℕ → List ℕ
spelled_span span = spelled_all_counts span.0 ++ spelled_counts span.1

-- the counts from which the delta goes on, with their number before them, and those to which it leads
abbrev pub FailsSpan : Failure
FailsSpan = EitherFails (FailsCounted 1 1 8 (FailsCounts 100000)) (FailsBehind AreCounts spelled_all_counts FailsLater)

-- ---- deltas

-- both lists of counts, and the sources, which stand as in version 2 of a message
abbrev pub FailsDeltaBody : Failure
FailsDeltaBody = EitherFails FailsSpan (FailsBehind IsSpan spelled_span (λ span. FailsSources 2 (length span.0)))

abbrev pub FailsDeltaVersion : Failure
FailsDeltaVersion = EitherFails (EndsWithin 1) (IsRefused (λ n. n < 256) (number 1) (λ n. n ≡ 1) Magic)

-- `LASD` and the version
abbrev pub FailsDeltaBeginning : Failure
FailsDeltaBeginning = FailsByte 76 (FailsByte 65 (FailsByte 83 (FailsByte 68 FailsDeltaVersion)))

abbrev pub delta_beginning : ℕ → List ℕ
delta_beginning version = codes "LASD" ++ version ∷ []

-- nothing more may stand, and a byte does
pub record IsLeft (bytes : List ℕ) (place : ℕ) (why : WireWhy) : Type 0 where
  pub some : bytes ≢ []
  pub at_front : place ≡ 0
  pub cause : why ≡ Rest

-- what can't be read stands in the beginning, behind it, or behind a delta
pub data IsStuckDelta (bytes : List ℕ) (place : ℕ) (why : WireWhy) : Type 0 where
  in_beginning : FailsDeltaBeginning bytes place why → IsStuckDelta bytes place why
  in_body : FailsBehind (λ version. version ≡ 1) delta_beginning (λ _. FailsDeltaBody) bytes place why → IsStuckDelta bytes place why
  behind_delta : FailsBehind IsDelta spelled_delta (λ _. IsLeft) bytes place why → IsStuckDelta bytes place why
