-- Deltas from bytes.
use Rattle.std.specs.Prelude.{ℕ, ◌+◌, ◌==◌, if◌then◌else◌, List, length, Result, Ok, Err}
use Rattle.std.specs.Int.{w64}
use Rattle.model_states.specs.Counts.{count_at}
use Rattle.model_graph.specs.Chain.{◌>>=◌}
use Rattle.model_graph.specs.Message.{Sent}
use Rattle.model_wire.specs.declared.wire_why.WireWhy.{WireWhy}
use Rattle.model_wire.specs.declared.wire_why.WireWhy.TheVariants as why
use Rattle.model_wire.specs.Reader.{Reader, both_at, counted, made, list_at, ranged_at, magic_at}
use Rattle.model_wire.specs.Message.{update_limit, sources_at, counts_at, decoded_from}
use Rattle.model_deltas.specs.Delta.{Delta}

-- the count of replica q, which is not below the one from which the delta goes on
abbrev pub later_count_at : List ℕ → ℕ → Reader ℕ
later_count_at from q = ranged_at w64 (count_at from q) update_limit

abbrev pub next_replica : ℕ → ℕ → ℕ
next_replica q count = q + 1

-- one count for each from which the delta goes on
unfoldable pub later_counts_at : List ℕ → Reader (List ℕ)
later_counts_at from = list_at (later_count_at from) next_replica (length from) 0

-- both lists of counts, with their length before them
abbrev pub Span : Type 0
Span = List ℕ × List ℕ

unfoldable pub span_at : Reader Span
span_at = both_at counts_at later_counts_at

abbrev pub delta_made : Span × List Sent → Delta
delta_made p = record { from = p.0.0; counts = p.0.1; sources = p.1 }

-- what stands behind the version; the sources stand as in version 2 of a message
unfoldable pub delta_body_at : Reader Delta
delta_body_at = made delta_made (both_at span_at (λ span. sources_at 2 (length span.0)))

-- `LASD` and the version
unfoldable pub delta_version_at : Reader ℕ
delta_version_at = counted (magic_at 76) (λ _. counted (magic_at 65) (λ _. counted (magic_at 83) (λ _. counted (magic_at 68) (λ _. magic_at 1))))

unfoldable pub delta_at : Reader Delta
delta_at = counted delta_version_at (λ _. delta_body_at)

-- the delta that all of the bytes are
abbrev pub nothing_behind_it : Delta × List ℕ → Result Delta (ℕ × WireWhy)
nothing_behind_it d = if length d.1 == 0 then Ok d.0 else Err (length d.1, why.Rest)

unfoldable pub read_delta : List ℕ → Result Delta (ℕ × WireWhy)
read_delta bytes = delta_at bytes >>= nothing_behind_it

-- the delta that the bytes are, or the place and the cause of the first field that can't be read
unfoldable pub decoded_delta : List ℕ → Result Delta (ℕ × WireWhy)
decoded_delta bytes = decoded_from bytes (read_delta bytes)
