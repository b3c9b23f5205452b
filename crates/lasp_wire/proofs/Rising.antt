-- What is read of sets is in order.
use Rattle.std.proofs.Common.{◌≡◌, ℕ, ◌≤◌, List, Ok, arith}
use Rattle.model_values.specs.Value.{Val}
use Rattle.model_values.specs.Row.{Row}
use Rattle.model_sets.specs.Rows.{IsAscending}
use Rattle.model_sets.specs.Values.{AreAscending}
use Rattle.model_states.specs.Counts.{count_max}
use Rattle.model_wire.specs.Message.{rows_at, elements_at, numbers_at}
use Rattle.model_wire.specs.Lawful.{IsBytes, AreAtMost}
use Rattle.model_wire.proofs.SourceLaws.{rows_codec, numbers_codec}
use Rattle.model_wire.proofs.SetLaws.{elements_codec}

pub rows_ascend : (version nodes : ℕ) (bytes rest : List ℕ) (rows : List Row) → 1 ≤ nodes → nodes ≤ 8 → IsBytes bytes → rows_at version nodes bytes ≡ Ok (rows, rest) → IsAscending rows
rows_ascend version nodes bytes rest rows some few fits e = ((rows_codec version nodes (record { some = some; few = few })).took bytes (rows, rest) fits e).1.ascending

pub elements_ascend : (bytes rest : List ℕ) (values : List Val) → IsBytes bytes → elements_at bytes ≡ Ok (values, rest) → AreAscending values
elements_ascend bytes rest values fits e = (elements_codec.took bytes (values, rest) fits e).1.ascending

pub counts_small : (nodes : ℕ) (bytes rest counts : List ℕ) → IsBytes bytes → numbers_at count_max nodes bytes ≡ Ok (counts, rest) → AreAtMost count_max counts
counts_small nodes bytes rest counts fits e = ((numbers_codec count_max nodes (omega arith)).took bytes (counts, rest) fits e).1.1
