-- A delta as it is read from its bytes.
use Rattle.std.specs.Prelude.{ℕ, List, Result, Ok, Err}
use Rattle.model_wire.specs.declared.wire_why.WireWhy.{WireWhy}
use Rattle.model_deltas.specs.Delta.{Delta}
use Rattle.model_deltas.specs.Reader.{decoded_delta}
use Rattle.model_deltas.specs.Gossip.{no_delta}

abbrev pub read_or_none : Result Delta (ℕ × WireWhy) → Delta
read_or_none (Ok d) = d
read_or_none (Err refusal) = no_delta

-- the delta whose spelling the bytes are
abbrev pub delta_in : List ℕ → Delta
delta_in bytes = read_or_none (decoded_delta bytes)
