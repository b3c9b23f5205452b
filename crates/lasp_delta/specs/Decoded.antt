-- The parts of a delta as they are read, and where a refusal says that bytes are none.
use Rattle.std.specs.Prelude.{ℕ, List}
use Rattle.model_deltas.specs.Delta.{Delta}
use Rattle.model_deltas.specs.Stuck.{IsStuckDelta}
use Rattle.lasp_wire.specs.declared.refused.WireRefused.{WireRefused}
use Rattle.lasp_wire.specs.declared.refused.WireRefused.TheVariants as refused
use Rattle.lasp_delta.specs.declared.decoder.Parts as declared

-- the delta with these parts
abbrev pub parts_of : declared.Parts → Delta
parts_of p = record { from = p.from; counts = p.counts; sources = p.sources.sources }

-- the bytes are stuck at the place of the refusal, for its cause; want of memory may always be
abbrev pub IsStuckAs : WireRefused → List ℕ → Type 0
IsStuckAs (refused.At place why) bytes = IsStuckDelta bytes place why
IsStuckAs refused.Memory bytes = Unit {0}
