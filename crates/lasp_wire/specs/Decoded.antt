-- What decoding answered, beside what the bytes are.
use Rattle.std.specs.Prelude.{◌≡◌, ℕ, List, map, Result, Ok, Err}
use Rattle.model_graph.specs.Message.{Message}
use Rattle.model_wire.specs.declared.wire_why.WireWhy.{WireWhy}
use Rattle.model_wire.specs.Stuck.{IsStuck}
use Rattle.lasp_wire.specs.declared.refused.WireRefused.{WireRefused}
use Rattle.lasp_wire.specs.declared.refused.WireRefused.TheVariants as refused
use Rattle.lasp_wire.specs.declared.read.message.Parts as declared
use Rattle.lasp_wire.specs.Sent.{sent_of, message}

-- the message with these parts
abbrev pub parts_of : declared.Parts → Message
parts_of p = message p.counts.items (map sent_of p.sources.items)

-- the refusal is the one of the definition; want of memory may always be
abbrev pub Refuses : {Y : Type 0} → WireRefused → Result Y (ℕ × WireWhy) → Type 0
Refuses (refused.At place why) read = read ≡ Err (place, why)
Refuses refused.Memory read = Unit {0}

-- what was answered, seen by view, is what the bytes are
abbrev pub Tells : {X Y : Type 0} → (X → Y) → Result X WireRefused → Result Y (ℕ × WireWhy) → Type 0
Tells view (Ok x) read = read ≡ Ok (view x)
Tells view (Err e) read = Refuses e read

-- the bytes are stuck at the place of the refusal, for its cause; want of memory may always be
abbrev pub IsStuckAs : WireRefused → List ℕ → Type 0
IsStuckAs (refused.At place why) bytes = IsStuck bytes place why
IsStuckAs refused.Memory bytes = Unit {0}
