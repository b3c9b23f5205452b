-- What was answered of a place of bytes, beside what stands there.
use Rattle.std.specs.Prelude.{◌≡◌, ℕ, ◌-◌, ◌≤◌, List, length, drop, Result, Ok, Err}
use Rattle.model_wire.specs.declared.wire_why.WireWhy.{WireWhy}
use Rattle.model_wire.specs.Reader.{Reading}
use Rattle.lasp_wire.specs.declared.refused.WireRefused.{WireRefused}
use Rattle.lasp_wire.specs.declared.refused.WireRefused.TheVariants as refused
use Rattle.lasp_wire.specs.declared.refused.ReadError.{ReadError}
use Rattle.lasp_wire.specs.declared.refused.ReadError.TheVariants as error

-- the refusal names the place of the first field that can't be read, among all of the bytes; want of memory may always be
abbrev pub RefusesAt : {Y : Type 0} → List ℕ → WireRefused → Reading Y → Type 0
RefusesAt bytes (refused.At place why) read = (read ≡ Err (length bytes - place, why)) × (place ≤ length bytes)
RefusesAt bytes refused.Memory read = Unit {0}

-- what was answered, seen by view with the place behind it, is what is read
abbrev pub IsReadAt : {X Y : Type 0} → List ℕ → (X → Y × ℕ) → Result X WireRefused → Reading Y → Type 0
IsReadAt bytes view (Ok x) read = (read ≡ Ok ((view x).0, drop (view x).1 bytes)) × ((view x).1 ≤ length bytes)
IsReadAt bytes view (Err e) read = RefusesAt bytes e read

-- a refusal of a reader, with the place in so many bytes
abbrev pub placed_in : ℕ → ReadError → WireRefused
placed_in len (error.At left why) = refused.At (len - left) why
placed_in len error.Memory = refused.Memory
