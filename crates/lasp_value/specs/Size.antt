-- How large a value is, counted up to the largest number of 64 bits.
use Rattle.std.specs.Prelude.{ℕ, min, ◌-◌, ◌^◌, Bool, nat_le, ◌&&◌, Result, Ok, Err}
use Rattle.model_values.specs.Value.{Val}
use Rattle.model_values.specs.Size.{leaves, text_bytes}
use Rattle.model_values.specs.declared.value_why.ValueWhy.{ValueWhy}
use Rattle.lasp_value.specs.declared.size.Size.{Size}

abbrev pub counted : ℕ → ℕ
counted n = min n (2 ^ 64 - 1)

-- at most 8 numbers and texts, and 256 bytes of text in all
abbrev pub is_small : Size → Bool
is_small s = nat_le s.leaves 8 && nat_le s.text_bytes 256

-- the counts of a value
abbrev pub size_of : Val → Size
size_of v = record { leaves = counted (leaves v); text_bytes = counted (text_bytes v) }

-- the counts of the value that is read, or why none is
abbrev pub measured : Result Val ValueWhy → Result Size ValueWhy
measured (Ok v) = Ok (size_of v)
measured (Err e) = Err e
