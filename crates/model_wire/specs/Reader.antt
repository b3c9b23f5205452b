-- Readers of bytes: what stands at the front, with the bytes behind it, or how many bytes stand from the failing field on, and why it fails.
use Rattle.std.specs.Prelude.{ℕ, zero, suc, ◌&&◌, List, [], ◌∷◌, length, take, drop, Bool, if◌then◌else◌, nat_lt, nat_le, ◌==◌, Result, Ok, Err}
use Rattle.std.specs.Int.{Width, w8, byte_len, from_be_bytes}
use Rattle.model_graph.specs.Chain.{◌>>=◌}
use Rattle.model_wire.specs.declared.wire_why.WireWhy.{WireWhy}
use Rattle.model_wire.specs.declared.wire_why.WireWhy.TheVariants as why

-- what is read and the bytes behind it, or the bytes from the failing field on and why it fails
abbrev pub Reading : Type 0 → Type 0
Reading X = Result (X × List ℕ) (ℕ × WireWhy)

abbrev pub Reader : Type 0 → Type 0
Reader X = List ℕ → Reading X

-- so many bytes
abbrev pub bytes_at : ℕ → Reader (List ℕ)
bytes_at n bytes = if nat_lt (length bytes) n then Err (length bytes, why.Short) else Ok (take n bytes, drop n bytes)

-- no bytes
abbrev pub nothing_at : Reader (Unit {0})
nothing_at bytes = Ok (tt, bytes)

abbrev pub if_passes : {X : Type 0} → (X → Bool) → ℕ × WireWhy → X × List ℕ → Reading X
if_passes test refusal x = if test x.0 then Ok x else Err refusal

-- what is read has to pass a test; the place of the refusal is where the reading began
abbrev pub tested : {X : Type 0} → Reader X → (X → Bool) → WireWhy → Reader X
tested read test w bytes = read bytes >>= if_passes test (length bytes, w)

abbrev pub paired : {X Y : Type 0} → X → Y × List ℕ → Reading (X × Y)
paired x y = Ok ((x, y.0), y.1)

-- one after the other; what is read first may decide how the second is read
abbrev pub both_at : {X Y : Type 0} → Reader X → (X → Reader Y) → Reader (X × Y)
both_at read next bytes = read bytes >>= λ x. next x.0 x.1 >>= paired x.0

-- a number or a kind, and the content that tells it again
abbrev pub counted : {X Y : Type 0} → Reader X → (X → Reader Y) → Reader Y
counted read next bytes = read bytes >>= λ x. next x.0 x.1

abbrev pub remade : {X Y : Type 0} → (X → Y) → X × List ℕ → Reading Y
remade make x = Ok (make x.0, x.1)

-- what is read, said otherwise
abbrev pub made : {X Y : Type 0} → (X → Y) → Reader X → Reader Y
made make read bytes = read bytes >>= remade make

abbrev pub onto : {X : Type 0} → X → List X × List ℕ → Reading (List X)
onto x xs = Ok (x ∷ xs.0, xs.1)

-- so many items; s is what is known of those before
unfoldable pub list_at : {S X : Type 0} → (S → Reader X) → (S → X → S) → ℕ → S → Reader (List X)
list_at read next zero s bytes = Ok ([], bytes)
list_at read next (suc n) s bytes = read s bytes >>= λ x. list_at read next n (next s x.0) x.1 >>= onto x.0

abbrev pub between : ℕ → ℕ → ℕ → Bool
between least most n = nat_le least n && nat_le n most

-- a number of a width, its highest byte first
abbrev pub number_at : Width → Reader ℕ
number_at w = made (from_be_bytes w) (bytes_at (byte_len w))

-- a number within a range
abbrev pub ranged_at : Width → ℕ → ℕ → Reader ℕ
ranged_at w least most = tested (number_at w) (between least most) why.Range

-- a byte that tells which of some forms follows
abbrev pub kind_at : ℕ → ℕ → Reader ℕ
kind_at least most = tested (number_at w8) (between least most) why.Kind

-- a byte that has to be this one
abbrev pub magic_at : ℕ → Reader ℕ
magic_at b = tested (number_at w8) (λ n. n == b) why.Magic
