use Rattle.std.proofs.Common.{◌≡◌, false, ℕ, List, Some, ap, inl, inr, refl}
use Rattle.std.specs.Str.{is_utf8, IsUtf8}
use Rattle.std.proofs.lemmas.Bool.{cases_Bool}
use Rattle.std.proofs.lemmas.Str.{IsUtf8-from_is_utf8, is_utf8-from_IsUtf8}
use Rattle.lasp_wire.proofs.read.values.utf8_of.Goals as goal

not_text : (bytes : List ℕ) → (IsUtf8 bytes → ⊥) → is_utf8 bytes ≡ false
not_text bytes none = elim (cases_Bool (is_utf8 bytes)) [ inl is ↦ absurd (none (IsUtf8-from_is_utf8 bytes is)) | inr f ↦ f ]

pub returns-in-Ok : goal.returns-in-Ok
returns-in-Ok c = rw (is_utf8-from_IsUtf8 c.args.bytes.now c.in-Ok.ensures.cases.1) (ap (λ (t : List ℕ). Some t) c.in-Ok.ensures.cases.0)

pub returns-in-Err : goal.returns-in-Err
returns-in-Err c = rw (not_text c.args.bytes.now c.in-Err.ensures.cases.0) refl
