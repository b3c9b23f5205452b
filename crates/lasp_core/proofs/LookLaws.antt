-- Laws of a threshold of which what it asks for at least is known.
use Rattle.std.proofs.Common.{◌≡◌, ◌<◌, Bool, true, false, not, IsTrue, refl, sym, ap, ◌∙◌, arith}
use Rattle.std.specs.Prelude.{◌&&◌, ◌↔◌}
use Rattle.model_states.specs.Content.{Content, size_of, IsOrdered, IsContentAtMost, is_content_at_most}
use Rattle.model_states.proofs.ContentLaws.{at_most-from-test, test-from-at_most}
use Rattle.model_states.proofs.SizeLaws.{size-grows}

-- more rows or elements than the other content are not at most it
pub above-larger : (s t : Content) → IsOrdered s → IsOrdered t → IsTrue (is_content_at_most t s) → size_of t < size_of s → true ≡ (is_content_at_most t s && not (is_content_at_most s t))
above-larger s t up_s up_t least more = choose (is_content_at_most s t) refl where
  choose : (b : Bool) → is_content_at_most s t ≡ b → true ≡ (is_content_at_most t s && not b)
  choose true e = absurd (omega (arith, more, size-grows s t up_s up_t (at_most-from-test s t e)))
  choose false e = sym (ap (λ (b : Bool). b && true) least)

-- it is above where it isn't at most that
pub above-unless : (s t : Content) (le : Bool) → IsTrue (is_content_at_most t s) → (IsTrue le ↔ IsContentAtMost s t) → not le ≡ (is_content_at_most t s && not (is_content_at_most s t))
above-unless s t le least order = ap not (same le (is_content_at_most s t) (λ e. test-from-at_most s t (order.0 e)) (λ e. order.1 (at_most-from-test s t e))) ∙ sym (ap (λ (b : Bool). b && not (is_content_at_most s t)) least) where
  same : (a b : Bool) → (IsTrue a → IsTrue b) → (IsTrue b → IsTrue a) → a ≡ b
  same true b there back = sym (there refl)
  same false true there back = back refl
  same false false there back = refl
