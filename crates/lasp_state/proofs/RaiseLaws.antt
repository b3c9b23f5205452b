-- A turn of the loop that raises counts.
use Rattle.std.proofs.Common.{◌≡◌, ◌≢◌, ◌↔◌, ℕ, suc, ◌+◌, ◌<◌, ◌≤◌, max, Bool, true, IsTrue, List, length, refl, sym, ap, subst, ◌∙◌, arith, slice_index_or, slice_set}
use Rattle.std.proofs.lemmas.List.{set-get_or}
use Rattle.lasp_value.proofs.PlacesLaws.{joined_first, length-joined_first, joined_first-next, joined_first-more, slice_set-same}
use Rattle.lasp_state.specs.Counts.{HaveSameNodes}

-- the first counts are raised, and it is known whether one rose
abbrev pub IsRaised : ℕ → List ℕ → List ℕ → List ℕ → Bool → Type 0
IsRaised i old ts cs grew = (cs ≡ joined_first max i old ts) × (IsTrue grew ↔ (cs ≢ old))

as_before : (i : ℕ) (old ts cs : List ℕ) → cs ≡ joined_first max i old ts → slice_index_or cs i 0 ≡ slice_index_or old i 0
as_before i old ts cs e = ap (λ l. slice_index_or l i 0) e ∙ joined_first-next max i old ts 0

one_more : (i : ℕ) (old ts cs : List ℕ) (x : ℕ) → HaveSameNodes old ts → i < length ts → cs ≡ joined_first max i old ts → x ≡ max (slice_index_or old i 0) (slice_index_or ts i 0)
    → slice_set cs i x ≡ joined_first max (i + 1) old ts
one_more i old ts cs x same h e larger =
    let in_old : i < length old = omega (arith, h, same) in
    let more : suc i ≡ i + 1 = omega arith in
    ap (λ l. slice_set l i x) e ∙ ap (λ y. slice_set (joined_first max i old ts) i y) larger ∙ joined_first-more max i old ts 0 0 in_old h ∙ ap (λ n. joined_first max n old ts) more

pub raised-more : (i : ℕ) (old ts cs : List ℕ) (grew : Bool) → HaveSameNodes old ts → i < length ts → slice_index_or cs i 0 < slice_index_or ts i 0 → IsRaised i old ts cs grew
    → IsRaised (i + 1) old ts (slice_set cs i (slice_index_or ts i 0)) true
raised-more i old ts cs grew same h less so_far =
    let before = as_before i old ts cs so_far.0 in
    let in_counts : i < length cs = omega (arith, h, same, ap length so_far.0, length-joined_first max i old ts) in (
      one_more i old ts cs (slice_index_or ts i 0) same h so_far.0 (omega (arith, less, before)),
      (λ n e. absurd (omega (arith, less, (slice_set-same i cs old (slice_index_or ts i 0) 0 in_counts before e).0)), λ n. refl),
    )

pub raised-same : (i : ℕ) (old ts cs : List ℕ) (grew : Bool) → HaveSameNodes old ts → i < length ts → slice_index_or ts i 0 ≤ slice_index_or cs i 0 → IsRaised i old ts cs grew
    → IsRaised (i + 1) old ts cs grew
raised-same i old ts cs grew same h le so_far =
    (sym (set-get_or cs i 0) ∙ one_more i old ts cs (slice_index_or cs i 0) same h so_far.0 (omega (arith, le, as_before i old ts cs so_far.0)), so_far.1)

-- what a branch left
pub raised-branch : (i : ℕ) (old ts cs ds : List ℕ) (grew so : Bool) → cs ≡ ds → grew ≡ so → IsRaised i old ts ds so → IsRaised i old ts cs grew
raised-branch i old ts cs ds grew so e f r = subst (λ l. IsRaised i old ts l grew) (sym e) (subst (λ b. IsRaised i old ts ds b) (sym f) r)
