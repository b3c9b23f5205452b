-- Growths that are recorded, history by history.
use Rattle.std.proofs.Common.{◌≡◌, ℕ, zero, suc, ◌+◌, ◌≤◌, ◌<◌, ◌⊎◌, inl, inr, Bool, true, false, List, [], ◌∷◌, length, slice_set, refl, sym, ap, subst, ◌∙◌, arith}
use Rattle.std.specs.Prelude.{slice_index_or}
use Rattle.std.proofs.lemmas.List.{get_or-set_same, get_or-set_other}
use Rattle.model_graph.proofs.PlaceLaws.{below-or-not, set-length}
use Rattle.lasp_replica.specs.History.{grown}
use Rattle.lasp_replica.specs.Kept.{Kept}
use Rattle.lasp_replica.specs.Replica.{no_kept, kept_at}
use Rattle.lasp_replica.specs.Delivery.{grows_at, recorded, AreRecordedTo}

-- the history at a place that there is
pub kept-here : (histories : List Kept) (x : ℕ) (k : Kept) → x < length histories → k ≡ slice_index_or histories x k → kept_at histories x ≡ k
kept-here [] x k low is = absurd (omega (arith, low))
kept-here (h ∷ histories) zero k low is = sym is
kept-here (h ∷ histories) (suc x) k low is = kept-here histories x k (omega (arith, low)) is

module _ (grow : List Bool) (entry : ℕ) (old : List Kept) where
  pub recorded-none : AreRecordedTo 0 grow entry old old
  recorded-none = record { many = refl; done = λ y low. absurd (omega (arith, low)); left = λ y past. refl }

  module _ (x : ℕ) (now : List Kept) (h : AreRecordedTo x grow entry old now) where
    -- a history was recorded
    pub recorded-grown : (history : Kept) → x < length old → grows_at grow x ≡ true → history.history ≡ grown (kept_at now x).history (kept_at now x).pending entry → AreRecordedTo (x + 1) grow entry old (slice_set now x history)
    recorded-grown history low grows is = record {
      many = set-length now x history ∙ h.many;
      done = λ y below. done y (below-or-not y x) below;
      left = λ y past. get_or-set_other now x y history no_kept (omega (arith, past)) ∙ h.left y (omega (arith, past));
    } where
      here : (kept_at (slice_set now x history) x).history ≡ recorded (grows_at grow x) (kept_at old x) entry
      here =
          ap (λ (k : Kept). k.history) (get_or-set_same now x history no_kept (omega (arith, low, h.many))) ∙ is
          ∙ ap (λ (k : Kept). grown k.history k.pending entry) (h.left x (omega arith)) ∙ sym (ap (λ (b : Bool). recorded b (kept_at old x) entry) grows)

      done : (y : ℕ) → (y < x) ⊎ (x ≤ y) → y < x + 1 → (kept_at (slice_set now x history) y).history ≡ recorded (grows_at grow y) (kept_at old y) entry
      done y (inl before) below = ap (λ (k : Kept). k.history) (get_or-set_other now x y history no_kept (omega (arith, before))) ∙ h.done y before
      done y (inr past) below = (let same : x ≡ y = omega (arith, past, below) in subst (λ (z : ℕ). (kept_at (slice_set now x history) z).history ≡ recorded (grows_at grow z) (kept_at old z) entry) same here)

    -- a history was left
    pub recorded-still : grows_at grow x ≡ false → AreRecordedTo (x + 1) grow entry old now
    recorded-still grows = record {
      many = h.many;
      done = λ y below. done y (below-or-not y x) below;
      left = λ y past. h.left y (omega (arith, past));
    } where
      here : (kept_at now x).history ≡ recorded (grows_at grow x) (kept_at old x) entry
      here = ap (λ (k : Kept). k.history) (h.left x (omega arith)) ∙ sym (ap (λ (b : Bool). recorded b (kept_at old x) entry) grows)

      done : (y : ℕ) → (y < x) ⊎ (x ≤ y) → y < x + 1 → (kept_at now y).history ≡ recorded (grows_at grow y) (kept_at old y) entry
      done y (inl before) below = h.done y before
      done y (inr past) below = (let same : x ≡ y = omega (arith, past, below) in subst (λ (z : ℕ). (kept_at now z).history ≡ recorded (grows_at grow z) (kept_at old z) entry) same here)
