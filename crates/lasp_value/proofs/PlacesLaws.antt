-- Lists of which the first places are joined already.
use Rattle.std.proofs.Common.{◌≡◌, ◌≢◌, ◌↔◌, ℕ, zero, suc, ◌<◌, Bool, true, false, ◌||◌, IsTrue, List, [], ◌∷◌, length, refl, sym, ap, ◌∙◌, arith, slice_index_or, slice_set}
use Rattle.std.proofs.lemmas.List.{get_or-set_same, set-get_or}
use Rattle.lasp_value.specs.Places.{joined_places, AreRelated}

-- the first so many places joined, the others as they were
abbrev pub joined_first : {A : Type 0} → (A → A → A) → ℕ → List A → List A → List A
joined_first join zero ss ts = ss
joined_first join (suc i) [] ts = []
joined_first join (suc i) (s ∷ ss) [] = s ∷ ss
joined_first join (suc i) (s ∷ ss) (t ∷ ts) = join s t ∷ joined_first join i ss ts

pub joined_first-all : {A : Type 0} (join : A → A → A) (ss ts : List A) → joined_first join (length ts) ss ts ≡ joined_places join ss ts
joined_first-all join [] [] = refl
joined_first-all join [] (t ∷ ts) = refl
joined_first-all join (s ∷ ss) [] = refl
joined_first-all join (s ∷ ss) (t ∷ ts) = ap (λ rest. join s t ∷ rest) (joined_first-all join ss ts)

pub length-joined_first : {A : Type 0} (join : A → A → A) (i : ℕ) (ss ts : List A) → length (joined_first join i ss ts) ≡ length ss
length-joined_first join zero ss ts = refl
length-joined_first join (suc i) [] ts = refl
length-joined_first join (suc i) (s ∷ ss) [] = refl
length-joined_first join (suc i) (s ∷ ss) (t ∷ ts) = ap suc (length-joined_first join i ss ts)

-- the next place is as it was
pub joined_first-next : {A : Type 0} (join : A → A → A) (i : ℕ) (ss ts : List A) (d : A) → slice_index_or (joined_first join i ss ts) i d ≡ slice_index_or ss i d
joined_first-next join zero ss ts d = refl
joined_first-next join (suc i) [] ts d = refl
joined_first-next join (suc i) (s ∷ ss) [] d = refl
joined_first-next join (suc i) (s ∷ ss) (t ∷ ts) d = joined_first-next join i ss ts d

pub related-length : {A : Type 0} (R : A → A → Type 0) (ss ts : List A) → AreRelated R ss ts → length ss ≡ length ts
related-length R [] [] r = refl
related-length R [] (t ∷ ts) r = absurd r
related-length R (s ∷ ss) [] r = absurd r
related-length R (s ∷ ss) (t ∷ ts) r = ap suc (related-length R ss ts r.1)

pub related-at : {A : Type 0} (R : A → A → Type 0) (ss ts : List A) (i : ℕ) (d e : A) → AreRelated R ss ts → i < length ts → R (slice_index_or ss i d) (slice_index_or ts i e)
related-at R [] [] i d e r h = absurd (omega (arith, h))
related-at R [] (t ∷ ts) i d e r h = absurd r
related-at R (s ∷ ss) [] i d e r h = absurd r
related-at R (s ∷ ss) (t ∷ ts) zero d e r h = r.0
related-at R (s ∷ ss) (t ∷ ts) (suc i) d e r h = related-at R ss ts i d e r.1 (omega (arith, h))

-- joining the next place too
pub joined_first-more : {A : Type 0} (join : A → A → A) (i : ℕ) (ss ts : List A) (d e : A) → i < length ss → i < length ts
    → slice_set (joined_first join i ss ts) i (join (slice_index_or ss i d) (slice_index_or ts i e)) ≡ joined_first join (suc i) ss ts
joined_first-more join i [] ts d e h k = absurd (omega (arith, h))
joined_first-more join i (s ∷ ss) [] d e h k = absurd (omega (arith, k))
joined_first-more join zero (s ∷ ss) (t ∷ ts) d e h k = refl
joined_first-more join (suc i) (s ∷ ss) (t ∷ ts) d e h k = ap (λ rest. join s t ∷ rest) (joined_first-more join i ss ts d e (omega (arith, h)) (omega (arith, k)))

-- a place whose join gives the same again may be joined before all are
pub joined_places-set : {A : Type 0} (join : A → A → A) (i : ℕ) (ss ts : List A) (x d e : A) → i < length ts
    → join x (slice_index_or ts i e) ≡ join (slice_index_or ss i d) (slice_index_or ts i e) → joined_places join (slice_set ss i x) ts ≡ joined_places join ss ts
joined_places-set join i [] ts x d e h same = refl
joined_places-set join i (s ∷ ss) [] x d e h same = absurd (omega (arith, h))
joined_places-set join zero (s ∷ ss) (t ∷ ts) x d e h same = ap (λ first. first ∷ joined_places join ss ts) same
joined_places-set join (suc i) (s ∷ ss) (t ∷ ts) x d e h same = ap (λ rest. join s t ∷ rest) (joined_places-set join i ss ts x d e (omega (arith, h)) same)

-- a list with one place changed is another one, which has the first one's element there, only where nothing was changed
pub slice_set-same : {A : Type 0} (i : ℕ) (ss old : List A) (x d : A) → i < length ss → slice_index_or ss i d ≡ slice_index_or old i d → slice_set ss i x ≡ old
    → (x ≡ slice_index_or ss i d) × (ss ≡ old)
slice_set-same i ss old x d h next e =
    let new : x ≡ slice_index_or ss i d = sym (get_or-set_same ss i x d h) ∙ ap (λ l. slice_index_or l i d) e ∙ sym next in
    (new, sym (set-get_or ss i d) ∙ ap (λ y. slice_set ss i y) (sym new) ∙ e)

-- a turn of the loop changes the list where the place grew or the list had changed
pub changed-set : {A : Type 0} (i : ℕ) (ss old : List A) (x d : A) (grew here : Bool) → i < length ss → slice_index_or ss i d ≡ slice_index_or old i d
    → (IsTrue grew ↔ (ss ≢ old)) → (IsTrue here ↔ (x ≢ slice_index_or ss i d)) → IsTrue (here || grew) ↔ (slice_set ss i x ≢ old)
changed-set i ss old x d grew true h next before place = (λ n e. place.0 refl (slice_set-same i ss old x d h next e).0, λ n. refl)
changed-set i ss old x d true false h next before place = (λ n e. before.0 refl (slice_set-same i ss old x d h next e).1, λ n. refl)
changed-set i ss old x d false false h next before place =
    (λ n e. cc, λ n. place.1 (λ here. wrong (before.1 (λ was. n (ap (λ y. slice_set ss i y) here ∙ set-get_or ss i d ∙ was))))) where
      wrong : IsTrue false → ⊥
      wrong e = cc
