-- Lists of views, in which one is replaced or one more stands at the end.
use Rattle.std.proofs.Common.{◌≡◌, ◌≢◌, ◌⊎◌, inl, inr, ⊎_elim, ℕ, zero, suc, true, false, List, [], ◌∷◌, ◌++◌, length, set, refl, ap, sym, subst}
use Rattle.std.proofs.lemmas.Bool.{true≢false, false≢true}
use mathlib.Core.Option.{some, some-injective, some-ne-none}
use lib.ListN.{get_elem?}
use Rattle.atomic_table.proofs.Lists.{at_set}

pub off : {A : Type 0} → false ≡ true → A
off e = absurd (false≢true e)

pub on : {A : Type 0} → true ≡ false → A
on e = absurd (true≢false e)

module _ {A : Type 0} where
  at_new : (l : List A) (a b : A) (j : ℕ) → get_elem? (l ++ a ∷ []) j ≡ some b → (get_elem? l j ≡ some b) ⊎ ((j ≡ length l) × (a ≡ b))
  at_new [] a b zero e = inr (refl, some-injective a b e)
  at_new [] a b (suc j) e = absurd (some-ne-none b (sym e))
  at_new (x ∷ xs) a b zero e = inl e
  at_new (x ∷ xs) a b (suc j) e = ⊎_elim (λ h. inl h) (λ h. inr (ap suc h.0, h.1)) (at_new xs a b j e)

module _ {A : Type 0} (P : ℕ → A → Type 0) where
  -- P holds of each view and its place
  abbrev pub Each : List A → Type 0
  Each views = (i : ℕ) (v : A) → get_elem? views i ≡ some v → P i v

  at : (i j : ℕ) (v u : A) → P i v → j ≡ i → v ≡ u → P j u
  at i j v u h place view = subst (λ k. P k u) (sym place) (subst (λ z. P i z) view h)

  pub each_one : (v : A) → P 0 v → Each (v ∷ [])
  each_one v h zero u e = subst (λ z. P 0 z) (some-injective v u e) h
  each_one v h (suc i) u e = absurd (some-ne-none u (sym e))

  pub each_set : (vs : List A) (id : ℕ) (w : A) → P id w → ((j : ℕ) (u : A) → j ≢ id → get_elem? vs j ≡ some u → P j u) → Each (set vs id w)
  each_set vs id w mine others j u e = ⊎_elim (λ (t : (j ≡ id) × (w ≡ u)). at id j w u mine t.0 t.1) (λ (t : (j ≢ id) × (get_elem? vs j ≡ some u)). others j u t.0 t.1) (at_set vs id j w u e)

  pub each_new : (vs : List A) (a : A) → P (length vs) a → Each vs → Each (vs ++ a ∷ [])
  each_new vs a new others j u e = ⊎_elim (λ (t : get_elem? vs j ≡ some u). others j u t) (λ (t : (j ≡ length vs) × (a ≡ u)). at (length vs) j a u new t.0 t.1) (at_new vs a u j e)

  -- where the view at `other` was joined into the one at `id`
  pub each_joined : (vs : List A) (id other : ℕ) (w z : A) → P id w → P other z → ((j : ℕ) (u : A) → j ≢ id → j ≢ other → get_elem? vs j ≡ some u → P j u) → Each (set (set vs id w) other z)
  each_joined vs id other w z mine spent others = each_set (set vs id w) other z spent
      (λ j u not_it e. ⊎_elim (λ (t : (j ≡ id) × (w ≡ u)). at id j w u mine t.0 t.1) (λ (t : (j ≢ id) × (get_elem? vs j ≡ some u)). others j u t.0 not_it t.1) (at_set vs id j w u e))
