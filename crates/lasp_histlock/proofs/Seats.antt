-- Lists of views, in which one is replaced or one more stands at the end.
use Rattle.std.proofs.Common.{◌≡◌, ◌≢◌, ◌⊎◌, inl, inr, ⊎_elim, ℕ, zero, suc, true, false, List, [], ◌∷◌, ◌++◌, length, set, refl, ap, sym, subst, ◌∙◌, arith, None}
use Rattle.std.proofs.lemmas.Bool.{true≢false, false≢true}
use mathlib.Core.Option.{some, some-injective, some-ne-none}
use mathlib.Core.Logic.{dite}
use native.Mathlib.Decide.{ℕ_discrete}
use lib.ListN.{get_elem?}
use Rattle.atomic_table.specs.Table.{opening}
use Rattle.atomic_table.proofs.Lists.{at_set, at_longer, set_else}
use Rattle.lasp_histlock.specs.declared.view.View.{View}
use Rattle.lasp_histlock.specs.Views.{founder, nobody}
use Rattle.lasp_histlock.specs.Rule.{Setting, Fits, Law, Keeps, Lock}

pub off : {A : Type 0} → false ≡ true → A
off e = absurd (false≢true e)

pub on : {A : Type 0} → true ≡ false → A
on e = absurd (true≢false e)

module _ {A : Type 0} where
  pub at_here : (l : List A) (i : ℕ) (a b : A) → get_elem? l i ≡ some a → get_elem? (set l i b) i ≡ some b
  at_here [] i a b e = absurd (some-ne-none a (sym e))
  at_here (x ∷ xs) zero a b e = refl
  at_here (x ∷ xs) (suc i) a b e = at_here xs i a b e

  pub at_new : (l : List A) (a b : A) (j : ℕ) → get_elem? (l ++ a ∷ []) j ≡ some b → (get_elem? l j ≡ some b) ⊎ ((j ≡ length l) × (a ≡ b))
  at_new [] a b zero e = inr (refl, some-injective a b e)
  at_new [] a b (suc j) e = absurd (some-ne-none b (sym e))
  at_new (x ∷ xs) a b zero e = inl e
  at_new (x ∷ xs) a b (suc j) e = ⊎_elim (λ h. inl h) (λ h. inr (ap suc h.0, h.1)) (at_new xs a b j e)

  pub below_length : (l : List A) (a : A) (j : ℕ) → get_elem? l j ≡ some a → j ≢ length l
  below_length [] a j e n = some-ne-none a (sym e)
  below_length (x ∷ xs) a zero e n = omega (arith, n)
  below_length (x ∷ xs) a (suc j) e n = below_length xs a j e (omega (arith, n))

  -- a fact of the element at k stays, if the element that is replaced keeps it
  pub stays : (l : List A) (i k : ℕ) (v w : A) (Q : A → Type 0) → get_elem? l i ≡ some v → (Q v → Q w)
      → (u : A) × (get_elem? l k ≡ some u) × Q u → (u : A) × (get_elem? (set l i w) k ≡ some u) × Q u
  stays l i k v w Q at keep t = dite (ℕ_discrete k i)
      (λ same.
      let at' : get_elem? l i ≡ some t.0 = subst (λ z. get_elem? l z ≡ some t.0) same t.1 in
      let is : t.0 ≡ v = some-injective t.0 v (sym at' ∙ at) in
      (w, subst (λ z. get_elem? (set l i w) z ≡ some w) (sym same) (at_here l i v w at), keep (subst Q is t.2)))
      (λ apart. (t.0, set_else l i k w apart ∙ t.1, t.2))

  -- the same of an element that isn't the one that is replaced
  pub stays_apart : (l : List A) (i k : ℕ) (w : A) (Q : A → Type 0) → k ≢ i → (u : A) × (get_elem? l k ≡ some u) × Q u → (u : A) × (get_elem? (set l i w) k ≡ some u) × Q u
  stays_apart l i k w Q apart t = (t.0, set_else l i k w apart ∙ t.1, t.2)

  -- the same beside an element that is new
  pub with_new : (Q : A → Type 0) (l : List A) (a : A) (k : ℕ) → (u : A) × (get_elem? l k ≡ some u) × Q u → (u : A) × (get_elem? (l ++ a ∷ []) k ≡ some u) × Q u
  with_new Q l a k t = (t.0, at_longer l (a ∷ []) k t.0 t.1, t.2)

module _ {E F : Type 0} (P : ℕ → View E F → Type 0) where
  pub each_set : (vs : List (View E F)) (id : ℕ) (w : View E F) → (w.spent ≡ false → P id w)
      → ((j : ℕ) (u : View E F) → j ≢ id → get_elem? vs j ≡ some u → u.spent ≡ false → P j u)
      → (j : ℕ) (u : View E F) → get_elem? (set vs id w) j ≡ some u → u.spent ≡ false → P j u
  each_set vs id w mine others j u e live = ⊎_elim
      (λ (t : (j ≡ id) × (w ≡ u)).
      let there : P id u = subst (λ (z : View E F). z.spent ≡ false → P id z) t.1 mine live in
      subst (λ (k : ℕ). P k u) (sym t.0) there)
      (λ (t : (j ≢ id) × (get_elem? vs j ≡ some u)). others j u t.0 t.1 live)
      (at_set vs id j w u e)

  pub each_new : (vs : List (View E F)) (a : View E F) → (a.spent ≡ false → P (length vs) a)
      → ((j : ℕ) (u : View E F) → get_elem? vs j ≡ some u → u.spent ≡ false → P j u)
      → (j : ℕ) (u : View E F) → get_elem? (vs ++ a ∷ []) j ≡ some u → u.spent ≡ false → P j u
  each_new vs a new others j u e live = ⊎_elim
      (λ (t : get_elem? vs j ≡ some u). others j u t live)
      (λ (t : (j ≡ length vs) × (a ≡ u)).
      let there : P (length vs) u = subst (λ (z : View E F). z.spent ≡ false → P (length vs) z) t.1 new live in
      subst (λ (k : ℕ). P k u) (sym t.0) there)
      (at_new vs a u j e)

  -- where a view was joined into another one, and is nobody now
  pub each_joined : (vs : List (View E F)) (id : ℕ) (w : View E F) (other : ℕ) → (w.spent ≡ false → P id w)
      → ((j : ℕ) (u : View E F) → j ≢ id → j ≢ other → get_elem? vs j ≡ some u → u.spent ≡ false → P j u)
      → (j : ℕ) (u : View E F) → get_elem? (set (set vs id w) other nobody) j ≡ some u → u.spent ≡ false → P j u
  each_joined vs id w other mine others j u e live = ⊎_elim
      (λ (t : (j ≡ other) × (nobody ≡ u)). on (ap (λ (z : View E F). z.spent) t.1 ∙ live))
      (λ (t : (j ≢ other) × (get_elem? (set vs id w) j ≡ some u)). ⊎_elim
      (λ (q : (j ≡ id) × (w ≡ u)).
      let there : P id u = subst (λ (z : View E F). z.spent ≡ false → P id z) q.1 mine live in
      subst (λ (k : ℕ). P k u) (sym q.0) there)
      (λ (q : (j ≢ id) × (get_elem? vs j ≡ some u)). others j u q.0 t.0 q.1 live)
      (at_set vs id j w u t.1))
      (at_set (set vs id w) other j nobody u e)

module _ (E F : Type 0) (names : E → ℕ) (may : ℕ → E → Type 0) where
  -- who has the turn is alone with it
  pub others_wait : (c : Setting E F) (id j : ℕ) (v u : View E F) → Fits names may c id v → Fits names may c j u → v.turn ≡ true → j ≢ id → u.turn ≡ true → ⊥
  others_wait c id j v u f g turn apart e = apart ((g.turns.one e).0 ∙ sym ((f.turns.one turn).0))

  -- who carries is alone with it
  pub others_bare : (c : Setting E F) (id j : ℕ) (v u : View E F) → Fits names may c id v → Fits names may c j u → v.carries ≡ true → j ≢ id → u.carries ≡ true → ⊥
  others_bare c id j v u f g carries apart e = apart ((g.bears.one e).0 ∙ sym ((f.bears.one carries).0))

  founded : (x : F) (id : ℕ) (v : View E F) → get_elem? (founder {E = E} x ∷ []) id ≡ some v → v.fresh ≡ false → ⊥
  founded x zero v at fresh = true≢false (ap (λ (z : View E F). z.fresh) (some-injective (founder x) v at) ∙ fresh)
  founded x (suc id) v at fresh = some-ne-none v (sym at)

  -- where a view has its table's name, the law holds
  pub running : (x : F) (s : Lock E F) (id : ℕ) (v : View E F) → Keeps names may x s → get_elem? s.views id ≡ some v → v.fresh ≡ false
      → (c : Setting E F) × (c.frame ≡ x) × Law names may c s
  running x s id v holds at fresh = ⊎_elim
      (λ (e : s ≡ opening (1 ∷ 0 ∷ []) (None ∷ []) (founder x)). absurd (founded x id v (subst (λ (t : Lock E F). get_elem? t.views id ≡ some v) e at) fresh))
      (λ (t : (c : Setting E F) × (c.frame ≡ x) × Law names may c s). t)
      holds
