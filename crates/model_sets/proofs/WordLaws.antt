-- What the processes give, in words: which rows there are, which are dead, and which values are visible.
use Rattle.std.proofs.Common.{◌≡◌, ◌≢◌, ℕ, ◌≤◌, ◌<◌, max, Bool, true, false, if◌then◌else◌, ◌==◌, nat_lt, IsTrue, List, [], ◌∷◌, refl, sym, ap, subst, ◌∙◌, arith, ◌↔◌, ◌⊎◌, inl, inr}
use Rattle.std.proofs.lemmas.Bool.Decides.{nat_tests}
use Rattle.std.specs.Ordering.{is_eq, eq_by_cmp}
use Rattle.std.specs.declared.cmp.Ordering.{Ordering}
use Rattle.std.specs.FinMap.Entries.{is_sorted, below_all}
use Rattle.std.specs.Cmp.{tied_itself}
use Rattle.model_values.specs.Value.{Val, int, text, pair, val_cmp, val_exact, val_total}
use Rattle.model_values.specs.Token.{Tok, single, both}
use Rattle.model_values.specs.Row.{Key, Row, key_cmp, key_exact}
use Rattle.model_sets.specs.Rows.{level, row_mark, mark, HasRow, IsDeadIn, IsAscending}
use Rattle.model_sets.specs.Values.{is_value, held, IsHeld, AreAscending, live_values, visible}
use Rattle.model_sets.specs.Equations.{map_set, filter_set, union_set, product_set, intersect_set, both_of}
use Rattle.model_sets.specs.Algebra.{IsLive}
use Rattle.model_sets.proofs.RowLaws.{and-left, and-right, is-Equal, mark-below, mark-small, mark-join}
use Rattle.model_sets.proofs.ValueLaws.{held-small, held-visible, same_from_held}
use Rattle.model_sets.proofs.EquationLaws.{tied_key, filter-mark, map-mark, map-ge, map-from, product-mark, intersect-mark}

-- ---- numbers

both-positive : (m n : ℕ) → 0 < both_of m n → (0 < m) × (0 < n)
both-positive m n h = grind (arith, nat_tests, h)

positive-both : (m n : ℕ) → 0 < m → 0 < n → 0 < both_of m n
positive-both m n p q = grind (arith, nat_tests, p, q)

both-two : (m n : ℕ) → m ≤ 2 → n ≤ 2 → both_of m n ≡ 2 → (0 < m) × (0 < n) × ((m ≡ 2) ⊎ (n ≡ 2))
both-two m n a b h = (small, other, choose (m == 2) refl) where
  small : 0 < m
  small = grind (arith, nat_tests, h)

  other : 0 < n
  other = grind (arith, nat_tests, h)

  choose : (c : Bool) → (m == 2) ≡ c → (m ≡ 2) ⊎ (n ≡ 2)
  choose true e = inl (grind (arith, nat_tests, e))
  choose false e = inr (grind (arith, nat_tests, e, h, a, b))

two-both : (m n : ℕ) → m ≤ 2 → n ≤ 2 → 0 < m → 0 < n → (m ≡ 2) ⊎ (n ≡ 2) → both_of m n ≡ 2
two-both m n a b p q (inl e) = grind (arith, nat_tests, a, b, p, q, e)
two-both m n a b p q (inr e) = grind (arith, nat_tests, a, b, p, q, e)

pub both-one : (m n : ℕ) → both_of m n ≡ 1 → (m ≡ 1) × (n ≡ 1)
both-one m n h = (grind (arith, nat_tests, h), grind (arith, nat_tests, h))

-- ---- filter

pub filter-has : (p : Val → Bool) (x : List Row) (v : Val) (t : Tok) → HasRow (filter_set p x) v t ↔ (IsTrue (p v) × HasRow x v t)
filter-has p x v t = (λ h. there (p v) (subst (λ (m : ℕ). 0 < m) (filter-mark p x v t) h), λ h. subst (λ (m : ℕ). 0 < m) (sym (filter-mark p x v t)) (back (p v) h.0 h.1)) where
  there : (b : Bool) → 0 < (if b then mark x v t else 0) → IsTrue b × HasRow x v t
  there true h = (refl, h)
  there false h = absurd (omega (arith, h))

  back : (b : Bool) → IsTrue b → HasRow x v t → 0 < (if b then mark x v t else 0)
  back true e h = h
  back false e h = cc

pub filter-dead : (p : Val → Bool) (x : List Row) (v : Val) (t : Tok) → IsDeadIn (filter_set p x) v t ↔ (IsTrue (p v) × IsDeadIn x v t)
filter-dead p x v t = (λ h. there (p v) (sym (filter-mark p x v t) ∙ h), λ h. filter-mark p x v t ∙ back (p v) h.0 h.1) where
  there : (b : Bool) → (if b then mark x v t else 0) ≡ 2 → IsTrue b × IsDeadIn x v t
  there true h = (refl, h)
  there false h = absurd (omega (arith, h))

  back : (b : Bool) → IsTrue b → IsDeadIn x v t → (if b then mark x v t else 0) ≡ 2
  back true e h = h
  back false e h = cc

-- ---- map

pub map-has : (f : Val → Val) (x : List Row) (w : Val) (t : Tok) → HasRow (map_set f x) w t ↔ ((u : Val) × (f u ≡ w) × HasRow x u t)
map-has f x w t = (
  λ h. let found = map-from f x w t 1 (omega arith) (omega (arith, h, map-mark f x w t)) in (found.0, found.1, omega (arith, found.2)),
  λ h. subst (λ (z : Val). HasRow (map_set f x) z t) h.1 (omega (arith, map-mark f x (f h.0) t, map-ge f x h.0 t, h.2)),
)

pub map-dead : (f : Val → Val) (x : List Row) (w : Val) (t : Tok) → IsDeadIn (map_set f x) w t ↔ ((u : Val) × (f u ≡ w) × IsDeadIn x u t)
map-dead f x w t = (
  λ h. let found = map-from f x w t 2 (omega arith) (omega (arith, h, map-mark f x w t)) in (found.0, found.1, omega (arith, found.2, mark-small x found.0 t)),
  λ h. subst (λ (z : Val). IsDeadIn (map_set f x) z t) h.1 (omega (arith, map-mark f x (f h.0) t, map-ge f x h.0 t, h.2, mark-small (map_set f x) (f h.0) t)),
)

-- ---- union

pub union-has : (x y : List Row) (v : Val) (t : Tok) → HasRow (union_set x y) v t ↔ (HasRow x v t ⊎ HasRow y v t)
union-has x y v t = (λ h. choose (nat_lt 0 (mark x v t)) refl h, back) where
  choose : (b : Bool) → nat_lt 0 (mark x v t) ≡ b → HasRow (union_set x y) v t → HasRow x v t ⊎ HasRow y v t
  choose true e h = inl (grind (arith, nat_tests, e))
  choose false e h = let none : mark x v t ≡ 0 = grind (arith, nat_tests, e) in inr (omega (arith, none, h, mark-join x y v t))

  back : HasRow x v t ⊎ HasRow y v t → HasRow (union_set x y) v t
  back (inl h) = omega (arith, h, mark-join x y v t)
  back (inr h) = omega (arith, h, mark-join x y v t)

pub union-dead : (x y : List Row) (v : Val) (t : Tok) → IsDeadIn (union_set x y) v t ↔ (IsDeadIn x v t ⊎ IsDeadIn y v t)
union-dead x y v t = (λ h. choose (mark x v t == 2) refl h, back) where
  choose : (b : Bool) → (mark x v t == 2) ≡ b → IsDeadIn (union_set x y) v t → IsDeadIn x v t ⊎ IsDeadIn y v t
  choose true e h = inl (grind (arith, nat_tests, e))
  choose false e h = let other : mark x v t ≢ 2 = grind (arith, nat_tests, e) in inr (omega (arith, other, h, mark-join x y v t))

  back : IsDeadIn x v t ⊎ IsDeadIn y v t → IsDeadIn (union_set x y) v t
  back (inl h) = omega (arith, h, mark-join x y v t, mark-small y v t)
  back (inr h) = omega (arith, h, mark-join x y v t, mark-small x v t)

-- ---- product

pub product-has : (x y : List Row) (v w : Val) (t s : Tok) → HasRow (product_set x y) (pair v w) (both t s) ↔ (HasRow x v t × HasRow y w s)
product-has x y v w t s = (
  λ h. both-positive (mark x v t) (mark y w s) (subst (λ (m : ℕ). 0 < m) (product-mark x y (pair v w) (both t s)) h),
  λ h. subst (λ (m : ℕ). 0 < m) (sym (product-mark x y (pair v w) (both t s))) (positive-both (mark x v t) (mark y w s) h.0 h.1),
)

pub product-dead : (x y : List Row) (v w : Val) (t s : Tok) → IsDeadIn (product_set x y) (pair v w) (both t s) ↔ (HasRow x v t × HasRow y w s × (IsDeadIn x v t ⊎ IsDeadIn y w s))
product-dead x y v w t s = (
  λ h. both-two (mark x v t) (mark y w s) (mark-small x v t) (mark-small y w s) (sym (product-mark x y (pair v w) (both t s)) ∙ h),
  λ h. product-mark x y (pair v w) (both t s) ∙ two-both (mark x v t) (mark y w s) (mark-small x v t) (mark-small y w s) h.0 h.1 h.2,
)

pub product-only : (x y : List Row) (u : Val) (r : Tok) → HasRow (product_set x y) u r → (v : Val) × (w : Val) × (t : Tok) × (s : Tok) × (u ≡ pair v w) × (r ≡ both t s)
product-only x y (pair v w) (both t s) h = (v, w, t, s, refl, refl)
product-only x y (int n) r h = absurd (omega (arith, h, product-mark x y (int n) r))
product-only x y (text n) r h = absurd (omega (arith, h, product-mark x y (text n) r))
product-only x y (pair v w) (single q k) h = absurd (omega (arith, h, product-mark x y (pair v w) (single q k)))

-- ---- intersection

pub intersect-has : (x y : List Row) (v : Val) (t s : Tok) → HasRow (intersect_set x y) v (both t s) ↔ (HasRow x v t × HasRow y v s)
intersect-has x y v t s = (
  λ h. both-positive (mark x v t) (mark y v s) (subst (λ (m : ℕ). 0 < m) (intersect-mark x y v (both t s)) h),
  λ h. subst (λ (m : ℕ). 0 < m) (sym (intersect-mark x y v (both t s))) (positive-both (mark x v t) (mark y v s) h.0 h.1),
)

pub intersect-dead : (x y : List Row) (v : Val) (t s : Tok) → IsDeadIn (intersect_set x y) v (both t s) ↔ (HasRow x v t × HasRow y v s × (IsDeadIn x v t ⊎ IsDeadIn y v s))
intersect-dead x y v t s = (
  λ h. both-two (mark x v t) (mark y v s) (mark-small x v t) (mark-small y v s) (sym (intersect-mark x y v (both t s)) ∙ h),
  λ h. intersect-mark x y v (both t s) ∙ two-both (mark x v t) (mark y v s) (mark-small x v t) (mark-small y v s) h.0 h.1 h.2,
)

pub intersect-only : (x y : List Row) (v : Val) (r : Tok) → HasRow (intersect_set x y) v r → (t : Tok) × (s : Tok) × (r ≡ both t s)
intersect-only x y v (both t s) h = (t, s, refl)
intersect-only x y v (single q k) h = absurd (omega (arith, h, intersect-mark x y v (single q k)))

-- ---- visible values

-- What one row shows of a value.
abbrev shows : Row → Val → ℕ
shows r v = if r.1 then 0 else is_value r.0.0 v

live-step : (r : Row) (x : List Row) (v : Val) → held (live_values (r ∷ x)) v ≡ max (shows r v) (held (live_values x) v)
live-step (k, true) x v = omega arith
live-step (k, false) x v = refl

shows-live : (r : Row) (v : Val) → shows r v ≡ 1 → (r.0.0 ≡ v) × (r.1 ≡ false)
shows-live (k, true) v h = absurd (omega (arith, h))
shows-live (k, false) v h = (same (eq_by_cmp val_cmp v k.0) refl h, refl) where
  same : (b : Bool) → eq_by_cmp val_cmp v k.0 ≡ b → ◌≡◌ {A = ℕ} (if b then 1 else 0) 1 → k.0 ≡ v
  same true e g = sym (val_exact v k.0 (is-Equal (val_cmp v k.0) e))
  same false e g = absurd (omega (arith, g))

shows-small : (r : Row) (v : Val) → shows r v ≤ 1
shows-small (k, true) v = omega arith
shows-small (k, false) v = small (eq_by_cmp val_cmp v k.0) where
  small : (b : Bool) → (if b then 1 else 0) ≤ 1
  small true = omega arith
  small false = omega arith

-- A live row of ascending ones is live in all of them.
live-in : (x : List Row) → IsAscending x → (v : Val) → held (live_values x) v ≡ 1 → (t : Tok) × IsLive x v t
live-in [] up v h = absurd (omega (arith, h))
live-in (r ∷ x) up v h = choose (λ g. live-in x (and-right (below_all key_cmp r.0 x) (is_sorted key_cmp x) up) v g) (shows r v == 1) refl where
  none : mark x r.0.0 r.0.1 ≡ 0
  none = mark-below r.0 x (and-left (below_all key_cmp r.0 x) (is_sorted key_cmp x) up)

  choose : (held (live_values x) v ≡ 1 → (t : Tok) × IsLive x v t) → (b : Bool) → (shows r v == 1) ≡ b → (t : Tok) × IsLive (r ∷ x) v t
  choose later true e =
      let one : shows r v ≡ 1 = grind (arith, nat_tests, e) in
      let here = shows-live r v one in
      let own : row_mark r r.0.0 r.0.1 ≡ 1 = (λ i. if tied_key r.0 i then level (here.1 i) else 0) in
      (r.0.1, subst (λ (z : Val). max (row_mark r z r.0.1) (mark x z r.0.1) ≡ 1) here.0 (omega (arith, own, none)))
  choose later false e =
      let other : shows r v ≢ 1 = grind (arith, nat_tests, e) in
      let found = later (omega (arith, other, live-step r x v, h, shows-small r v)) in
      (found.0, apart found.0 (eq_by_cmp key_cmp (v, found.0) r.0) refl found.1) where
        apart : (t : Tok) → (b : Bool) → eq_by_cmp key_cmp (v, t) r.0 ≡ b → mark x v t ≡ 1 → max (if b then level r.1 else 0) (mark x v t) ≡ 1
        apart t true g m =
            let gone : mark x v t ≡ 0 = subst (λ (k : Key). mark x k.0 k.1 ≡ 0) (sym (key_exact (v, t) r.0 (is-Equal (key_cmp (v, t) r.0) g))) none in
            absurd (omega (arith, gone, m))
        apart t false g m = omega (arith, m)

-- A value that is live with some token is among the live ones.
live-out : (x : List Row) (v : Val) (t : Tok) → IsLive x v t → held (live_values x) v ≡ 1
live-out [] v t h = absurd (omega (arith, h))
live-out (r ∷ x) v t h = choose (λ g. live-out x v t g) (eq_by_cmp key_cmp (v, t) r.0) refl r.1 refl where
  choose : (mark x v t ≡ 1 → held (live_values x) v ≡ 1) → (b : Bool) → eq_by_cmp key_cmp (v, t) r.0 ≡ b → (d : Bool) → r.1 ≡ d → held (live_values (r ∷ x)) v ≡ 1
  choose later false e d g =
      let none : row_mark r v t ≡ 0 = ap (λ (b : Bool). if b then level r.1 else 0) e in
      omega (arith, later (omega (arith, none, h)), live-step r x v, shows-small r v)
  choose later true e true g =
      let two : row_mark r v t ≡ 2 = (λ i. if e i then level (g i) else 0) in
      absurd (omega (arith, two, h))
  choose later true e false g =
      let same = ap (λ (k : Key). k.0) (key_exact (v, t) r.0 (is-Equal (key_cmp (v, t) r.0) e)) in
      let own : is_value v v ≡ 1 = ap (λ (o : Ordering). if is_eq o then 1 else 0) (tied_itself val_total v) in
      let one : shows r v ≡ 1 = (λ i. if g i then 0 else is_value (sym same i) v) ∙ own in
      omega (arith, one, live-step r x v, held-small (live_values x) v)

-- A value is visible exactly where it has a live row.
pub visible-live : (x : List Row) → IsAscending x → (v : Val) → IsHeld (visible x) v ↔ ((t : Tok) × IsLive x v t)
visible-live x up v = (λ h. live-in x up v (sym (held-visible x v) ∙ h), λ h. held-visible x v ∙ live-out x v h.0 h.1)

-- Sets that hold the same values are the same.
pub same_from_words : (s t : List Val) → AreAscending s → AreAscending t → ((v : Val) → IsHeld s v ↔ IsHeld t v) → s ≡ t
same_from_words s t up_s up_t same = same_from_held s t up_s up_t (λ v. choose v (held s v == 1) refl (held t v == 1) refl) where
  choose : (v : Val) (b : Bool) → (held s v == 1) ≡ b → (c : Bool) → (held t v == 1) ≡ c → held s v ≡ held t v
  choose v true e c g =
      let one : held s v ≡ 1 = grind (arith, nat_tests, e) in
      one ∙ sym ((same v).0 one)
  choose v false e true g =
      let one : held t v ≡ 1 = grind (arith, nat_tests, g) in
      (same v).1 one ∙ sym one
  choose v false e false g =
      let not_s : held s v ≢ 1 = grind (arith, nat_tests, e) in
      let not_t : held t v ≢ 1 = grind (arith, nat_tests, g) in
      omega (arith, not_s, not_t, held-small s v, held-small t v)

pub ruleset words = (map-has, map-dead, filter-has, filter-dead, union-has, union-dead, product-has, product-dead, product-only, intersect-has, intersect-dead, intersect-only)

pub ruleset visible_words = (visible-live)
