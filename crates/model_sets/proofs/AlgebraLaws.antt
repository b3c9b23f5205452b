-- The algebra law: where deaths go by a list of dead tokens, each process keeps that, and shows what the plain operation gives on what its inputs show.
use Rattle.std.proofs.Common.{◌≡◌, ◌≢◌, ℕ, ◌≤◌, ◌<◌, max, Bool, true, false, cond, ◌||◌, if◌then◌else◌, ◌==◌, nat_lt, IsTrue, List, [], ◌∷◌, ◌++◌, map, filter, flat_map, refl, sym, ap, subst, ◌∙◌, arith, ◌↔◌, ◌⊎◌, inl, inr}
use Rattle.std.proofs.lemmas.Bool.Decides.{nat_tests}
use Rattle.std.specs.Ordering.{is_eq, eq_by_cmp}
use Rattle.std.specs.declared.cmp.Ordering.{Ordering}
use Rattle.std.specs.FinMap.Entries.{is_sorted, where_key, is_sorted-where_key}
use Rattle.std.specs.Cmp.{tied_itself}
use Rattle.model_values.specs.Value.{Val, int, text, pair, val_cmp, val_exact, val_total}
use Rattle.model_values.specs.Token.{Tok, single, both}
use Rattle.model_values.specs.Row.{Row}
use Rattle.model_sets.specs.Rows.{level, mark, HasRow, IsAscending}
use Rattle.model_sets.specs.Values.{is_value, held, IsHeld, entries_of, AreAscending, of_values, visible}
use Rattle.model_sets.specs.Equations.{moved, map_set, filter_set, union_set, product_set, intersect_set, both_of}
use Rattle.model_sets.specs.Algebra.{plain_map, plain_filter, plain_union, plain_product, plain_intersection, IsLive, is_gone, IsMarkedBy}
use Rattle.model_sets.proofs.RowLaws.{as_T, as_true, is-Equal, mark-join, ascending-join, ascending-of_rows}
use Rattle.model_sets.proofs.ValueLaws.{held-small, held-append, held-of_values, ascending-of_values, ascending-visible}
use Rattle.model_sets.proofs.EquationLaws.{filter-mark, filter-ascending, map-mark, map-ge, map-le, product-mark, intersect-mark, ascending-product, ascending-intersect}
use Rattle.model_sets.proofs.WordLaws.{visible-live, same_from_words, both-one, filter-has, map-has, union-has, product-has, intersect-has}

-- ---- plain operations in words

pub held-here : (v : Val) → is_value v v ≡ 1
held-here v = ap (λ (o : Ordering). if is_eq o then 1 else 0) (tied_itself val_total v)

pub same-value : (w v : Val) → is_value w v ≡ 1 → w ≡ v
same-value w v h = choose (eq_by_cmp val_cmp v w) refl h where
  choose : (b : Bool) → eq_by_cmp val_cmp v w ≡ b → ◌≡◌ {A = ℕ} (if b then 1 else 0) 1 → w ≡ v
  choose true e g = sym (val_exact v w (is-Equal (val_cmp v w) e))
  choose false e g = absurd (omega (arith, g))

value-small : (w v : Val) → is_value w v ≤ 1
value-small w v = small (eq_by_cmp val_cmp v w) where
  small : (b : Bool) → (if b then 1 else 0) ≤ 1
  small true = omega arith
  small false = omega arith

held-map : (f : Val → Val) (s : List Val) (w : Val) → IsHeld (map f s) w ↔ ((u : Val) × (f u ≡ w) × IsHeld s u)
held-map f s w = (there s, λ h. subst (λ (z : Val). IsHeld (map f s) z) h.1 (back s h.0 h.2)) where
  there : (s : List Val) → IsHeld (map f s) w → (u : Val) × (f u ≡ w) × IsHeld s u
  there [] h = absurd (omega (arith, h))
  there (v ∷ s) h = choose (λ g. there s g) (is_value (f v) w == 1) refl where
    choose : (IsHeld (map f s) w → (u : Val) × (f u ≡ w) × IsHeld s u) → (b : Bool) → (is_value (f v) w == 1) ≡ b → (u : Val) × (f u ≡ w) × IsHeld (v ∷ s) u
    choose later true e =
        let one : is_value (f v) w ≡ 1 = grind (arith, nat_tests, e) in
        (v, same-value (f v) w one, omega (arith, held-here v, held-small s v))
    choose later false e =
        let other : is_value (f v) w ≢ 1 = grind (arith, nat_tests, e) in
        let found = later (omega (arith, other, value-small (f v) w, h)) in
        (found.0, found.1, omega (arith, found.2, value-small v found.0))

  back : (s : List Val) (u : Val) → IsHeld s u → IsHeld (map f s) (f u)
  back [] u h = absurd (omega (arith, h))
  back (v ∷ s) u h = choose (λ g. back s u g) (is_value v u == 1) refl where
    choose : (IsHeld s u → IsHeld (map f s) (f u)) → (b : Bool) → (is_value v u == 1) ≡ b → IsHeld (map f (v ∷ s)) (f u)
    choose later true e =
        let one : is_value v u ≡ 1 = grind (arith, nat_tests, e) in
        subst (λ (z : Val). max (is_value (f v) (f z)) (held (map f s) (f z)) ≡ 1) (same-value v u one) (omega (arith, held-here (f v), held-small (map f s) (f v)))
    choose later false e =
        let other : is_value v u ≢ 1 = grind (arith, nat_tests, e) in
        omega (arith, later (omega (arith, other, value-small v u, h)), value-small (f v) (f u))

pub held-filter : (p : Val → Bool) (s : List Val) (v : Val) → held (filter p s) v ≡ (if p v then held s v else 0)
held-filter p [] v = elim (p v) as (λ b. ◌≡◌ {A = ℕ} 0 (if b then 0 else 0)) [ true ↦ refl | false ↦ refl ]
held-filter p (w ∷ s) v =
    elim (p w) as (λ b. held (cond b (w ∷ filter p s) (filter p s)) v ≡ (if b then max (is_value w v) (held (filter p s) v) else held (filter p s) v)) [ true ↦ refl | false ↦ refl ]
    ∙ subst (λ (m : ℕ). (if p w then max (is_value w v) m else m) ≡ (if p v then max (is_value w v) (held s v) else 0)) (sym (held-filter p s v)) (step (held s v) (eq_by_cmp val_cmp v w) refl) where
      same : (b : Bool) (n : ℕ) → (if b then max 1 (if b then n else 0) else (if b then n else 0)) ≡ (if b then max 1 n else 0)
      same true n = refl
      same false n = refl

      apart : (b c : Bool) (n : ℕ) → (if b then max 0 (if c then n else 0) else (if c then n else 0)) ≡ (if c then max 0 n else 0)
      apart true true n = refl
      apart true false n = refl
      apart false true n = omega arith
      apart false false n = refl

      step : (n : ℕ) (b : Bool) → eq_by_cmp val_cmp v w ≡ b → (if p w then max (if b then 1 else 0) (if p v then n else 0) else (if p v then n else 0)) ≡ (if p v then max (if b then 1 else 0) n else 0)
      step n true e = subst (λ (u : Val). (if p u then max 1 (if p v then n else 0) else (if p v then n else 0)) ≡ (if p v then max 1 n else 0)) (val_exact v w (is-Equal (val_cmp v w) e)) (same (p v) n)
      step n false e = apart (p w) (p v) n

pub IsHeld-filter : (p : Val → Bool) (s : List Val) (v : Val) → IsHeld (filter p s) v ↔ (IsTrue (p v) × IsHeld s v)
IsHeld-filter p s v = (λ h. there (p v) (sym (held-filter p s v) ∙ h), λ h. held-filter p s v ∙ back (p v) h.0 h.1) where
  there : (b : Bool) → (if b then held s v else 0) ≡ 1 → IsTrue b × IsHeld s v
  there true h = (refl, h)
  there false h = absurd (omega (arith, h))

  back : (b : Bool) → IsTrue b → IsHeld s v → (if b then held s v else 0) ≡ 1
  back true e h = h
  back false e h = cc

entries_of-filter : (p : Val → Bool) (s : List Val) → entries_of (filter p s) ≡ where_key val_cmp p (entries_of s)
entries_of-filter p [] = refl
entries_of-filter p (v ∷ s) = elim (p v) as (λ b. entries_of (cond b (v ∷ filter p s) (filter p s)) ≡ cond b ((v, tt) ∷ where_key val_cmp p (entries_of s)) (where_key val_cmp p (entries_of s))) [
  | true ↦ ap (λ rest. (v, tt) ∷ rest) (entries_of-filter p s)
  | false ↦ entries_of-filter p s
]

pub ascending-filter : (p : Val → Bool) (s : List Val) → AreAscending s → AreAscending (filter p s)
ascending-filter p s up =
    subst (λ (es : List (Val × Unit {0})). IsTrue (is_sorted val_cmp es)) (sym (entries_of-filter p s))
    (as_true (is_sorted val_cmp (where_key val_cmp p (entries_of s))) (is_sorted-where_key val_cmp p (entries_of s) (as_T (is_sorted val_cmp (entries_of s)) up)))

pub IsHeld-of_values : (s : List Val) (v : Val) → IsHeld (of_values s) v ↔ IsHeld s v
IsHeld-of_values s v = (λ h. sym (held-of_values s v) ∙ h, λ h. held-of_values s v ∙ h)

pub IsHeld-append : (s t : List Val) (v : Val) → IsHeld (s ++ t) v ↔ (IsHeld s v ⊎ IsHeld t v)
IsHeld-append s t v = (λ h. choose (held s v == 1) refl h, back) where
  choose : (b : Bool) → (held s v == 1) ≡ b → IsHeld (s ++ t) v → IsHeld s v ⊎ IsHeld t v
  choose true e h = inl (grind (arith, nat_tests, e))
  choose false e h = let other : held s v ≢ 1 = grind (arith, nat_tests, e) in inr (omega (arith, other, h, held-append s t v, held-small s v, held-small t v))

  back : IsHeld s v ⊎ IsHeld t v → IsHeld (s ++ t) v
  back (inl h) = omega (arith, h, held-append s t v, held-small t v)
  back (inr h) = omega (arith, h, held-append s t v, held-small s v)

-- ---- the plain operations in words

pub plain_map-holds : (f : Val → Val) (s : List Val) (w : Val) → IsHeld (plain_map f s) w ↔ ((u : Val) × (f u ≡ w) × IsHeld s u)
plain_map-holds f s w = (λ h. (held-map f s w).0 ((IsHeld-of_values (map f s) w).0 h), λ h. (IsHeld-of_values (map f s) w).1 ((held-map f s w).1 h))

pub plain_union-holds : (s t : List Val) (v : Val) → IsHeld (plain_union s t) v ↔ (IsHeld s v ⊎ IsHeld t v)
plain_union-holds s t v = (λ h. (IsHeld-append s t v).0 ((IsHeld-of_values (s ++ t) v).0 h), λ h. (IsHeld-of_values (s ++ t) v).1 ((IsHeld-append s t v).1 h))

-- A pair of values of both.
abbrev pub IsPairOf : List Val → List Val → Val → Type 0
IsPairOf s t u = (v : Val) × (w : Val) × (u ≡ pair v w) × IsHeld s v × IsHeld t w

times-there : (s t : List Val) (u : Val) → IsHeld (flat_map (λ v. map (pair v) t) s) u → IsPairOf s t u
times-there [] t u h = absurd (omega (arith, h))
times-there (v ∷ s) t u h = choose (λ g. times-there s t u g) ((IsHeld-append (map (pair v) t) (flat_map (λ v. map (pair v) t) s) u).0 h) where
  choose : (IsHeld (flat_map (λ v. map (pair v) t) s) u → IsPairOf s t u) → IsHeld (map (pair v) t) u ⊎ IsHeld (flat_map (λ v. map (pair v) t) s) u → IsPairOf (v ∷ s) t u
  choose later (inl g) = let found = (held-map (pair v) t u).0 g in (v, found.0, sym found.1, omega (arith, held-here v, held-small s v), found.2)
  choose later (inr g) = let found = later g in (found.0, found.1, found.2, omega (arith, found.3, value-small v found.0), found.4)

times-back : (s t : List Val) (v w : Val) → IsHeld s v → IsHeld t w → IsHeld (flat_map (λ v. map (pair v) t) s) (pair v w)
times-back [] t v w h g = absurd (omega (arith, h))
times-back (x ∷ s) t v w h g = (IsHeld-append (map (pair x) t) (flat_map (λ v. map (pair v) t) s) (pair v w)).1 (choose (λ k. times-back s t v w k g) (is_value x v == 1) refl) where
  choose : (IsHeld s v → IsHeld (flat_map (λ v. map (pair v) t) s) (pair v w)) → (b : Bool) → (is_value x v == 1) ≡ b → IsHeld (map (pair x) t) (pair v w) ⊎ IsHeld (flat_map (λ v. map (pair v) t) s) (pair v w)
  choose later true e =
      let one : is_value x v ≡ 1 = grind (arith, nat_tests, e) in
      inl ((held-map (pair x) t (pair v w)).1 (w, ap (λ (z : Val). pair z w) (same-value x v one), g))
  choose later false e =
      let other : is_value x v ≢ 1 = grind (arith, nat_tests, e) in
      inr (later (omega (arith, other, value-small x v, h)))

pub plain_product-holds : (s t : List Val) (u : Val) → IsHeld (plain_product s t) u ↔ IsPairOf s t u
plain_product-holds s t u = (
  λ h. times-there s t u ((IsHeld-of_values (flat_map (λ v. map (pair v) t) s) u).0 h),
  λ h. (IsHeld-of_values (flat_map (λ v. map (pair v) t) s) u).1 (subst (IsHeld (flat_map (λ v. map (pair v) t) s)) (sym h.2) (times-back s t h.0 h.1 h.3 h.4)),
)

pub plain_intersection-holds : (s t : List Val) (v : Val) → IsHeld (plain_intersection s t) v ↔ (IsHeld s v × IsHeld t v)
plain_intersection-holds s t v = (
  λ h. let found = (IsHeld-filter (λ w. held t w == 1) s v).0 h in (found.1, grind (arith, nat_tests, found.0)),
  λ h. (IsHeld-filter (λ w. held t w == 1) s v).1 (grind (arith, nat_tests, h.1), h.0),
)

-- ---- deaths by dead tokens

marked-le : (dead : ℕ → ℕ → Bool) (x : List Row) → IsMarkedBy dead x → (v : Val) (t : Tok) → mark x v t ≤ level (is_gone dead t)
marked-le dead x m v t = choose (nat_lt 0 (mark x v t)) refl where
  choose : (b : Bool) → nat_lt 0 (mark x v t) ≡ b → mark x v t ≤ level (is_gone dead t)
  choose true e = let has : 0 < mark x v t = grind (arith, nat_tests, e) in omega (arith, m v t has)
  choose false e = let none : mark x v t ≡ 0 = grind (arith, nat_tests, e) in omega (arith, none)

pub marked-filter : (dead : ℕ → ℕ → Bool) (p : Val → Bool) (x : List Row) → IsMarkedBy dead x → IsMarkedBy dead (filter_set p x)
marked-filter dead p x m v t h =
    let has = (filter-has p x v t).0 h in
    filter-mark p x v t ∙ ap (λ (b : Bool). if b then mark x v t else 0) has.0 ∙ m v t has.1

pub marked-map : (dead : ℕ → ℕ → Bool) (f : Val → Val) (x : List Row) → IsMarkedBy dead x → IsMarkedBy dead (map_set f x)
marked-map dead f x m w t h =
    let found = (map-has f x w t).0 h in
    let least : mark x found.0 t ≤ mark (map_set f x) w t = subst (λ (z : Val). mark x found.0 t ≤ mark (map_set f x) z t) found.1 (omega (arith, map-mark f x (f found.0) t, map-ge f x found.0 t)) in
    omega (arith, least, m found.0 t found.2, map-mark f x w t, map-le f x w t (level (is_gone dead t)) (λ u e. marked-le dead x m u t))

pub marked-union : (dead : ℕ → ℕ → Bool) (x y : List Row) → IsMarkedBy dead x → IsMarkedBy dead y → IsMarkedBy dead (union_set x y)
marked-union dead x y m n v t h = choose ((union-has x y v t).0 h) where
  choose : HasRow x v t ⊎ HasRow y v t → mark (union_set x y) v t ≡ level (is_gone dead t)
  choose (inl g) = omega (arith, mark-join x y v t, m v t g, marked-le dead y n v t)
  choose (inr g) = omega (arith, mark-join x y v t, n v t g, marked-le dead x m v t)

both-level : (a b : Bool) → both_of (level a) (level b) ≡ level (a || b)
both-level true true = refl
both-level true false = refl
both-level false true = refl
both-level false false = refl

pub marked-product : (dead : ℕ → ℕ → Bool) (x y : List Row) → IsMarkedBy dead x → IsMarkedBy dead y → IsMarkedBy dead (product_set x y)
marked-product dead x y m n (pair v w) (both t s) h =
    let has = (product-has x y v w t s).0 h in
    product-mark x y (pair v w) (both t s) ∙ (λ i. both_of (m v t has.0 i) (n w s has.1 i)) ∙ both-level (is_gone dead t) (is_gone dead s)
marked-product dead x y m n (int k) t h = absurd (omega (arith, h, product-mark x y (int k) t))
marked-product dead x y m n (text k) t h = absurd (omega (arith, h, product-mark x y (text k) t))
marked-product dead x y m n (pair v w) (single q k) h = absurd (omega (arith, h, product-mark x y (pair v w) (single q k)))

pub marked-intersect : (dead : ℕ → ℕ → Bool) (x y : List Row) → IsMarkedBy dead x → IsMarkedBy dead y → IsMarkedBy dead (intersect_set x y)
marked-intersect dead x y m n v (both t s) h =
    let has = (intersect-has x y v t s).0 h in
    intersect-mark x y v (both t s) ∙ (λ i. both_of (m v t has.0 i) (n v s has.1 i)) ∙ both-level (is_gone dead t) (is_gone dead s)
marked-intersect dead x y m n v (single q k) h = absurd (omega (arith, h, intersect-mark x y v (single q k)))

-- ---- what is shown

pub visible-filter : (p : Val → Bool) (x : List Row) → IsAscending x → visible (filter_set p x) ≡ plain_filter p (visible x)
visible-filter p x up = same_from_words (visible (filter_set p x)) (plain_filter p (visible x)) (ascending-visible (filter_set p x)) (ascending-filter p (visible x) (ascending-visible x)) (λ v. (there v, back v)) where
  there : (v : Val) → IsHeld (visible (filter_set p x)) v → IsHeld (plain_filter p (visible x)) v
  there v h =
      let live = (visible-live (filter_set p x) (filter-ascending p x up) v).0 h in
      let one : 0 < mark (filter_set p x) v live.0 = omega (arith, live.1) in
      let has = (filter-has p x v live.0).0 one in
      (IsHeld-filter p (visible x) v).1 (has.0, (visible-live x up v).1 (live.0, sym (filter-mark p x v live.0 ∙ ap (λ (b : Bool). if b then mark x v live.0 else 0) has.0) ∙ live.1))

  back : (v : Val) → IsHeld (plain_filter p (visible x)) v → IsHeld (visible (filter_set p x)) v
  back v h =
      let both = (IsHeld-filter p (visible x) v).0 h in
      let live = (visible-live x up v).0 both.1 in
      (visible-live (filter_set p x) (filter-ascending p x up) v).1 (live.0, filter-mark p x v live.0 ∙ ap (λ (b : Bool). if b then mark x v live.0 else 0) both.0 ∙ live.1)

pub ascending-map : (f : Val → Val) (x : List Row) → IsAscending (map_set f x)
ascending-map f x = ascending-of_rows (map (moved f) x)

pub visible-map : (dead : ℕ → ℕ → Bool) (f : Val → Val) (x : List Row) → IsAscending x → IsMarkedBy dead x → visible (map_set f x) ≡ plain_map f (visible x)
visible-map dead f x up m = same_from_words (visible (map_set f x)) (plain_map f (visible x)) (ascending-visible (map_set f x)) (ascending-of_values (map f (visible x))) (λ w. (there w, back w)) where
  there : (w : Val) → IsHeld (visible (map_set f x)) w → IsHeld (plain_map f (visible x)) w
  there w h =
      let live = (visible-live (map_set f x) (ascending-map f x) w).0 h in
      let one : 0 < mark (map_set f x) w live.0 = omega (arith, live.1) in
      let found = (map-has f x w live.0).0 one in
      let least : mark x found.0 live.0 ≤ mark (map_set f x) w live.0 =
      subst (λ (z : Val). mark x found.0 live.0 ≤ mark (map_set f x) z live.0) found.1 (omega (arith, map-mark f x (f found.0) live.0, map-ge f x found.0 live.0)) in
      (plain_map-holds f (visible x) w).1 (found.0, found.1, (visible-live x up found.0).1 (live.0, omega (arith, least, found.2, live.1)))

  back : (w : Val) → IsHeld (plain_map f (visible x)) w → IsHeld (visible (map_set f x)) w
  back w h =
      let found = (plain_map-holds f (visible x) w).0 h in
      let live = (visible-live x up found.0).0 found.2 in
      let here : 0 < mark x found.0 live.0 = omega (arith, live.1) in
      let has = (map-has f x w live.0).1 (found.0, found.1, here) in
      (visible-live (map_set f x) (ascending-map f x) w).1 (live.0, marked-map dead f x m w live.0 has ∙ sym (m found.0 live.0 here) ∙ live.1)

pub visible-union : (dead : ℕ → ℕ → Bool) (x y : List Row) → IsAscending x → IsAscending y → IsMarkedBy dead x → IsMarkedBy dead y → visible (union_set x y) ≡ plain_union (visible x) (visible y)
visible-union dead x y up_x up_y m n =
    same_from_words (visible (union_set x y)) (plain_union (visible x) (visible y)) (ascending-visible (union_set x y)) (ascending-of_values (visible x ++ visible y)) (λ v. (there v, λ h. back v ((plain_union-holds (visible x) (visible y) v).0 h))) where
      there : (v : Val) → IsHeld (visible (union_set x y)) v → IsHeld (plain_union (visible x) (visible y)) v
      there v h = let live = (visible-live (union_set x y) (ascending-join x y) v).0 h in
          (plain_union-holds (visible x) (visible y) v).1 (choose live.0 (mark x v live.0 == 1) refl live.1) where
            choose : (t : Tok) (b : Bool) → (mark x v t == 1) ≡ b → IsLive (union_set x y) v t → IsHeld (visible x) v ⊎ IsHeld (visible y) v
            choose t true e g = inl ((visible-live x up_x v).1 (t, grind (arith, nat_tests, e)))
            choose t false e g = let other : mark x v t ≢ 1 = grind (arith, nat_tests, e) in inr ((visible-live y up_y v).1 (t, omega (arith, other, g, mark-join x y v t)))

      back : (v : Val) → IsHeld (visible x) v ⊎ IsHeld (visible y) v → IsHeld (visible (union_set x y)) v
      back v (inl h) =
          let live = (visible-live x up_x v).0 h in
          let here : 0 < mark x v live.0 = omega (arith, live.1) in
          (visible-live (union_set x y) (ascending-join x y) v).1 (live.0, omega (arith, m v live.0 here, live.1, marked-le dead y n v live.0, mark-join x y v live.0))
      back v (inr h) =
          let live = (visible-live y up_y v).0 h in
          let here : 0 < mark y v live.0 = omega (arith, live.1) in
          (visible-live (union_set x y) (ascending-join x y) v).1 (live.0, omega (arith, n v live.0 here, live.1, marked-le dead x m v live.0, mark-join x y v live.0))

pub visible-product : (x y : List Row) → IsAscending x → IsAscending y → visible (product_set x y) ≡ plain_product (visible x) (visible y)
visible-product x y up_x up_y =
    same_from_words (visible (product_set x y)) (plain_product (visible x) (visible y)) (ascending-visible (product_set x y)) (ascending-of_values (flat_map (λ v. map (pair v) (visible y)) (visible x)))
    (λ u. (λ h. (plain_product-holds (visible x) (visible y) u).1 (there u ((visible-live (product_set x y) (ascending-product x y) u).0 h)), λ h. back u ((plain_product-holds (visible x) (visible y) u).0 h))) where
      there : (u : Val) → ((r : Tok) × IsLive (product_set x y) u r) → IsPairOf (visible x) (visible y) u
      there (pair v w) (both t s, h) =
          let ones = both-one (mark x v t) (mark y w s) (sym (product-mark x y (pair v w) (both t s)) ∙ h) in
          (v, w, refl, (visible-live x up_x v).1 (t, ones.0), (visible-live y up_y w).1 (s, ones.1))
      there (pair v w) (single q k, h) = absurd (omega (arith, h, product-mark x y (pair v w) (single q k)))
      there (int k) (t, h) = absurd (omega (arith, h, product-mark x y (int k) t))
      there (text k) (t, h) = absurd (omega (arith, h, product-mark x y (text k) t))

      back : (u : Val) → IsPairOf (visible x) (visible y) u → IsHeld (visible (product_set x y)) u
      back u h =
          let left = (visible-live x up_x h.0).0 h.3 in
          let right = (visible-live y up_y h.1).0 h.4 in
          subst (IsHeld (visible (product_set x y))) (sym h.2)
          ((visible-live (product_set x y) (ascending-product x y) (pair h.0 h.1)).1 (both left.0 right.0, product-mark x y (pair h.0 h.1) (both left.0 right.0) ∙ (λ i. both_of (left.1 i) (right.1 i))))

pub visible-intersect : (x y : List Row) → IsAscending x → IsAscending y → visible (intersect_set x y) ≡ plain_intersection (visible x) (visible y)
visible-intersect x y up_x up_y =
    same_from_words (visible (intersect_set x y)) (plain_intersection (visible x) (visible y)) (ascending-visible (intersect_set x y)) (ascending-filter (λ v. held (visible y) v == 1) (visible x) (ascending-visible x))
    (λ v. (λ h. (plain_intersection-holds (visible x) (visible y) v).1 (there v ((visible-live (intersect_set x y) (ascending-intersect x y) v).0 h)), λ h. back v ((plain_intersection-holds (visible x) (visible y) v).0 h))) where
      there : (v : Val) → ((r : Tok) × IsLive (intersect_set x y) v r) → IsHeld (visible x) v × IsHeld (visible y) v
      there v (both t s, h) =
          let ones = both-one (mark x v t) (mark y v s) (sym (intersect-mark x y v (both t s)) ∙ h) in
          ((visible-live x up_x v).1 (t, ones.0), (visible-live y up_y v).1 (s, ones.1))
      there v (single q k, h) = absurd (omega (arith, h, intersect-mark x y v (single q k)))

      back : (v : Val) → IsHeld (visible x) v × IsHeld (visible y) v → IsHeld (visible (intersect_set x y)) v
      back v h =
          let left = (visible-live x up_x v).0 h.0 in
          let right = (visible-live y up_y v).0 h.1 in
          (visible-live (intersect_set x y) (ascending-intersect x y) v).1 (both left.0 right.0, intersect-mark x y v (both left.0 right.0) ∙ (λ i. both_of (left.1 i) (right.1 i)))

pub ruleset plain_words = (plain_map-holds, IsHeld-filter, plain_union-holds, plain_product-holds, plain_intersection-holds)

pub ruleset marked = (marked-map, marked-filter, marked-union, marked-product, marked-intersect)

pub ruleset shown = (visible-map, visible-filter, visible-union, visible-product, visible-intersect)
