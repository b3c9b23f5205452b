-- The laws of plain sets of values, and of the visible values.
use Rattle.std.proofs.Common.{◌≡◌, ℕ, ◌≤◌, max, Bool, true, false, cond, if◌then◌else◌, IsTrue, List, [], ◌∷◌, ◌++◌, map, refl, sym, ap, subst, ◌∙◌, arith, Option, Some, None}
use Rattle.std.specs.Ordering.{is_eq, is_lt, eq_by_cmp}
use Rattle.std.specs.declared.cmp.Ordering.TheVariants.{Less, Equal, Greater}
use Rattle.std.specs.FinMap.Entries.{by_order, is_sorted, below_all, find, same_entries, is_sorted-put}
use Rattle.std.specs.FinMap.Entries as entries
use Rattle.model_values.specs.Value.{Val, val_cmp, val_exact, val_total}
use Rattle.model_values.specs.Row.{Row}
use Rattle.model_sets.specs.Values.{is_value, held, entries_of, AreAscending, add, of_values, unite, IsWithin, live_values, visible}
use Rattle.model_sets.proofs.RowLaws.{as_T, as_true, and-left, and-right, is-Less}

pub held-small : (s : List Val) (v : Val) → held s v ≤ 1
held-small [] v = omega arith
held-small (w ∷ s) v = omega (arith, small (eq_by_cmp val_cmp v w), held-small s v) where
  small : (b : Bool) → (if b then 1 else 0) ≤ 1
  small true = omega arith
  small false = omega arith

pub held-append : (s t : List Val) (v : Val) → held (s ++ t) v ≡ max (held s v) (held t v)
held-append [] t v = omega arith
held-append (w ∷ s) t v = omega (arith, held-append s t v)

pub held-add : (w : Val) (s : List Val) (v : Val) → held (add w s) v ≡ max (is_value w v) (held s v)
held-add w [] v = refl
held-add w (u ∷ s) v =
    elim (val_cmp w u) as (λ o. val_cmp w u ≡ o → held (by_order o (w ∷ u ∷ s) (u ∷ s) (u ∷ add w s)) v ≡ max (is_value w v) (max (is_value u v) (held s v))) [
      | Less ↦ λ e. refl
      | Equal ↦ λ e. omega (arith, ap (λ x. is_value x v) (val_exact w u e))
      | Greater ↦ λ e. omega (arith, held-add w s v)
    ] refl

pub held-of_values : (s : List Val) (v : Val) → held (of_values s) v ≡ held s v
held-of_values [] v = refl
held-of_values (w ∷ s) v = omega (arith, held-add w (of_values s) v, held-of_values s v)

pub held-unite : (s t : List Val) (v : Val) → held (unite s t) v ≡ max (held s v) (held t v)
held-unite s t v = held-of_values (s ++ t) v ∙ held-append s t v

-- ---- ascending values, and the look-up of the library's entries

-- What a look-up says as a number.
abbrev pub found_once : Option (Unit {0}) → ℕ
found_once None = 0
found_once (Some u) = 1

found_once-inj : (p q : Option (Unit {0})) → found_once p ≡ found_once q → p ≡ q
found_once-inj None None e = refl
found_once-inj None (Some u) e = absurd (omega (arith, e))
found_once-inj (Some u) None e = absurd (omega (arith, e))
found_once-inj (Some u) (Some w) e = refl

pub held-below : (v : Val) (s : List Val) → IsTrue (below_all val_cmp v (entries_of s)) → held s v ≡ 0
held-below v [] h = refl
held-below v (w ∷ s) h =
    let first : is_value w v ≡ 0 = ap (λ o. if is_eq o then 1 else 0) (is-Less (val_cmp v w) (and-left (is_lt (val_cmp v w)) (below_all val_cmp v (entries_of s)) h)) in
    omega (arith, first, held-below v s (and-right (is_lt (val_cmp v w)) (below_all val_cmp v (entries_of s)) h))

pub held-find : (s : List Val) (v : Val) → held s v ≡ found_once (find val_cmp v (entries_of s))
held-find [] v = refl
held-find (w ∷ s) v =
    elim (eq_by_cmp val_cmp v w) as (λ b. max (if b then 1 else 0) (held s v) ≡ found_once (cond b (Some tt) (find val_cmp v (entries_of s)))) [
      | true ↦ omega (arith, held-small s v)
      | false ↦ omega (arith, held-find s v)
    ]

entries_of-inj : (s t : List Val) → entries_of s ≡ entries_of t → s ≡ t
entries_of-inj s t e = sym (back s) ∙ ap (map (λ (p : Val × Unit {0}). p.0)) e ∙ back t where
  back : (u : List Val) → map (λ (p : Val × Unit {0}). p.0) (entries_of u) ≡ u
  back [] = refl
  back (v ∷ u) = ap (λ rest. v ∷ rest) (back u)

pub same_from_held : (s t : List Val) → AreAscending s → AreAscending t → ((v : Val) → held s v ≡ held t v) → s ≡ t
same_from_held s t up_s up_t same =
    entries_of-inj s t (same_entries val_cmp val_total val_exact (entries_of s) (entries_of t) (as_T (is_sorted val_cmp (entries_of s)) up_s) (as_T (is_sorted val_cmp (entries_of t)) up_t)
    (λ v. found_once-inj (find val_cmp v (entries_of s)) (find val_cmp v (entries_of t)) (sym (held-find s v) ∙ same v ∙ held-find t v)))

pub entries_of-add : (v : Val) (s : List Val) → entries_of (add v s) ≡ entries.put val_cmp v tt (entries_of s)
entries_of-add v [] = refl
entries_of-add v (w ∷ s) =
    elim (val_cmp v w) as (λ o. entries_of (by_order o (v ∷ w ∷ s) (w ∷ s) (w ∷ add v s))
    ≡ by_order o ((v, tt) ∷ (w, tt) ∷ entries_of s) ((w, tt) ∷ entries_of s) ((w, tt) ∷ entries.put val_cmp v tt (entries_of s))) [
      | Less ↦ refl
      | Equal ↦ refl
      | Greater ↦ ap (λ rest. (w, tt) ∷ rest) (entries_of-add v s)
    ]

pub ascending-add : (v : Val) (s : List Val) → AreAscending s → AreAscending (add v s)
ascending-add v s up =
    subst (λ (es : List (Val × Unit {0})). IsTrue (is_sorted val_cmp es)) (sym (entries_of-add v s))
    (as_true (is_sorted val_cmp (entries.put val_cmp v tt (entries_of s))) (is_sorted-put val_cmp val_total v tt (entries_of s) (as_T (is_sorted val_cmp (entries_of s)) up)))

pub ascending-of_values : (s : List Val) → AreAscending (of_values s)
ascending-of_values [] = refl
ascending-of_values (v ∷ s) = ascending-add v (of_values s) (ascending-of_values s)

-- ---- the lattice

pub of_values-ascending : (s : List Val) → AreAscending s → of_values s ≡ s
of_values-ascending s up = same_from_held (of_values s) s (ascending-of_values s) up (held-of_values s)

pub unite-idempotent : (s : List Val) → AreAscending s → unite s s ≡ s
unite-idempotent s up = same_from_held (unite s s) s (ascending-of_values (s ++ s)) up (λ v. omega (arith, held-unite s s v))

pub unite-commutative : (s t : List Val) → unite s t ≡ unite t s
unite-commutative s t = same_from_held (unite s t) (unite t s) (ascending-of_values (s ++ t)) (ascending-of_values (t ++ s)) (λ v. omega (arith, held-unite s t v, held-unite t s v))

pub unite-associative : (s t u : List Val) → unite (unite s t) u ≡ unite s (unite t u)
unite-associative s t u = same_from_held (unite (unite s t) u) (unite s (unite t u)) (ascending-of_values (unite s t ++ u)) (ascending-of_values (s ++ unite t u))
    (λ v. omega (arith, held-unite (unite s t) u v, held-unite s t v, held-unite s (unite t u) v, held-unite t u v))

pub unite-left : (s t : List Val) → IsWithin s (unite s t)
unite-left s t v = omega (arith, held-unite s t v)

pub unite-right : (s t : List Val) → IsWithin t (unite s t)
unite-right s t v = omega (arith, held-unite s t v)

pub unite-least : (s t u : List Val) → IsWithin s u → IsWithin t u → IsWithin (unite s t) u
unite-least s t u a b v = omega (arith, held-unite s t v, a v, b v)

pub unite-within : (s t : List Val) → AreAscending t → IsWithin s t → unite s t ≡ t
unite-within s t up a = same_from_held (unite s t) t (ascending-of_values (s ++ t)) up (λ v. omega (arith, held-unite s t v, a v))

pub within-unite : (s t : List Val) → unite s t ≡ t → IsWithin s t
within-unite s t e v = subst (λ (u : List Val). held s v ≤ held u v) e (unite-left s t v)

pub within-antisymmetric : (s t : List Val) → AreAscending s → AreAscending t → IsWithin s t → IsWithin t s → s ≡ t
within-antisymmetric s t up_s up_t a b = same_from_held s t up_s up_t (λ v. omega (arith, a v, b v))

-- ---- visible values

pub ascending-visible : (s : List Row) → AreAscending (visible s)
ascending-visible s = ascending-of_values (live_values s)

pub held-visible : (s : List Row) (v : Val) → held (visible s) v ≡ held (live_values s) v
held-visible s v = held-of_values (live_values s) v

pub ruleset union_lattice = (unite-idempotent, unite-commutative, unite-associative, unite-left, unite-right, unite-least, unite-within, within-unite, within-antisymmetric)

pub ruleset visible_values = (ascending-visible, same_from_held)
