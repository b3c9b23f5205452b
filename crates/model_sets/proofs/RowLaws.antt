-- The laws of rows: every one by marks, and equality last, since ascending rows of equal marks are the same.
use Rattle.std.proofs.Common.{◌≡◌, ℕ, ◌≤◌, max, Bool, true, false, cond, ◌&&◌, ◌||◌, T, if◌then◌else◌, IsTrue, List, [], ◌∷◌, ◌++◌, refl, sym, ap, subst, ◌∙◌, arith, Option, Some, None}
use Rattle.std.specs.Ordering.{is_eq, is_lt, eq_by_cmp}
use Rattle.std.specs.declared.cmp.Ordering.{Ordering}
use Rattle.std.specs.declared.cmp.Ordering.TheVariants.{Less, Equal, Greater}
use Rattle.std.specs.FinMap.Entries.{by_order, is_sorted, below_all, find, same_entries, is_sorted-put}
use Rattle.std.specs.FinMap.Entries as entries
use Rattle.std.specs.Cmp.{tied_itself}
use Rattle.model_values.specs.Value.{Val}
use Rattle.model_values.specs.Token.{Tok}
use Rattle.model_values.specs.Row.{Key, Row, key_cmp, key_total, key_exact}
use Rattle.model_sets.specs.Rows.{level, row_mark, mark, IsAscending, put, of_rows, join, IsAtMost}

-- Tests as the library's entries take them, and as clauses do.
pub as_T : (b : Bool) → IsTrue b → T b
as_T true e = tt
as_T false e = cc

pub as_true : (b : Bool) → T b → IsTrue b
as_true true e = refl
as_true false e = absurd e

pub and-left : (a b : Bool) → IsTrue (a && b) → IsTrue a
and-left true b e = refl
and-left false b e = e

pub and-right : (a b : Bool) → IsTrue (a && b) → IsTrue b
and-right true b e = e
and-right false b e = cc

pub and-both : (a b : Bool) → IsTrue a → IsTrue b → IsTrue (a && b)
and-both true b e f = f
and-both false b e f = e

pub is-Less : (o : Ordering) → IsTrue (is_lt o) → o ≡ Less
is-Less Less e = refl
is-Less Equal e = cc
is-Less Greater e = cc

pub is-Equal : (o : Ordering) → IsTrue (is_eq o) → o ≡ Equal
is-Equal Less e = cc
is-Equal Equal e = refl
is-Equal Greater e = cc

-- ---- marks

-- What a row says of its own key.
pub own_mark : (r : Row) → row_mark r r.0.0 r.0.1 ≡ level r.1
own_mark r = ap (λ o. if is_eq o then level r.1 else 0) (tied_itself key_total r.0)

level-or : (e a b : Bool) → (if e then level (a || b) else 0) ≡ max (if e then level a else 0) (if e then level b else 0)
level-or false a b = refl
level-or true true true = refl
level-or true true false = refl
level-or true false true = refl
level-or true false false = refl

pub row_mark-or : (k : Key) (a b : Bool) (v : Val) (t : Tok) → row_mark (k, a || b) v t ≡ max (row_mark (k, a) v t) (row_mark (k, b) v t)
row_mark-or k a b v t = level-or (eq_by_cmp key_cmp (v, t) k) a b

level-small : (e a : Bool) → (if e then level a else 0) ≤ 2
level-small false a = omega arith
level-small true true = omega arith
level-small true false = omega arith

pub mark-small : (s : List Row) (v : Val) (t : Tok) → mark s v t ≤ 2
mark-small [] v t = omega arith
mark-small (r ∷ s) v t = omega (arith, level-small (eq_by_cmp key_cmp (v, t) r.0) r.1, mark-small s v t)

pub mark-append : (s t : List Row) (v : Val) (w : Tok) → mark (s ++ t) v w ≡ max (mark s v w) (mark t v w)
mark-append [] t v w = omega arith
mark-append (r ∷ s) t v w = omega (arith, mark-append s t v w)

pub mark-put : (r : Row) (s : List Row) (v : Val) (t : Tok) → mark (put r s) v t ≡ max (row_mark r v t) (mark s v t)
mark-put r [] v t = refl
mark-put r (q ∷ s) v t =
    elim (key_cmp r.0 q.0) as (λ o. key_cmp r.0 q.0 ≡ o → mark (by_order o (r ∷ q ∷ s) ((q.0, r.1 || q.1) ∷ s) (q ∷ put r s)) v t ≡ max (row_mark r v t) (max (row_mark q v t) (mark s v t))) [
      | Less ↦ λ e. refl
      | Equal ↦ λ e. omega (arith, row_mark-or q.0 r.1 q.1 v t, ap (λ k. row_mark (k, r.1) v t) (key_exact r.0 q.0 e))
      | Greater ↦ λ e. omega (arith, mark-put r s v t)
    ] refl

pub mark-of_rows : (s : List Row) (v : Val) (t : Tok) → mark (of_rows s) v t ≡ mark s v t
mark-of_rows [] v t = refl
mark-of_rows (r ∷ s) v t = omega (arith, mark-put r (of_rows s) v t, mark-of_rows s v t)

pub mark-join : (s t : List Row) (v : Val) (w : Tok) → mark (join s t) v w ≡ max (mark s v w) (mark t v w)
mark-join s t v w = mark-of_rows (s ++ t) v w ∙ mark-append s t v w

-- ---- ascending rows, and the look-up of the library's entries

-- What a look-up says as a mark.
abbrev pub found_level : Option Bool → ℕ
found_level None = 0
found_level (Some dead) = level dead

pub mark-below : (k : Key) (s : List Row) → IsTrue (below_all key_cmp k s) → mark s k.0 k.1 ≡ 0
mark-below k [] h = refl
mark-below k (r ∷ s) h =
    let first : row_mark r k.0 k.1 ≡ 0 = ap (λ o. if is_eq o then level r.1 else 0) (is-Less (key_cmp k r.0) (and-left (is_lt (key_cmp k r.0)) (below_all key_cmp k s) h)) in
    omega (arith, first, mark-below k s (and-right (is_lt (key_cmp k r.0)) (below_all key_cmp k s) h))

pub mark-find : (s : List Row) → IsAscending s → (k : Key) → mark s k.0 k.1 ≡ found_level (find key_cmp k s)
mark-find [] up k = refl
mark-find (r ∷ s) up k =
    elim (eq_by_cmp key_cmp k r.0) as (λ b. eq_by_cmp key_cmp k r.0 ≡ b → max (if b then level r.1 else 0) (mark s k.0 k.1) ≡ found_level (cond b (Some r.1) (find key_cmp k s))) [
      | true ↦ λ e.
          let none : mark s k.0 k.1 ≡ 0 = subst (λ (q : Key). mark s q.0 q.1 ≡ 0) (sym (key_exact k r.0 (is-Equal (key_cmp k r.0) e))) (mark-below r.0 s (and-left (below_all key_cmp r.0 s) (is_sorted key_cmp s) up)) in
          omega (arith, none)
      | false ↦ λ e. omega (arith, mark-find s (and-right (below_all key_cmp r.0 s) (is_sorted key_cmp s) up) k)
    ] refl

-- In ascending rows the first one's mark is its level.
found_level-inj : (p q : Option Bool) → found_level p ≡ found_level q → p ≡ q
found_level-inj None None e = refl
found_level-inj None (Some true) e = absurd (omega (arith, e))
found_level-inj None (Some false) e = absurd (omega (arith, e))
found_level-inj (Some true) None e = absurd (omega (arith, e))
found_level-inj (Some false) None e = absurd (omega (arith, e))
found_level-inj (Some true) (Some true) e = refl
found_level-inj (Some true) (Some false) e = absurd (omega (arith, e))
found_level-inj (Some false) (Some true) e = absurd (omega (arith, e))
found_level-inj (Some false) (Some false) e = refl

pub same_from_mark : (s t : List Row) → IsAscending s → IsAscending t → ((v : Val) (w : Tok) → mark s v w ≡ mark t v w) → s ≡ t
same_from_mark s t up_s up_t same =
    same_entries key_cmp key_total key_exact s t (as_T (is_sorted key_cmp s) up_s) (as_T (is_sorted key_cmp t) up_t)
    (λ k. found_level-inj (find key_cmp k s) (find key_cmp k t) (sym (mark-find s up_s k) ∙ same k.0 k.1 ∙ mark-find t up_t k))

-- What a row found or not, and one put in, make together.
abbrev pub dead_with : Option Bool → Bool → Bool
dead_with None b = b
dead_with (Some a) b = b || a

find-below : (k : Key) (s : List Row) → IsTrue (below_all key_cmp k s) → find key_cmp k s ≡ None
find-below k [] h = refl
find-below k (r ∷ s) h =
    ap (λ o. cond (is_eq o) (Some r.1) (find key_cmp k s)) (is-Less (key_cmp k r.0) (and-left (is_lt (key_cmp k r.0)) (below_all key_cmp k s) h))
    ∙ find-below k s (and-right (is_lt (key_cmp k r.0)) (below_all key_cmp k s) h)

pub below-chain : (k l : Key) (s : List Row) → key_cmp k l ≡ Less → IsTrue (below_all key_cmp l s) → IsTrue (below_all key_cmp k s)
below-chain k l [] e h = refl
below-chain k l (r ∷ s) e h =
    let rest = below-chain k l s e (and-right (is_lt (key_cmp l r.0)) (below_all key_cmp l s) h) in
    let less = key_total.trans k l r.0 e (is-Less (key_cmp l r.0) (and-left (is_lt (key_cmp l r.0)) (below_all key_cmp l s) h)) in
    and-both (is_lt (key_cmp k r.0)) (below_all key_cmp k s) (ap is_lt less) rest

-- A row put in is the library's entry put in, dead where the one found there or the new one is.
pub put-entries : (r : Row) (s : List Row) → IsAscending s → put r s ≡ entries.put key_cmp r.0 (dead_with (find key_cmp r.0 s) r.1) s
put-entries r [] up = refl
put-entries r (q ∷ s) up =
    elim (key_cmp r.0 q.0) as (λ o. key_cmp r.0 q.0 ≡ o → by_order o (r ∷ q ∷ s) ((q.0, r.1 || q.1) ∷ s) (q ∷ put r s)
    ≡ by_order o ((r.0, dead_with (cond (is_eq o) (Some q.1) (find key_cmp r.0 s)) r.1) ∷ q ∷ s) ((q.0, dead_with (cond (is_eq o) (Some q.1) (find key_cmp r.0 s)) r.1) ∷ s)
    (q ∷ entries.put key_cmp r.0 (dead_with (cond (is_eq o) (Some q.1) (find key_cmp r.0 s)) r.1) s)) [
      | Less ↦ λ e. ap (λ p. (r.0, dead_with p r.1) ∷ q ∷ s) (sym (find-below r.0 s (below-chain r.0 q.0 s e (and-left (below_all key_cmp q.0 s) (is_sorted key_cmp s) up))))
      | Equal ↦ λ e. refl
      | Greater ↦ λ e. ap (λ rest. q ∷ rest) (put-entries r s (and-right (below_all key_cmp q.0 s) (is_sorted key_cmp s) up))
    ] refl

pub ascending-put : (r : Row) (s : List Row) → IsAscending s → IsAscending (put r s)
ascending-put r s up =
    subst IsAscending (sym (put-entries r s up))
    (as_true (is_sorted key_cmp (entries.put key_cmp r.0 (dead_with (find key_cmp r.0 s) r.1) s)) (is_sorted-put key_cmp key_total r.0 (dead_with (find key_cmp r.0 s) r.1) s (as_T (is_sorted key_cmp s) up)))

pub ascending-of_rows : (s : List Row) → IsAscending (of_rows s)
ascending-of_rows [] = refl
ascending-of_rows (r ∷ s) = ascending-put r (of_rows s) (ascending-of_rows s)

pub ascending-join : (s t : List Row) → IsAscending (join s t)
ascending-join s t = ascending-of_rows (s ++ t)

-- ---- the lattice

pub of_rows-ascending : (s : List Row) → IsAscending s → of_rows s ≡ s
of_rows-ascending s up = same_from_mark (of_rows s) s (ascending-of_rows s) up (mark-of_rows s)

pub join-idempotent : (s : List Row) → IsAscending s → join s s ≡ s
join-idempotent s up = same_from_mark (join s s) s (ascending-join s s) up (λ v w. omega (arith, mark-join s s v w))

pub join-commutative : (s t : List Row) → join s t ≡ join t s
join-commutative s t = same_from_mark (join s t) (join t s) (ascending-join s t) (ascending-join t s) (λ v w. omega (arith, mark-join s t v w, mark-join t s v w))

pub join-associative : (s t u : List Row) → join (join s t) u ≡ join s (join t u)
join-associative s t u = same_from_mark (join (join s t) u) (join s (join t u)) (ascending-join (join s t) u) (ascending-join s (join t u))
    (λ v w. omega (arith, mark-join (join s t) u v w, mark-join s t v w, mark-join s (join t u) v w, mark-join t u v w))

pub join-left : (s t : List Row) → IsAtMost s (join s t)
join-left s t v w = omega (arith, mark-join s t v w)

pub join-right : (s t : List Row) → IsAtMost t (join s t)
join-right s t v w = omega (arith, mark-join s t v w)

pub join-least : (s t u : List Row) → IsAtMost s u → IsAtMost t u → IsAtMost (join s t) u
join-least s t u a b v w = omega (arith, mark-join s t v w, a v w, b v w)

pub join-monotone : (s s' t t' : List Row) → IsAtMost s s' → IsAtMost t t' → IsAtMost (join s t) (join s' t')
join-monotone s s' t t' a b v w = omega (arith, mark-join s t v w, mark-join s' t' v w, a v w, b v w)

pub join-at_most : (s t : List Row) → IsAscending t → IsAtMost s t → join s t ≡ t
join-at_most s t up a = same_from_mark (join s t) t (ascending-join s t) up (λ v w. omega (arith, mark-join s t v w, a v w))

pub join-at_most-right : (s t : List Row) → IsAscending s → IsAtMost t s → join s t ≡ s
join-at_most-right s t up a = same_from_mark (join s t) s (ascending-join s t) up (λ v w. omega (arith, mark-join s t v w, a v w))

pub at_most-join : (s t : List Row) → join s t ≡ t → IsAtMost s t
at_most-join s t e v w = subst (λ (u : List Row). mark s v w ≤ mark u v w) e (join-left s t v w)

pub at_most-refl : (s : List Row) → IsAtMost s s
at_most-refl s v w = omega arith

pub at_most-trans : (s t u : List Row) → IsAtMost s t → IsAtMost t u → IsAtMost s u
at_most-trans s t u a b v w = omega (arith, a v w, b v w)

pub at_most-antisymmetric : (s t : List Row) → IsAscending s → IsAscending t → IsAtMost s t → IsAtMost t s → s ≡ t
at_most-antisymmetric s t up_s up_t a b = same_from_mark s t up_s up_t (λ v w. omega (arith, a v w, b v w))

-- ---- joins row by row and part by part

pub join-nothing : (s : List Row) → IsAscending s → join s [] ≡ s
join-nothing s up = same_from_mark (join s []) s (ascending-join s []) up (λ v w. omega (arith, mark-join s [] v w))

pub join-row : (s : List Row) (r : Row) → IsAscending s → join s (r ∷ []) ≡ put r s
join-row s r up = same_from_mark (join s (r ∷ [])) (put r s) (ascending-join s (r ∷ [])) (ascending-put r s up)
    (λ v w. omega (arith, mark-join s (r ∷ []) v w, mark-put r s v w))

pub join-append : (s xs ys : List Row) → join s (xs ++ ys) ≡ join (join s xs) ys
join-append s xs ys = same_from_mark (join s (xs ++ ys)) (join (join s xs) ys) (ascending-join s (xs ++ ys)) (ascending-join (join s xs) ys)
    (λ v w. omega (arith, mark-join s (xs ++ ys) v w, mark-append xs ys v w, mark-join (join s xs) ys v w, mark-join s xs v w))

-- A join sees of its second state only what it says.
pub join-of_rows : (s t : List Row) → join s (of_rows t) ≡ join s t
join-of_rows s t = same_from_mark (join s (of_rows t)) (join s t) (ascending-join s (of_rows t)) (ascending-join s t)
    (λ v w. omega (arith, mark-join s (of_rows t) v w, mark-join s t v w, mark-of_rows t v w))

pub ruleset lattice = (join-idempotent, join-commutative, join-associative, join-left, join-right, join-least, join-at_most, at_most-join, at_most-antisymmetric, ascending-join)

pub ruleset parts = (same_from_mark, join-nothing, join-row, join-append, join-of_rows, put-entries, mark-find, ascending-put)

pub ruleset marks = (mark-join, mark-of_rows, mark-put, mark-small)
