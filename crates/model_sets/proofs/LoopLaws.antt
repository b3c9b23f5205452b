-- What loops over rows compute is what the definitions say.
use Rattle.std.proofs.Common.{◌≡◌, ℕ, suc, is_some, ◌+◌, ◌≤◌, max, Bool, true, false, cond, not, ◌&&◌, ◌||◌, if◌then◌else◌, ◌==◌, IsTrue, List, [], ◌∷◌, filter, length, refl, sym, ap, subst, ◌∙◌, arith, Option, Some, None, All, slice_index_or, IsPermutation, IsSortedBy}
use Rattle.std.proofs.lemmas.List.Sorted.{All-permutation, IsPermutation-sym}
use Rattle.std.proofs.lemmas.List.Elements.{All-cons, All-tail}
use Rattle.std.specs.Ordering.{is_eq, is_lt, is_gt, eq_by_cmp, ordering_reverse, ordering_then}
use Rattle.std.specs.declared.cmp.Ordering.{Ordering}
use Rattle.std.specs.declared.cmp.Ordering.TheVariants.{Less, Equal, Greater}
use Rattle.std.specs.FinMap.Entries.{by_order, is_sorted, below_all, find, length-put}
use Rattle.model_values.specs.Value.{Val, val_cmp, val_exact, val_total}
use Rattle.model_values.specs.Token.{Tok, tok_cmp}
use Rattle.model_values.specs.Row.{Key, Row, key_cmp, key_total, key_exact}
use Rattle.model_sets.specs.Rows.{level, row_mark, mark, IsAscending, put, of_rows, join}
use Rattle.model_sets.specs.Values.{is_value, held, entries_of, AreAscending, live_values, visible}
use Rattle.model_sets.specs.Loops.{merge_row, merge, collapse_from, collapse, values_after, new_rows}
use Rattle.model_sets.proofs.RowLaws.{and-left, and-right, and-both, is-Less, is-Equal, row_mark-or, mark-join, mark-of_rows, same_from_mark, ascending-join, ascending-of_rows, ascending-put, below-chain, as_T, found_level, mark-find, mark-put, put-entries, dead_with, join-append, join-row, join-nothing}
use Rattle.model_sets.proofs.ValueLaws.{held-small, held-visible, same_from_held, ascending-visible}

-- ---- merge

merge_row-mark : (r : Row) (rest : List Row → List Row) (s : List Row) (v : Val) (w : Tok) → ((t : List Row) → mark (rest t) v w ≡ max (mark s v w) (mark t v w)) → (t : List Row)
    → mark (merge_row r rest t) v w ≡ max (max (row_mark r v w) (mark s v w)) (mark t v w)
merge_row-mark r rest s v w h [] = omega (arith, h [])
merge_row-mark r rest s v w h (q ∷ t) =
    elim (key_cmp r.0 q.0) as (λ o. key_cmp r.0 q.0 ≡ o → mark (by_order o (r ∷ rest (q ∷ t)) ((r.0, r.1 || q.1) ∷ rest t) (q ∷ merge_row r rest t)) v w ≡ max (max (row_mark r v w) (mark s v w)) (max (row_mark q v w) (mark t v w))) [
      | Less ↦ λ e. omega (arith, h (q ∷ t))
      | Equal ↦ λ e. omega (arith, h t, row_mark-or r.0 r.1 q.1 v w, ap (λ k. row_mark (k, q.1) v w) (key_exact r.0 q.0 e))
      | Greater ↦ λ e. omega (arith, merge_row-mark r rest s v w h t)
    ] refl

pub merge-mark : (s t : List Row) (v : Val) (w : Tok) → mark (merge s t) v w ≡ max (mark s v w) (mark t v w)
merge-mark [] t v w = omega arith
merge-mark (r ∷ s) t v w = merge_row-mark r (merge s) s v w (λ u. merge-mark s u v w) t

-- a key below both lists is below their merge
merge_row-below : (k : Key) (r : Row) (rest : List Row → List Row) → key_cmp k r.0 ≡ Less → ((t : List Row) → IsTrue (below_all key_cmp k t) → IsTrue (below_all key_cmp k (rest t))) → (t : List Row)
    → IsTrue (below_all key_cmp k t) → IsTrue (below_all key_cmp k (merge_row r rest t))
merge_row-below k r rest e h [] b = and-both (is_lt (key_cmp k r.0)) (below_all key_cmp k (rest [])) (ap is_lt e) (h [] refl)
merge_row-below k r rest e h (q ∷ t) b =
    elim (key_cmp r.0 q.0) as (λ o. IsTrue (below_all key_cmp k (by_order o (r ∷ rest (q ∷ t)) ((r.0, r.1 || q.1) ∷ rest t) (q ∷ merge_row r rest t)))) [
      | Less ↦ and-both (is_lt (key_cmp k r.0)) (below_all key_cmp k (rest (q ∷ t))) (ap is_lt e) (h (q ∷ t) b)
      | Equal ↦ and-both (is_lt (key_cmp k r.0)) (below_all key_cmp k (rest t)) (ap is_lt e) (h t (and-right (is_lt (key_cmp k q.0)) (below_all key_cmp k t) b))
      | Greater ↦ and-both (is_lt (key_cmp k q.0)) (below_all key_cmp k (merge_row r rest t)) (and-left (is_lt (key_cmp k q.0)) (below_all key_cmp k t) b)
          (merge_row-below k r rest e h t (and-right (is_lt (key_cmp k q.0)) (below_all key_cmp k t) b))
    ]

merge-below : (k : Key) (s t : List Row) → IsTrue (below_all key_cmp k s) → IsTrue (below_all key_cmp k t) → IsTrue (below_all key_cmp k (merge s t))
merge-below k [] t a b = b
merge-below k (r ∷ s) t a b =
    merge_row-below k r (merge s) (is-Less (key_cmp k r.0) (and-left (is_lt (key_cmp k r.0)) (below_all key_cmp k s) a)) (λ u c. merge-below k s u (and-right (is_lt (key_cmp k r.0)) (below_all key_cmp k s) a) c) t b

turned : (k l : Key) → key_cmp k l ≡ Greater → key_cmp l k ≡ Less
turned k l e = key_total.antisymm l k ∙ ap ordering_reverse e

below-equal : (k l : Key) (s : List Row) → key_cmp k l ≡ Equal → IsTrue (below_all key_cmp l s) → IsTrue (below_all key_cmp k s)
below-equal k l s e h = subst (λ (q : Key). IsTrue (below_all key_cmp q s)) (sym (key_exact k l e)) h

merge_row-ascending : (r : Row) (s : List Row) → IsTrue (below_all key_cmp r.0 s) → ((t : List Row) → IsAscending t → IsAscending (merge s t)) → (t : List Row) → IsAscending t → IsAscending (merge_row r (merge s) t)
merge_row-ascending r s a h [] up = and-both (below_all key_cmp r.0 (merge s [])) (is_sorted key_cmp (merge s [])) (merge-below r.0 s [] a refl) (h [] refl)
merge_row-ascending r s a h (q ∷ t) up =
    let first = and-left (below_all key_cmp q.0 t) (is_sorted key_cmp t) up in
    let later = and-right (below_all key_cmp q.0 t) (is_sorted key_cmp t) up in
    elim (key_cmp r.0 q.0) as (λ o. key_cmp r.0 q.0 ≡ o → IsAscending (by_order o (r ∷ merge s (q ∷ t)) ((r.0, r.1 || q.1) ∷ merge s t) (q ∷ merge_row r (merge s) t))) [
      | Less ↦ λ e. and-both (below_all key_cmp r.0 (merge s (q ∷ t))) (is_sorted key_cmp (merge s (q ∷ t)))
          (merge-below r.0 s (q ∷ t) a (and-both (is_lt (key_cmp r.0 q.0)) (below_all key_cmp r.0 t) (ap is_lt e) (below-chain r.0 q.0 t e first))) (h (q ∷ t) up)
      | Equal ↦ λ e. and-both (below_all key_cmp r.0 (merge s t)) (is_sorted key_cmp (merge s t)) (merge-below r.0 s t a (below-equal r.0 q.0 t e first)) (h t later)
      | Greater ↦ λ e. and-both (below_all key_cmp q.0 (merge_row r (merge s) t)) (is_sorted key_cmp (merge_row r (merge s) t))
          (merge_row-below q.0 r (merge s) (turned r.0 q.0 e) (λ u b. merge-below q.0 s u (below-chain q.0 r.0 s (turned r.0 q.0 e) a) b) t first) (merge_row-ascending r s a h t later)
    ] refl

pub merge-ascending : (s t : List Row) → IsAscending s → IsAscending t → IsAscending (merge s t)
merge-ascending [] t up_s up_t = up_t
merge-ascending (r ∷ s) t up_s up_t =
    merge_row-ascending r s (and-left (below_all key_cmp r.0 s) (is_sorted key_cmp s) up_s) (λ u up. merge-ascending s u (and-right (below_all key_cmp r.0 s) (is_sorted key_cmp s) up_s) up) t up_t

-- The merge of two states is their join.
pub merge-join : (s t : List Row) → IsAscending s → IsAscending t → merge s t ≡ join s t
merge-join s t up_s up_t = same_from_mark (merge s t) (join s t) (merge-ascending s t up_s up_t) (ascending-join s t) (λ v w. merge-mark s t v w ∙ sym (mark-join s t v w))

-- ---- collapse

collapse_from-mark : (r : Row) (s : List Row) (v : Val) (w : Tok) → mark (collapse_from r s) v w ≡ max (row_mark r v w) (mark s v w)
collapse_from-mark r [] v w = refl
collapse_from-mark r (q ∷ s) v w =
    elim (eq_by_cmp key_cmp r.0 q.0) as (λ b. eq_by_cmp key_cmp r.0 q.0 ≡ b → mark (cond b (collapse_from (r.0, r.1 || q.1) s) (r ∷ collapse_from q s)) v w ≡ max (row_mark r v w) (max (row_mark q v w) (mark s v w))) [
      | true ↦ λ e. omega (arith, collapse_from-mark (r.0, r.1 || q.1) s v w, row_mark-or r.0 r.1 q.1 v w, ap (λ k. row_mark (k, q.1) v w) (key_exact r.0 q.0 (is-Equal (key_cmp r.0 q.0) e)))
      | false ↦ λ e. omega (arith, collapse_from-mark q s v w)
    ] refl

pub collapse-mark : (s : List Row) (v : Val) (w : Tok) → mark (collapse s) v w ≡ mark s v w
collapse-mark [] v w = refl
collapse-mark (r ∷ s) v w = collapse_from-mark r s v w

-- Each key is no greater than the next.
abbrev pub is_ordered_from : Key → List Row → Bool
is_ordered_from k [] = true
is_ordered_from k (r ∷ s) = not (is_lt (key_cmp r.0 k)) && is_ordered_from r.0 s

abbrev pub is_ordered : List Row → Bool
is_ordered [] = true
is_ordered (r ∷ s) = is_ordered_from r.0 s

not-less : (k l : Key) → IsTrue (not (is_lt (key_cmp l k))) → eq_by_cmp key_cmp k l ≡ false → key_cmp k l ≡ Less
not-less k l a b = by (key_cmp k l) (key_cmp l k) (key_total.antisymm k l) a b where
  by : (o p : Ordering) → o ≡ ordering_reverse p → IsTrue (not (is_lt p)) → is_eq o ≡ false → o ≡ Less
  by o Less e a b = cc
  by o Equal e a b = cc
  by o Greater e a b = e

collapse_from-below : (k : Key) (r : Row) (s : List Row) → key_cmp k r.0 ≡ Less → IsTrue (is_ordered_from r.0 s) → IsTrue (below_all key_cmp k (collapse_from r s))
collapse_from-below k r [] e h = and-both (is_lt (key_cmp k r.0)) true (ap is_lt e) refl
collapse_from-below k r (q ∷ s) e h =
    let step = and-left (not (is_lt (key_cmp q.0 r.0))) (is_ordered_from q.0 s) h in
    let rest = and-right (not (is_lt (key_cmp q.0 r.0))) (is_ordered_from q.0 s) h in
    elim (eq_by_cmp key_cmp r.0 q.0) as (λ b. eq_by_cmp key_cmp r.0 q.0 ≡ b → IsTrue (below_all key_cmp k (cond b (collapse_from (r.0, r.1 || q.1) s) (r ∷ collapse_from q s)))) [
      | true ↦ λ g. collapse_from-below k (r.0, r.1 || q.1) s e (subst (λ (l : Key). IsTrue (is_ordered_from l s)) (sym (key_exact r.0 q.0 (is-Equal (key_cmp r.0 q.0) g))) rest)
      | false ↦ λ g. and-both (is_lt (key_cmp k r.0)) (below_all key_cmp k (collapse_from q s)) (ap is_lt e) (collapse_from-below k q s (key_total.trans k r.0 q.0 e (not-less r.0 q.0 step g)) rest)
    ] refl

collapse_from-ascending : (r : Row) (s : List Row) → IsTrue (is_ordered_from r.0 s) → IsAscending (collapse_from r s)
collapse_from-ascending r [] h = refl
collapse_from-ascending r (q ∷ s) h =
    let step = and-left (not (is_lt (key_cmp q.0 r.0))) (is_ordered_from q.0 s) h in
    let rest = and-right (not (is_lt (key_cmp q.0 r.0))) (is_ordered_from q.0 s) h in
    elim (eq_by_cmp key_cmp r.0 q.0) as (λ b. eq_by_cmp key_cmp r.0 q.0 ≡ b → IsAscending (cond b (collapse_from (r.0, r.1 || q.1) s) (r ∷ collapse_from q s))) [
      | true ↦ λ g. collapse_from-ascending (r.0, r.1 || q.1) s (subst (λ (l : Key). IsTrue (is_ordered_from l s)) (sym (key_exact r.0 q.0 (is-Equal (key_cmp r.0 q.0) g))) rest)
      | false ↦ λ g. and-both (below_all key_cmp r.0 (collapse_from q s)) (is_sorted key_cmp (collapse_from q s)) (collapse_from-below r.0 q s (not-less r.0 q.0 step g) rest) (collapse_from-ascending q s rest)
    ] refl

pub collapse-ascending : (s : List Row) → IsTrue (is_ordered s) → IsAscending (collapse s)
collapse-ascending [] h = refl
collapse-ascending (r ∷ s) h = collapse_from-ascending r s h

-- What a sort by key ensures, from the first row on.
ordered-from-sorted : (r : Row) (s : List Row) → IsSortedBy (λ (a b : Row). is_lt (key_cmp a.0 b.0)) (r ∷ s) → IsTrue (is_ordered_from r.0 s)
ordered-from-sorted r [] h = refl
ordered-from-sorted r (q ∷ s) h =
    and-both (not (is_lt (key_cmp q.0 r.0))) (is_ordered_from q.0 s) (ap not (h 0 r (omega arith) (omega arith)))
    (ordered-from-sorted q s (λ k d a b. subst (λ (n : ℕ). is_lt (key_cmp (slice_index_or (r ∷ q ∷ s) n d).0 (slice_index_or (q ∷ s) k d).0) ≡ false) (one-more k) (h (suc k) d (omega arith) (omega (arith, b))))) where
      one-more : (k : ℕ) → suc k + 1 ≡ suc (k + 1)
      one-more k = omega arith

pub is_ordered-sorted : (s : List Row) → IsSortedBy (λ (a b : Row). is_lt (key_cmp a.0 b.0)) s → IsTrue (is_ordered s)
is_ordered-sorted [] h = refl
is_ordered-sorted (r ∷ s) h = ordered-from-sorted r s h

-- ---- rows in another order

mark-all : (n : ℕ) (s : List Row) (v : Val) (w : Tok) → mark s v w ≤ n → All (λ r. row_mark r v w ≤ n) s
mark-all n [] v w h = λ k d a. absurd (omega (arith, a))
mark-all n (r ∷ s) v w h = All-cons (λ r. row_mark r v w ≤ n) r s (omega (arith, h)) (mark-all n s v w (omega (arith, h)))

all-mark : (n : ℕ) (s : List Row) (v : Val) (w : Tok) → All (λ r. row_mark r v w ≤ n) s → mark s v w ≤ n
all-mark n [] v w h = omega arith
all-mark n (r ∷ s) v w h = omega (arith, h 0 r (omega arith), all-mark n s v w (All-tail (λ r. row_mark r v w ≤ n) r s h))

moved-le : (s t : List Row) (v : Val) (w : Tok) → IsPermutation s t → mark t v w ≤ mark s v w
moved-le s t v w p = all-mark (mark s v w) t v w (All-permutation (λ r. row_mark r v w ≤ mark s v w) s t p (mark-all (mark s v w) s v w (omega arith)))

pub mark-permutation : (s t : List Row) → IsPermutation s t → (v : Val) (w : Tok) → mark s v w ≡ mark t v w
mark-permutation s t p v w = omega (arith, moved-le s t v w p, moved-le t s v w (IsPermutation-sym s t p))

-- Rows sorted by key and collapsed are their state.
pub collapse-sorted : (raw s : List Row) → IsPermutation raw s → IsSortedBy (λ (a b : Row). is_lt (key_cmp a.0 b.0)) s → collapse s ≡ of_rows raw
collapse-sorted raw s p h = same_from_mark (collapse s) (of_rows raw) (collapse-ascending s (is_ordered-sorted s h)) (ascending-of_rows raw)
    (λ v w. collapse-mark s v w ∙ sym (mark-permutation raw s p v w) ∙ sym (mark-of_rows raw v w))

-- ---- the values that come live along rows

after-held : (u : Val) (s : List Row) (v : Val) → eq_by_cmp val_cmp v u ≡ false → held (values_after (Some u) s) v ≡ held (live_values s) v
after-held u [] v e = refl
after-held u ((k, true) ∷ s) v e = after-held u s v e
after-held u ((k, false) ∷ s) v e =
    elim (eq_by_cmp val_cmp u k.0) as (λ b. eq_by_cmp val_cmp u k.0 ≡ b → held (if b then values_after (Some u) s else k.0 ∷ values_after (Some k.0) s) v ≡ max (is_value k.0 v) (held (live_values s) v)) [
      | true ↦ λ g.
          let none : is_value k.0 v ≡ 0 = subst (λ (z : Val). is_value z v ≡ 0) (val_exact u k.0 (is-Equal (val_cmp u k.0) g)) (ap (λ (b : Bool). if b then 1 else 0) e) in
          omega (arith, none, after-held u s v e)
      | false ↦ λ g. first (λ h. after-held k.0 s v h) (eq_by_cmp val_cmp v k.0) refl
    ] refl where
      first : (eq_by_cmp val_cmp v k.0 ≡ false → held (values_after (Some k.0) s) v ≡ held (live_values s) v) → (b : Bool) → eq_by_cmp val_cmp v k.0 ≡ b
          → max (if b then 1 else 0) (held (values_after (Some k.0) s) v) ≡ max (if b then 1 else 0) (held (live_values s) v)
      first rest true h = omega (arith, held-small (values_after (Some k.0) s) v, held-small (live_values s) v)
      first rest false h = omega (arith, rest h)

all-held : (s : List Row) (v : Val) → held (values_after None s) v ≡ held (live_values s) v
all-held [] v = refl
all-held ((k, true) ∷ s) v = all-held s v
all-held ((k, false) ∷ s) v = first (eq_by_cmp val_cmp v k.0) refl where
  first : (b : Bool) → eq_by_cmp val_cmp v k.0 ≡ b → max (if b then 1 else 0) (held (values_after (Some k.0) s) v) ≡ max (if b then 1 else 0) (held (live_values s) v)
  first true h = omega (arith, held-small (values_after (Some k.0) s) v, held-small (live_values s) v)
  first false h = omega (arith, after-held k.0 s v h)

-- No row has a lesser value.
abbrev none_less : Val → List Row → Bool
none_less u [] = true
none_less u (r ∷ s) = not (is_gt (val_cmp u r.0.0)) && none_less u s

none_less-below : (k : Key) (s : List Row) → IsTrue (below_all key_cmp k s) → IsTrue (none_less k.0 s)
none_less-below k [] h = refl
none_less-below k (r ∷ s) h =
    and-both (not (is_gt (val_cmp k.0 r.0.0))) (none_less k.0 s) (first (val_cmp k.0 r.0.0) (tok_cmp k.1 r.0.1) (and-left (is_lt (key_cmp k r.0)) (below_all key_cmp k s) h))
    (none_less-below k s (and-right (is_lt (key_cmp k r.0)) (below_all key_cmp k s) h)) where
      first : (o p : Ordering) → IsTrue (is_lt (ordering_then o p)) → IsTrue (not (is_gt o))
      first Less p e = refl
      first Equal p e = refl
      first Greater p e = cc

is-between : (o : Ordering) → IsTrue (not (is_gt o)) → is_eq o ≡ false → o ≡ Less
is-between Less a b = refl
is-between Equal a b = cc
is-between Greater a b = cc

values-chain : (u v : Val) (s : List Val) → val_cmp u v ≡ Less → IsTrue (below_all val_cmp v (entries_of s)) → IsTrue (below_all val_cmp u (entries_of s))
values-chain u v [] e h = refl
values-chain u v (w ∷ s) e h =
    and-both (is_lt (val_cmp u w)) (below_all val_cmp u (entries_of s))
    (ap is_lt (val_total.trans u v w e (is-Less (val_cmp v w) (and-left (is_lt (val_cmp v w)) (below_all val_cmp v (entries_of s)) h)))) (values-chain u v s e (and-right (is_lt (val_cmp v w)) (below_all val_cmp v (entries_of s)) h))

after-below : (u : Val) (s : List Row) → IsAscending s → IsTrue (none_less u s) → IsTrue (below_all val_cmp u (entries_of (values_after (Some u) s)))
after-below u [] up h = refl
after-below u ((k, true) ∷ s) up h = after-below u s (and-right (below_all key_cmp k s) (is_sorted key_cmp s) up) (and-right (not (is_gt (val_cmp u k.0))) (none_less u s) h)
after-below u ((k, false) ∷ s) up h =
    let later = and-right (below_all key_cmp k s) (is_sorted key_cmp s) up in
    let less = none_less-below k s (and-left (below_all key_cmp k s) (is_sorted key_cmp s) up) in
    elim (eq_by_cmp val_cmp u k.0) as (λ b. eq_by_cmp val_cmp u k.0 ≡ b → IsTrue (below_all val_cmp u (entries_of (if b then values_after (Some u) s else k.0 ∷ values_after (Some k.0) s)))) [
      | true ↦ λ g. after-below u s later (and-right (not (is_gt (val_cmp u k.0))) (none_less u s) h)
      | false ↦ λ g.
          let strict = is-between (val_cmp u k.0) (and-left (not (is_gt (val_cmp u k.0))) (none_less u s) h) g in
          and-both (is_lt (val_cmp u k.0)) (below_all val_cmp u (entries_of (values_after (Some k.0) s))) (ap is_lt strict) (values-chain u k.0 (values_after (Some k.0) s) strict (after-below k.0 s later less))
    ] refl

after-ascending : (u : Val) (s : List Row) → IsAscending s → AreAscending (values_after (Some u) s)
after-ascending u [] up = refl
after-ascending u ((k, true) ∷ s) up = after-ascending u s (and-right (below_all key_cmp k s) (is_sorted key_cmp s) up)
after-ascending u ((k, false) ∷ s) up =
    let later = and-right (below_all key_cmp k s) (is_sorted key_cmp s) up in
    let less = none_less-below k s (and-left (below_all key_cmp k s) (is_sorted key_cmp s) up) in
    elim (eq_by_cmp val_cmp u k.0) as (λ b. AreAscending (if b then values_after (Some u) s else k.0 ∷ values_after (Some k.0) s)) [
      | true ↦ after-ascending u s later
      | false ↦ and-both (below_all val_cmp k.0 (entries_of (values_after (Some k.0) s))) (is_sorted val_cmp (entries_of (values_after (Some k.0) s))) (after-below k.0 s later less) (after-ascending k.0 s later)
    ]

all-ascending : (s : List Row) → IsAscending s → AreAscending (values_after None s)
all-ascending [] up = refl
all-ascending ((k, true) ∷ s) up = all-ascending s (and-right (below_all key_cmp k s) (is_sorted key_cmp s) up)
all-ascending ((k, false) ∷ s) up =
    let later = and-right (below_all key_cmp k s) (is_sorted key_cmp s) up in
    let less = none_less-below k s (and-left (below_all key_cmp k s) (is_sorted key_cmp s) up) in
    and-both (below_all val_cmp k.0 (entries_of (values_after (Some k.0) s))) (is_sorted val_cmp (entries_of (values_after (Some k.0) s))) (after-below k.0 s later less) (after-ascending k.0 s later)

-- The values that come live along a state are the visible ones.
pub values_after-visible : (s : List Row) → IsAscending s → values_after None s ≡ visible s
values_after-visible s up = same_from_held (values_after None s) (visible s) (all-ascending s up) (ascending-visible s) (λ v. all-held s v ∙ sym (held-visible s v))

-- ---- how many rows a join has

pub mark-none : (o : Option Bool) → (found_level o == 0) ≡ not (is_some o)
mark-none None = refl
mark-none (Some true) = refl
mark-none (Some false) = refl

pub length-put_row : (r : Row) (s : List Row) → IsAscending s → length (put r s) ≡ (if mark s r.0.0 r.0.1 == 0 then length s + 1 else length s)
length-put_row r s up =
    ap length (put-entries r s up) ∙ length-put key_cmp key_total r.0 (dead_with (find key_cmp r.0 s) r.1) s (as_T (is_sorted key_cmp s) up) ∙ turn (is_some (find key_cmp r.0 s))
    ∙ ap (λ (b : Bool). if b then length s + 1 else length s) (sym (ap (λ (m : ℕ). m == 0) (mark-find s up r.0) ∙ mark-none (find key_cmp r.0 s))) where
      turn : (b : Bool) → cond b (length s) (length s + 1) ≡ (if not b then length s + 1 else length s)
      turn true = refl
      turn false = refl

new_rows-put : (r : Row) (s t : List Row) → IsTrue (below_all key_cmp r.0 t) → new_rows (put r s) t ≡ new_rows s t
new_rows-put r s [] h = refl
new_rows-put r s (q ∷ t) h =
    let less = is-Less (key_cmp r.0 q.0) (and-left (is_lt (key_cmp r.0 q.0)) (below_all key_cmp r.0 t) h) in
    let apart : row_mark r q.0.0 q.0.1 ≡ 0 = ap (λ o. if is_eq o then level r.1 else 0) (key_total.antisymm q.0 r.0 ∙ ap ordering_reverse less) in
    let same : mark (put r s) q.0.0 q.0.1 ≡ mark s q.0.0 q.0.1 = omega (arith, mark-put r s q.0.0 q.0.1, apart) in
    let rest = new_rows-put r s t (and-right (is_lt (key_cmp r.0 q.0)) (below_all key_cmp r.0 t) h) in
    ap (λ (m : ℕ). length (cond (m == 0) (q ∷ filter (λ p. mark (put r s) p.0.0 p.0.1 == 0) t) (filter (λ p. mark (put r s) p.0.0 p.0.1 == 0) t))) same
    ∙ elim (mark s q.0.0 q.0.1 == 0) as (λ b. length (cond b (q ∷ filter (λ p. mark (put r s) p.0.0 p.0.1 == 0) t) (filter (λ p. mark (put r s) p.0.0 p.0.1 == 0) t))
    ≡ length (cond b (q ∷ filter (λ p. mark s p.0.0 p.0.1 == 0) t) (filter (λ p. mark s p.0.0 p.0.1 == 0) t))) [
      | true ↦ ap suc rest
      | false ↦ rest
    ]

-- A join has the rows of the first, and those of the second whose keys the first lacks.
pub length-join : (s t : List Row) → IsAscending s → IsAscending t → length (join s t) ≡ length s + new_rows s t
length-join s [] up_s up_t = ap length (join-nothing s up_s) ∙ omega arith
length-join s (r ∷ t) up_s up_t =
    let below = and-left (below_all key_cmp r.0 t) (is_sorted key_cmp t) up_t in
    let later = and-right (below_all key_cmp r.0 t) (is_sorted key_cmp t) up_t in
    let step : join s (r ∷ t) ≡ join (put r s) t = join-append s (r ∷ []) t ∙ ap (λ (u : List Row). join u t) (join-row s r up_s) in
    let rest : length (join s (r ∷ t)) ≡ length (put r s) + new_rows s t = ap length step ∙ length-join (put r s) t (ascending-put r s up_s) later ∙ ap (λ (n : ℕ). length (put r s) + n) (new_rows-put r s t below) in
    rest ∙ ap (λ (n : ℕ). n + new_rows s t) (length-put_row r s up_s)
    ∙ elim (mark s r.0.0 r.0.1 == 0) as (λ b. (if b then length s + 1 else length s) + new_rows s t ≡ length s + length (cond b (r ∷ filter (λ p. mark s p.0.0 p.0.1 == 0) t) (filter (λ p. mark s p.0.0 p.0.1 == 0) t))) [
      | true ↦ omega arith
      | false ↦ refl
    ]

pub ruleset loops = (merge-join, collapse-sorted, values_after-visible, length-join)
