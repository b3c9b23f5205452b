-- The values that a table shows: those of its live rows, thinned where they ascend, else sorted and thinned; and their text.
use Rattle.std.proofs.Common.{◌≡◌, ℕ, suc, ◌+◌, ◌≤◌, max, Bool, true, false, not, ◌&&◌, ◌||◌, if◌then◌else◌, IsTrue, List, [], ◌∷◌, ◌++◌, refl, sym, ap, subst, ◌∙◌, append_assoc, arith, Option, Some, None, Result, Ok, Err, IfOk, All, slice_index_or, IsPermutation, IsSortedBy}
use Rattle.std.proofs.lemmas.List.Sorted.{All-permutation, IsPermutation-sym}
use Rattle.std.proofs.lemmas.List.Elements.{All-cons, All-tail}
use Rattle.std.specs.Ordering.{is_eq, is_lt, ordering_reverse}
use Rattle.std.specs.declared.cmp.Ordering.{Ordering}
use Rattle.std.specs.declared.cmp.Ordering.TheVariants.{Less, Equal, Greater}
use Rattle.std.specs.FinMap.Entries.{by_order, is_sorted, below_all}
use Rattle.model_values.specs.Value.{Val, val_cmp, val_exact, val_total}
use Rattle.model_values.specs.Row.{Row, key_cmp}
use Rattle.model_values.specs.Text.{shown, shown_after, shown_values}
use Rattle.model_sets.specs.Rows.{level, row_mark, mark, IsAscending, put, of_rows}
use Rattle.model_sets.specs.Rises.{AreApart}
use Rattle.model_sets.specs.Values.{is_value, held, entries_of, AreAscending, of_values, live_values, visible}
use Rattle.model_sets.specs.Loops.{values_after}
use Rattle.model_sets.proofs.RowLaws.{and-left, and-right, and-both, is-Less, is-Equal, mark-of_rows}
use Rattle.model_sets.proofs.ValueLaws.{held-of_values, held-visible, same_from_held, ascending-of_values, ascending-visible}
use Rattle.model_sets.proofs.LoopLaws.{values_after-visible}
use Rattle.model_sets.proofs.RiseLaws.{level-some}
use Rattle.lasp_logset.specs.Kept.{AreKept}
use Rattle.lasp_logset.specs.Shown.{order_behind, thinned, rises, shown_rest}
use Rattle.lasp_logset.proofs.KeptLaws.{kept-state}

-- ---- values but those that repeat the one before

abbrev held_last : Option Val → Val → ℕ
held_last None v = 0
held_last (Some u) v = is_value u v

same-last : (last : Option Val) (w v : Val) → is_eq (order_behind last w) ≡ true → held_last last v ≡ is_value w v
same-last None w v e = cc
same-last (Some u) w v e = ap (λ (z : Val). is_value z v) (val_exact u w (is-Equal (val_cmp u w) e))

-- which values there are stays the same
thin-held : (last : Option Val) (s : List Val) (v : Val) → max (held_last last v) (held (thinned last s) v) ≡ max (held_last last v) (held s v)
thin-held last [] v = refl
thin-held last (w ∷ s) v = choose (is_eq (order_behind last w)) refl (thin-held last s v) (thin-held (Some w) s v) where
  choose : (b : Bool) → is_eq (order_behind last w) ≡ b → max (held_last last v) (held (thinned last s) v) ≡ max (held_last last v) (held s v)
      → max (is_value w v) (held (thinned (Some w) s) v) ≡ max (is_value w v) (held s v)
      → max (held_last last v) (held (if b then thinned last s else w ∷ thinned (Some w) s) v) ≡ max (held_last last v) (max (is_value w v) (held s v))
  choose true e here next = omega (arith, same-last last w v e, here)
  choose false e here next = omega (arith, next)

chain : (u w : Val) (s : List Val) → val_cmp u w ≡ Less → IsTrue (below_all val_cmp w (entries_of s)) → IsTrue (below_all val_cmp u (entries_of s))
chain u w [] e h = refl
chain u w (x ∷ s) e h =
    and-both (is_lt (val_cmp u x)) (below_all val_cmp u (entries_of s))
    (ap is_lt (val_total.trans u w x e (is-Less (val_cmp w x) (and-left (is_lt (val_cmp w x)) (below_all val_cmp w (entries_of s)) h))))
    (chain u w s e (and-right (is_lt (val_cmp w x)) (below_all val_cmp w (entries_of s)) h))

thin-below : (u : Val) (s : List Val) → IsTrue (rises (Some u) s) → IsTrue (below_all val_cmp u (entries_of (thinned (Some u) s)))
thin-below u [] up = refl
thin-below u (w ∷ s) up = choose (is_eq (val_cmp u w)) (λ h. thin-below u s h) (λ h. thin-below w s h) up where
  choose : (b : Bool) → (IsTrue (rises (Some u) s) → IsTrue (below_all val_cmp u (entries_of (thinned (Some u) s)))) → (IsTrue (rises (Some w) s) → IsTrue (below_all val_cmp w (entries_of (thinned (Some w) s))))
      → IsTrue (if b then rises (Some u) s else (is_lt (val_cmp u w) && rises (Some w) s)) → IsTrue (below_all val_cmp u (entries_of (if b then thinned (Some u) s else w ∷ thinned (Some w) s)))
  choose true here next h = here h
  choose false here next h =
      let less = and-left (is_lt (val_cmp u w)) (rises (Some w) s) h in
      let rest = next (and-right (is_lt (val_cmp u w)) (rises (Some w) s) h) in
      and-both (is_lt (val_cmp u w)) (below_all val_cmp u (entries_of (thinned (Some w) s))) less (chain u w (thinned (Some w) s) (is-Less (val_cmp u w) less) rest)

thin-ascending : (last : Option Val) (s : List Val) → IsTrue (rises last s) → AreAscending (thinned last s)
thin-ascending last [] up = refl
thin-ascending last (w ∷ s) up = choose (is_eq (order_behind last w)) (λ h. thin-ascending last s h) (λ h. thin-ascending (Some w) s h) up where
  choose : (b : Bool) → (IsTrue (rises last s) → AreAscending (thinned last s)) → (IsTrue (rises (Some w) s) → AreAscending (thinned (Some w) s))
      → IsTrue (if b then rises last s else (is_lt (order_behind last w) && rises (Some w) s)) → AreAscending (if b then thinned last s else w ∷ thinned (Some w) s)
  choose true here next h = here h
  choose false here next h =
      let rest = and-right (is_lt (order_behind last w)) (rises (Some w) s) h in
      and-both (below_all val_cmp w (entries_of (thinned (Some w) s))) (is_sorted val_cmp (entries_of (thinned (Some w) s))) (thin-below w s rest) (next rest)

pub thin-values : (s : List Val) → IsTrue (rises None s) → thinned None s ≡ of_values s
thin-values s up = same_from_held (thinned None s) (of_values s) (thin-ascending None s up) (ascending-of_values s) (λ v. omega (arith, thin-held None s v, held-of_values s v))

-- ---- sorted values

-- each is at most the next
abbrev is_ordered_from : Val → List Val → Bool
is_ordered_from u [] = true
is_ordered_from u (w ∷ s) = not (is_lt (val_cmp w u)) && is_ordered_from w s

ordered-from : (u : Val) (s : List Val) → IsSortedBy (λ (a b : Val). is_lt (val_cmp a b)) (u ∷ s) → IsTrue (is_ordered_from u s)
ordered-from u [] h = refl
ordered-from u (w ∷ s) h =
    and-both (not (is_lt (val_cmp w u))) (is_ordered_from w s) (ap not (h 0 u (omega arith) (omega arith)))
    (ordered-from w s (λ k d a b. subst (λ (n : ℕ). is_lt (val_cmp (slice_index_or (u ∷ w ∷ s) n d) (slice_index_or (w ∷ s) k d)) ≡ false) (one-more k) (h (suc k) d (omega arith) (omega (arith, b))))) where
      one-more : (k : ℕ) → suc k + 1 ≡ suc (k + 1)
      one-more k = omega arith

ordered-rises : (u : Val) (s : List Val) → IsTrue (is_ordered_from u s) → IsTrue (rises (Some u) s)
ordered-rises u [] h = refl
ordered-rises u (w ∷ s) h = choose (val_cmp u w) refl (λ k. ordered-rises u s k) (λ k. ordered-rises w s k) where
  rest : IsTrue (is_ordered_from w s)
  rest = and-right (not (is_lt (val_cmp w u))) (is_ordered_from w s) h

  not_less : (o : Ordering) → val_cmp u w ≡ o → IsTrue (not (is_lt (ordering_reverse o)))
  not_less o e = subst (λ (p : Ordering). IsTrue (not (is_lt p))) (val_total.antisymm w u ∙ ap ordering_reverse e) (and-left (not (is_lt (val_cmp w u))) (is_ordered_from w s) h)

  choose : (o : Ordering) → val_cmp u w ≡ o → (IsTrue (is_ordered_from u s) → IsTrue (rises (Some u) s)) → (IsTrue (is_ordered_from w s) → IsTrue (rises (Some w) s))
      → IsTrue (if is_eq o then rises (Some u) s else (is_lt o && rises (Some w) s))
  choose Less e here next = next rest
  choose Equal e here next = here (subst (λ (z : Val). IsTrue (is_ordered_from z s)) (sym (val_exact u w e)) rest)
  choose Greater e here next = let wrong = not_less Greater e in cc

sorted-rises : (s : List Val) → IsSortedBy (λ (a b : Val). is_lt (val_cmp a b)) s → IsTrue (rises None s)
sorted-rises [] h = refl
sorted-rises (w ∷ s) h = ordered-rises w s (ordered-from w s h)

held-all : (n : ℕ) (s : List Val) (v : Val) → held s v ≤ n → All (λ (w : Val). is_value w v ≤ n) s
held-all n [] v h = λ k d a. absurd (omega (arith, a))
held-all n (w ∷ s) v h = All-cons (λ (w : Val). is_value w v ≤ n) w s (omega (arith, h)) (held-all n s v (omega (arith, h)))

all-held : (n : ℕ) (s : List Val) (v : Val) → All (λ (w : Val). is_value w v ≤ n) s → held s v ≤ n
all-held n [] v h = omega arith
all-held n (w ∷ s) v h = omega (arith, h 0 w (omega arith), all-held n s v (All-tail (λ (w : Val). is_value w v ≤ n) w s h))

moved-held : (s t : List Val) (v : Val) → IsPermutation s t → held t v ≤ held s v
moved-held s t v p = all-held (held s v) t v (All-permutation (λ (w : Val). is_value w v ≤ held s v) s t p (held-all (held s v) s v (omega arith)))

held-permutation : (s t : List Val) → IsPermutation s t → (v : Val) → held s v ≡ held t v
held-permutation s t p v = omega (arith, moved-held s t v p, moved-held t s v (IsPermutation-sym s t p))

sorted-values : (s t : List Val) → IsPermutation s t → IsSortedBy (λ (a b : Val). is_lt (val_cmp a b)) t → thinned None t ≡ of_values s
sorted-values s t p up = same_from_held (thinned None t) (of_values s) (thin-ascending None t (sorted-rises t up)) (ascending-of_values s)
    (λ v. omega (arith, thin-held None t v, held-of_values s v, held-permutation s t p v))

thinned-values : (s : List Val) → of_values (thinned None s) ≡ of_values s
thinned-values s = same_from_held (of_values (thinned None s)) (of_values s) (ascending-of_values (thinned None s)) (ascending-of_values s)
    (λ v. omega (arith, thin-held None s v, held-of_values (thinned None s) v, held-of_values s v))

-- ---- live rows of a table

abbrev pub live_mark : Row → Val → ℕ
live_mark r v = if r.1 then 0 else is_value r.0.0 v

pub held-live : (r : Row) (s : List Row) (v : Val) → held (live_values (r ∷ s)) v ≡ max (live_mark r v) (held (live_values s) v)
held-live (k, true) s v = omega arith
held-live (k, false) s v = omega arith

live-put : (r : Row) (s : List Row) (v : Val) → mark s r.0.0 r.0.1 ≡ 0 → held (live_values (put r s)) v ≡ max (live_mark r v) (held (live_values s) v)
live-put r [] v none = held-live r [] v
live-put r (q ∷ s) v none =
    elim (key_cmp r.0 q.0) as (λ o. key_cmp r.0 q.0 ≡ o → held (live_values (by_order o (r ∷ q ∷ s) ((q.0, r.1 || q.1) ∷ s) (q ∷ put r s))) v ≡ max (live_mark r v) (held (live_values (q ∷ s)) v)) [
      | Less ↦ λ e. held-live r (q ∷ s) v
      | Equal ↦ λ e. absurd (let own : row_mark q r.0.0 r.0.1 ≡ level q.1 = ap (λ (o : Ordering). if is_eq o then level q.1 else 0) e in omega (arith, own, none, level-some q.1))
      | Greater ↦ λ e. omega (arith, held-live q (put r s) v, held-live q s v, live-put r s v (omega (arith, none)))
    ] refl

live-rows : (s : List Row) (v : Val) → AreApart s → held (live_values (of_rows s)) v ≡ held (live_values s) v
live-rows [] v apart = refl
live-rows (r ∷ s) v apart =
    let none : mark (of_rows s) r.0.0 r.0.1 ≡ 0 = mark-of_rows s r.0.0 r.0.1 ∙ apart.0 in
    omega (arith, live-put r (of_rows s) v none, held-live r s v, live-rows s v apart.1)

pub state-values : (rows log : List Row) → AreKept rows log → AreApart rows → of_values (live_values rows) ≡ visible (of_rows log)
state-values rows log kept apart = same_from_held (of_values (live_values rows)) (visible (of_rows log)) (ascending-of_values (live_values rows)) (ascending-visible (of_rows log))
    (λ v. held-of_values (live_values rows) v ∙ sym (live-rows rows v apart) ∙ ap (λ (s : List Row). held (live_values s) v) (kept-state rows log kept) ∙ sym (held-visible (of_rows log) v))

-- ---- what is shown

pub if-ok : {T E : Type 0} (r : Result T E) (P Q : T → Type 0) → ((x : T) → P x → Q x) → IfOk r P → IfOk r Q
if-ok (Ok x) P Q more told = more x told
if-ok (Err e) P Q more told = told

pub shown-ascending : (rows log : List Row) (values : List Val) (ascend : Bool) → AreKept rows log → AreApart rows → values ≡ thinned None (live_values rows) → ascend ≡ rises None (live_values rows) → ascend ≡ true → values ≡ visible (of_rows log)
shown-ascending rows log values ascend kept apart is told yes_it = is ∙ thin-values (live_values rows) (sym told ∙ yes_it) ∙ state-values rows log kept apart

pub shown-sorted : (rows log : List Row) (values sorted given once : List Val) → AreKept rows log → AreApart rows → values ≡ thinned None (live_values rows) → IsPermutation values sorted → IsSortedBy (λ (a b : Val). is_lt (val_cmp a b)) sorted
    → given ≡ sorted → once ≡ thinned None given → once ≡ visible (of_rows log)
shown-sorted rows log values sorted given once kept apart is order up same made =
    made ∙ ap (λ (s : List Val). thinned None s) same ∙ sorted-values values sorted order up ∙ ap of_values is ∙ thinned-values (live_values rows) ∙ state-values rows log kept apart

thin-after : (last : Option Val) (s : List Row) → thinned last (live_values s) ≡ values_after last s
thin-after last [] = refl
thin-after last ((k, true) ∷ s) = thin-after last s
thin-after None ((k, false) ∷ s) = ap (λ (t : List Val). k.0 ∷ t) (thin-after (Some k.0) s)
thin-after (Some u) ((k, false) ∷ s) =
    elim (is_eq (val_cmp u k.0)) as (λ b. (if b then thinned (Some u) (live_values s) else k.0 ∷ thinned (Some k.0) (live_values s)) ≡ (if b then values_after (Some u) s else k.0 ∷ values_after (Some k.0) s)) [
      | true ↦ thin-after (Some u) s
      | false ↦ ap (λ (t : List Val). k.0 ∷ t) (thin-after (Some k.0) s)
    ]

pub shown-rows : (rows now : List Row) (values : List Val) → IsAscending now → rows ≡ now → values ≡ thinned None (live_values rows) → values ≡ visible now
shown-rows rows now values up is made = made ∙ ap (λ (s : List Row). thinned None (live_values s)) is ∙ thin-after None now ∙ values_after-visible now up

-- ---- text

rest-after : (s : List Val) → shown_rest true s ≡ shown_after s
rest-after [] = refl
rest-after (v ∷ s) = ap (λ (t : List ℕ). 44 ∷ (shown v ++ t)) (rest-after s)

text-first : (s : List Val) → 91 ∷ shown_rest false s ≡ shown_values s
text-first [] = refl
text-first (v ∷ s) = ap (λ (t : List ℕ). 91 ∷ (shown v ++ t)) (rest-after s)

-- the beginning of the text: a bracket, and then the text of all
pub text-begin : (old out : List ℕ) (s : List Val) → out ≡ old ++ 91 ∷ [] → out ++ shown_rest false s ≡ old ++ shown_values s
text-begin old out s open_it =
    ap (λ (o : List ℕ). o ++ shown_rest false s) open_it ∙ append_assoc old (91 ∷ []) (shown_rest false s) ∙ ap (λ (t : List ℕ). old ++ t) (text-first s)
