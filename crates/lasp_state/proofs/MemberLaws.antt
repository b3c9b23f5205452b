-- What the rows of members say of their values.
use Rattle.std.proofs.Common.{Result, Ok, Err, OnOk, OnErr, IfOk, ◌≡◌, ◌≢◌, ◌↔◌, ℕ, ◌≤◌, max, Bool, true, false, ◌&&◌, if◌then◌else◌, IsTrue, List, [], ◌∷◌, ◌++◌, map, length, refl, sym, ap, subst, ◌∙◌, arith}
use Rattle.std.proofs.lemmas.List.{map-append, length-map}
use Rattle.std.specs.Ordering.{is_eq, is_lt, eq_by_cmp, ordering_then}
use Rattle.std.specs.declared.cmp.Ordering.{Ordering}
use Rattle.std.specs.declared.cmp.Ordering.TheVariants.{Less, Equal, Greater}
use Rattle.std.specs.FinMap.Entries.{by_order, is_sorted, below_all}
use Rattle.model_values.specs.Value.{Val, val_cmp}
use Rattle.model_values.specs.Token.{Tok, tok_cmp}
use Rattle.model_values.specs.Row.{Row, key_cmp}
use Rattle.model_sets.specs.Rows.{IsAscending, mark, put, of_rows, join, IsAtMost}
use Rattle.model_sets.specs.Values.{held, IsHeld, entries_of, AreAscending, add, of_values, unite, IsWithin, live_values, visible}
use Rattle.model_sets.proofs.ValueLaws.{held-of_values, of_values-ascending}
use Rattle.lasp_logset.specs.Weights.{IsBounded, rows_weight, values_weight}
use Rattle.lasp_state.specs.Members.{no_update, member, values_of, AreMembers}

-- ---- one row

then-Equal : (o : Ordering) → ordering_then o Equal ≡ o
then-Equal Less = refl
then-Equal Equal = refl
then-Equal Greater = refl

member-cmp : (v w : Val) → key_cmp (member v).0 (member w).0 ≡ val_cmp v w
member-cmp v w = then-Equal (val_cmp v w)

is_eq-then : (o p : Ordering) → is_eq (ordering_then o p) ≡ (is_eq o && is_eq p)
is_eq-then Less p = refl
is_eq-then Equal p = refl
is_eq-then Greater p = refl

-- ---- lists of rows

pub values_of-member : (s : List Val) → values_of (map member s) ≡ s
values_of-member [] = refl
values_of-member (v ∷ s) = ap (λ l. v ∷ l) (values_of-member s)

pub are_members : (s : List Val) → AreMembers (map member s)
are_members s = ap (map member) (sym (values_of-member s))

put-member : (v : Val) (s : List Val) → put (member v) (map member s) ≡ map member (add v s)
put-member v [] = refl
put-member v (w ∷ s) =
    ap (λ o. by_order o (member v ∷ member w ∷ map member s) (member w ∷ map member s) (member w ∷ put (member v) (map member s))) (member-cmp v w)
    ∙ elim (val_cmp v w) as (λ o. by_order o (member v ∷ member w ∷ map member s) (member w ∷ map member s) (member w ∷ put (member v) (map member s)) ≡ map member (by_order o (v ∷ w ∷ s) (w ∷ s) (w ∷ add v s))) [
      | Less ↦ refl
      | Equal ↦ refl
      | Greater ↦ ap (λ l. member w ∷ l) (put-member v s)
    ]

of_rows-member : (s : List Val) → of_rows (map member s) ≡ map member (of_values s)
of_rows-member [] = refl
of_rows-member (v ∷ s) = ap (put (member v)) (of_rows-member s) ∙ put-member v (of_values s)

join-member : (s t : List Val) → join (map member s) (map member t) ≡ map member (unite s t)
join-member s t = ap of_rows (sym (map-append member s t)) ∙ of_rows-member (s ++ t)

-- The join of members keeps the united values.
pub join-members : (s t : List Row) → AreMembers s → AreMembers t → join s t ≡ map member (unite (values_of s) (values_of t))
join-members s t m n = ap (λ l. join l t) m ∙ ap (join (map member (values_of s))) n ∙ join-member (values_of s) (values_of t)

pub values-join : (s t u : List Row) → AreMembers s → AreMembers t → u ≡ join s t → values_of u ≡ unite (values_of s) (values_of t)
values-join s t u m n e = ap values_of (e ∙ join-members s t m n) ∙ values_of-member (unite (values_of s) (values_of t))

members-join : (s t u : List Row) → AreMembers s → AreMembers t → u ≡ join s t → AreMembers u
members-join s t u m n e = subst AreMembers (sym (e ∙ join-members s t m n)) (are_members (unite (values_of s) (values_of t)))

pub length-join_members : (s t : List Row) (n : ℕ) → AreMembers s → AreMembers t → n ≡ length (join s t) → n ≡ length (unite (values_of s) (values_of t))
length-join_members s t n m k e = e ∙ sym (length-map (join s t) (λ r. r.0.0)) ∙ ap length (values-join s t (join s t) m k refl)

-- ---- the order

below-member : (v : Val) (s : List Val) → below_all key_cmp (member v).0 (map member s) ≡ below_all val_cmp v (entries_of s)
below-member v [] = refl
below-member v (w ∷ s) = ap (λ o. is_lt o && below_all key_cmp (member v).0 (map member s)) (member-cmp v w) ∙ ap (λ b. is_lt (val_cmp v w) && b) (below-member v s)

sorted-member : (s : List Val) → is_sorted key_cmp (map member s) ≡ is_sorted val_cmp (entries_of s)
sorted-member [] = refl
sorted-member (v ∷ s) = ap (λ b. b && is_sorted key_cmp (map member s)) (below-member v s) ∙ ap (λ b. below_all val_cmp v (entries_of s) && b) (sorted-member s)

pub ascending-members : (s : List Val) → AreAscending s → IsAscending (map member s)
ascending-members s h = sorted-member s ∙ h

pub ascending-values : (s : List Row) → AreMembers s → IsAscending s → AreAscending (values_of s)
ascending-values s m up = sym (sorted-member (values_of s)) ∙ ap (is_sorted key_cmp) (sym m) ∙ up

mark-both : (a b : Bool) (n m : ℕ) → m ≡ (if b then n else 0) → max (if a && b then 1 else 0) m ≡ (if b then max (if a then 1 else 0) n else 0)
mark-both true true n m e = ap (max 1) e
mark-both true false n m e = omega (arith, e)
mark-both false true n m e = ap (max 0) e
mark-both false false n m e = omega (arith, e)

mark-member : (s : List Val) (v : Val) (w : Tok) → mark (map member s) v w ≡ (if eq_by_cmp tok_cmp w no_update then held s v else 0)
mark-member [] v w = elim (eq_by_cmp tok_cmp w no_update) as (λ b. ◌≡◌ {A = ℕ} 0 (if b then 0 else 0)) [ true ↦ refl | false ↦ refl ]
mark-member (u ∷ s) v w =
    ap (λ b. max (if b then 1 else 0) (mark (map member s) v w)) (is_eq-then (val_cmp v u) (tok_cmp w no_update))
    ∙ mark-both (eq_by_cmp val_cmp v u) (eq_by_cmp tok_cmp w no_update) (held s v) (mark (map member s) v w) (mark-member s v w)

if-le : (b : Bool) (m n : ℕ) → m ≤ n → (if b then m else 0) ≤ (if b then n else 0)
if-le true m n h = h
if-le false m n h = omega arith

within-at_most : (s t : List Val) → IsWithin s t → IsAtMost (map member s) (map member t)
within-at_most s t h v w =
    omega (arith, mark-member s v w, mark-member t v w, if-le (eq_by_cmp tok_cmp w no_update) (held s v) (held t v) (h v))

at_most-within : (s t : List Val) → IsAtMost (map member s) (map member t) → IsWithin s t
at_most-within s t h v = omega (arith, mark-member s v no_update, mark-member t v no_update, h v no_update)

pub within-test : (s t : List Row) (b : Bool) → AreMembers s → AreMembers t → (IsTrue b ↔ IsAtMost s t) → IsTrue b ↔ IsWithin (values_of s) (values_of t)
within-test s t b m n told = (
  λ h. at_most-within (values_of s) (values_of t) (subst (λ l. IsAtMost l (map member (values_of t))) m (subst (IsAtMost s) n (told.0 h))),
  λ h. told.1 (subst (λ l. IsAtMost l t) (sym m) (subst (IsAtMost (map member (values_of s))) (sym n) (within-at_most (values_of s) (values_of t) h))),
)

grew-test : (s u : List Row) (b : Bool) → AreMembers s → AreMembers u → (IsTrue b ↔ (u ≢ s)) → IsTrue b ↔ (values_of u ≢ values_of s)
grew-test s u b m n told = (λ h e. told.0 h (n ∙ ap (map member) e ∙ sym m), λ h. told.1 (λ e. h (ap values_of e)))

-- ---- what is shown

live-member : (s : List Val) → live_values (map member s) ≡ s
live-member [] = refl
live-member (v ∷ s) = ap (λ l. v ∷ l) (live-member s)

visible-members : (s : List Row) → AreMembers s → visible s ≡ of_values (values_of s)
visible-members s m = ap visible m ∙ ap of_values (live-member (values_of s))

pub shown-members : (s : List Row) → AreMembers s → IsAscending s → visible s ≡ values_of s
shown-members s m up = visible-members s m ∙ of_values-ascending (values_of s) (ascending-values s m up)

pub held-test : (s : List Row) (v : Val) (b : Bool) → AreMembers s → (IsTrue b ↔ IsHeld (visible s) v) → IsTrue b ↔ IsHeld (values_of s) v
held-test s v b m told =
    let same : held (visible s) v ≡ held (values_of s) v = ap (λ l. held l v) (visible-members s m) ∙ held-of_values (values_of s) v in
    (λ h. sym same ∙ told.0 h, λ h. told.1 (same ∙ h))

-- ---- a call which answers Ok or Err

pub on_ok : {A E P Q : Type 0} → (r : Result A E) → (P → Q) → OnOk r P → OnOk r Q
on_ok (Ok a) f h = f h
on_ok (Err e) f h = h

pub members-either : {A E : Type 0} (o : Result A E) (s t u : List Row) → AreMembers s → AreMembers t → OnOk o (u ≡ join s t) → OnErr o (u ≡ s) → AreMembers u
members-either (Ok a) s t u m n ok err = members-join s t u m n ok
members-either (Err e) s t u m n ok err = subst AreMembers (sym err) m

pub grew-either : {E : Type 0} (o : Result Bool E) (s t u : List Row) → AreMembers s → AreMembers t → OnOk o (u ≡ join s t) → IfOk o (λ grew. IsTrue grew ↔ (u ≢ s))
    → IfOk o (λ grew. IsTrue grew ↔ (values_of u ≢ values_of s))
grew-either (Ok b) s t u m n ok grew = grew-test s u b m (members-join s t u m n ok) grew
grew-either (Err e) s t u m n ok grew = grew

-- ---- what they weigh

weight-values : (s : List Row) → values_weight (values_of s) ≤ rows_weight s
weight-values [] = omega arith
weight-values (r ∷ s) = omega (arith, weight-values s)

-- a bound of the rows is one of their values
pub values_bounded : (s : List Row) (bound : ℕ) → IsBounded (rows_weight s) bound → IsBounded (values_weight (values_of s)) bound
values_bounded s bound h = omega (arith, weight-values s, h)
