-- What stands at the places that the searches find among ascending rows.
use Rattle.std.proofs.Common.{◌≡◌, ◌≢◌, ◌↔◌, ℕ, zero, suc, ◌≤◌, ◌<◌, max, Bool, true, false, cond, not, ◌&&◌, ◌||◌, nat_lt, if◌then◌else◌, IsTrue, List, [], ◌∷◌, ◌++◌, length, filter, take, drop, slice_index_or, slice_get, Some, refl, sym, ap, subst, ◌∙◌, arith}
use Rattle.std.proofs.lemmas.Bool.Decides.{nat_tests}
use Rattle.std.specs.List.{insert, list_any}
use Rattle.std.specs.Ordering.{is_eq, is_lt, is_gt, ordering_reverse, ordering_then, eq_by_cmp}
use Rattle.std.specs.declared.cmp.Ordering.{Ordering}
use Rattle.std.specs.declared.cmp.Ordering.TheVariants.{Less, Equal, Greater}
use Rattle.std.specs.Cmp.{tied_itself}
use Rattle.std.specs.FinMap.Entries.{by_order, is_sorted, below_all}
use Rattle.model_values.specs.Value.{Val, val_cmp, val_total, val_exact}
use Rattle.model_values.specs.Token.{Tok, single, tok_cmp}
use Rattle.model_values.specs.Row.{Key, Row, key_cmp, key_total, key_exact}
use Rattle.model_sets.specs.Rows.{level, row_mark, mark, HasRow, IsAscending, put, is_of}
use Rattle.model_sets.specs.Values.{IsHeld, visible}
use Rattle.model_sets.proofs.RowLaws.{and-left, and-right, is-Less, is-Equal, below-chain, mark-below}
use Rattle.model_sets.proofs.EquationLaws.{tied_key}
use Rattle.model_sets.proofs.WordLaws.{visible-live}
use Rattle.lasp_dots.specs.Pieces.{many, IsParted}
use Rattle.lasp_dots.proofs.PartLaws.{many-more, many-pass, many-fail}
use Rattle.lasp_dots.specs.Places.{is_below, is_before, is_within}

-- ---- tests that lesser rows pass

-- a row that is below one that passes passes, too
abbrev pub IsDownward : (Row → Bool) → Type 0
IsDownward test = (r q : Row) → key_cmp r.0 q.0 ≡ Less → test q ≡ true → test r ≡ true

-- behind a row that fails all fail
none-pass : (test : Row → Bool) → IsDownward test → (r : Row) (s : List Row) → IsTrue (below_all key_cmp r.0 s) → test r ≡ false → many test s ≡ 0
none-pass test down r [] low e = refl
none-pass test down r (q ∷ s) low e = choose (none-pass test down r s (and-right (is_lt (key_cmp r.0 q.0)) (below_all key_cmp r.0 s) low) e) (test q) refl where
  choose : many test s ≡ 0 → (b : Bool) → test q ≡ b → many test (q ∷ s) ≡ 0
  choose rest true f =
      let passes : test r ≡ true = down r q (is-Less (key_cmp r.0 q.0) (and-left (is_lt (key_cmp r.0 q.0)) (below_all key_cmp r.0 s) low)) f in
      absurd (let wrong : true ≡ false = sym passes ∙ e in cc)
  choose rest false f = many-fail test q s f ∙ rest

none-first : (test : Row → Bool) → IsDownward test → (r : Row) (s : List Row) → IsAscending (r ∷ s) → test r ≡ false → many test s ≡ 0
none-first test down r s up e = none-pass test down r s (and-left (below_all key_cmp r.0 s) (is_sorted key_cmp s) up) e

rest-ascends : (r : Row) (s : List Row) → IsAscending (r ∷ s) → IsAscending s
rest-ascends r s up = and-right (below_all key_cmp r.0 s) (is_sorted key_cmp s) up

positive : (n : ℕ) → true ≡ nat_lt 0 (suc n)
positive n = grind (arith, nat_tests)

shifted : (i n : ℕ) → nat_lt i n ≡ nat_lt (suc i) (suc n)
shifted i n = grind (arith, nat_tests)

-- such a test parts ascending rows
pub parted : (test : Row → Bool) → IsDownward test → (s : List Row) → IsAscending s → IsParted test s
parted test down [] up = tt
parted test down (r ∷ s) up = (parted test down s (rest-ascends r s up), none-first test down r s up)

-- the row at a place
get-is : (s : List Row) (n : ℕ) (q : Row) → slice_get s n ≡ Some q → (n < length s) × (q ≡ slice_index_or s n q)
get-is [] n q e = absurd cc
get-is (r ∷ s) zero q e = (omega arith, let same : r ≡ q = cc in sym same)
get-is (r ∷ s) (suc n) q e = let rest = get-is s n q e in (omega (arith, rest.0), rest.1)

-- ---- the three tests

pub down-below : (k : Key) → IsDownward (is_below k)
down-below k r q less e = ap is_lt (key_total.trans r.0 q.0 k less (is-Less (key_cmp q.0 k) e))

value-rises : (o p : Ordering) → ordering_then o p ≡ Less → o ≡ Greater → ⊥
value-rises Less p e f = cc
value-rises Equal p e f = cc
value-rises Greater p e f = cc

-- a value that isn't above another one stands to a third one as low
before-least : (u v w : Val) → val_cmp u v ≢ Greater → is_lt (val_cmp v w) ≡ true → is_lt (val_cmp u w) ≡ true
before-least u v w low e =
    elim (val_cmp u v) as (λ o. val_cmp u v ≡ o → is_lt (val_cmp u w) ≡ true) [
      | Less ↦ λ f. ap is_lt (val_total.trans u v w f (is-Less (val_cmp v w) e))
      | Equal ↦ λ f. ap (λ (z : Val). is_lt (val_cmp z w)) (val_exact u v f) ∙ e
      | Greater ↦ λ f. absurd (low f)
    ] refl

within-least : (u v w : Val) → val_cmp u v ≢ Greater → not (is_gt (val_cmp v w)) ≡ true → not (is_gt (val_cmp u w)) ≡ true
within-least u v w low e =
    elim (val_cmp u v) as (λ o. val_cmp u v ≡ o → not (is_gt (val_cmp u w)) ≡ true) [
      | Less ↦ λ f. elim (val_cmp v w) as (λ p. val_cmp v w ≡ p → not (is_gt p) ≡ true → not (is_gt (val_cmp u w)) ≡ true) [
        | Less ↦ λ g _. ap (λ o. not (is_gt o)) (val_total.trans u v w f g)
        | Equal ↦ λ g _. ap (λ (z : Val). not (is_gt (val_cmp u z))) (sym (val_exact v w g)) ∙ ap (λ o. not (is_gt o)) f
        | Greater ↦ λ g n. absurd cc
      ] refl e
      | Equal ↦ λ f. ap (λ (z : Val). not (is_gt (val_cmp z w))) (val_exact u v f) ∙ e
      | Greater ↦ λ f. absurd (low f)
    ] refl

pub down-before : (v : Val) → IsDownward (is_before v)
down-before v r q less e = before-least r.0.0 q.0.0 v (value-rises (val_cmp r.0.0 q.0.0) (tok_cmp r.0.1 q.0.1) less) e

pub down-within : (v : Val) → IsDownward (is_within v)
down-within v r q less e = within-least r.0.0 q.0.0 v (value-rises (val_cmp r.0.0 q.0.0) (tok_cmp r.0.1 q.0.1) less) e

-- ---- a key

-- the row at a place, with another row before all
beside : (k : Key) (r : Row) (s : List Row) (d : Row) (n : ℕ)
    → (nat_lt (suc n) (length (r ∷ s)) && is_eq (key_cmp (slice_index_or (r ∷ s) (suc n) d).0 k)) ≡ (nat_lt n (length s) && is_eq (key_cmp (slice_index_or s n d).0 k))
beside k r s d n = ap (λ (b : Bool). b && is_eq (key_cmp (slice_index_or s n d).0 k)) (sym (shifted n (length s)))

front : (k : Key) (r : Row) (s : List Row) (d : Row) → (nat_lt 0 (length (r ∷ s)) && is_eq (key_cmp r.0 k)) ≡ is_eq (key_cmp r.0 k)
front k r s d = ap (λ (b : Bool). b && is_eq (key_cmp r.0 k)) (sym (positive (length s)))

holds-at : (k : Key) (s : List Row) (d : Row) → IsAscending s
    → (nat_lt (many (is_below k) s) (length s) && is_eq (key_cmp (slice_index_or s (many (is_below k) s) d).0 k)) ≡ nat_lt 0 (mark s k.0 k.1)
holds-at k [] d up = refl
holds-at k (r ∷ s) d up = choose (holds-at k s d (rest-ascends r s up)) (key_cmp r.0 k) refl where
  turned : (o : Ordering) → key_cmp r.0 k ≡ o → key_cmp k r.0 ≡ ordering_reverse o
  turned o e = key_total.antisymm k r.0 ∙ ap ordering_reverse e

  at : (n : ℕ) → Bool
  at n = nat_lt n (length (r ∷ s)) && is_eq (key_cmp (slice_index_or (r ∷ s) n d).0 k)

  choose : (nat_lt (many (is_below k) s) (length s) && is_eq (key_cmp (slice_index_or s (many (is_below k) s) d).0 k)) ≡ nat_lt 0 (mark s k.0 k.1) → (o : Ordering) → key_cmp r.0 k ≡ o
      → at (many (is_below k) (r ∷ s)) ≡ nat_lt 0 (max (row_mark r k.0 k.1) (mark s k.0 k.1))
  choose rest Less e =
      let none : row_mark r k.0 k.1 ≡ 0 = ap (λ o. if is_eq o then level r.1 else 0) (turned Less e) in
      let same : mark s k.0 k.1 ≡ max (row_mark r k.0 k.1) (mark s k.0 k.1) = omega (arith, none) in
      ap at (many-pass (is_below k) r s (ap is_lt e)) ∙ beside k r s d (many (is_below k) s) ∙ rest ∙ ap (nat_lt 0) same
  choose rest Equal e =
      let one : row_mark r k.0 k.1 ≡ level r.1 = ap (λ o. if is_eq o then level r.1 else 0) (turned Equal e) in
      let here : many (is_below k) (r ∷ s) ≡ 0 = many-fail (is_below k) r s (ap is_lt e) ∙ none-first (is_below k) (down-below k) r s up (ap is_lt e) in
      ap at here ∙ front k r s d ∙ ap is_eq e ∙ sym (ap (λ (m : ℕ). nat_lt 0 (max m (mark s k.0 k.1))) one ∙ some r.1 (mark s k.0 k.1)) where
        some : (b : Bool) (m : ℕ) → nat_lt 0 (max (level b) m) ≡ true
        some true m = grind (arith, nat_tests)
        some false m = grind (arith, nat_tests)
  choose rest Greater e =
      let none : row_mark r k.0 k.1 ≡ 0 = ap (λ o. if is_eq o then level r.1 else 0) (turned Greater e) in
      let here : many (is_below k) (r ∷ s) ≡ 0 = many-fail (is_below k) r s (ap is_lt e) ∙ none-first (is_below k) (down-below k) r s up (ap is_lt e) in
      let behind : mark s k.0 k.1 ≡ 0 = mark-below k s (below-chain k r.0 s (turned Greater e) (and-left (below_all key_cmp r.0 s) (is_sorted key_cmp s) up)) in
      ap at here ∙ front k r s d ∙ ap is_eq e ∙ (λ i. nat_lt 0 (max (sym none i) (sym behind i)))

holds-there : (k : Key) (s : List Row) (n : ℕ) (q : Row) → IsAscending s → n ≡ many (is_below k) s → n < length s → q ≡ slice_index_or s n q → is_eq (key_cmp q.0 k) ≡ nat_lt 0 (mark s k.0 k.1)
holds-there k s n q up e h is =
    let yes : true ≡ nat_lt n (length s) = grind (arith, nat_tests, h) in
    ap (λ (p : Row). is_eq (key_cmp p.0 k)) is ∙ ap (λ (b : Bool). b && is_eq (key_cmp (slice_index_or s n q).0 k)) yes
    ∙ ap (λ (m : ℕ). nat_lt m (length s) && is_eq (key_cmp (slice_index_or s m q).0 k)) e ∙ holds-at k s q up

holds-nowhere : (k : Key) (s : List Row) (n : ℕ) → IsAscending s → n ≡ many (is_below k) s → length s ≤ n → nat_lt n (length s) ≡ nat_lt 0 (mark s k.0 k.1)
holds-nowhere k s n up e h =
    let none : nat_lt n (length s) ≡ false = grind (arith, nat_tests, h) in
    none ∙ ap (λ (b : Bool). b && is_eq (key_cmp (slice_index_or s n (k, false)).0 k)) (sym none)
    ∙ ap (λ (m : ℕ). nat_lt m (length s) && is_eq (key_cmp (slice_index_or s m (k, false)).0 k)) e ∙ holds-at k s (k, false) up

pub holds-found : (k : Key) (s : List Row) (q : Row) → IsAscending s → slice_get s (many (is_below k) s) ≡ Some q → is_eq (key_cmp q.0 k) ≡ nat_lt 0 (mark s k.0 k.1)
holds-found k s q up got = let at = get-is s (many (is_below k) s) q got in holds-there k s (many (is_below k) s) q up refl at.0 at.1

pub holds-none : (k : Key) (s : List Row) → IsAscending s → length s ≤ many (is_below k) s → false ≡ nat_lt 0 (mark s k.0 k.1)
holds-none k s up h =
    let none : nat_lt (many (is_below k) s) (length s) ≡ false = grind (arith, nat_tests, h) in
    sym none ∙ holds-nowhere k s (many (is_below k) s) up refl h

pub insert-put : (r : Row) (s : List Row) → IsAscending s → mark s r.0.0 r.0.1 ≡ 0 → insert s (many (is_below r.0) s) r ≡ put r s
insert-put r [] up fresh = refl
insert-put r (q ∷ s) up fresh = choose (insert-put r s (rest-ascends q s up) (omega (arith, fresh))) (key_cmp q.0 r.0) refl where
  turned : (o : Ordering) → key_cmp q.0 r.0 ≡ o → key_cmp r.0 q.0 ≡ ordering_reverse o
  turned o e = key_total.antisymm r.0 q.0 ∙ ap ordering_reverse e

  choose : insert s (many (is_below r.0) s) r ≡ put r s → (o : Ordering) → key_cmp q.0 r.0 ≡ o → insert (q ∷ s) (many (is_below r.0) (q ∷ s)) r ≡ by_order (key_cmp r.0 q.0) (r ∷ q ∷ s) ((q.0, r.1 || q.1) ∷ s) (q ∷ put r s)
  choose rest Less e =
      ap (λ (n : ℕ). insert (q ∷ s) n r) (many-pass (is_below r.0) q s (ap is_lt e)) ∙ ap (λ (t : List Row). q ∷ t) rest
      ∙ ap (λ o. by_order o (r ∷ q ∷ s) ((q.0, r.1 || q.1) ∷ s) (q ∷ put r s)) (sym (turned Less e))
  choose rest Equal e =
      let one : row_mark q r.0.0 r.0.1 ≡ level q.1 = ap (λ o. if is_eq o then level q.1 else 0) (turned Equal e) in
      absurd (omega (arith, fresh, one, some q.1)) where
        some : (b : Bool) → 0 < level b
        some true = omega arith
        some false = omega arith
  choose rest Greater e =
      ap (λ (n : ℕ). insert (q ∷ s) n r) (many-fail (is_below r.0) q s (ap is_lt e) ∙ none-first (is_below r.0) (down-below r.0) q s up (ap is_lt e))
      ∙ ap (λ o. by_order o (r ∷ q ∷ s) ((q.0, r.1 || q.1) ∷ s) (q ∷ put r s)) (sym (turned Greater e))

-- ---- a value

pub before-within : (v : Val) (s : List Row) → many (is_before v) s ≤ many (is_within v) s
before-within v [] = omega arith
before-within v (r ∷ s) = omega (arith, many-more (is_before v) r s, many-more (is_within v) r s, at (val_cmp r.0.0 v) (many (is_before v) s) (many (is_within v) s) (before-within v s)) where
  at : (o : Ordering) (m n : ℕ) → m ≤ n → (if is_lt o then suc m else m) ≤ (if not (is_gt o) then suc n else n)
  at Less m n h = omega (arith, h)
  at Equal m n h = omega (arith, h)
  at Greater m n h = omega (arith, h)

of-value : (v : Val) (r : Row) (o : Ordering) → val_cmp r.0.0 v ≡ o → is_of v r ≡ is_eq o
of-value v r o e = ap is_eq (val_total.antisymm v r.0.0 ∙ ap ordering_reverse e) ∙ turned o where
  turned : (o : Ordering) → is_eq (ordering_reverse o) ≡ is_eq o
  turned Less = refl
  turned Equal = refl
  turned Greater = refl

pub taken-out : (v : Val) (s : List Row) → IsAscending s → take (many (is_before v) s) s ++ drop (many (is_within v) s) s ≡ filter (λ r. not (is_of v r)) s
taken-out v [] up = refl
taken-out v (r ∷ s) up = choose (taken-out v s (rest-ascends r s up)) (val_cmp r.0.0 v) refl where
  kept : (o : Ordering) → val_cmp r.0.0 v ≡ o → filter (λ r. not (is_of v r)) (r ∷ s) ≡ (if not (is_eq o) then r ∷ filter (λ r. not (is_of v r)) s else filter (λ r. not (is_of v r)) s)
  kept o e = ap (λ (b : Bool). cond (not b) (r ∷ filter (λ r. not (is_of v r)) s) (filter (λ r. not (is_of v r)) s)) (of-value v r o e)

  choose : take (many (is_before v) s) s ++ drop (many (is_within v) s) s ≡ filter (λ r. not (is_of v r)) s → (o : Ordering) → val_cmp r.0.0 v ≡ o
      → take (many (is_before v) (r ∷ s)) (r ∷ s) ++ drop (many (is_within v) (r ∷ s)) (r ∷ s) ≡ filter (λ r. not (is_of v r)) (r ∷ s)
  choose rest Less e =
      (λ i. take (many-pass (is_before v) r s (ap is_lt e) i) (r ∷ s) ++ drop (many-pass (is_within v) r s (ap (λ o. not (is_gt o)) e) i) (r ∷ s))
      ∙ ap (λ (t : List Row). r ∷ t) rest ∙ sym (kept Less e)
  choose rest Equal e =
      let none = none-first (is_before v) (down-before v) r s up (ap is_lt e) in
      (λ i. take ((many-fail (is_before v) r s (ap is_lt e) ∙ none) i) (r ∷ s) ++ drop (many-pass (is_within v) r s (ap (λ o. not (is_gt o)) e) i) (r ∷ s))
      ∙ (λ i. take (sym none i) s ++ drop (many (is_within v) s) s) ∙ rest ∙ sym (kept Equal e)
  choose rest Greater e =
      let none = none-first (is_before v) (down-before v) r s up (ap is_lt e) in
      let above = none-first (is_within v) (down-within v) r s up (ap (λ o. not (is_gt o)) e) in
      (λ i. take ((many-fail (is_before v) r s (ap is_lt e) ∙ none) i) (r ∷ s) ++ drop ((many-fail (is_within v) r s (ap (λ o. not (is_gt o)) e) ∙ above) i) (r ∷ s))
      ∙ ap (λ (t : List Row). r ∷ t) ((λ i. take (sym none i) s ++ drop (sym above i) s) ∙ rest) ∙ sym (kept Greater e)

none-within : (v : Val) (t : List Row) → many (is_within v) t ≡ 0 → list_any (is_of v) t ≡ false
none-within v [] e = refl
none-within v (q ∷ t) e = choose (λ f. none-within v t f) (val_cmp q.0.0 v) refl where
  choose : (many (is_within v) t ≡ 0 → list_any (is_of v) t ≡ false) → (o : Ordering) → val_cmp q.0.0 v ≡ o → (is_of v q || list_any (is_of v) t) ≡ false
  choose rest Less f = absurd (omega (arith, e, many-pass (is_within v) q t (ap (λ o. not (is_gt o)) f)))
  choose rest Equal f = absurd (omega (arith, e, many-pass (is_within v) q t (ap (λ o. not (is_gt o)) f)))
  choose rest Greater f =
      ap (λ (b : Bool). b || list_any (is_of v) t) (of-value v q Greater f) ∙ rest (omega (arith, e, many-fail (is_within v) q t (ap (λ o. not (is_gt o)) f)))

-- whether a row is of the value
any-value : (v : Val) (s : List Row) (d : Row) → IsAscending s
    → (nat_lt (many (is_before v) s) (length s) && is_of v (slice_index_or s (many (is_before v) s) d)) ≡ list_any (is_of v) s
any-value v [] d up = refl
any-value v (r ∷ s) d up = choose (any-value v s d (rest-ascends r s up)) (val_cmp r.0.0 v) refl where
  at : (n : ℕ) → Bool
  at n = nat_lt n (length (r ∷ s)) && is_of v (slice_index_or (r ∷ s) n d)

  first : at 0 ≡ is_of v r
  first = ap (λ (b : Bool). b && is_of v r) (sym (positive (length s)))

  choose : (nat_lt (many (is_before v) s) (length s) && is_of v (slice_index_or s (many (is_before v) s) d)) ≡ list_any (is_of v) s → (o : Ordering) → val_cmp r.0.0 v ≡ o
      → at (many (is_before v) (r ∷ s)) ≡ (is_of v r || list_any (is_of v) s)
  choose rest Less e =
      ap at (many-pass (is_before v) r s (ap is_lt e))
      ∙ ap (λ (b : Bool). b && is_of v (slice_index_or s (many (is_before v) s) d)) (sym (shifted (many (is_before v) s) (length s)))
      ∙ rest ∙ ap (λ (b : Bool). b || list_any (is_of v) s) (sym (of-value v r Less e))
  choose rest Equal e =
      let here : many (is_before v) (r ∷ s) ≡ 0 = many-fail (is_before v) r s (ap is_lt e) ∙ none-first (is_before v) (down-before v) r s up (ap is_lt e) in
      ap at here ∙ first ∙ of-value v r Equal e ∙ ap (λ (b : Bool). b || list_any (is_of v) s) (sym (of-value v r Equal e))
  choose rest Greater e =
      let here : many (is_before v) (r ∷ s) ≡ 0 = many-fail (is_before v) r s (ap is_lt e) ∙ none-first (is_before v) (down-before v) r s up (ap is_lt e) in
      let above : many (is_within v) (r ∷ s) ≡ 0 = many-fail (is_within v) r s (ap (λ o. not (is_gt o)) e) ∙ none-first (is_within v) (down-within v) r s up (ap (λ o. not (is_gt o)) e) in
      ap at here ∙ first ∙ of-value v r Greater e ∙ sym (none-within v (r ∷ s) above)

row-of : (v : Val) (s : List Row) → list_any (is_of v) s ≡ true → (t : Tok) × HasRow s v t
row-of v [] e = absurd cc
row-of v (r ∷ s) e = choose (λ f. row-of v s f) (is_of v r) refl where
  choose : (list_any (is_of v) s ≡ true → (t : Tok) × HasRow s v t) → (b : Bool) → is_of v r ≡ b → (t : Tok) × HasRow (r ∷ s) v t
  choose rest true f =
      let same : v ≡ r.0.0 = val_exact v r.0.0 (is-Equal (val_cmp v r.0.0) f) in
      let own : row_mark r r.0.0 r.0.1 ≡ level r.1 = ap (λ (b : Bool). if b then level r.1 else 0) (tied_key r.0) in
      (r.0.1, subst (λ (u : Val). HasRow (r ∷ s) u r.0.1) (sym same) (omega (arith, own, some r.1))) where
        some : (b : Bool) → 0 < level b
        some true = omega arith
        some false = omega arith
  choose rest false f =
      let behind = rest (ap (λ (b : Bool). b || list_any (is_of v) s) (sym f) ∙ e) in
      (behind.0, omega (arith, behind.1))

of-row : (v : Val) (s : List Row) (t : Tok) → HasRow s v t → list_any (is_of v) s ≡ true
of-row v [] t some = absurd (omega (arith, some))
of-row v (r ∷ s) t some = choose (λ f. of-row v s t f) (eq_by_cmp key_cmp (v, t) r.0) refl where
  yes : (b : Bool) → (b || true) ≡ true
  yes true = refl
  yes false = refl

  choose : (HasRow s v t → list_any (is_of v) s ≡ true) → (b : Bool) → eq_by_cmp key_cmp (v, t) r.0 ≡ b → (is_of v r || list_any (is_of v) s) ≡ true
  choose rest true f =
      let same : v ≡ r.0.0 = ap (λ (k : Key). k.0) (key_exact (v, t) r.0 (is-Equal (key_cmp (v, t) r.0) f)) in
      ap (λ (b : Bool). b || list_any (is_of v) s) (subst (λ (u : Val). eq_by_cmp val_cmp v u ≡ true) same (ap is_eq (tied_itself val_total v)))
  choose rest false f =
      let none : row_mark r v t ≡ 0 = ap (λ (b : Bool). if b then level r.1 else 0) f in
      ap (λ (b : Bool). is_of v r || b) (rest (omega (arith, some, none))) ∙ yes (is_of v r)

-- among live rows a value is visible where it has a row
pub any-visible : (v : Val) (s : List Row) → IsAscending s → ((u : Val) (t : Tok) → mark s u t ≤ 1) → (b : Bool) → b ≡ list_any (is_of v) s → IsTrue b ↔ IsHeld (visible s) v
any-visible v s up live b e = (there, back) where
  there : IsTrue b → IsHeld (visible s) v
  there h =
      let has = row-of v s (sym e ∙ h) in
      (visible-live s up v).1 (has.0, omega (arith, has.1, live v has.0))

  back : IsHeld (visible s) v → IsTrue b
  back h =
      let has = (visible-live s up v).0 h in
      e ∙ of-row v s has.0 (omega (arith, has.1))

value-there : (v : Val) (s : List Row) (n : ℕ) (q : Row) → IsAscending s → n ≡ many (is_before v) s → n < length s → q ≡ slice_index_or s n q → is_of v q ≡ list_any (is_of v) s
value-there v s n q up e h is =
    let yes : true ≡ nat_lt n (length s) = grind (arith, nat_tests, h) in
    ap (is_of v) is ∙ ap (λ (b : Bool). b && is_of v (slice_index_or s n q)) yes ∙ ap (λ (m : ℕ). nat_lt m (length s) && is_of v (slice_index_or s m q)) e ∙ any-value v s q up

value-nowhere : (v : Val) (s : List Row) (n : ℕ) → IsAscending s → n ≡ many (is_before v) s → length s ≤ n → nat_lt n (length s) ≡ list_any (is_of v) s
value-nowhere v s n up e h =
    let d : Row = ((v, single 0 0), false) in
    let none : nat_lt n (length s) ≡ false = grind (arith, nat_tests, h) in
    none ∙ ap (λ (b : Bool). b && is_of v (slice_index_or s n d)) (sym none) ∙ ap (λ (m : ℕ). nat_lt m (length s) && is_of v (slice_index_or s m d)) e ∙ any-value v s d up

pub value-found : (v : Val) (s : List Row) (q : Row) → IsAscending s → slice_get s (many (is_before v) s) ≡ Some q → is_of v q ≡ list_any (is_of v) s
value-found v s q up got = let at = get-is s (many (is_before v) s) q got in value-there v s (many (is_before v) s) q up refl at.0 at.1

pub value-none : (v : Val) (s : List Row) → IsAscending s → length s ≤ many (is_before v) s → false ≡ list_any (is_of v) s
value-none v s up h =
    let none : nat_lt (many (is_before v) s) (length s) ≡ false = grind (arith, nat_tests, h) in
    sym none ∙ value-nowhere v s (many (is_before v) s) up refl h
