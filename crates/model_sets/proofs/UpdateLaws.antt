-- What an add, a remove and a change do to what is visible.
use Rattle.std.proofs.Common.{◌≡◌, ◌≢◌, ℕ, ◌≤◌, max, Bool, true, false, cond, if◌then◌else◌, ◌==◌, nat_lt, IsTrue, List, [], ◌∷◌, length, map, filter, refl, sym, ap, subst, ◌∙◌, arith}
use Rattle.std.proofs.lemmas.Bool.Decides.{nat_tests}
use Rattle.std.proofs.lemmas.List.{length-map}
use Rattle.std.specs.Ordering.{is_eq, is_lt, eq_by_cmp}
use Rattle.std.specs.declared.cmp.Ordering.{Ordering}
use Rattle.std.specs.Cmp.{tied_itself}
use Rattle.std.specs.FinMap.Entries.{is_sorted, below_all}
use Rattle.model_values.specs.Value.{Val, val_cmp, val_exact, val_total}
use Rattle.model_values.specs.Token.{Tok, single}
use Rattle.model_values.specs.Row.{Key, Row, key_cmp, key_exact}
use Rattle.model_values.proofs.ListLaws.{length-filter_least}
use Rattle.model_sets.specs.Rows.{level, row_mark, mark, HasRow, IsAscending, join, IsAtMost, is_of, buried, add_delta, remove_delta}
use Rattle.model_sets.specs.Values.{is_value, held, IsHeld, visible, row_values}
use Rattle.model_sets.specs.Equations.{changed}
use Rattle.model_sets.specs.Algebra.{IsLive}
use Rattle.model_sets.proofs.RowLaws.{and-left, and-right, and-both, is-Equal, mark-join, ascending-join}
use Rattle.model_sets.proofs.ValueLaws.{held-small, held-of_values}
use Rattle.model_sets.proofs.EquationLaws.{tied_key, ascending-kept, changed-mark}
use Rattle.model_sets.proofs.WordLaws.{visible-live}
use Rattle.model_sets.proofs.AlgebraLaws.{held-here}

-- ---- a remove

-- What a remove makes of a value's mark: dead where there is a row.
abbrev pub dead_of : ℕ → ℕ
dead_of m = if m == 0 then 0 else 2

dead-max : (a b : ℕ) → dead_of (max a b) ≡ max (dead_of a) (dead_of b)
dead-max a b = grind (arith, nat_tests)

dead-level : (e d : Bool) → (if e then level true else 0) ≡ dead_of (if e then level d else 0)
dead-level false d = refl
dead-level true true = refl
dead-level true false = refl

remove-step : (v u : Val) (w : Tok) (r : Row) (m : ℕ)
    → (if is_of v r then max (row_mark (buried r) u w) (if eq_by_cmp val_cmp v u then dead_of m else 0) else (if eq_by_cmp val_cmp v u then dead_of m else 0))
    ≡ (if eq_by_cmp val_cmp v u then dead_of (max (row_mark r u w) m) else 0)
remove-step v u w r m = choose (eq_by_cmp key_cmp (u, w) r.0) refl where
  same : (b : Bool) → (if b then max (level true) (if b then dead_of m else 0) else (if b then dead_of m else 0)) ≡ (if b then dead_of (max (level r.1) m) else 0)
  same true = ap (λ (n : ℕ). max n (dead_of m)) (dead-level true r.1) ∙ sym (dead-max (level r.1) m)
  same false = refl

  apart : (b c : Bool) → (if b then max 0 (if c then dead_of m else 0) else (if c then dead_of m else 0)) ≡ (if c then dead_of (max 0 m) else 0)
  apart true true = sym (dead-max 0 m)
  apart true false = refl
  apart false true = zero (dead_of m) ∙ sym (dead-max 0 m) where
    zero : (n : ℕ) → n ≡ max 0 n
    zero n = omega arith
  apart false false = refl

  choose : (b : Bool) → eq_by_cmp key_cmp (u, w) r.0 ≡ b
      → (if is_of v r then max (if b then level true else 0) (if eq_by_cmp val_cmp v u then dead_of m else 0) else (if eq_by_cmp val_cmp v u then dead_of m else 0))
      ≡ (if eq_by_cmp val_cmp v u then dead_of (max (if b then level r.1 else 0) m) else 0)
  choose true e = subst (λ (z : Val). (if eq_by_cmp val_cmp v z then max (level true) (if eq_by_cmp val_cmp v u then dead_of m else 0) else (if eq_by_cmp val_cmp v u then dead_of m else 0))
      ≡ (if eq_by_cmp val_cmp v u then dead_of (max (level r.1) m) else 0)) (ap (λ (k : Key). k.0) (key_exact (u, w) r.0 (is-Equal (key_cmp (u, w) r.0) e))) (same (eq_by_cmp val_cmp v u))
  choose false e = apart (is_of v r) (eq_by_cmp val_cmp v u)

pub remove-mark : (v : Val) (s : List Row) (u : Val) (w : Tok) → mark (remove_delta v s) u w ≡ (if eq_by_cmp val_cmp v u then dead_of (mark s u w) else 0)
remove-mark v [] u w = elim (eq_by_cmp val_cmp v u) as (λ b. ◌≡◌ {A = ℕ} 0 (if b then 0 else 0)) [ true ↦ refl | false ↦ refl ]
remove-mark v (r ∷ s) u w =
    elim (is_of v r) as (λ b. mark (map buried (cond b (r ∷ filter (is_of v) s) (filter (is_of v) s))) u w ≡ (if b then max (row_mark (buried r) u w) (mark (remove_delta v s) u w) else mark (remove_delta v s) u w)) [ true ↦ refl | false ↦ refl ]
    ∙ subst (λ (m : ℕ). (if is_of v r then max (row_mark (buried r) u w) m else m) ≡ (if eq_by_cmp val_cmp v u then dead_of (max (row_mark r u w) (mark s u w)) else 0)) (sym (remove-mark v s u w)) (remove-step v u w r (mark s u w))

buried-below : (k : Key) (s : List Row) → IsTrue (below_all key_cmp k s) → IsTrue (below_all key_cmp k (map buried s))
buried-below k [] h = refl
buried-below k (r ∷ s) h = and-both (is_lt (key_cmp k r.0)) (below_all key_cmp k (map buried s)) (and-left (is_lt (key_cmp k r.0)) (below_all key_cmp k s) h) (buried-below k s (and-right (is_lt (key_cmp k r.0)) (below_all key_cmp k s) h))

buried-ascending : (s : List Row) → IsAscending s → IsAscending (map buried s)
buried-ascending [] up = refl
buried-ascending (r ∷ s) up =
    and-both (below_all key_cmp r.0 (map buried s)) (is_sorted key_cmp (map buried s)) (buried-below r.0 s (and-left (below_all key_cmp r.0 s) (is_sorted key_cmp s) up)) (buried-ascending s (and-right (below_all key_cmp r.0 s) (is_sorted key_cmp s) up))

pub remove-ascending : (v : Val) (s : List Row) → IsAscending s → IsAscending (remove_delta v s)
remove-ascending v s up = buried-ascending (filter (is_of v) s) (ascending-kept (is_of v) s up)

-- a remove brings no more rows than there are
pub length-remove_delta : (v : Val) (s : List Row) → length (remove_delta v s) ≤ length s
length-remove_delta v s = omega (arith, length-map (filter (is_of v) s) buried, length-filter_least (is_of v) s)

-- held from the same live rows
pub same-held : (s t : List Row) → IsAscending s → IsAscending t → (v : Val) → ((w : Tok) → mark s v w ≡ mark t v w) → held (visible s) v ≡ held (visible t) v
same-held s t up_s up_t v same = choose (held (visible s) v == 1) refl (held (visible t) v == 1) refl where
  choose : (b : Bool) → (held (visible s) v == 1) ≡ b → (c : Bool) → (held (visible t) v == 1) ≡ c → held (visible s) v ≡ held (visible t) v
  choose true e c g =
      let one : held (visible s) v ≡ 1 = grind (arith, nat_tests, e) in
      let live = (visible-live s up_s v).0 one in
      let other : held (visible t) v ≡ 1 = (visible-live t up_t v).1 (live.0, omega (arith, same live.0, live.1)) in
      omega (arith, one, other)
  choose false e true g =
      let one : held (visible t) v ≡ 1 = grind (arith, nat_tests, g) in
      let live = (visible-live t up_t v).0 one in
      let other : held (visible s) v ≡ 1 = (visible-live s up_s v).1 (live.0, omega (arith, same live.0, live.1)) in
      omega (arith, one, other)
  choose false e false g =
      let not_s : held (visible s) v ≢ 1 = grind (arith, nat_tests, e) in
      let not_t : held (visible t) v ≢ 1 = grind (arith, nat_tests, g) in
      omega (arith, not_s, not_t, held-small (visible s) v, held-small (visible t) v)

dead-not-one : (m : ℕ) → max m (dead_of m) ≡ 1 → ⊥
dead-not-one m h = grind (arith, nat_tests, h)

-- A removed value is not visible.
pub removed : (s : List Row) (v : Val) → IsAscending s → held (visible (join s (remove_delta v s))) v ≡ 0
removed s v up = choose (held (visible (join s (remove_delta v s))) v == 1) refl where
  never : ((w : Tok) × IsLive (join s (remove_delta v s)) v w) → ⊥
  never live =
      let here : mark (remove_delta v s) v live.0 ≡ dead_of (mark s v live.0) = remove-mark v s v live.0 ∙ ap (λ (o : Ordering). if is_eq o then dead_of (mark s v live.0) else 0) (tied_itself val_total v) in
      dead-not-one (mark s v live.0) (ap (λ (n : ℕ). max (mark s v live.0) n) (sym here) ∙ sym (mark-join s (remove_delta v s) v live.0) ∙ live.1)

  choose : (b : Bool) → (held (visible (join s (remove_delta v s))) v == 1) ≡ b → held (visible (join s (remove_delta v s))) v ≡ 0
  choose true e =
      let one : held (visible (join s (remove_delta v s))) v ≡ 1 = grind (arith, nat_tests, e) in
      absurd (never ((visible-live (join s (remove_delta v s)) (ascending-join s (remove_delta v s)) v).0 one))
  choose false e =
      let other : held (visible (join s (remove_delta v s))) v ≢ 1 = grind (arith, nat_tests, e) in
      omega (arith, other, held-small (visible (join s (remove_delta v s))) v)

-- A remove leaves every other value as it was.
pub others-left : (s : List Row) (v u : Val) → IsAscending s → v ≢ u → held (visible (join s (remove_delta v s))) u ≡ held (visible s) u
others-left s v u up apart = same-held (join s (remove_delta v s)) s (ascending-join s (remove_delta v s)) up u (λ w. omega (arith, mark-join s (remove_delta v s) u w, none w)) where
  test : (b : Bool) → eq_by_cmp val_cmp v u ≡ b → (n : ℕ) → (if b then n else 0) ≡ 0
  test true e n = absurd (apart (val_exact v u (is-Equal (val_cmp v u) e)))
  test false e n = refl

  none : (w : Tok) → mark (remove_delta v s) u w ≡ 0
  none w = remove-mark v s u w ∙ test (eq_by_cmp val_cmp v u) refl (dead_of (mark s u w))

-- ---- an add

-- A value added with a token that it has no row with is visible.
pub added : (s : List Row) (v : Val) (replica k : ℕ) → IsAscending s → mark s v (single replica k) ≡ 0 → IsHeld (visible (join s (add_delta v replica k))) v
added s v replica k up fresh =
    let own : row_mark ((v, single replica k), false) v (single replica k) ≡ 1 = ap (λ (b : Bool). if b then 1 else 0) (tied_key (v, single replica k)) in
    (visible-live (join s (add_delta v replica k)) (ascending-join s (add_delta v replica k)) v).1 (single replica k, omega (arith, mark-join s (add_delta v replica k) v (single replica k), own, fresh))

-- An add leaves every other value as it was.
pub others-kept : (s : List Row) (v u : Val) (replica k : ℕ) → IsAscending s → v ≢ u → held (visible (join s (add_delta v replica k))) u ≡ held (visible s) u
others-kept s v u replica k up apart =
    same-held (join s (add_delta v replica k)) s (ascending-join s (add_delta v replica k)) up u (λ w. omega (arith, mark-join s (add_delta v replica k) u w, none w)) where
      test : (w : Tok) (b : Bool) → eq_by_cmp key_cmp (u, w) (v, single replica k) ≡ b → ◌≡◌ {A = ℕ} (if b then 1 else 0) 0
      test w true e = absurd (apart (sym (ap (λ (l : Key). l.0) (key_exact (u, w) (v, single replica k) (is-Equal (key_cmp (u, w) (v, single replica k)) e)))))
      test w false e = refl

      none : (w : Tok) → row_mark ((v, single replica k), false) u w ≡ 0
      none w = test w (eq_by_cmp key_cmp (u, w) (v, single replica k)) refl

-- A remove that does not observe an add leaves it: the value stays visible.
pub concurrent-add : (s : List Row) (v : Val) (replica k : ℕ) → IsAscending s → mark s v (single replica k) ≡ 0 → IsHeld (visible (join (join s (remove_delta v s)) (add_delta v replica k))) v
concurrent-add s v replica k up fresh =
    added (join s (remove_delta v s)) v replica k (ascending-join s (remove_delta v s))
    (mark-join s (remove_delta v s) v (single replica k) ∙ (λ i. max (fresh i) (gone i))) where
      gone : mark (remove_delta v s) v (single replica k) ≡ 0
      gone = remove-mark v s v (single replica k) ∙ ap (λ (m : ℕ). if eq_by_cmp val_cmp v v then dead_of m else 0) fresh ∙ none (eq_by_cmp val_cmp v v) where
        none : (b : Bool) → (if b then dead_of 0 else 0) ≡ 0
        none true = refl
        none false = refl

-- ---- a change

-- A value with a row is among the rows' values.
pub row-value : (s : List Row) (v : Val) (w : Tok) → HasRow s v w → IsHeld (map (λ r. r.0.0) s) v
row-value [] v w h = absurd (omega (arith, h))
row-value (r ∷ s) v w h = choose (λ g. row-value s v w g) (eq_by_cmp key_cmp (v, w) r.0) refl where
  choose : (HasRow s v w → IsHeld (map (λ r. r.0.0) s) v) → (b : Bool) → eq_by_cmp key_cmp (v, w) r.0 ≡ b → IsHeld (map (λ r. r.0.0) (r ∷ s)) v
  choose later true e =
      let same = ap (λ (k : Key). k.0) (key_exact (v, w) r.0 (is-Equal (key_cmp (v, w) r.0) e)) in
      let one : is_value r.0.0 v ≡ 1 = subst (λ (z : Val). is_value z v ≡ 1) same (held-here v) in
      omega (arith, one, held-small (map (λ r. r.0.0) s) v)
  choose later false e =
      let none : row_mark r v w ≡ 0 = ap (λ (b : Bool). if b then level r.1 else 0) e in
      omega (arith, later (omega (arith, none, h)), is-small (eq_by_cmp val_cmp v r.0.0)) where
        is-small : (b : Bool) → (if b then 1 else 0) ≤ 1
        is-small true = omega arith
        is-small false = omega arith

changed-none : (m n c : ℕ) → m ≤ n → c ≡ (if nat_lt m n then n else 0) → c ≡ 0 → m ≡ n
changed-none m n c a e z = grind (arith, nat_tests, a, e, z)

-- A value that only one of a state and a greater one shows is among the values of the changed rows.
pub changed-values : (s t : List Row) → IsAscending s → IsAscending t → IsAtMost s t → (v : Val) → held (visible s) v ≢ held (visible t) v → IsHeld (row_values (changed s t)) v
changed-values s t up_s up_t a v differ = held-of_values (map (λ r. r.0.0) (changed s t)) v ∙ choose (held (map (λ r. r.0.0) (changed s t)) v == 1) refl where
  choose : (b : Bool) → (held (map (λ r. r.0.0) (changed s t)) v == 1) ≡ b → held (map (λ r. r.0.0) (changed s t)) v ≡ 1
  choose true e = grind (arith, nat_tests, e)
  choose false e =
      let other : held (map (λ r. r.0.0) (changed s t)) v ≢ 1 = grind (arith, nat_tests, e) in
      absurd (differ (same-held s t up_s up_t v (λ w. changed-none (mark s v w) (mark t v w) (mark (changed s t) v w) (a v w) (changed-mark s t v w) (none other w (nat_lt 0 (mark (changed s t) v w)) refl)))) where
        none : held (map (λ r. r.0.0) (changed s t)) v ≢ 1 → (w : Tok) (b : Bool) → nat_lt 0 (mark (changed s t) v w) ≡ b → mark (changed s t) v w ≡ 0
        none other w true g = absurd (other (row-value (changed s t) v w (grind (arith, nat_tests, g))))
        none other w false g = grind (arith, nat_tests, g)

pub ruleset updates = (remove-mark, remove-ascending, removed, others-left, added, others-kept, concurrent-add)

pub ruleset change_values = (changed-values)
