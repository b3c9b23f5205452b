-- What an add, a remove and a join make of a node's live rows and counts is what they make of its set without tombstones.
use Rattle.std.proofs.Common.{◌≡◌, ℕ, ◌+◌, ◌≤◌, ◌<◌, max, Bool, true, false, cond, not, ◌||◌, nat_lt, ◌==◌, if◌then◌else◌, List, [], ◌∷◌, length, filter, refl, sym, ap, subst, ◌∙◌, arith}
use Rattle.std.proofs.lemmas.Bool.Decides.{nat_tests}
use Rattle.std.proofs.lemmas.List.{length-set}
use Rattle.std.specs.Ordering.{eq_by_cmp}
use Rattle.std.specs.FinMap.Entries.{is_sorted, below_all}
use Rattle.model_values.specs.Value.{Val, val_cmp}
use Rattle.model_values.specs.Token.{Tok, single, both}
use Rattle.model_values.specs.Row.{Key, Row, key_cmp, key_exact}
use Rattle.model_sets.specs.Rows.{level, row_mark, mark, HasRow, IsAscending, put, join, is_of, add_delta, remove_delta}
use Rattle.model_sets.specs.Values.{of_values, live_values, visible}
use Rattle.model_sets.proofs.RowLaws.{and-left, and-right, is-Equal, mark-small, mark-below, mark-join, mark-put, same_from_mark, ascending-join, ascending-put}
use Rattle.model_sets.proofs.EquationLaws.{ascending-kept}
use Rattle.model_sets.proofs.UpdateLaws.{dead_of, remove-mark}
use Rattle.model_states.specs.Counts.{count_at, larger}
use Rattle.model_states.proofs.CountLaws.{count_at-set}
use Rattle.model_dots.specs.Dots.{Dots, count_limit, is_counted, IsGiven, IsState, kept, join_dots, raised, add_dot, remove_dots, dots_of, AreGiven, HasWhatIsCounted}
use Rattle.model_dots.proofs.DotLaws.{keep-mark, rows-join, given-counted}

-- ---- counts

pub raised-at : (counts : List ℕ) (node q : ℕ) → node < length counts → count_at (raised counts node) q ≡ (if q == node then count_at counts node + 1 else count_at counts q)
raised-at counts node q low = count_at-set counts node (count_at counts node + 1) q low

pub raised-more : (counts : List ℕ) (node q : ℕ) → node < length counts → count_at counts q ≤ count_at (raised counts node) q
raised-more counts node q low = choose (q == node) refl where
  choose : (b : Bool) → (q == node) ≡ b → count_at counts q ≤ count_at (raised counts node) q
  choose true e =
      let here : q ≡ node = grind (arith, nat_tests, e) in
      omega (arith, raised-at counts node q low, ap (λ (b : Bool). if b then count_at counts node + 1 else count_at counts q) e, ap (λ (p : ℕ). count_at counts p) here)
  choose false e = omega (arith, raised-at counts node q low, ap (λ (b : Bool). if b then count_at counts node + 1 else count_at counts q) e)

pub raised-own : (counts : List ℕ) (node : ℕ) → node < length counts → count_at (raised counts node) node ≡ count_at counts node + 1
raised-own counts node low = raised-at counts node node low ∙ ap (λ (b : Bool). if b then count_at counts node + 1 else count_at counts node) (let same : (node == node) ≡ true = grind (arith, nat_tests) in same)

raised-small : (counts : List ℕ) (node : ℕ) → node < length counts → count_at counts node < count_limit → ((q : ℕ) → count_at counts q ≤ count_limit) → (q : ℕ) → count_at (raised counts node) q ≤ count_limit
raised-small counts node low more small q = subst (λ (n : ℕ). n ≤ count_limit) (sym (raised-at counts node q low)) (choose (q == node)) where
  choose : (b : Bool) → (if b then count_at counts node + 1 else count_at counts q) ≤ count_limit
  choose true = omega (arith, more)
  choose false = small q

pub given-raised : (counts : List ℕ) (node : ℕ) (w : Tok) → node < length counts → IsGiven counts w → IsGiven (raised counts node) w
given-raised counts node (single q k) low h = (h.0, omega (arith, h.1, raised-more counts node q low))
given-raised counts node (both w u) low h = absurd h

-- ---- adds and removes lead to states

pub new-mark : (v u : Val) (w t : Tok) → (0 < row_mark ((v, t), false) u w) → w ≡ t
new-mark v u w t h = choose (eq_by_cmp key_cmp (u, w) (v, t)) refl where
  choose : (b : Bool) → eq_by_cmp key_cmp (u, w) (v, t) ≡ b → w ≡ t
  choose true e = ap (λ (k : Key). k.1) (key_exact (u, w) (v, t) (is-Equal (key_cmp (u, w) (v, t)) e))
  choose false e = absurd (omega (arith, h, (let none : row_mark ((v, t), false) u w ≡ 0 = ap (λ (b : Bool). if b then 1 else 0) e in none)))

new-small : (b : Bool) → (if b then 1 else 0) ≤ 1
new-small true = omega arith
new-small false = omega arith

pub state-add : (v : Val) (node : ℕ) (s : Dots) → IsState s → node < length s.counts → count_at s.counts node < count_limit → IsState (add_dot v node s)
state-add v node s h low more = record {
  ascends = ascending-put r s.rows h.ascends;
  live = λ u w. omega (arith, mark-put r s.rows u w, h.live u w, new-small (eq_by_cmp key_cmp (u, w) r.0));
  given = given;
  some = omega (arith, length-set s.counts node (count_at s.counts node + 1), h.some);
  few = omega (arith, length-set s.counts node (count_at s.counts node + 1), h.few);
  small = raised-small s.counts node low more h.small;
} where
  r : Row
  r = ((v, single node (count_at s.counts node + 1)), false)

  given : (u : Val) (w : Tok) → HasRow (put r s.rows) u w → IsGiven (raised s.counts node) w
  given u w some = choose (mark s.rows u w == 0) refl where
    choose : (b : Bool) → (mark s.rows u w == 0) ≡ b → IsGiven (raised s.counts node) w
    choose false e = given-raised s.counts node w low (h.given u w (grind (arith, nat_tests, e)))
    choose true e =
        let none : mark s.rows u w ≡ 0 = grind (arith, nat_tests, e) in
        subst (IsGiven (raised s.counts node)) (sym (new-mark v u w (single node (count_at s.counts node + 1)) (omega (arith, some, mark-put r s.rows u w, none))))
        (omega arith, omega (arith, raised-own s.counts node low))

-- a row that isn't of the value
abbrev pub is_other : Val → Key → Bool
is_other v k = not (eq_by_cmp val_cmp v k.0)

pub remove-rows : (v : Val) (s : List Row) (u : Val) (w : Tok) → mark (filter (λ r. not (is_of v r)) s) u w ≡ (if is_other v (u, w) then mark s u w else 0)
remove-rows v s u w = keep-mark (is_other v) s u w

pub if-most : (b : Bool) (m : ℕ) → (if b then m else 0) ≤ m
if-most true m = omega arith
if-most false m = omega arith

pub state-remove : (v : Val) (node : ℕ) (s : Dots) → IsState s → node < length s.counts → count_at s.counts node < count_limit → IsState (remove_dots v node s)
state-remove v node s h low more = record {
  ascends = ascending-kept (λ r. not (is_of v r)) s.rows h.ascends;
  live = λ u w. omega (arith, remove-rows v s.rows u w, if-most (is_other v (u, w)) (mark s.rows u w), h.live u w);
  given = λ u w some. given-raised s.counts node w low (h.given u w (omega (arith, some, remove-rows v s.rows u w, if-most (is_other v (u, w)) (mark s.rows u w))));
  some = omega (arith, length-set s.counts node (count_at s.counts node + 1), h.some);
  few = omega (arith, length-set s.counts node (count_at s.counts node + 1), h.few);
  small = raised-small s.counts node low more h.small;
}

-- ---- live rows

-- what is left of a mark
abbrev pub live_of : ℕ → ℕ
live_of m = if m == 1 then 1 else 0

live-step : (b d : Bool) (m n : ℕ) → n ≡ live_of m → (b ≡ true → m ≡ 0) → (if not d then max (if b then level d else 0) n else n) ≡ live_of (max (if b then level d else 0) m)
live-step true true m n e none = grind (arith, nat_tests, e, none refl)
live-step true false m n e none = grind (arith, nat_tests, e, none refl)
live-step false true m n e none = grind (arith, nat_tests, e)
live-step false false m n e none = grind (arith, nat_tests, e)

-- the live rows of ascending ones, by marks
pub live-mark : (s : List Row) → IsAscending s → (v : Val) (w : Tok) → mark (filter (λ r. not r.1) s) v w ≡ live_of (mark s v w)
live-mark [] up v w = refl
live-mark (r ∷ s) up v w =
    elim (not r.1) as (λ b. mark (cond b (r ∷ filter (λ r. not r.1) s) (filter (λ r. not r.1) s)) v w ≡ (if b then max (row_mark r v w) (mark (filter (λ r. not r.1) s) v w) else mark (filter (λ r. not r.1) s) v w)) [
      | true ↦ refl
      | false ↦ refl
    ]
    ∙ live-step (eq_by_cmp key_cmp (v, w) r.0) r.1 (mark s v w) (mark (filter (λ r. not r.1) s) v w) (live-mark s (and-right (below_all key_cmp r.0 s) (is_sorted key_cmp s) up) v w)
    (λ e. subst (λ (k : Key). mark s k.0 k.1 ≡ 0) (sym (key_exact (v, w) r.0 (is-Equal (key_cmp (v, w) r.0) e))) (mark-below r.0 s (and-left (below_all key_cmp r.0 s) (is_sorted key_cmp s) up)))

pub live-visible : (s : List Row) → visible (filter (λ r. not r.1) s) ≡ visible s
live-visible s = ap of_values (values s) where
  values : (t : List Row) → live_values (filter (λ r. not r.1) t) ≡ live_values t
  values [] = refl
  values ((k, true) ∷ t) = values t
  values ((k, false) ∷ t) = ap (λ (vs : List Val). k.0 ∷ vs) (values t)

-- ---- what the updates and the join make

add-numbers : (b : Bool) (m : ℕ) → (b ≡ true → m ≡ 0) → live_of (max m (max (if b then 1 else 0) 0)) ≡ max (if b then 1 else 0) (live_of m)
add-numbers true m h = grind (arith, nat_tests, h refl)
add-numbers false m h = grind (arith, nat_tests)

pub stands-add : (v : Val) (node : ℕ) (rows : List Row) (counts : List ℕ) → IsAscending rows → AreGiven rows counts
    → dots_of (join rows (add_delta v node (count_at counts node + 1))) (raised counts node) ≡ add_dot v node (dots_of rows counts)
stands-add v node rows counts up given = λ i. record { rows = same i; counts = raised counts node } where
  t : Tok
  t = single node (count_at counts node + 1)

  fresh : (u : Val) (w : Tok) → eq_by_cmp key_cmp (u, w) (v, t) ≡ true → mark rows u w ≡ 0
  fresh u w e = subst (λ (k : Key). mark rows k.0 k.1 ≡ 0) (sym (key_exact (u, w) (v, t) (is-Equal (key_cmp (u, w) (v, t)) e))) (choose (mark rows v t == 0) refl) where
    choose : (b : Bool) → (mark rows v t == 0) ≡ b → mark rows v t ≡ 0
    choose true e = grind (arith, nat_tests, e)
    choose false e = absurd (omega (arith, (given v t (grind (arith, nat_tests, e))).1))

  same : filter (λ r. not r.1) (join rows (add_delta v node (count_at counts node + 1))) ≡ put ((v, t), false) (filter (λ r. not r.1) rows)
  same = same_from_mark (filter (λ r. not r.1) (join rows (add_delta v node (count_at counts node + 1)))) (put ((v, t), false) (filter (λ r. not r.1) rows))
      (ascending-kept (λ r. not r.1) (join rows (add_delta v node (count_at counts node + 1))) (ascending-join rows (add_delta v node (count_at counts node + 1))))
      (ascending-put ((v, t), false) (filter (λ r. not r.1) rows) (ascending-kept (λ r. not r.1) rows up))
      (λ u w. live-mark (join rows (add_delta v node (count_at counts node + 1))) (ascending-join rows (add_delta v node (count_at counts node + 1))) u w
      ∙ ap live_of (mark-join rows (add_delta v node (count_at counts node + 1)) u w)
      ∙ add-numbers (eq_by_cmp key_cmp (u, w) (v, t)) (mark rows u w) (fresh u w)
      ∙ ap (max (row_mark ((v, t), false) u w)) (sym (live-mark rows up u w))
      ∙ sym (mark-put ((v, t), false) (filter (λ r. not r.1) rows) u w))

remove-numbers : (b : Bool) (m : ℕ) → live_of (max m (if b then dead_of m else 0)) ≡ (if not b then live_of m else 0)
remove-numbers true m = grind (arith, nat_tests)
remove-numbers false m = grind (arith, nat_tests)

pub stands-remove : (v : Val) (node : ℕ) (rows : List Row) (counts : List ℕ) → IsAscending rows
    → dots_of (join rows (remove_delta v rows)) (raised counts node) ≡ remove_dots v node (dots_of rows counts)
stands-remove v node rows counts up = λ i. record { rows = same i; counts = raised counts node } where
  same : filter (λ r. not r.1) (join rows (remove_delta v rows)) ≡ filter (λ r. not (is_of v r)) (filter (λ r. not r.1) rows)
  same = same_from_mark (filter (λ r. not r.1) (join rows (remove_delta v rows))) (filter (λ r. not (is_of v r)) (filter (λ r. not r.1) rows))
      (ascending-kept (λ r. not r.1) (join rows (remove_delta v rows)) (ascending-join rows (remove_delta v rows)))
      (ascending-kept (λ r. not (is_of v r)) (filter (λ r. not r.1) rows) (ascending-kept (λ r. not r.1) rows up))
      (λ u w. live-mark (join rows (remove_delta v rows)) (ascending-join rows (remove_delta v rows)) u w
      ∙ ap live_of (mark-join rows (remove_delta v rows) u w ∙ ap (max (mark rows u w)) (remove-mark v rows u w))
      ∙ remove-numbers (eq_by_cmp val_cmp v u) (mark rows u w)
      ∙ ap (λ (m : ℕ). if is_other v (u, w) then m else 0) (sym (live-mark rows up u w))
      ∙ sym (remove-rows v (filter (λ r. not r.1) rows) u w))

-- m and n tell the rows, b and c whether the update is counted
join-numbers : (b c : Bool) (m n : ℕ) → m ≤ 2 → n ≤ 2 → (0 < m → b ≡ true) → (0 < n → c ≡ true) → (0 < n → b ≡ true → 0 < m) → (0 < m → c ≡ true → 0 < n)
    → live_of (max m n) ≡ max (if not c || nat_lt 0 (live_of n) then live_of m else 0) (if not b || nat_lt 0 (live_of m) then live_of n else 0)
join-numbers b c m n x y p q f g = choose (m == 0) (n == 0) refl refl where
  choose : (d e : Bool) → (m == 0) ≡ d → (n == 0) ≡ e
      → live_of (max m n) ≡ max (if not c || nat_lt 0 (live_of n) then live_of m else 0) (if not b || nat_lt 0 (live_of m) then live_of n else 0)
  choose true true h k = grind (arith, nat_tests, h, k)
  choose true false h k = at b c (q (grind (arith, nat_tests, k))) (f (grind (arith, nat_tests, k))) where
    at : (b c : Bool) → c ≡ true → (b ≡ true → 0 < m) → live_of (max m n) ≡ max (if not c || nat_lt 0 (live_of n) then live_of m else 0) (if not b || nat_lt 0 (live_of m) then live_of n else 0)
    at true c e z = absurd (let some : 0 < m = z refl in grind (arith, nat_tests, h, some))
    at false c e z = grind (arith, nat_tests, h, k)
  choose false true h k = at b c (p (grind (arith, nat_tests, h))) (g (grind (arith, nat_tests, h))) where
    at : (b c : Bool) → b ≡ true → (c ≡ true → 0 < n) → live_of (max m n) ≡ max (if not c || nat_lt 0 (live_of n) then live_of m else 0) (if not b || nat_lt 0 (live_of m) then live_of n else 0)
    at b true e z = absurd (let some : 0 < n = z refl in grind (arith, nat_tests, k, some))
    at b false e z = grind (arith, nat_tests, h, k)
  choose false false h k = at b c (p (grind (arith, nat_tests, h))) (q (grind (arith, nat_tests, k))) where
    at : (b c : Bool) → b ≡ true → c ≡ true → live_of (max m n) ≡ max (if not c || nat_lt 0 (live_of n) then live_of m else 0) (if not b || nat_lt 0 (live_of m) then live_of n else 0)
    at true true e z = grind (arith, nat_tests, h, k, x, y)
    at true false e z = absurd cc
    at false c e z = absurd cc

pub stands-join : (s : List Row) (c : List ℕ) (t : List Row) (d : List ℕ) → IsAscending s → IsAscending t → AreGiven s c → AreGiven t d → HasWhatIsCounted s c t → HasWhatIsCounted t d s
    → dots_of (join s t) (larger c d) ≡ join_dots (dots_of s c) (dots_of t d)
stands-join s c t d up_s up_t given_s given_t has_s has_t = λ i. record { rows = same i; counts = larger c d } where
  same : filter (λ r. not r.1) (join s t) ≡ (join_dots (dots_of s c) (dots_of t d)).rows
  same = same_from_mark (filter (λ r. not r.1) (join s t)) (join_dots (dots_of s c) (dots_of t d)).rows
      (ascending-kept (λ r. not r.1) (join s t) (ascending-join s t)) (ascending-join (kept (dots_of s c) (dots_of t d)) (kept (dots_of t d) (dots_of s c)))
      (λ v w. live-mark (join s t) (ascending-join s t) v w ∙ ap live_of (mark-join s t v w)
      ∙ join-numbers (is_counted c w) (is_counted d w) (mark s v w) (mark t v w) (mark-small s v w) (mark-small t v w)
      (λ some. given-counted c w (given_s v w some)) (λ some. given-counted d w (given_t v w some)) (has_s v w) (has_t v w)
      ∙ sym (rows-join (dots_of s c) (dots_of t d) v w
      ∙ (λ i. max (if not (is_counted d w) || nat_lt 0 (live-mark t up_t v w i) then live-mark s up_s v w i else 0)
      (if not (is_counted c w) || nat_lt 0 (live-mark s up_s v w i) then live-mark t up_t v w i else 0))))

pub ruleset dots_stand = (stands-add, stands-remove, stands-join, live-visible)
