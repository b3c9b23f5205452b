-- The laws of sets without tombstones: each by marks, and equality last, since states of equal marks and as many nodes are the same.
use Rattle.std.proofs.Common.{◌≡◌, ℕ, ◌≤◌, ◌<◌, max, Bool, true, false, cond, not, ◌||◌, nat_le, nat_lt, ◌==◌, if◌then◌else◌, List, [], ◌∷◌, length, filter, refl, sym, ap, subst, ◌∙◌, arith}
use Rattle.std.proofs.lemmas.Bool.Decides.{nat_tests}
use Rattle.std.specs.Ordering.{eq_by_cmp}
use Rattle.model_values.specs.Value.{Val, text}
use Rattle.model_values.specs.Token.{Tok, single, both}
use Rattle.model_values.specs.Row.{Key, Row, key_cmp, key_exact}
use Rattle.model_sets.specs.Rows.{level, row_mark, mark, HasRow}
use Rattle.model_sets.proofs.RowLaws.{is-Equal, mark-join, same_from_mark, ascending-join}
use Rattle.model_states.specs.Counts.{count_at, zeros, larger}
use Rattle.model_states.proofs.CountLaws.{count_at-larger, length-larger, same_from_counts, count_at-zeros, length-zeros}
use Rattle.model_dots.specs.Dots.{Dots, is_counted, IsGiven, IsState, HaveSameNodes, no_dots, outlives, kept, join_dots, IsAtMost, dot_mark}

-- ---- rows that pass a test of their key

keep-step : (p : Key → Bool) (r : Row) (v : Val) (t : Tok) (m : ℕ)
    → (if p r.0 then max (row_mark r v t) (if p (v, t) then m else 0) else (if p (v, t) then m else 0)) ≡ (if p (v, t) then max (row_mark r v t) m else 0)
keep-step p r v t m =
    elim (eq_by_cmp key_cmp (v, t) r.0) as (λ b. eq_by_cmp key_cmp (v, t) r.0 ≡ b
    → (if p r.0 then max (if b then level r.1 else 0) (if p (v, t) then m else 0) else (if p (v, t) then m else 0)) ≡ (if p (v, t) then max (if b then level r.1 else 0) m else 0)) [
      | true ↦ λ e. subst (λ (k : Key). (if p k then max (level r.1) (if p (v, t) then m else 0) else (if p (v, t) then m else 0)) ≡ (if p (v, t) then max (level r.1) m else 0))
          (key_exact (v, t) r.0 (is-Equal (key_cmp (v, t) r.0) e)) (same (p (v, t)))
      | false ↦ λ e. apart (p r.0) (p (v, t))
    ] refl where
      same : (b : Bool) → (if b then max (level r.1) (if b then m else 0) else (if b then m else 0)) ≡ (if b then max (level r.1) m else 0)
      same true = refl
      same false = refl

      apart : (b c : Bool) → (if b then max 0 (if c then m else 0) else (if c then m else 0)) ≡ (if c then max 0 m else 0)
      apart true true = refl
      apart true false = refl
      apart false true = omega arith
      apart false false = refl

pub keep-mark : (p : Key → Bool) (s : List Row) (v : Val) (t : Tok) → mark (filter (λ r. p r.0) s) v t ≡ (if p (v, t) then mark s v t else 0)
keep-mark p [] v t = elim (p (v, t)) as (λ b. ◌≡◌ {A = ℕ} 0 (if b then 0 else 0)) [ true ↦ refl | false ↦ refl ]
keep-mark p (r ∷ s) v t =
    elim (p r.0) as (λ b. mark (cond b (r ∷ filter (λ r. p r.0) s) (filter (λ r. p r.0) s)) v t ≡ (if b then max (row_mark r v t) (mark (filter (λ r. p r.0) s) v t) else mark (filter (λ r. p r.0) s) v t)) [
      | true ↦ refl
      | false ↦ refl
    ]
    ∙ subst (λ (m : ℕ). (if p r.0 then max (row_mark r v t) m else m) ≡ (if p (v, t) then max (row_mark r v t) (mark s v t) else 0)) (sym (keep-mark p s v t)) (keep-step p r v t (mark s v t))

-- ---- the marks of a join

pub kept-mark : (s t : Dots) (v : Val) (w : Tok) → mark (kept s t) v w ≡ (if outlives t (v, w) then mark s.rows v w else 0)
kept-mark s t v w = keep-mark (outlives t) s.rows v w

pub rows-join : (s t : Dots) (v : Val) (w : Tok) → mark (join_dots s t).rows v w ≡ max (if outlives t (v, w) then mark s.rows v w else 0) (if outlives s (v, w) then mark t.rows v w else 0)
rows-join s t v w = mark-join (kept s t) (kept t s) v w ∙ (λ i. max (kept-mark s t v w i) (kept-mark t s v w i))

either-le : (k m n : ℕ) → nat_le k (max m n) ≡ nat_le k m || nat_le k n
either-le k m n = grind (arith, nat_tests)

pub counted-join : (s t : List ℕ) (w : Tok) → is_counted (larger s t) w ≡ is_counted s w || is_counted t w
counted-join s t (single q k) = ap (nat_le k) (count_at-larger s t q) ∙ either-le k (count_at s q) (count_at t q)
counted-join s t (both w u) = refl

pub given-counted : (counts : List ℕ) (w : Tok) → IsGiven counts w → is_counted counts w ≡ true
given-counted counts (single q k) h = grind (arith, nat_tests, h.1)
given-counted counts (both w u) h = absurd h

uncounted : (m : ℕ) (c : Bool) → (0 < m → c ≡ true) → c ≡ false → m ≡ 0
uncounted m c h e = choose (m == 0) refl where
  choose : (b : Bool) → (m == 0) ≡ b → m ≡ 0
  choose true g = grind (arith, nat_tests, g)
  choose false g = absurd (let yes : c ≡ true = h (grind (arith, nat_tests, g)) in cc)

-- a state has no row of an update that it doesn't count
pub none-uncounted : (s : Dots) → IsState s → (v : Val) (w : Tok) → is_counted s.counts w ≡ false → mark s.rows v w ≡ 0
none-uncounted s h v w = uncounted (mark s.rows v w) (is_counted s.counts w) (λ some. given-counted s.counts w (h.given v w some))

-- the numbers: m and n tell the rows, b and c whether the update is counted
abbrev told : Bool → ℕ → ℕ
told b m = if b then (if m == 0 then 2 else 1) else 0

told-join : (b c : Bool) (m n : ℕ) → m ≤ 1 → n ≤ 1 → (b ≡ false → m ≡ 0) → (c ≡ false → n ≡ 0)
    → told (b || c) (max (if not c || nat_lt 0 n then m else 0) (if not b || nat_lt 0 m then n else 0)) ≡ max (told b m) (told c n)
told-join true true m n x y p q = grind (arith, nat_tests, x, y)
told-join true false m n x y p q = grind (arith, nat_tests, x, y, q refl)
told-join false true m n x y p q = grind (arith, nat_tests, x, y, p refl)
told-join false false m n x y p q = refl

pub dot_mark-join : (s t : Dots) → IsState s → IsState t → (v : Val) (w : Tok) → dot_mark (join_dots s t) v w ≡ max (dot_mark s v w) (dot_mark t v w)
dot_mark-join s t h g v w =
    (λ i. told (counted-join s.counts t.counts w i) (rows-join s t v w i))
    ∙ told-join (is_counted s.counts w) (is_counted t.counts w) (mark s.rows v w) (mark t.rows v w) (h.live v w) (g.live v w) (none-uncounted s h v w) (none-uncounted t g v w)

-- ---- states are told by their marks

counted-from : (s t : Dots) (q k : ℕ) → dot_mark s (text []) (single q k) ≡ dot_mark t (text []) (single q k) → k ≤ count_at s.counts q → k ≤ count_at t.counts q
counted-from s t q k e h = choose (nat_le k (count_at s.counts q)) (nat_le k (count_at t.counts q)) refl refl where
  choose : (b c : Bool) → nat_le k (count_at s.counts q) ≡ b → nat_le k (count_at t.counts q) ≡ c → k ≤ count_at t.counts q
  choose b true f g = grind (arith, nat_tests, g)
  choose false false f g = absurd (grind (arith, nat_tests, f, h))
  choose true false f g = absurd (grind (arith, nat_tests, ap (λ (c : Bool). told c (mark s.rows (text []) (single q k))) (sym f) ∙ e ∙ ap (λ (c : Bool). told c (mark t.rows (text []) (single q k))) g))

told-rows : (b : Bool) (m n : ℕ) → m ≤ 1 → n ≤ 1 → told b m ≡ told b n → (b ≡ false → m ≡ 0) → (b ≡ false → n ≡ 0) → m ≡ n
told-rows true m n x y e p q = grind (arith, nat_tests, x, y, e)
told-rows false m n x y e p q = p refl ∙ sym (q refl)

pub same_from_dot_mark : (s t : Dots) → IsState s → IsState t → HaveSameNodes s t → ((v : Val) (w : Tok) → dot_mark s v w ≡ dot_mark t v w) → s ≡ t
same_from_dot_mark s t h g wide same = λ i. record { rows = rows i; counts = counts i } where
  counts : s.counts ≡ t.counts
  counts = same_from_counts s.counts t.counts wide
      (λ q. omega (
        arith,
        counted-from s t q (count_at s.counts q) (same (text []) (single q (count_at s.counts q))) (omega arith),
        counted-from t s q (count_at t.counts q) (sym (same (text []) (single q (count_at t.counts q)))) (omega arith),
      ))

  rows : s.rows ≡ t.rows
  rows = same_from_mark s.rows t.rows h.ascends g.ascends
      (λ v w.
      let counted : is_counted s.counts w ≡ is_counted t.counts w = ap (λ (c : List ℕ). is_counted c w) counts in
      told-rows (is_counted s.counts w) (mark s.rows v w) (mark t.rows v w) (h.live v w) (g.live v w)
      (same v w ∙ ap (λ (b : Bool). told b (mark t.rows v w)) (sym counted)) (none-uncounted s h v w) (λ e. none-uncounted t g v w (sym counted ∙ e)))

-- ---- joins and least elements are states

pub given-more : (s t : List ℕ) (w : Tok) → ((q : ℕ) → count_at s q ≤ count_at t q) → IsGiven s w → IsGiven t w
given-more s t (single q k) more h = (h.0, omega (arith, h.1, more q))
given-more s t (both w u) more h = absurd h

some-of : (b c : Bool) (m n : ℕ) → 0 < max (if b then m else 0) (if c then n else 0) → n ≡ 0 → 0 < m
some-of true true m n h e = omega (arith, h, e)
some-of true false m n h e = omega (arith, h, e)
some-of false true m n h e = absurd (omega (arith, h, e))
some-of false false m n h e = absurd (omega (arith, h))

small-max : (b c : Bool) (m n k : ℕ) → m ≤ k → n ≤ k → max (if b then m else 0) (if c then n else 0) ≤ k
small-max true true m n k x y = omega (arith, x, y)
small-max true false m n k x y = omega (arith, x)
small-max false true m n k x y = omega (arith, y)
small-max false false m n k x y = omega arith

pub state-join : (s t : Dots) → IsState s → IsState t → HaveSameNodes s t → IsState (join_dots s t)
state-join s t h g wide = record {
  ascends = ascending-join (kept s t) (kept t s);
  live = λ v w. subst (λ (m : ℕ). m ≤ 1) (sym (rows-join s t v w)) (small-max (outlives t (v, w)) (outlives s (v, w)) (mark s.rows v w) (mark t.rows v w) 1 (h.live v w) (g.live v w));
  given = given;
  some = omega (arith, length-larger s.counts t.counts, h.some);
  few = omega (arith, length-larger s.counts t.counts, h.few, g.few);
  small = λ q. omega (arith, count_at-larger s.counts t.counts q, h.small q, g.small q);
} where
  given : (v : Val) (w : Tok) → HasRow (join_dots s t).rows v w → IsGiven (larger s.counts t.counts) w
  given v w some = choose (mark t.rows v w == 0) refl where
    choose : (b : Bool) → (mark t.rows v w == 0) ≡ b → IsGiven (larger s.counts t.counts) w
    choose false e = given-more t.counts (larger s.counts t.counts) w (λ q. omega (arith, count_at-larger s.counts t.counts q)) (g.given v w (grind (arith, nat_tests, e)))
    choose true e =
        given-more s.counts (larger s.counts t.counts) w (λ q. omega (arith, count_at-larger s.counts t.counts q))
        (h.given v w (some-of (outlives t (v, w)) (outlives s (v, w)) (mark s.rows v w) (mark t.rows v w) (subst (λ (m : ℕ). 0 < m) (rows-join s t v w) some) (grind (arith, nat_tests, e))))

pub nodes-join : (s t : Dots) → HaveSameNodes s t → HaveSameNodes s (join_dots s t)
nodes-join s t wide = omega (arith, length-larger s.counts t.counts, wide)

pub nodes-least : (s : Dots) → HaveSameNodes s (no_dots (length s.counts))
nodes-least s = sym (length-zeros (length s.counts))

pub state-least : (s : Dots) → IsState s → IsState (no_dots (length s.counts))
state-least s h = record {
  ascends = refl;
  live = λ v w. omega arith;
  given = λ v w some. absurd (omega (arith, some));
  some = omega (arith, length-zeros (length s.counts), h.some);
  few = omega (arith, length-zeros (length s.counts), h.few);
  small = λ q. omega (arith, count_at-zeros (length s.counts) q);
}

-- ---- the lattice

pub dots-idempotent : (s : Dots) → IsState s → join_dots s s ≡ s
dots-idempotent s h = same_from_dot_mark (join_dots s s) s (state-join s s h h refl) h (sym (nodes-join s s refl)) (λ v w. omega (arith, dot_mark-join s s h h v w))

pub dots-commutative : (s t : Dots) → IsState s → IsState t → HaveSameNodes s t → join_dots s t ≡ join_dots t s
dots-commutative s t h g wide =
    same_from_dot_mark (join_dots s t) (join_dots t s) (state-join s t h g wide) (state-join t s g h (sym wide)) (omega (arith, length-larger s.counts t.counts, length-larger t.counts s.counts))
    (λ v w. omega (arith, dot_mark-join s t h g v w, dot_mark-join t s g h v w))

pub dots-associative : (s t u : Dots) → IsState s → IsState t → IsState u → HaveSameNodes s t → HaveSameNodes t u → join_dots (join_dots s t) u ≡ join_dots s (join_dots t u)
dots-associative s t u h g f wide more =
    same_from_dot_mark (join_dots (join_dots s t) u) (join_dots s (join_dots t u)) (state-join (join_dots s t) u left f (sym (nodes-join s t wide) ∙ wide ∙ more)) (state-join s (join_dots t u) h right (wide ∙ nodes-join t u more))
    (omega (arith, length-larger (larger s.counts t.counts) u.counts, length-larger s.counts t.counts, length-larger s.counts (larger t.counts u.counts), length-larger t.counts u.counts))
    (λ v w. omega (arith, dot_mark-join (join_dots s t) u left f v w, dot_mark-join s t h g v w, dot_mark-join s (join_dots t u) h right v w, dot_mark-join t u g f v w)) where
      left : IsState (join_dots s t)
      left = state-join s t h g wide

      right : IsState (join_dots t u)
      right = state-join t u g f more

-- the order by marks
pub at_most-marks : (s t : Dots) → IsState s → IsState t → IsAtMost s t → (v : Val) (w : Tok) → dot_mark s v w ≤ dot_mark t v w
at_most-marks s t h g e v w = omega (arith, dot_mark-join s t h g v w, ap (λ (z : Dots). dot_mark z v w) e)

pub at_most-from_marks : (s t : Dots) → IsState s → IsState t → HaveSameNodes s t → ((v : Val) (w : Tok) → dot_mark s v w ≤ dot_mark t v w) → IsAtMost s t
at_most-from_marks s t h g wide a =
    same_from_dot_mark (join_dots s t) t (state-join s t h g wide) g (sym (nodes-join s t wide) ∙ wide) (λ v w. omega (arith, dot_mark-join s t h g v w, a v w))

pub dots-transitive : (s t u : Dots) → IsState s → IsState t → IsState u → HaveSameNodes s t → HaveSameNodes t u → IsAtMost s t → IsAtMost t u → IsAtMost s u
dots-transitive s t u h g f wide more a b = at_most-from_marks s u h f (wide ∙ more) (λ v w. omega (arith, at_most-marks s t h g a v w, at_most-marks t u g f b v w))

pub dots-antisymmetric : (s t : Dots) → IsState s → IsState t → HaveSameNodes s t → IsAtMost s t → IsAtMost t s → s ≡ t
dots-antisymmetric s t h g wide a b = same_from_dot_mark s t h g wide (λ v w. omega (arith, at_most-marks s t h g a v w, at_most-marks t s g h b v w))

pub dots-left : (s t : Dots) → IsState s → IsState t → HaveSameNodes s t → IsAtMost s (join_dots s t)
dots-left s t h g wide = at_most-from_marks s (join_dots s t) h (state-join s t h g wide) (nodes-join s t wide) (λ v w. omega (arith, dot_mark-join s t h g v w))

pub dots-right : (s t : Dots) → IsState s → IsState t → HaveSameNodes s t → IsAtMost t (join_dots s t)
dots-right s t h g wide = at_most-from_marks t (join_dots s t) g (state-join s t h g wide) (sym wide ∙ nodes-join s t wide) (λ v w. omega (arith, dot_mark-join s t h g v w))

pub dots-least_upper : (s t u : Dots) → IsState s → IsState t → IsState u → HaveSameNodes s t → HaveSameNodes t u → IsAtMost s u → IsAtMost t u → IsAtMost (join_dots s t) u
dots-least_upper s t u h g f wide more a b =
    at_most-from_marks (join_dots s t) u (state-join s t h g wide) f (sym (nodes-join s t wide) ∙ wide ∙ more)
    (λ v w. omega (arith, dot_mark-join s t h g v w, at_most-marks s u h f a v w, at_most-marks t u g f b v w))

lowest-mark : (s t : Dots) → IsState t → (v : Val) (w : Tok) → dot_mark (no_dots (length s.counts)) v w ≤ dot_mark t v w
lowest-mark s t g v (both w u) = omega arith
lowest-mark s t g v (single q k) = choose (nat_le k (count_at (zeros (length s.counts)) q)) refl where
  choose : (b : Bool) → nat_le k (count_at (zeros (length s.counts)) q) ≡ b → told b 0 ≤ dot_mark t v (single q k)
  choose false e = omega arith
  choose true e =
      let first : k ≡ 0 = grind (arith, nat_tests, e, count_at-zeros (length s.counts) q) in
      let yes : nat_le k (count_at t.counts q) ≡ true = grind (arith, nat_tests, first) in
      let none : mark t.rows v (single q k) ≡ 0 = uncounted (mark t.rows v (single q k)) false (λ some. absurd (omega (arith, first, (g.given v (single q k) some).0))) refl in
      let two : dot_mark t v (single q k) ≡ 2 = λ i. told (yes i) (none i) in
      omega (arith, two)

pub dots-lowest : (s t : Dots) → IsState s → IsState t → HaveSameNodes s t → IsAtMost (no_dots (length s.counts)) t
dots-lowest s t h g wide = at_most-from_marks (no_dots (length s.counts)) t (state-least s h) g (sym (nodes-least s) ∙ wide) (lowest-mark s t g)

pub ruleset dots_lattice = (dots-idempotent, dots-commutative, dots-associative, dots-transitive, dots-antisymmetric, dots-left, dots-right, dots-least_upper, dots-lowest)

pub ruleset dots_told = (same_from_dot_mark, dot_mark-join, at_most-marks, at_most-from_marks)
