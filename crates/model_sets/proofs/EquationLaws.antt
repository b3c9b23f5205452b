-- The laws of the five processes: their marks, that they are monotone, and that they send joins to joins.
use Rattle.std.proofs.Common.{◌≡◌, ℕ, ◌≤◌, ◌<◌, max, Bool, true, false, cond, ◌&&◌, ◌||◌, if◌then◌else◌, nat_lt, IsTrue, List, [], ◌∷◌, ◌++◌, map, filter, flat_map, refl, sym, ap, subst, ◌∙◌, arith}
use Rattle.std.proofs.lemmas.Bool.Decides.{nat_tests}
use Rattle.std.specs.Ordering.{is_eq, is_lt, eq_by_cmp, ordering_then}
use Rattle.std.specs.declared.cmp.Ordering.{Ordering}
use Rattle.std.specs.declared.cmp.Ordering.TheVariants.{Less, Equal, Greater}
use Rattle.std.specs.Cmp.{tied_itself}
use Rattle.std.specs.FinMap.Entries.{is_sorted, below_all}
use Rattle.model_values.specs.Value.{Val, int, text, pair, val_cmp, val_exact, val_total}
use Rattle.model_values.specs.Token.{Tok, single, both, tok_cmp}
use Rattle.model_values.specs.Row.{Key, Row, key_cmp, key_total, key_exact}
use Rattle.model_sets.specs.Rows.{level, row_mark, mark, IsAscending, join, IsAtMost, is_of}
use Rattle.model_sets.specs.Equations.{moved, map_set, filter_set, union_set, paired, product_set, met, intersect_set, both_of, product_mark, intersect_mark, changed}
use Rattle.model_sets.proofs.RowLaws.{and-left, and-right, and-both, is-Equal, mark-append, mark-of_rows, mark-join, mark-small, same_from_mark, ascending-of_rows, ascending-join, join-monotone}

-- ---- tests of keys

pub tied_key : (k : Key) → eq_by_cmp key_cmp k k ≡ true
tied_key k = ap is_eq (tied_itself key_total k)

-- ---- numbers

both_of-max_left : (a b c : ℕ) → both_of (max a b) c ≡ max (both_of a c) (both_of b c)
both_of-max_left a b c = grind (arith, nat_tests)

both_of-max_right : (a b c : ℕ) → both_of a (max b c) ≡ max (both_of a b) (both_of a c)
both_of-max_right a b c = grind (arith, nat_tests)

both_of-monotone : (a b c d : ℕ) → a ≤ b → c ≤ d → both_of a c ≤ both_of b d
both_of-monotone a b c d p q = grind (arith, nat_tests)

both_of-zero : (a : ℕ) → both_of a 0 ≡ 0
both_of-zero a = grind (arith, nat_tests)

-- Two rows in one: each test and each level.
both_of-levels : (e g a b : Bool) → (if e && g then level (a || b) else 0) ≡ both_of (if e then level a else 0) (if g then level b else 0)
both_of-levels false g a b = refl
both_of-levels true false true b = refl
both_of-levels true false false b = refl
both_of-levels true true true true = refl
both_of-levels true true true false = refl
both_of-levels true true false true = refl
both_of-levels true true false false = refl

-- ---- filter

filter_step : (p : Val → Bool) (r : Row) (v : Val) (t : Tok) (m : ℕ) → (if p r.0.0 then max (row_mark r v t) (if p v then m else 0) else (if p v then m else 0)) ≡ (if p v then max (row_mark r v t) m else 0)
filter_step p r v t m =
    elim (eq_by_cmp key_cmp (v, t) r.0) as (λ b. eq_by_cmp key_cmp (v, t) r.0 ≡ b → (if p r.0.0 then max (if b then level r.1 else 0) (if p v then m else 0) else (if p v then m else 0)) ≡ (if p v then max (if b then level r.1 else 0) m else 0)) [
      | true ↦ λ e. subst (λ (u : Val). (if p u then max (level r.1) (if p v then m else 0) else (if p v then m else 0)) ≡ (if p v then max (level r.1) m else 0))
          (ap (λ (k : Key). k.0) (key_exact (v, t) r.0 (is-Equal (key_cmp (v, t) r.0) e))) (same (p v))
      | false ↦ λ e. apart (p r.0.0) (p v)
    ] refl where
      same : (b : Bool) → (if b then max (level r.1) (if b then m else 0) else (if b then m else 0)) ≡ (if b then max (level r.1) m else 0)
      same true = refl
      same false = refl

      apart : (b c : Bool) → (if b then max 0 (if c then m else 0) else (if c then m else 0)) ≡ (if c then max 0 m else 0)
      apart true true = refl
      apart true false = refl
      apart false true = omega arith
      apart false false = refl

pub filter-mark : (p : Val → Bool) (x : List Row) (v : Val) (t : Tok) → mark (filter_set p x) v t ≡ (if p v then mark x v t else 0)
filter-mark p [] v t = elim (p v) as (λ b. ◌≡◌ {A = ℕ} 0 (if b then 0 else 0)) [ true ↦ refl | false ↦ refl ]
filter-mark p (r ∷ x) v t =
    elim (p r.0.0) as (λ b. mark (cond b (r ∷ filter_set p x) (filter_set p x)) v t ≡ (if b then max (row_mark r v t) (mark (filter_set p x) v t) else mark (filter_set p x) v t)) [ true ↦ refl | false ↦ refl ]
    ∙ subst (λ (m : ℕ). (if p r.0.0 then max (row_mark r v t) m else m) ≡ (if p v then max (row_mark r v t) (mark x v t) else 0)) (sym (filter-mark p x v t)) (filter_step p r v t (mark x v t))

-- Rows that are left of ascending ones ascend.
pub below-kept : (test : Row → Bool) (k : Key) (s : List Row) → IsTrue (below_all key_cmp k s) → IsTrue (below_all key_cmp k (filter test s))
below-kept test k [] h = refl
below-kept test k (r ∷ s) h =
    let rest = below-kept test k s (and-right (is_lt (key_cmp k r.0)) (below_all key_cmp k s) h) in
    elim (test r) as (λ b. IsTrue (below_all key_cmp k (cond b (r ∷ filter test s) (filter test s)))) [
      | true ↦ and-both (is_lt (key_cmp k r.0)) (below_all key_cmp k (filter test s)) (and-left (is_lt (key_cmp k r.0)) (below_all key_cmp k s) h) rest
      | false ↦ rest
    ]

pub ascending-kept : (test : Row → Bool) (s : List Row) → IsAscending s → IsAscending (filter test s)
ascending-kept test [] up = refl
ascending-kept test (r ∷ s) up =
    let rest = ascending-kept test s (and-right (below_all key_cmp r.0 s) (is_sorted key_cmp s) up) in
    elim (test r) as (λ b. IsAscending (cond b (r ∷ filter test s) (filter test s))) [
      | true ↦ and-both (below_all key_cmp r.0 (filter test s)) (is_sorted key_cmp (filter test s)) (below-kept test r.0 s (and-left (below_all key_cmp r.0 s) (is_sorted key_cmp s) up)) rest
      | false ↦ rest
    ]

pub filter-ascending : (p : Val → Bool) (x : List Row) → IsAscending x → IsAscending (filter_set p x)
filter-ascending p x up = ascending-kept (λ r. p r.0.0) x up

pub filter-monotone : (p : Val → Bool) (x y : List Row) → IsAtMost x y → IsAtMost (filter_set p x) (filter_set p y)
filter-monotone p x y a v t =
    subst (λ (m : ℕ). m ≤ mark (filter_set p y) v t) (sym (filter-mark p x v t)) (subst (λ (m : ℕ). (if p v then mark x v t else 0) ≤ m) (sym (filter-mark p y v t)) (at (p v))) where
      at : (b : Bool) → (if b then mark x v t else 0) ≤ (if b then mark y v t else 0)
      at true = a v t
      at false = omega arith

pub filter-join : (p : Val → Bool) (x y : List Row) → IsAscending x → IsAscending y → filter_set p (join x y) ≡ join (filter_set p x) (filter_set p y)
filter-join p x y up_x up_y = same_from_mark (filter_set p (join x y)) (join (filter_set p x) (filter_set p y)) (filter-ascending p (join x y) (ascending-join x y)) (ascending-join (filter_set p x) (filter_set p y))
    (λ v t. filter-mark p (join x y) v t ∙ at v t (p v) ∙ sym (mark-join (filter_set p x) (filter_set p y) v t ∙ (λ i. max (filter-mark p x v t i) (filter-mark p y v t i)))) where
      at : (v : Val) (t : Tok) (b : Bool) → (if b then mark (join x y) v t else 0) ≡ max (if b then mark x v t else 0) (if b then mark y v t else 0)
      at v t true = mark-join x y v t
      at v t false = refl

-- ---- map

-- The mark of the moved rows is at least that of the value that was moved.
pub map-ge : (f : Val → Val) (x : List Row) (u : Val) (t : Tok) → mark x u t ≤ mark (map (moved f) x) (f u) t
map-ge f [] u t = omega arith
map-ge f (r ∷ x) u t = omega (arith, step, map-ge f x u t) where
  step : row_mark r u t ≤ row_mark (moved f r) (f u) t
  step = elim (eq_by_cmp key_cmp (u, t) r.0) as (λ b. eq_by_cmp key_cmp (u, t) r.0 ≡ b → (if b then level r.1 else 0) ≤ row_mark (moved f r) (f u) t) [
    | true ↦ λ e. subst (λ (k : Key). level r.1 ≤ row_mark (moved f r) (f k.0) k.1) (sym (key_exact (u, t) r.0 (is-Equal (key_cmp (u, t) r.0) e)))
        (subst (λ (b : Bool). level r.1 ≤ (if b then level r.1 else 0)) (sym (tied_key (f r.0.0, r.0.1))) (omega arith))
    | false ↦ λ e. omega arith
  ] refl

-- What bounds each value's mark bounds that of what it is moved to.
pub map-le : (f : Val → Val) (x : List Row) (w : Val) (t : Tok) (n : ℕ) → ((u : Val) → f u ≡ w → mark x u t ≤ n) → mark (map (moved f) x) w t ≤ n
map-le f [] w t n h = omega arith
map-le f (r ∷ x) w t n h = omega (arith, step, map-le f x w t n (λ u e. omega (arith, h u e))) where
  step : row_mark (moved f r) w t ≤ n
  step = elim (eq_by_cmp key_cmp (w, t) (f r.0.0, r.0.1)) as (λ b. eq_by_cmp key_cmp (w, t) (f r.0.0, r.0.1) ≡ b → (if b then level r.1 else 0) ≤ n) [
    | true ↦ λ e.
        let k = key_exact (w, t) (f r.0.0, r.0.1) (is-Equal (key_cmp (w, t) (f r.0.0, r.0.1)) e) in
        let own : row_mark r r.0.0 r.0.1 ≡ level r.1 = ap (λ (b : Bool). if b then level r.1 else 0) (tied_key r.0) in
        let bound : max (row_mark r r.0.0 r.0.1) (mark x r.0.0 r.0.1) ≤ n = subst (λ (s : Tok). max (row_mark r r.0.0 s) (mark x r.0.0 s) ≤ n) (ap (λ (q : Key). q.1) k) (h r.0.0 (sym (ap (λ (q : Key). q.0) k))) in
        omega (arith, own, bound)
    | false ↦ λ e. omega arith
  ] refl

-- A mark of the moved rows comes from some value.
pub map-from : (f : Val → Val) (x : List Row) (w : Val) (t : Tok) (n : ℕ) → 0 < n → n ≤ mark (map (moved f) x) w t → (u : Val) × (f u ≡ w) × (n ≤ mark x u t)
map-from f [] w t n pos h = absurd (omega (arith, pos, h))
map-from f (r ∷ x) w t n pos h = choose (λ g. map-from f x w t n pos g) (eq_by_cmp key_cmp (w, t) (f r.0.0, r.0.1)) refl (nat_lt (level r.1) n) refl where
  choose : (n ≤ mark (map (moved f) x) w t → (u : Val) × (f u ≡ w) × (n ≤ mark x u t)) → (b : Bool) → eq_by_cmp key_cmp (w, t) (f r.0.0, r.0.1) ≡ b → (c : Bool) → nat_lt (level r.1) n ≡ c → (u : Val) × (f u ≡ w) × (n ≤ mark (r ∷ x) u t)
  choose later false e c g =
      let none : row_mark (moved f r) w t ≡ 0 = ap (λ (b : Bool). if b then level r.1 else 0) e in
      let found = later (omega (arith, none, h)) in
      (found.0, found.1, omega (arith, found.2))
  choose later true e true g =
      let own : row_mark (moved f r) w t ≡ level r.1 = ap (λ (b : Bool). if b then level r.1 else 0) e in
      let found = later (grind (arith, nat_tests, own, h, g)) in
      (found.0, found.1, omega (arith, found.2))
  choose later true e false g =
      let k = key_exact (w, t) (f r.0.0, r.0.1) (is-Equal (key_cmp (w, t) (f r.0.0, r.0.1)) e) in
      let own : row_mark r r.0.0 r.0.1 ≡ level r.1 = ap (λ (b : Bool). if b then level r.1 else 0) (tied_key r.0) in
      (r.0.0, sym (ap (λ (q : Key). q.0) k), subst (λ (s : Tok). n ≤ max (row_mark r r.0.0 s) (mark x r.0.0 s)) (sym (ap (λ (q : Key). q.1) k)) (grind (arith, nat_tests, own, g)))

-- Rows of the same marks are moved to rows of the same marks.
map-alike : (f : Val → Val) (x y : List Row) → ((v : Val) (t : Tok) → mark x v t ≡ mark y v t) → (w : Val) (t : Tok) → mark (map (moved f) x) w t ≡ mark (map (moved f) y) w t
map-alike f x y same w t =
    omega (
      arith,
      map-le f x w t (mark (map (moved f) y) w t) (λ u e. subst (λ (z : Val). mark x u t ≤ mark (map (moved f) y) z t) e (omega (arith, same u t, map-ge f y u t))),
      map-le f y w t (mark (map (moved f) x) w t) (λ u e. subst (λ (z : Val). mark y u t ≤ mark (map (moved f) x) z t) e (omega (arith, same u t, map-ge f x u t))),
    )

map-rows-append : (f : Val → Val) (x y : List Row) → map (moved f) (x ++ y) ≡ map (moved f) x ++ map (moved f) y
map-rows-append f [] y = refl
map-rows-append f (r ∷ x) y = ap (λ rest. moved f r ∷ rest) (map-rows-append f x y)

pub map-mark : (f : Val → Val) (x : List Row) (w : Val) (t : Tok) → mark (map_set f x) w t ≡ mark (map (moved f) x) w t
map-mark f x w t = mark-of_rows (map (moved f) x) w t

pub map-monotone : (f : Val → Val) (x y : List Row) → IsAtMost x y → IsAtMost (map_set f x) (map_set f y)
map-monotone f x y a w t =
    omega (arith, map-mark f x w t, map-mark f y w t, map-le f x w t (mark (map (moved f) y) w t) (λ u e. subst (λ (z : Val). mark x u t ≤ mark (map (moved f) y) z t) e (omega (arith, a u t, map-ge f y u t))))

pub map-join : (f : Val → Val) (x y : List Row) → map_set f (join x y) ≡ join (map_set f x) (map_set f y)
map-join f x y = same_from_mark (map_set f (join x y)) (join (map_set f x) (map_set f y)) (ascending-of_rows (map (moved f) (join x y))) (ascending-join (map_set f x) (map_set f y))
    (λ w t.
    let parts : mark (map (moved f) (x ++ y)) w t ≡ max (mark (map (moved f) x) w t) (mark (map (moved f) y) w t) =
    ap (λ (rs : List Row). mark rs w t) (map-rows-append f x y) ∙ mark-append (map (moved f) x) (map (moved f) y) w t in
    omega (arith, map-mark f (join x y) w t, map-alike f (join x y) (x ++ y) (mark-of_rows (x ++ y)) w t, parts, mark-join (map_set f x) (map_set f y) w t, map-mark f x w t, map-mark f y w t))

-- ---- product

-- Two tests of keys in one: the values and the tokens of the pair against those of both.
four-tests : (a b c d : Ordering) → is_eq (ordering_then (ordering_then a b) (ordering_then c d)) ≡ (is_eq (ordering_then a c) && is_eq (ordering_then b d))
four-tests Less b c d = refl
four-tests Greater b c d = refl
four-tests Equal Equal Equal d = refl
four-tests Equal Less Equal d = refl
four-tests Equal Greater Equal d = refl
four-tests Equal Equal Less d = refl
four-tests Equal Less Less d = refl
four-tests Equal Greater Less d = refl
four-tests Equal Equal Greater d = refl
four-tests Equal Less Greater d = refl
four-tests Equal Greater Greater d = refl

paired-mark : (r q : Row) (v w : Val) (t s : Tok) → row_mark (paired r q) (pair v w) (both t s) ≡ both_of (row_mark r v t) (row_mark q w s)
paired-mark r q v w t s =
    ap (λ (b : Bool). if b then level (r.1 || q.1) else 0) (four-tests (val_cmp v r.0.0) (val_cmp w q.0.0) (tok_cmp t r.0.1) (tok_cmp s q.0.1))
    ∙ both_of-levels (eq_by_cmp key_cmp (v, t) r.0) (eq_by_cmp key_cmp (w, s) q.0) r.1 q.1

paired-all : (r : Row) (y : List Row) (v w : Val) (t s : Tok) → mark (map (paired r) y) (pair v w) (both t s) ≡ both_of (row_mark r v t) (mark y w s)
paired-all r [] v w t s = sym (both_of-zero (row_mark r v t))
paired-all r (q ∷ y) v w t s =
    (λ i. max (paired-mark r q v w t s i) (paired-all r y v w t s i)) ∙ sym (both_of-max_right (row_mark r v t) (row_mark q w s) (mark y w s))

times-mark : (x y : List Row) (v w : Val) (t s : Tok) → mark (flat_map (λ r. map (paired r) y) x) (pair v w) (both t s) ≡ both_of (mark x v t) (mark y w s)
times-mark [] y v w t s = refl
times-mark (r ∷ x) y v w t s =
    mark-append (map (paired r) y) (flat_map (λ r. map (paired r) y) x) (pair v w) (both t s)
    ∙ (λ i. max (paired-all r y v w t s i) (times-mark x y v w t s i)) ∙ sym (both_of-max_left (row_mark r v t) (mark x v t) (mark y w s))

-- A value that is no pair, or a token that is no pair, has no row.
abbrev IsApart : Val → Tok → Type 0
IsApart v t = (r q : Row) → row_mark (paired r q) v t ≡ 0

none-paired : (v : Val) (t : Tok) → IsApart v t → (r : Row) (y : List Row) → mark (map (paired r) y) v t ≡ 0
none-paired v t h r [] = refl
none-paired v t h r (q ∷ y) = omega (arith, h r q, none-paired v t h r y)

none-times : (v : Val) (t : Tok) → IsApart v t → (x y : List Row) → mark (flat_map (λ r. map (paired r) y) x) v t ≡ 0
none-times v t h [] y = refl
none-times v t h (r ∷ x) y = omega (arith, mark-append (map (paired r) y) (flat_map (λ r. map (paired r) y) x) v t, none-paired v t h r y, none-times v t h x y)

single-apart : (v w : Val) (q k : ℕ) → IsApart (pair v w) (single q k)
single-apart v w q k r p = ap (λ (b : Bool). if b then level (r.1 || p.1) else 0) (never (ordering_then (val_cmp v r.0.0) (val_cmp w p.0.0))) where
  never : (o : Ordering) → is_eq (ordering_then o Less) ≡ false
  never Less = refl
  never Equal = refl
  never Greater = refl

pub product-mark : (x y : List Row) (v : Val) (t : Tok) → mark (product_set x y) v t ≡ product_mark x y v t
product-mark x y (pair v w) (both t s) = mark-of_rows (flat_map (λ r. map (paired r) y) x) (pair v w) (both t s) ∙ times-mark x y v w t s
product-mark x y (int n) t = mark-of_rows (flat_map (λ r. map (paired r) y) x) (int n) t ∙ none-times (int n) t (λ r q. refl) x y
product-mark x y (text n) t = mark-of_rows (flat_map (λ r. map (paired r) y) x) (text n) t ∙ none-times (text n) t (λ r q. refl) x y
product-mark x y (pair v w) (single q k) = mark-of_rows (flat_map (λ r. map (paired r) y) x) (pair v w) (single q k) ∙ none-times (pair v w) (single q k) (single-apart v w q k) x y

product_mark-monotone : (x x' y y' : List Row) → IsAtMost x x' → IsAtMost y y' → (v : Val) (t : Tok) → product_mark x y v t ≤ product_mark x' y' v t
product_mark-monotone x x' y y' a b (pair v w) (both t s) = both_of-monotone (mark x v t) (mark x' v t) (mark y w s) (mark y' w s) (a v t) (b w s)
product_mark-monotone x x' y y' a b (pair v w) (single q k) = omega arith
product_mark-monotone x x' y y' a b (int n) t = omega arith
product_mark-monotone x x' y y' a b (text n) t = omega arith

pub product-monotone : (x x' y y' : List Row) → IsAtMost x x' → IsAtMost y y' → IsAtMost (product_set x y) (product_set x' y')
product-monotone x x' y y' a b v t = omega (arith, product-mark x y v t, product-mark x' y' v t, product_mark-monotone x x' y y' a b v t)

product_mark-join_left : (x x' y : List Row) (v : Val) (t : Tok) → product_mark (join x x') y v t ≡ max (product_mark x y v t) (product_mark x' y v t)
product_mark-join_left x x' y (pair v w) (both t s) = ap (λ (m : ℕ). both_of m (mark y w s)) (mark-join x x' v t) ∙ both_of-max_left (mark x v t) (mark x' v t) (mark y w s)
product_mark-join_left x x' y (pair v w) (single q k) = refl
product_mark-join_left x x' y (int n) t = refl
product_mark-join_left x x' y (text n) t = refl

product_mark-join_right : (x y y' : List Row) (v : Val) (t : Tok) → product_mark x (join y y') v t ≡ max (product_mark x y v t) (product_mark x y' v t)
product_mark-join_right x y y' (pair v w) (both t s) = ap (λ (m : ℕ). both_of (mark x v t) m) (mark-join y y' w s) ∙ both_of-max_right (mark x v t) (mark y w s) (mark y' w s)
product_mark-join_right x y y' (pair v w) (single q k) = refl
product_mark-join_right x y y' (int n) t = refl
product_mark-join_right x y y' (text n) t = refl

pub ascending-product : (x y : List Row) → IsAscending (product_set x y)
ascending-product x y = ascending-of_rows (flat_map (λ r. map (paired r) y) x)

pub product-join_left : (x x' y : List Row) → product_set (join x x') y ≡ join (product_set x y) (product_set x' y)
product-join_left x x' y = same_from_mark (product_set (join x x') y) (join (product_set x y) (product_set x' y)) (ascending-product (join x x') y) (ascending-join (product_set x y) (product_set x' y))
    (λ v t. omega (arith, product-mark (join x x') y v t, product_mark-join_left x x' y v t, mark-join (product_set x y) (product_set x' y) v t, product-mark x y v t, product-mark x' y v t))

pub product-join_right : (x y y' : List Row) → product_set x (join y y') ≡ join (product_set x y) (product_set x y')
product-join_right x y y' = same_from_mark (product_set x (join y y')) (join (product_set x y) (product_set x y')) (ascending-product x (join y y')) (ascending-join (product_set x y) (product_set x y'))
    (λ v t. omega (arith, product-mark x (join y y') v t, product_mark-join_right x y y' v t, mark-join (product_set x y) (product_set x y') v t, product-mark x y v t, product-mark x y' v t))

-- ---- intersection

three-tests : (a b c d : Ordering) → is_eq (ordering_then a (ordering_then b c)) ≡ (is_eq (ordering_then a b) && is_eq (ordering_then a c))
three-tests Less b c d = refl
three-tests Greater b c d = refl
three-tests Equal Less c d = refl
three-tests Equal Equal c d = refl
three-tests Equal Greater c d = refl

met-mark : (r q : Row) → r.0.0 ≡ q.0.0 → (v : Val) (t s : Tok) → row_mark (met r q) v (both t s) ≡ both_of (row_mark r v t) (row_mark q v s)
met-mark r q e v t s =
    ap (λ (b : Bool). if b then level (r.1 || q.1) else 0) (three-tests (val_cmp v r.0.0) (tok_cmp t r.0.1) (tok_cmp s q.0.1) Equal)
    ∙ both_of-levels (eq_by_cmp key_cmp (v, t) r.0) (is_eq (ordering_then (val_cmp v r.0.0) (tok_cmp s q.0.1))) r.1 q.1
    ∙ ap (λ (u : Val). both_of (row_mark r v t) (if is_eq (ordering_then (val_cmp v u) (tok_cmp s q.0.1)) then level q.1 else 0)) e

apart-mark : (r q : Row) → is_of r.0.0 q ≡ false → (v : Val) (t s : Tok) → both_of (row_mark r v t) (row_mark q v s) ≡ 0
apart-mark r q e v t s =
    elim (eq_by_cmp key_cmp (v, t) r.0) as (λ b. eq_by_cmp key_cmp (v, t) r.0 ≡ b → both_of (if b then level r.1 else 0) (row_mark q v s) ≡ 0) [
      | false ↦ λ g. refl
      | true ↦ λ g. elim (eq_by_cmp key_cmp (v, s) q.0) as (λ c. eq_by_cmp key_cmp (v, s) q.0 ≡ c → both_of (level r.1) (if c then level q.1 else 0) ≡ 0) [
        | false ↦ λ h. both_of-zero (level r.1)
        | true ↦ λ h.
            let one = ap (λ (k : Key). k.0) (key_exact (v, t) r.0 (is-Equal (key_cmp (v, t) r.0) g)) in
            let two = ap (λ (k : Key). k.0) (key_exact (v, s) q.0 (is-Equal (key_cmp (v, s) q.0) h)) in
            let tie : eq_by_cmp val_cmp r.0.0 q.0.0 ≡ true = subst (λ (u : Val). eq_by_cmp val_cmp r.0.0 u ≡ true) (sym one ∙ two) (ap is_eq (tied_itself val_total r.0.0)) in
            cc
      ] refl
    ] refl

met-all : (r : Row) (y : List Row) (v : Val) (t s : Tok) → mark (map (met r) (filter (is_of r.0.0) y)) v (both t s) ≡ both_of (row_mark r v t) (mark y v s)
met-all r [] v t s = sym (both_of-zero (row_mark r v t))
met-all r (q ∷ y) v t s =
    elim (is_of r.0.0 q) as (λ b. is_of r.0.0 q ≡ b → mark (map (met r) (cond b (q ∷ filter (is_of r.0.0) y) (filter (is_of r.0.0) y))) v (both t s) ≡ max (both_of (row_mark r v t) (row_mark q v s)) (both_of (row_mark r v t) (mark y v s))) [
      | true ↦ λ e. λ i. max (met-mark r q (val_exact r.0.0 q.0.0 (is-Equal (val_cmp r.0.0 q.0.0) e)) v t s i) (met-all r y v t s i)
      | false ↦ λ e. omega (arith, met-all r y v t s, apart-mark r q e v t s)
    ] refl ∙ sym (both_of-max_right (row_mark r v t) (row_mark q v s) (mark y v s))

meet-mark : (x y : List Row) (v : Val) (t s : Tok) → mark (flat_map (λ r. map (met r) (filter (is_of r.0.0) y)) x) v (both t s) ≡ both_of (mark x v t) (mark y v s)
meet-mark [] y v t s = refl
meet-mark (r ∷ x) y v t s =
    mark-append (map (met r) (filter (is_of r.0.0) y)) (flat_map (λ r. map (met r) (filter (is_of r.0.0) y)) x) v (both t s)
    ∙ (λ i. max (met-all r y v t s i) (meet-mark x y v t s i)) ∙ sym (both_of-max_left (row_mark r v t) (mark x v t) (mark y v s))

none-met : (v : Val) (p k : ℕ) (r : Row) (y : List Row) → mark (map (met r) y) v (single p k) ≡ 0
none-met v p k r [] = refl
none-met v p k r (q ∷ y) = omega (arith, never (val_cmp v r.0.0) (r.1 || q.1), none-met v p k r y) where
  never : (o : Ordering) (d : Bool) → (if is_eq (ordering_then o Less) then level d else 0) ≡ 0
  never Less d = refl
  never Equal d = refl
  never Greater d = refl

none-meets : (v : Val) (p k : ℕ) (x y : List Row) → mark (flat_map (λ r. map (met r) (filter (is_of r.0.0) y)) x) v (single p k) ≡ 0
none-meets v p k [] y = refl
none-meets v p k (r ∷ x) y =
    omega (arith, mark-append (map (met r) (filter (is_of r.0.0) y)) (flat_map (λ r. map (met r) (filter (is_of r.0.0) y)) x) v (single p k), none-met v p k r (filter (is_of r.0.0) y), none-meets v p k x y)

pub intersect-mark : (x y : List Row) (v : Val) (t : Tok) → mark (intersect_set x y) v t ≡ intersect_mark x y v t
intersect-mark x y v (both t s) = mark-of_rows (flat_map (λ r. map (met r) (filter (is_of r.0.0) y)) x) v (both t s) ∙ meet-mark x y v t s
intersect-mark x y v (single p k) = mark-of_rows (flat_map (λ r. map (met r) (filter (is_of r.0.0) y)) x) v (single p k) ∙ none-meets v p k x y

intersect_mark-monotone : (x x' y y' : List Row) → IsAtMost x x' → IsAtMost y y' → (v : Val) (t : Tok) → intersect_mark x y v t ≤ intersect_mark x' y' v t
intersect_mark-monotone x x' y y' a b v (both t s) = both_of-monotone (mark x v t) (mark x' v t) (mark y v s) (mark y' v s) (a v t) (b v s)
intersect_mark-monotone x x' y y' a b v (single p k) = omega arith

pub intersect-monotone : (x x' y y' : List Row) → IsAtMost x x' → IsAtMost y y' → IsAtMost (intersect_set x y) (intersect_set x' y')
intersect-monotone x x' y y' a b v t = omega (arith, intersect-mark x y v t, intersect-mark x' y' v t, intersect_mark-monotone x x' y y' a b v t)

intersect_mark-join_left : (x x' y : List Row) (v : Val) (t : Tok) → intersect_mark (join x x') y v t ≡ max (intersect_mark x y v t) (intersect_mark x' y v t)
intersect_mark-join_left x x' y v (both t s) = ap (λ (m : ℕ). both_of m (mark y v s)) (mark-join x x' v t) ∙ both_of-max_left (mark x v t) (mark x' v t) (mark y v s)
intersect_mark-join_left x x' y v (single p k) = refl

intersect_mark-join_right : (x y y' : List Row) (v : Val) (t : Tok) → intersect_mark x (join y y') v t ≡ max (intersect_mark x y v t) (intersect_mark x y' v t)
intersect_mark-join_right x y y' v (both t s) = ap (λ (m : ℕ). both_of (mark x v t) m) (mark-join y y' v s) ∙ both_of-max_right (mark x v t) (mark y v s) (mark y' v s)
intersect_mark-join_right x y y' v (single p k) = refl

pub ascending-intersect : (x y : List Row) → IsAscending (intersect_set x y)
ascending-intersect x y = ascending-of_rows (flat_map (λ r. map (met r) (filter (is_of r.0.0) y)) x)

pub intersect-join_left : (x x' y : List Row) → intersect_set (join x x') y ≡ join (intersect_set x y) (intersect_set x' y)
intersect-join_left x x' y = same_from_mark (intersect_set (join x x') y) (join (intersect_set x y) (intersect_set x' y)) (ascending-intersect (join x x') y) (ascending-join (intersect_set x y) (intersect_set x' y))
    (λ v t. omega (arith, intersect-mark (join x x') y v t, intersect_mark-join_left x x' y v t, mark-join (intersect_set x y) (intersect_set x' y) v t, intersect-mark x y v t, intersect-mark x' y v t))

pub intersect-join_right : (x y y' : List Row) → intersect_set x (join y y') ≡ join (intersect_set x y) (intersect_set x y')
intersect-join_right x y y' = same_from_mark (intersect_set x (join y y')) (join (intersect_set x y) (intersect_set x y')) (ascending-intersect x (join y y')) (ascending-join (intersect_set x y) (intersect_set x y'))
    (λ v t. omega (arith, intersect-mark x (join y y') v t, intersect_mark-join_right x y y' v t, mark-join (intersect_set x y) (intersect_set x y') v t, intersect-mark x y v t, intersect-mark x y' v t))

-- ---- changed rows

changed-nothing : (m : ℕ) → ◌≡◌ {A = ℕ} (if nat_lt m 0 then 0 else 0) 0
changed-nothing m = grind (arith, nat_tests)

changed-here : (m l n : ℕ) → (if nat_lt m l then max l (if nat_lt m n then n else 0) else (if nat_lt m n then n else 0)) ≡ (if nat_lt m (max l n) then max l n else 0)
changed-here m l n = grind (arith, nat_tests)

changed-elsewhere : (b : Bool) (m n : ℕ) → (if b then max 0 (if nat_lt m n then n else 0) else (if nat_lt m n then n else 0)) ≡ (if nat_lt m (max 0 n) then max 0 n else 0)
changed-elsewhere true m n = grind (arith, nat_tests)
changed-elsewhere false m n = grind (arith, nat_tests)

changed-step : (s : List Row) (r : Row) (v : Val) (t : Tok) (n : ℕ)
    → (if nat_lt (mark s r.0.0 r.0.1) (level r.1) then max (row_mark r v t) (if nat_lt (mark s v t) n then n else 0) else (if nat_lt (mark s v t) n then n else 0))
    ≡ (if nat_lt (mark s v t) (max (row_mark r v t) n) then max (row_mark r v t) n else 0)
changed-step s r v t n =
    elim (eq_by_cmp key_cmp (v, t) r.0) as (λ b. eq_by_cmp key_cmp (v, t) r.0 ≡ b
    → (if nat_lt (mark s r.0.0 r.0.1) (level r.1) then max (if b then level r.1 else 0) (if nat_lt (mark s v t) n then n else 0) else (if nat_lt (mark s v t) n then n else 0))
    ≡ (if nat_lt (mark s v t) (max (if b then level r.1 else 0) n) then max (if b then level r.1 else 0) n else 0)) [
      | true ↦ λ e. subst (λ (k : Key). (if nat_lt (mark s k.0 k.1) (level r.1) then max (level r.1) (if nat_lt (mark s v t) n then n else 0) else (if nat_lt (mark s v t) n then n else 0))
          ≡ (if nat_lt (mark s v t) (max (level r.1) n) then max (level r.1) n else 0))
          (key_exact (v, t) r.0 (is-Equal (key_cmp (v, t) r.0) e)) (changed-here (mark s v t) (level r.1) n)
      | false ↦ λ e. changed-elsewhere (nat_lt (mark s r.0.0 r.0.1) (level r.1)) (mark s v t) n
    ] refl

-- A changed row has the mark that it has in t, and any other none.
pub changed-mark : (s t : List Row) (v : Val) (w : Tok) → mark (changed s t) v w ≡ (if nat_lt (mark s v w) (mark t v w) then mark t v w else 0)
changed-mark s [] v w = sym (changed-nothing (mark s v w))
changed-mark s (r ∷ t) v w =
    elim (nat_lt (mark s r.0.0 r.0.1) (level r.1)) as (λ b. mark (cond b (r ∷ changed s t) (changed s t)) v w ≡ (if b then max (row_mark r v w) (mark (changed s t) v w) else mark (changed s t) v w)) [ true ↦ refl | false ↦ refl ]
    ∙ subst (λ (m : ℕ). (if nat_lt (mark s r.0.0 r.0.1) (level r.1) then max (row_mark r v w) m else m) ≡ (if nat_lt (mark s v w) (max (row_mark r v w) (mark t v w)) then max (row_mark r v w) (mark t v w) else 0))
    (sym (changed-mark s t v w)) (changed-step s r v w (mark t v w))

changed-join-number : (m n c : ℕ) → m ≤ n → c ≡ (if nat_lt m n then n else 0) → max m c ≡ n
changed-join-number m n c a e = grind (arith, nat_tests, a, e)

-- What changed, joined into what was, gives what is.
pub join-changed : (s t : List Row) → IsAscending t → IsAtMost s t → join s (changed s t) ≡ t
join-changed s t up a = same_from_mark (join s (changed s t)) t (ascending-join s (changed s t)) up
    (λ v w. mark-join s (changed s t) v w ∙ changed-join-number (mark s v w) (mark t v w) (mark (changed s t) v w) (a v w) (changed-mark s t v w))

pub ascending-changed : (s t : List Row) → IsAscending t → IsAscending (changed s t)
ascending-changed s t up = ascending-kept (λ r. nat_lt (mark s r.0.0 r.0.1) (level r.1)) t up

-- ---- increments: a process over more is what it was, joined with what the rows give by which its inputs came to be more

pub filter-grown : (p : Val → Bool) (x c x' : List Row) → IsAscending x → IsAscending c → join x c ≡ x' → filter_set p x' ≡ join (filter_set p x) (filter_set p c)
filter-grown p x c x' up up_c e = ap (filter_set p) (sym e) ∙ filter-join p x c up up_c

pub map-grown : (f : Val → Val) (x c x' : List Row) → join x c ≡ x' → map_set f x' ≡ join (map_set f x) (map_set f c)
map-grown f x c x' e = ap (map_set f) (sym e) ∙ map-join f x c

pub union-grown : (x c x' y d y' : List Row) → join x c ≡ x' → join y d ≡ y' → union_set x' y' ≡ join (union_set x y) (join c d)
union-grown x c x' y d y' e g =
    same_from_mark (join x' y') (join (join x y) (join c d)) (ascending-join x' y') (ascending-join (join x y) (join c d))
    (λ v t. omega (
      arith,
      ap (λ (z : List Row). mark z v t) e,
      ap (λ (z : List Row). mark z v t) g,
      mark-join x' y' v t,
      mark-join x c v t,
      mark-join y d v t,
      mark-join (join x y) (join c d) v t,
      mark-join x y v t,
      mark-join c d v t,
    ))

-- A process of two inputs that sends joins to joins, in each of them.
grown-by : (F : List Row → List Row → List Row) → ((x x' y : List Row) → F (join x x') y ≡ join (F x y) (F x' y)) → ((x y y' : List Row) → F x (join y y') ≡ join (F x y) (F x y'))
    → (x c x' y d y' : List Row) → join x c ≡ x' → join y d ≡ y' → F x' y' ≡ join (F x y) (join (F c y') (F x' d))
grown-by F left right x c x' y d y' e g =
    ap (F x') (sym g) ∙ right x' y d
    ∙ sym (same_from_mark (join (F x y) (join (F c y') (F x' d))) (join (F x' y) (F x' d)) (ascending-join (F x y) (join (F c y') (F x' d))) (ascending-join (F x' y) (F x' d)) (λ v t.
    omega (
      arith,
      ap (λ (z : List Row). mark z v t) less,
      ap (λ (z : List Row). mark z v t) more,
      mark-join (F x y) (F c y) v t,
      mark-join (F c y) (F c d) v t,
      mark-join (F x y) (join (F c y') (F x' d)) v t,
      mark-join (F c y') (F x' d) v t,
      mark-join (F x' y) (F x' d) v t,
      ap (λ (z : List Row). mark z v t) both_more,
      mark-join (F x d) (F c d) v t,
    ))) where
      less : F x' y ≡ join (F x y) (F c y)
      less = ap (λ (z : List Row). F z y) (sym e) ∙ left x c y

      more : F c y' ≡ join (F c y) (F c d)
      more = ap (F c) (sym g) ∙ right c y d

      both_more : F x' d ≡ join (F x d) (F c d)
      both_more = ap (λ (z : List Row). F z d) (sym e) ∙ left x c d

pub product-grown : (x c x' y d y' : List Row) → join x c ≡ x' → join y d ≡ y' → product_set x' y' ≡ join (product_set x y) (join (product_set c y') (product_set x' d))
product-grown = grown-by product_set product-join_left product-join_right

pub intersect-grown : (x c x' y d y' : List Row) → join x c ≡ x' → join y d ≡ y' → intersect_set x' y' ≡ join (intersect_set x y) (join (intersect_set c y') (intersect_set x' d))
intersect-grown = grown-by intersect_set intersect-join_left intersect-join_right

-- by the changed rows

pub filter-increment : (p : Val → Bool) (x x' : List Row) → IsAscending x → IsAscending x' → IsAtMost x x' → filter_set p x' ≡ join (filter_set p x) (filter_set p (changed x x'))
filter-increment p x x' up up' a = filter-grown p x (changed x x') x' up (ascending-changed x x' up') (join-changed x x' up' a)

pub map-increment : (f : Val → Val) (x x' : List Row) → IsAscending x' → IsAtMost x x' → map_set f x' ≡ join (map_set f x) (map_set f (changed x x'))
map-increment f x x' up a = map-grown f x (changed x x') x' (join-changed x x' up a)

pub union-increment : (x x' y y' : List Row) → IsAscending x' → IsAscending y' → IsAtMost x x' → IsAtMost y y' → union_set x' y' ≡ join (union_set x y) (join (changed x x') (changed y y'))
union-increment x x' y y' up_x up_y a b = union-grown x (changed x x') x' y (changed y y') y' (join-changed x x' up_x a) (join-changed y y' up_y b)

pub product-increment : (x x' y y' : List Row) → IsAscending x' → IsAscending y' → IsAtMost x x' → IsAtMost y y'
    → product_set x' y' ≡ join (product_set x y) (join (product_set (changed x x') y') (product_set x' (changed y y')))
product-increment x x' y y' up_x up_y a b = product-grown x (changed x x') x' y (changed y y') y' (join-changed x x' up_x a) (join-changed y y' up_y b)

pub intersect-increment : (x x' y y' : List Row) → IsAscending x' → IsAscending y' → IsAtMost x x' → IsAtMost y y'
    → intersect_set x' y' ≡ join (intersect_set x y) (join (intersect_set (changed x x') y') (intersect_set x' (changed y y')))
intersect-increment x x' y y' up_x up_y a b = intersect-grown x (changed x x') x' y (changed y y') y' (join-changed x x' up_x a) (join-changed y y' up_y b)

pub ruleset monotone = (map-monotone, filter-monotone, join-monotone, product-monotone, intersect-monotone)

pub ruleset joins = (map-join, filter-join, product-join_left, product-join_right, intersect-join_left, intersect-join_right)

pub ruleset changes = (ascending-changed, changed-mark, join-changed)

pub ruleset increments = (map-increment, filter-increment, union-increment, product-increment, intersect-increment)
