-- The loops compute the join and the order.
use Rattle.std.proofs.Common.{◌≡◌, ℕ, ◌≤◌, ◌<◌, max, Bool, true, false, not, ◌||◌, nat_lt, ◌==◌, if◌then◌else◌, IsTrue, ◌↔◌, List, [], ◌∷◌, refl, sym, ap, subst, ◌∙◌, arith}
use Rattle.std.proofs.lemmas.Bool.Decides.{nat_tests}
use Rattle.std.specs.List.{list_all}
use Rattle.std.specs.Ordering.{is_lt, ordering_reverse, eq_by_cmp}
use Rattle.std.specs.declared.cmp.Ordering.TheVariants.{Less, Equal, Greater}
use Rattle.std.specs.FinMap.Entries.{by_order, is_sorted, below_all}
use Rattle.model_values.specs.Value.{Val}
use Rattle.model_values.specs.Token.{Tok, single, both}
use Rattle.model_values.specs.Row.{Key, Row, key_cmp, key_total, key_exact}
use Rattle.model_sets.specs.Rows.{level, row_mark, mark, HasRow, IsAscending}
use Rattle.model_sets.proofs.RowLaws.{and-left, and-right, and-both, is-Equal, below-chain, mark-below, same_from_mark, ascending-join}
use Rattle.model_sets.proofs.EquationLaws.{tied_key, ascending-kept, below-kept}
use Rattle.model_states.specs.Counts.{count_at, AreCountsAtMost, are_counts_at_most}
use Rattle.model_states.proofs.CountLaws.{count_at-larger, counts-test}
use Rattle.model_dots.specs.Dots.{Dots, is_counted, IsState, HaveSameNodes, outlives, kept, join_dots, IsAtMost}
use Rattle.model_dots.specs.Loops.{uncounted, weave_row, weave, is_at_most}
use Rattle.model_dots.proofs.DotLaws.{keep-mark, rows-join, given-counted, at_most-marks, at_most-from_marks}

-- ---- the marks of rows side by side

-- what is left of a value's marks m and n, by whether the first and the second count the update
abbrev woven : Bool → Bool → ℕ → ℕ → ℕ
woven b c m n = max (if not c || nat_lt 0 n then m else 0) (if not b || nat_lt 0 m then n else 0)

alone-nothing : (b c d : Bool) (x m n : ℕ) → x ≡ 0 → max (if d then 0 else x) (woven b c m n) ≡ woven b c (max x m) n
alone-nothing true true true x m n z = grind (arith, nat_tests, z)
alone-nothing true true false x m n z = grind (arith, nat_tests, z)
alone-nothing true false true x m n z = grind (arith, nat_tests, z)
alone-nothing true false false x m n z = grind (arith, nat_tests, z)
alone-nothing false true true x m n z = grind (arith, nat_tests, z)
alone-nothing false true false x m n z = grind (arith, nat_tests, z)
alone-nothing false false true x m n z = grind (arith, nat_tests, z)
alone-nothing false false false x m n z = grind (arith, nat_tests, z)

alone-some : (b c : Bool) (x m n : ℕ) → 0 < x → m ≡ 0 → n ≡ 0 → max (if c then 0 else x) (woven b c m n) ≡ woven b c (max x m) n
alone-some true true x m n h e f = grind (arith, nat_tests, h, e, f)
alone-some true false x m n h e f = grind (arith, nat_tests, h, e, f)
alone-some false true x m n h e f = grind (arith, nat_tests, h, e, f)
alone-some false false x m n h e f = grind (arith, nat_tests, h, e, f)

-- a row that only the first has, where d tells whether its update is counted
woven-first : (b c d : Bool) (x m n : ℕ) → (0 < x → (d ≡ c) × (m ≡ 0) × (n ≡ 0)) → max (if d then 0 else x) (woven b c m n) ≡ woven b c (max x m) n
woven-first b c d x m n h = choose (x == 0) refl where
  choose : (z : Bool) → (x == 0) ≡ z → max (if d then 0 else x) (woven b c m n) ≡ woven b c (max x m) n
  choose true e = alone-nothing b c d x m n (grind (arith, nat_tests, e))
  choose false e =
      let some : 0 < x = grind (arith, nat_tests, e) in
      let has = h some in
      subst (λ (o : Bool). max (if o then 0 else x) (woven b c m n) ≡ woven b c (max x m) n) (sym has.0) (alone-some b c x m n some has.1 has.2)

swapped : (b c : Bool) (m n : ℕ) → woven b c m n ≡ woven c b n m
swapped b c m n = omega arith

woven-second : (b c d : Bool) (y m n : ℕ) → (0 < y → (d ≡ b) × (n ≡ 0) × (m ≡ 0)) → max (if d then 0 else y) (woven b c m n) ≡ woven b c m (max y n)
woven-second b c d y m n h = ap (max (if d then 0 else y)) (swapped b c m n) ∙ woven-first c b d y n m h ∙ swapped c b (max y n) m

-- a row that both have
both-nothing : (b c : Bool) (x m n : ℕ) → x ≡ 0 → max x (woven b c m n) ≡ woven b c (max x m) (max x n)
both-nothing true true x m n z = grind (arith, nat_tests, z)
both-nothing true false x m n z = grind (arith, nat_tests, z)
both-nothing false true x m n z = grind (arith, nat_tests, z)
both-nothing false false x m n z = grind (arith, nat_tests, z)

both-some : (b c : Bool) (x m n : ℕ) → 0 < x → m ≡ 0 → n ≡ 0 → max x (woven b c m n) ≡ woven b c (max x m) (max x n)
both-some true true x m n h e f = grind (arith, nat_tests, h, e, f)
both-some true false x m n h e f = grind (arith, nat_tests, h, e, f)
both-some false true x m n h e f = grind (arith, nat_tests, h, e, f)
both-some false false x m n h e f = grind (arith, nat_tests, h, e, f)

woven-both : (b c : Bool) (x y m n : ℕ) → y ≡ x → (0 < x → (m ≡ 0) × (n ≡ 0)) → max x (woven b c m n) ≡ woven b c (max x m) (max y n)
woven-both b c x y m n same h = choose (x == 0) refl ∙ (λ i. woven b c (max x m) (max (sym same i) n)) where
  choose : (z : Bool) → (x == 0) ≡ z → max x (woven b c m n) ≡ woven b c (max x m) (max x n)
  choose true e = both-nothing b c x m n (grind (arith, nat_tests, e))
  choose false e =
      let some : 0 < x = grind (arith, nat_tests, e) in
      both-some b c x m n some (h some).0 (h some).1

-- ---- what a row's own key says of the rows behind it

-- no row is dead
abbrev pub AreLive : List Row → Type 0
AreLive s = (v : Val) (w : Tok) → mark s v w ≤ 1

-- a mark of the row is its own key's
own-key : (r : Row) (v : Val) (w : Tok) → 0 < row_mark r v w → (v, w) ≡ r.0
own-key r v w h = choose (eq_by_cmp key_cmp (v, w) r.0) refl where
  choose : (b : Bool) → eq_by_cmp key_cmp (v, w) r.0 ≡ b → (v, w) ≡ r.0
  choose true e = key_exact (v, w) r.0 (is-Equal (key_cmp (v, w) r.0) e)
  choose false e = absurd (omega (arith, h, (let none : row_mark r v w ≡ 0 = ap (λ (b : Bool). if b then level r.1 else 0) e in none)))

none-behind : (r : Row) (s : List Row) (v : Val) (w : Tok) → IsTrue (below_all key_cmp r.0 s) → 0 < row_mark r v w → mark s v w ≡ 0
none-behind r s v w low h = subst (λ (k : Key). mark s k.0 k.1 ≡ 0) (sym (own-key r v w h)) (mark-below r.0 s low)

own-counted : (counts : List ℕ) (r : Row) (v : Val) (w : Tok) → 0 < row_mark r v w → is_counted counts r.0.1 ≡ is_counted counts w
own-counted counts r v w h = ap (λ (k : Key). is_counted counts k.1) (sym (own-key r v w h))

uncounted-mark : (counts : List ℕ) (r : Row) (rest : List Row) (v : Val) (w : Tok) → mark (uncounted counts r rest) v w ≡ max (if is_counted counts r.0.1 then 0 else row_mark r v w) (mark rest v w)
uncounted-mark counts r rest v w = at (is_counted counts r.0.1) where
  at : (b : Bool) → mark (if b then rest else r ∷ rest) v w ≡ max (if b then 0 else row_mark r v w) (mark rest v w)
  at true = omega arith
  at false = refl

-- live rows of one key are alike
same-live : (r q : Row) (v : Val) (w : Tok) → r.0 ≡ q.0 → row_mark r v w ≤ 1 → row_mark q v w ≤ 1 → row_mark q v w ≡ row_mark r v w
same-live r q v w e x y = choose (eq_by_cmp key_cmp (v, w) r.0) refl where
  choose : (b : Bool) → eq_by_cmp key_cmp (v, w) r.0 ≡ b → row_mark q v w ≡ row_mark r v w
  choose b f =
      let first : row_mark r v w ≡ (if b then level r.1 else 0) = ap (λ (c : Bool). if c then level r.1 else 0) f in
      let second : row_mark q v w ≡ (if b then level q.1 else 0) = ap (λ (c : Bool). if c then level q.1 else 0) (ap (λ (k : Key). eq_by_cmp key_cmp (v, w) k) (sym e) ∙ f) in
      second ∙ levels b r.1 q.1 (subst (λ (n : ℕ). n ≤ 1) first x) (subst (λ (n : ℕ). n ≤ 1) second y) ∙ sym first where
        levels : (b d o : Bool) → (if b then level d else 0) ≤ 1 → (if b then level o else 0) ≤ 1 → (if b then level o else 0) ≡ (if b then level d else 0)
        levels false d o h g = refl
        levels true true o h g = absurd (omega (arith, h))
        levels true false true h g = absurd (omega (arith, g))
        levels true false false h g = refl

-- ---- the marks of the loop

weave-none : (c d : List ℕ) (t : List Row) (v : Val) (w : Tok) → mark (weave c d [] t) v w ≡ woven (is_counted c w) (is_counted d w) 0 (mark t v w)
weave-none c d t v w = keep-mark (λ k. not (is_counted c k.1)) t v w ∙ at (is_counted c w) (is_counted d w) where
  at : (b e : Bool) → (if not b then mark t v w else 0) ≡ woven b e 0 (mark t v w)
  at true true = grind (arith, nat_tests)
  at true false = grind (arith, nat_tests)
  at false true = grind (arith, nat_tests)
  at false false = grind (arith, nat_tests)

pub weave-mark : (c d : List ℕ) (s t : List Row) → IsAscending s → IsAscending t → AreLive s → AreLive t → (v : Val) (w : Tok)
    → mark (weave c d s t) v w ≡ woven (is_counted c w) (is_counted d w) (mark s v w) (mark t v w)
weave-mark c d [] t up_s up_t live_s live_t v w = weave-none c d t v w
weave-mark c d (r ∷ s) [] up_s up_t live_s live_t v w =
    uncounted-mark d r (weave c d s []) v w
    ∙ ap (max (if is_counted d r.0.1 then 0 else row_mark r v w)) (weave-mark c d s [] (and-right (below_all key_cmp r.0 s) (is_sorted key_cmp s) up_s) up_t (λ v w. omega (arith, live_s v w)) live_t v w)
    ∙ woven-first (is_counted c w) (is_counted d w) (is_counted d r.0.1) (row_mark r v w) (mark s v w) 0
    (λ some. (own-counted d r v w some, none-behind r s v w (and-left (below_all key_cmp r.0 s) (is_sorted key_cmp s) up_s) some, refl))
weave-mark c d (r ∷ s) (q ∷ t) up_s up_t live_s live_t v w =
    elim (key_cmp r.0 q.0) as (λ o. key_cmp r.0 q.0 ≡ o → mark (by_order o (uncounted d r (weave c d s (q ∷ t))) (r ∷ weave c d s t) (uncounted c q (weave_row c d r (weave c d s) t))) v w
    ≡ woven (is_counted c w) (is_counted d w) (max (row_mark r v w) (mark s v w)) (max (row_mark q v w) (mark t v w))) [
      | Less ↦ λ e.
          uncounted-mark d r (weave c d s (q ∷ t)) v w
          ∙ ap (max (if is_counted d r.0.1 then 0 else row_mark r v w)) (weave-mark c d s (q ∷ t) rest_s up_t (λ v w. omega (arith, live_s v w)) live_t v w)
          ∙ woven-first (is_counted c w) (is_counted d w) (is_counted d r.0.1) (row_mark r v w) (mark s v w) (max (row_mark q v w) (mark t v w))
          (λ some. (
            own-counted d r v w some,
            none-behind r s v w low_s some,
            none-behind r (q ∷ t) v w (and-both (is_lt (key_cmp r.0 q.0)) (below_all key_cmp r.0 t) (ap is_lt e) (below-chain r.0 q.0 t e low_t)) some,
          ))
      | Equal ↦ λ e.
          let same = key_exact r.0 q.0 e in
          ap (max (row_mark r v w)) (weave-mark c d s t rest_s rest_t (λ v w. omega (arith, live_s v w)) (λ v w. omega (arith, live_t v w)) v w)
          ∙ woven-both (is_counted c w) (is_counted d w) (row_mark r v w) (row_mark q v w) (mark s v w) (mark t v w)
          (same-live r q v w same (omega (arith, live_s v w)) (omega (arith, live_t v w)))
          (λ some. (none-behind r s v w low_s some, none-behind r t v w (subst (λ (k : Key). IsTrue (below_all key_cmp k t)) (sym same) low_t) some))
      | Greater ↦ λ e.
          let less : key_cmp q.0 r.0 ≡ Less = key_total.antisymm q.0 r.0 ∙ ap ordering_reverse e in
          uncounted-mark c q (weave c d (r ∷ s) t) v w
          ∙ ap (max (if is_counted c q.0.1 then 0 else row_mark q v w)) (weave-mark c d (r ∷ s) t up_s rest_t live_s (λ v w. omega (arith, live_t v w)) v w)
          ∙ woven-second (is_counted c w) (is_counted d w) (is_counted c q.0.1) (row_mark q v w) (max (row_mark r v w) (mark s v w)) (mark t v w)
          (λ some. (
            own-counted c q v w some,
            none-behind q t v w low_t some,
            none-behind q (r ∷ s) v w (and-both (is_lt (key_cmp q.0 r.0)) (below_all key_cmp q.0 s) (ap is_lt less) (below-chain q.0 r.0 s less low_s)) some,
          ))
    ] refl where
      low_s : IsTrue (below_all key_cmp r.0 s)
      low_s = and-left (below_all key_cmp r.0 s) (is_sorted key_cmp s) up_s

      rest_s : IsAscending s
      rest_s = and-right (below_all key_cmp r.0 s) (is_sorted key_cmp s) up_s

      low_t : IsTrue (below_all key_cmp q.0 t)
      low_t = and-left (below_all key_cmp q.0 t) (is_sorted key_cmp t) up_t

      rest_t : IsAscending t
      rest_t = and-right (below_all key_cmp q.0 t) (is_sorted key_cmp t) up_t

-- ---- it ascends

below-uncounted : (k : Key) (counts : List ℕ) (r : Row) (rest : List Row) → IsTrue (is_lt (key_cmp k r.0)) → IsTrue (below_all key_cmp k rest) → IsTrue (below_all key_cmp k (uncounted counts r rest))
below-uncounted k counts r rest h g = at (is_counted counts r.0.1) where
  at : (b : Bool) → IsTrue (below_all key_cmp k (if b then rest else r ∷ rest))
  at true = g
  at false = and-both (is_lt (key_cmp k r.0)) (below_all key_cmp k rest) h g

below-weave : (k : Key) (c d : List ℕ) (s t : List Row) → IsTrue (below_all key_cmp k s) → IsTrue (below_all key_cmp k t) → IsTrue (below_all key_cmp k (weave c d s t))
below-weave k c d [] t h g = below-kept (λ q. not (is_counted c q.0.1)) k t g
below-weave k c d (r ∷ s) [] h g =
    below-uncounted k d r (weave c d s []) (and-left (is_lt (key_cmp k r.0)) (below_all key_cmp k s) h) (below-weave k c d s [] (and-right (is_lt (key_cmp k r.0)) (below_all key_cmp k s) h) g)
below-weave k c d (r ∷ s) (q ∷ t) h g =
    elim (key_cmp r.0 q.0) as (λ o. IsTrue (below_all key_cmp k (by_order o (uncounted d r (weave c d s (q ∷ t))) (r ∷ weave c d s t) (uncounted c q (weave_row c d r (weave c d s) t))))) [
      | Less ↦ below-uncounted k d r (weave c d s (q ∷ t)) first_s (below-weave k c d s (q ∷ t) rest_s g)
      | Equal ↦ and-both (is_lt (key_cmp k r.0)) (below_all key_cmp k (weave c d s t)) first_s (below-weave k c d s t rest_s rest_t)
      | Greater ↦ below-uncounted k c q (weave c d (r ∷ s) t) first_t (below-weave k c d (r ∷ s) t h rest_t)
    ] where
      first_s : IsTrue (is_lt (key_cmp k r.0))
      first_s = and-left (is_lt (key_cmp k r.0)) (below_all key_cmp k s) h

      rest_s : IsTrue (below_all key_cmp k s)
      rest_s = and-right (is_lt (key_cmp k r.0)) (below_all key_cmp k s) h

      first_t : IsTrue (is_lt (key_cmp k q.0))
      first_t = and-left (is_lt (key_cmp k q.0)) (below_all key_cmp k t) g

      rest_t : IsTrue (below_all key_cmp k t)
      rest_t = and-right (is_lt (key_cmp k q.0)) (below_all key_cmp k t) g

ascending-uncounted : (counts : List ℕ) (r : Row) (rest : List Row) → IsTrue (below_all key_cmp r.0 rest) → IsAscending rest → IsAscending (uncounted counts r rest)
ascending-uncounted counts r rest h up = at (is_counted counts r.0.1) where
  at : (b : Bool) → IsAscending (if b then rest else r ∷ rest)
  at true = up
  at false = and-both (below_all key_cmp r.0 rest) (is_sorted key_cmp rest) h up

pub ascending-weave : (c d : List ℕ) (s t : List Row) → IsAscending s → IsAscending t → IsAscending (weave c d s t)
ascending-weave c d [] t up_s up_t = ascending-kept (λ q. not (is_counted c q.0.1)) t up_t
ascending-weave c d (r ∷ s) [] up_s up_t =
    let low = and-left (below_all key_cmp r.0 s) (is_sorted key_cmp s) up_s in
    ascending-uncounted d r (weave c d s []) (below-weave r.0 c d s [] low refl) (ascending-weave c d s [] (and-right (below_all key_cmp r.0 s) (is_sorted key_cmp s) up_s) up_t)
ascending-weave c d (r ∷ s) (q ∷ t) up_s up_t =
    elim (key_cmp r.0 q.0) as (λ o. key_cmp r.0 q.0 ≡ o → IsAscending (by_order o (uncounted d r (weave c d s (q ∷ t))) (r ∷ weave c d s t) (uncounted c q (weave_row c d r (weave c d s) t)))) [
      | Less ↦ λ e. ascending-uncounted d r (weave c d s (q ∷ t))
          (below-weave r.0 c d s (q ∷ t) low_s (and-both (is_lt (key_cmp r.0 q.0)) (below_all key_cmp r.0 t) (ap is_lt e) (below-chain r.0 q.0 t e low_t)))
          (ascending-weave c d s (q ∷ t) rest_s up_t)
      | Equal ↦ λ e. and-both (below_all key_cmp r.0 (weave c d s t)) (is_sorted key_cmp (weave c d s t))
          (below-weave r.0 c d s t low_s (subst (λ (k : Key). IsTrue (below_all key_cmp k t)) (sym (key_exact r.0 q.0 e)) low_t)) (ascending-weave c d s t rest_s rest_t)
      | Greater ↦ λ e.
          let less : key_cmp q.0 r.0 ≡ Less = key_total.antisymm q.0 r.0 ∙ ap ordering_reverse e in
          ascending-uncounted c q (weave c d (r ∷ s) t)
          (below-weave q.0 c d (r ∷ s) t (and-both (is_lt (key_cmp q.0 r.0)) (below_all key_cmp q.0 s) (ap is_lt less) (below-chain q.0 r.0 s less low_s)) low_t)
          (ascending-weave c d (r ∷ s) t up_s rest_t)
    ] refl where
      low_s : IsTrue (below_all key_cmp r.0 s)
      low_s = and-left (below_all key_cmp r.0 s) (is_sorted key_cmp s) up_s

      rest_s : IsAscending s
      rest_s = and-right (below_all key_cmp r.0 s) (is_sorted key_cmp s) up_s

      low_t : IsTrue (below_all key_cmp q.0 t)
      low_t = and-left (below_all key_cmp q.0 t) (is_sorted key_cmp t) up_t

      rest_t : IsAscending t
      rest_t = and-right (below_all key_cmp q.0 t) (is_sorted key_cmp t) up_t

pub weave-join : (s t : Dots) → IsState s → IsState t → weave s.counts t.counts s.rows t.rows ≡ (join_dots s t).rows
weave-join s t h g =
    same_from_mark (weave s.counts t.counts s.rows t.rows) (join_dots s t).rows (ascending-weave s.counts t.counts s.rows t.rows h.ascends g.ascends) (ascending-join (kept s t) (kept t s))
    (λ v w. weave-mark s.counts t.counts s.rows t.rows h.ascends g.ascends h.live g.live v w ∙ sym (rows-join s t v w))

-- ---- the order

all-from : (p : Key → Bool) (s : List Row) → ((v : Val) (w : Tok) → HasRow s v w → IsTrue (p (v, w))) → IsTrue (list_all (λ r. p r.0) s)
all-from p [] h = refl
all-from p (r ∷ s) h =
    and-both (p r.0) (list_all (λ r. p r.0) s) (h r.0.0 r.0.1 (omega (arith, here, is-level r.1))) (all-from p s (λ v w some. h v w (omega (arith, some)))) where
      here : row_mark r r.0.0 r.0.1 ≡ level r.1
      here = ap (λ (b : Bool). if b then level r.1 else 0) (tied_key r.0)

      is-level : (d : Bool) → 0 < level d
      is-level true = omega arith
      is-level false = omega arith

all-to : (p : Key → Bool) (s : List Row) → IsTrue (list_all (λ r. p r.0) s) → (v : Val) (w : Tok) → HasRow s v w → IsTrue (p (v, w))
all-to p [] h v w some = absurd (omega (arith, some))
all-to p (r ∷ s) h v w some = choose (λ m. all-to p s (and-right (p r.0) (list_all (λ r. p r.0) s) h) v w m) (row_mark r v w == 0) refl where
  choose : (HasRow s v w → IsTrue (p (v, w))) → (b : Bool) → (row_mark r v w == 0) ≡ b → IsTrue (p (v, w))
  choose rest true e =
      let none : row_mark r v w ≡ 0 = grind (arith, nat_tests, e) in
      rest (omega (arith, some, none))
  choose rest false e = subst (λ (k : Key). IsTrue (p k)) (sym (own-key r v w (grind (arith, nat_tests, e)))) (and-left (p r.0) (list_all (λ r. p r.0) s) h)

-- what the marks say of a row of the greater state, b and c telling whether its update is counted
outlived : (b : Bool) (m n : ℕ) → (if b then (if m == 0 then 2 else 1) else 0) ≤ 1 → IsTrue (not b || nat_lt 0 m)
outlived true m n h = grind (arith, nat_tests, h)
outlived false m n h = refl

one-told : (c : Bool) (n : ℕ) → c ≡ true → 0 < n → (if c then (if n == 0 then 2 else 1) else 0) ≤ 1
one-told true n e some = grind (arith, nat_tests, some)
one-told false n e some = absurd cc

low-mark : (b c : Bool) (m n : ℕ) → (b ≡ true → c ≡ true) → (0 < n → IsTrue (not b || nat_lt 0 m)) → (if b then (if m == 0 then 2 else 1) else 0) ≤ (if c then (if n == 0 then 2 else 1) else 0)
low-mark false c m n h g = omega arith
low-mark true false m n h g = absurd (let wrong : false ≡ true = h refl in cc)
low-mark true true m n h g = choose (n == 0) refl where
  choose : (z : Bool) → (n == 0) ≡ z → (if m == 0 then 2 else 1) ≤ (if n == 0 then 2 else 1)
  choose true e = grind (arith, nat_tests, e)
  choose false e =
      let some : nat_lt 0 m ≡ true = g (grind (arith, nat_tests, e)) in
      grind (arith, nat_tests, e, some)

counted-more : (s t : List ℕ) (w : Tok) → AreCountsAtMost s t → is_counted s w ≡ true → is_counted t w ≡ true
counted-more s t (single q k) a e = grind (arith, nat_tests, e, a q)
counted-more s t (both w u) a e = cc

at_most-to : (s t : Dots) → IsState s → IsState t → IsAtMost s t → IsTrue (is_at_most s t)
at_most-to s t h g e =
    and-both (are_counts_at_most s.counts t.counts) (list_all (λ r. outlives s r.0) t.rows)
    ((counts-test s.counts t.counts).1 (λ q. omega (arith, count_at-larger s.counts t.counts q, ap (λ (z : Dots). count_at z.counts q) e)))
    (all-from (outlives s) t.rows (λ v w some.
    outlived (is_counted s.counts w) (mark s.rows v w) (mark t.rows v w)
    (omega (arith, at_most-marks s t h g e v w, one-told (is_counted t.counts w) (mark t.rows v w) (given-counted t.counts w (g.given v w some)) some))))

at_most-from : (s t : Dots) → IsState s → IsState t → HaveSameNodes s t → IsTrue (is_at_most s t) → IsAtMost s t
at_most-from s t h g wide e =
    let few = (counts-test s.counts t.counts).0 (and-left (are_counts_at_most s.counts t.counts) (list_all (λ r. outlives s r.0) t.rows) e) in
    at_most-from_marks s t h g wide (λ v w. low-mark (is_counted s.counts w) (is_counted t.counts w) (mark s.rows v w) (mark t.rows v w) (counted-more s.counts t.counts w few)
    (all-to (outlives s) t.rows (and-right (are_counts_at_most s.counts t.counts) (list_all (λ r. outlives s r.0) t.rows) e) v w))

pub at_most-test : (s t : Dots) → IsState s → IsState t → HaveSameNodes s t → IsTrue (is_at_most s t) ↔ IsAtMost s t
at_most-test s t h g wide = (at_most-from s t h g wide, at_most-to s t h g)

pub ruleset dots_loops = (weave-join, at_most-test)
