-- The thresholds in words, and that what meets one still does after it grew.
use Rattle.std.proofs.Common.{◌≡◌, ◌≢◌, ℕ, suc, ◌+◌, ◌≤◌, Bool, true, false, not, ◌&&◌, ◌||◌, if◌then◌else◌, ◌==◌, nat_le, IsTrue, List, [], ◌∷◌, length, sum, refl, sym, ap, subst, ◌∙◌, arith, ◌↔◌, ◌⊎◌, inl, inr}
use Rattle.std.proofs.lemmas.Bool.Decides.{nat_tests}
use Rattle.std.proofs.lemmas.Bool.{or_left, or_right, false≢true}
use Rattle.std.specs.List.{list_any, list_all}
use Rattle.std.specs.Ordering.{is_eq, is_lt, eq_by_cmp, ordering_reverse}
use Rattle.std.specs.declared.cmp.Ordering.TheVariants.{Less, Equal, Greater}
use Rattle.std.specs.Cmp.{tied_itself}
use Rattle.std.specs.FinMap.Entries.{is_sorted, below_all}
use Rattle.model_values.specs.Value.{Val, val_cmp, val_exact, val_total}
use Rattle.model_values.specs.Token.{Tok}
use Rattle.model_values.specs.Row.{Key, Row, key_cmp, key_exact}
use Rattle.model_sets.specs.Rows.{level, row_mark, mark, HasRow, IsDeadIn, is_of}
use Rattle.model_sets.specs.Values.{is_value, held, entries_of, IsHeld, AreAscending, IsWithin}
use Rattle.model_sets.proofs.RowLaws.{and-left, and-right, and-both, is-Less, is-Equal, mark-small}
use Rattle.model_sets.proofs.ValueLaws.{held-small, held-below}
use Rattle.model_sets.proofs.EquationLaws.{tied_key}
use Rattle.model_sets.proofs.AlgebraLaws.{held-here, same-value}
use Rattle.model_states.specs.Content.{Content, at_row, at_value, at_count, IsContentAtMost, is_content_at_most, IsOrdered}
use Rattle.model_states.specs.Threshold.{Shape, Threshold, AtLeast, Above, Count, Added, Removed, counted, is_added, is_removed, meets}
use Rattle.model_states.proofs.CountLaws.{sum-monotone}
use Rattle.model_states.proofs.ContentLaws.{at_most-from-test, test-from-at_most, order-test, at_most-chain, at_most-same, same-content}

-- ---- tests over lists

or-cases : (a b : Bool) → IsTrue (a || b) → IsTrue a ⊎ IsTrue b
or-cases true b h = inl refl
or-cases false b h = inr h

all-words : (p : Val → Bool) (vs : List Val) → IsTrue (list_all p vs) → (v : Val) → IsHeld vs v → IsTrue (p v)
all-words p [] h v held = absurd (omega (arith, held))
all-words p (w ∷ vs) h v held = choose (λ g. all-words p vs (and-right (p w) (list_all p vs) h) v g) (is_value w v == 1) refl where
  choose : (IsHeld vs v → IsTrue (p v)) → (b : Bool) → (is_value w v == 1) ≡ b → IsTrue (p v)
  choose later true e =
      let one : is_value w v ≡ 1 = grind (arith, nat_tests, e) in
      subst (λ (z : Val). IsTrue (p z)) (same-value w v one) (and-left (p w) (list_all p vs) h)
  choose later false e =
      let other : is_value w v ≢ 1 = grind (arith, nat_tests, e) in
      later (omega (arith, other, held, held-small (w ∷ []) v, held-small vs v))

words-all : (p : Val → Bool) (vs : List Val) → ((v : Val) → IsHeld vs v → IsTrue (p v)) → IsTrue (list_all p vs)
words-all p [] h = refl
words-all p (w ∷ vs) h =
    and-both (p w) (list_all p vs) (h w (omega (arith, held-here w, held-small vs w)))
    (words-all p vs (λ v held. h v (omega (arith, held, held-small (w ∷ []) v))))

is_of-itself : (r : Row) → IsTrue (is_of r.0.0 r)
is_of-itself r = ap is_eq (tied_itself val_total r.0.0)

own-mark : (r : Row) (s : List Row) → level r.1 ≤ mark (r ∷ s) r.0.0 r.0.1
own-mark r s = omega (arith, own) where
  own : row_mark r r.0.0 r.0.1 ≡ level r.1
  own = ap (λ (b : Bool). if b then level r.1 else 0) (tied_key r.0)

-- a value has a row where one of the rows is of it
any-row : (s : List Row) (v : Val) → IsTrue (list_any (is_of v) s) → (t : Tok) × HasRow s v t
any-row [] v h = absurd (false≢true h)
any-row (r ∷ s) v h = choose (λ g. any-row s v g) (or-cases (is_of v r) (list_any (is_of v) s) h) where
  some : (d : Bool) → 1 ≤ level d
  some true = omega arith
  some false = omega arith

  choose : (IsTrue (list_any (is_of v) s) → (t : Tok) × HasRow s v t) → IsTrue (is_of v r) ⊎ IsTrue (list_any (is_of v) s) → (t : Tok) × HasRow (r ∷ s) v t
  choose later (inl e) = (r.0.1, subst (λ (z : Val). HasRow (r ∷ s) z r.0.1) (sym (val_exact v r.0.0 (is-Equal (val_cmp v r.0.0) e))) (omega (arith, own-mark r s, some r.1)))
  choose later (inr g) = let found = later g in (found.0, omega (arith, found.1))

row-any : (s : List Row) (v : Val) (t : Tok) → HasRow s v t → IsTrue (list_any (is_of v) s)
row-any [] v t h = absurd (omega (arith, h))
row-any (r ∷ s) v t h = choose (λ g. row-any s v t g) (eq_by_cmp key_cmp (v, t) r.0) refl where
  choose : (HasRow s v t → IsTrue (list_any (is_of v) s)) → (b : Bool) → eq_by_cmp key_cmp (v, t) r.0 ≡ b → IsTrue (is_of v r || list_any (is_of v) s)
  choose later true e =
      or_left (is_of v r) (list_any (is_of v) s) (subst (λ (z : Val). IsTrue (is_of z r)) (sym (ap (λ (k : Key). k.0) (key_exact (v, t) r.0 (is-Equal (key_cmp (v, t) r.0) e)))) (is_of-itself r))
  choose later false e =
      let none : row_mark r v t ≡ 0 = ap (λ (b : Bool). if b then level r.1 else 0) e in
      or_right (is_of v r) (list_any (is_of v) s) (later (omega (arith, none, h)))

-- and a dead row where one of them is dead
any-dead : (s : List Row) (v : Val) → IsTrue (list_any (λ r. is_of v r && r.1) s) → (t : Tok) × IsDeadIn s v t
any-dead [] v h = absurd (false≢true h)
any-dead (r ∷ s) v h = choose (λ g. any-dead s v g) (or-cases (is_of v r && r.1) (list_any (λ r. is_of v r && r.1) s) h) where
  two : (d : Bool) → d ≡ true → 2 ≤ level d
  two true e = omega arith
  two false e = absurd (false≢true e)

  choose : (IsTrue (list_any (λ r. is_of v r && r.1) s) → (t : Tok) × IsDeadIn s v t) → IsTrue (is_of v r && r.1) ⊎ IsTrue (list_any (λ r. is_of v r && r.1) s) → (t : Tok) × IsDeadIn (r ∷ s) v t
  choose later (inl e) = (
    r.0.1,
    subst (λ (z : Val). IsDeadIn (r ∷ s) z r.0.1) (sym (val_exact v r.0.0 (is-Equal (val_cmp v r.0.0) (and-left (is_of v r) r.1 e))))
        (omega (arith, own-mark r s, two r.1 (and-right (is_of v r) r.1 e), mark-small (r ∷ s) r.0.0 r.0.1)),
  )
  choose later (inr g) = let found = later g in (found.0, omega (arith, found.1, mark-small (r ∷ s) v found.0))

dead-any : (s : List Row) (v : Val) (t : Tok) → IsDeadIn s v t → IsTrue (list_any (λ r. is_of v r && r.1) s)
dead-any [] v t h = absurd (omega (arith, h))
dead-any (r ∷ s) v t h = choose (λ g. dead-any s v t g) (eq_by_cmp key_cmp (v, t) r.0) refl r.1 refl where
  rest : Bool
  rest = list_any (λ r. is_of v r && r.1) s

  choose : (IsDeadIn s v t → IsTrue rest) → (b : Bool) → eq_by_cmp key_cmp (v, t) r.0 ≡ b → (d : Bool) → r.1 ≡ d → IsTrue ((is_of v r && r.1) || rest)
  choose later true e true g =
      or_left (is_of v r && r.1) rest (and-both (is_of v r) r.1 (subst (λ (z : Val). IsTrue (is_of z r)) (sym (ap (λ (k : Key). k.0) (key_exact (v, t) r.0 (is-Equal (key_cmp (v, t) r.0) e)))) (is_of-itself r)) g)
  choose later true e false g =
      let one : row_mark r v t ≡ 1 = (λ i. if e i then level (g i) else 0) in
      or_right (is_of v r && r.1) rest (later (omega (arith, one, h)))
  choose later false e d g =
      let none : row_mark r v t ≡ 0 = ap (λ (b : Bool). if b then level r.1 else 0) e in
      or_right (is_of v r && r.1) rest (later (omega (arith, none, h)))

-- ---- the thresholds in words

held-test : (s : List Val) (v : Val) → IsTrue (held s v == 1) ↔ IsHeld s v
held-test s v = (λ h. one h, λ h. test h) where
  one : (held s v == 1) ≡ true → held s v ≡ 1
  one h = grind (arith, nat_tests, h)

  test : held s v ≡ 1 → (held s v == 1) ≡ true
  test h = grind (arith, nat_tests, h)

added-there : (s : Content) (v : Val) → IsTrue (is_added s v) → ((t : Tok) × HasRow s.rows v t) ⊎ IsHeld s.values v
added-there s v h = choose (or-cases (list_any (is_of v) s.rows) (held s.values v == 1) h) where
  choose : IsTrue (list_any (is_of v) s.rows) ⊎ IsTrue (held s.values v == 1) → ((t : Tok) × HasRow s.rows v t) ⊎ IsHeld s.values v
  choose (inl row) = inl (any-row s.rows v row)
  choose (inr element) = inr ((held-test s.values v).0 element)

there-added : (s : Content) (v : Val) → ((t : Tok) × HasRow s.rows v t) ⊎ IsHeld s.values v → IsTrue (is_added s v)
there-added s v (inl row) = or_left (list_any (is_of v) s.rows) (held s.values v == 1) (row-any s.rows v row.0 row.1)
there-added s v (inr element) = or_right (list_any (is_of v) s.rows) (held s.values v == 1) ((held-test s.values v).1 element)

pub at_least-words : (shape : Shape) (t s : Content) → IsTrue (meets (AtLeast shape t) s) ↔ IsContentAtMost t s
at_least-words shape t s = order-test t s

above-there : (t s : Content) → IsTrue (is_content_at_most t s && not (is_content_at_most s t)) → IsContentAtMost t s × (IsContentAtMost s t → ⊥)
above-there t s h = (
  at_most-from-test t s (and-left (is_content_at_most t s) (not (is_content_at_most s t)) h),
  λ back. wrong (is_content_at_most s t) (and-right (is_content_at_most t s) (not (is_content_at_most s t)) h) (test-from-at_most s t back),
) where
  wrong : (b : Bool) → IsTrue (not b) → IsTrue b → ⊥
  wrong true f g = false≢true f
  wrong false f g = false≢true g

there-above : (t s : Content) → IsContentAtMost t s → (IsContentAtMost s t → ⊥) → IsTrue (is_content_at_most t s && not (is_content_at_most s t))
there-above t s up down = and-both (is_content_at_most t s) (not (is_content_at_most s t)) (test-from-at_most t s up) (choose (is_content_at_most s t) refl) where
  choose : (b : Bool) → is_content_at_most s t ≡ b → IsTrue (not b)
  choose true e = absurd (down (at_most-from-test s t e))
  choose false e = refl

-- above is at least and not at most
pub above-words : (shape : Shape) (t s : Content) → IsTrue (meets (Above shape t) s) ↔ (IsContentAtMost t s × (IsContentAtMost s t → ⊥))
above-words shape t s = (above-there t s, λ h. there-above t s h.0 h.1)

-- of contents that a variable may have it is at least and another
pub above-other : (shape : Shape) (t s : Content) → IsOrdered t → IsOrdered s → length t.counts ≡ length s.counts → IsTrue (meets (Above shape t) s) ↔ (IsContentAtMost t s × (t ≢ s))
above-other shape t s up_t up_s e = (
  λ h. (let both = above-there t s h in (both.0, λ same. both.1 (at_most-same s t (sym same)))),
  λ h. there-above t s h.0 (λ down. h.1 (same-content t s up_t up_s e h.0 down)),
)

pub count-words : (k : ℕ) (s : Content) → IsTrue (meets (Count k) s) ↔ (k ≤ length s.values + sum s.counts)
count-words k s = (there, back) where
  there : IsTrue (nat_le k (counted s)) → k ≤ counted s
  there h = grind (arith, nat_tests, h)

  back : k ≤ counted s → IsTrue (nat_le k (counted s))
  back h = grind (arith, nat_tests, h)

pub added-words : (vs : List Val) (s : Content) → IsTrue (meets (Added vs) s) ↔ ((v : Val) → IsHeld vs v → ((t : Tok) × HasRow s.rows v t) ⊎ IsHeld s.values v)
added-words vs s = (λ h v held. added-there s v (all-words (is_added s) vs h v held), λ h. words-all (is_added s) vs (λ v held. there-added s v (h v held)))

pub removed-words : (vs : List Val) (s : Content) → IsTrue (meets (Removed vs) s) ↔ ((v : Val) → IsHeld vs v → (t : Tok) × IsDeadIn s.rows v t)
removed-words vs s = (λ h v held. any-dead s.rows v (all-words (is_removed s) vs h v held), λ h. words-all (is_removed s) vs (λ v held. (let dead = h v held in dead-any s.rows v dead.0 dead.1)))

-- ---- growth

-- a smaller first value is in no list of greater ones
first-below : (v w : Val) (t : List Val) → val_cmp v w ≡ Less → IsTrue (below_all val_cmp w (entries_of t)) → IsTrue (below_all val_cmp v (entries_of (w ∷ t)))
first-below v w t e h = and-both (is_lt (val_cmp v w)) (below_all val_cmp v (entries_of t)) (ap is_lt e) (chain t h) where
  chain : (u : List Val) → IsTrue (below_all val_cmp w (entries_of u)) → IsTrue (below_all val_cmp v (entries_of u))
  chain [] g = refl
  chain (x ∷ u) g =
      and-both (is_lt (val_cmp v x)) (below_all val_cmp v (entries_of u)) (ap is_lt (val_total.trans v w x e (is-Less (val_cmp w x) (and-left (is_lt (val_cmp w x)) (below_all val_cmp w (entries_of u)) g))))
      (chain u (and-right (is_lt (val_cmp w x)) (below_all val_cmp w (entries_of u)) g))

-- the rest of ascending values is within the rest of others where both begin with one value
rest-within : (v : Val) (s t : List Val) → IsTrue (below_all val_cmp v (entries_of s)) → IsWithin (v ∷ s) (v ∷ t) → IsWithin s t
rest-within v s t low a u = choose (is_value v u == 1) refl where
  choose : (b : Bool) → (is_value v u == 1) ≡ b → held s u ≤ held t u
  choose true e =
      let one : is_value v u ≡ 1 = grind (arith, nat_tests, e) in
      let none : held s u ≡ 0 = subst (λ (z : Val). held s z ≡ 0) (same-value v u one) (held-below v s low) in
      omega (arith, none)
  choose false e =
      let other : is_value v u ≢ 1 = grind (arith, nat_tests, e) in
      omega (arith, other, a u, held-small (v ∷ []) u)

-- a value below all of them need not be there
skip-within : (w : Val) (s t : List Val) → IsTrue (below_all val_cmp w (entries_of s)) → IsWithin s (w ∷ t) → IsWithin s t
skip-within w s t low a u = choose (is_value w u == 1) refl where
  choose : (b : Bool) → (is_value w u == 1) ≡ b → held s u ≤ held t u
  choose true e =
      let one : is_value w u ≡ 1 = grind (arith, nat_tests, e) in
      let none : held s u ≡ 0 = subst (λ (z : Val). held s z ≡ 0) (same-value w u one) (held-below w s low) in
      omega (arith, none)
  choose false e =
      let other : is_value w u ≢ 1 = grind (arith, nat_tests, e) in
      omega (arith, other, a u, held-small (w ∷ []) u)

-- a set within another has no more elements
pub length-within : (s t : List Val) → AreAscending s → AreAscending t → IsWithin s t → length s ≤ length t
length-within [] t up_s up_t a = omega arith
length-within (v ∷ s) [] up_s up_t a = absurd (omega (arith, held-here v, a v))
length-within (v ∷ s) (w ∷ t) up_s up_t a =
    let low : IsTrue (below_all val_cmp v (entries_of s)) = and-left (below_all val_cmp v (entries_of s)) (is_sorted val_cmp (entries_of s)) up_s in
    let rest_s : AreAscending s = and-right (below_all val_cmp v (entries_of s)) (is_sorted val_cmp (entries_of s)) up_s in
    let high : IsTrue (below_all val_cmp w (entries_of t)) = and-left (below_all val_cmp w (entries_of t)) (is_sorted val_cmp (entries_of t)) up_t in
    let rest_t : AreAscending t = and-right (below_all val_cmp w (entries_of t)) (is_sorted val_cmp (entries_of t)) up_t in
    elim (val_cmp v w) as (λ o. val_cmp v w ≡ o → suc (length s) ≤ suc (length t)) [
      | Less ↦ λ e. absurd (omega (arith, a v, held-here v, held-below v (w ∷ t) (first-below v w t e high)))
      | Equal ↦ λ e. omega (arith, length-within s t rest_s rest_t (rest-within v s t low (subst (λ (z : Val). IsWithin (v ∷ s) (z ∷ t)) (sym (val_exact v w e)) a)))
      | Greater ↦ λ e. omega (arith, length-within (v ∷ s) t up_s rest_t (skip-within w (v ∷ s) t (first-below w v s (val_total.antisymm w v ∙ ap ordering_reverse e) low) a))
    ] refl

pub at_least-grows : (shape : Shape) (u s t : Content) → IsContentAtMost s t → IsTrue (meets (AtLeast shape u) s) → IsTrue (meets (AtLeast shape u) t)
at_least-grows shape u s t a h = test-from-at_most u t (at_most-chain u s t (at_most-from-test u s h) a)

pub above-grows : (shape : Shape) (u s t : Content) → IsContentAtMost s t → IsTrue (meets (Above shape u) s) → IsTrue (meets (Above shape u) t)
above-grows shape u s t a h =
    let both = above-there u s h in
    there-above u t (at_most-chain u s t both.0 a) (λ down. both.1 (at_most-chain s t u a down))

pub count-grows : (k : ℕ) (s t : Content) → AreAscending s.values → AreAscending t.values → IsContentAtMost s t → IsTrue (meets (Count k) s) → IsTrue (meets (Count k) t)
count-grows k s t up_s up_t a h =
    (count-words k t).1 (omega (arith, (count-words k s).0 h, length-within s.values t.values up_s up_t (λ v. a (at_value v)), sum-monotone s.counts t.counts (λ node. a (at_count node))))

pub added-grows : (vs : List Val) (s t : Content) → IsContentAtMost s t → IsTrue (meets (Added vs) s) → IsTrue (meets (Added vs) t)
added-grows vs s t a h = (added-words vs t).1 (λ v member. more v ((added-words vs s).0 h v member)) where
  more : (v : Val) → ((w : Tok) × HasRow s.rows v w) ⊎ IsHeld s.values v → ((w : Tok) × HasRow t.rows v w) ⊎ IsHeld t.values v
  more v (inl row) = inl (row.0, omega (arith, row.1, a (at_row v row.0)))
  more v (inr element) = inr (omega (arith, element, a (at_value v), held-small t.values v))

pub removed-grows : (vs : List Val) (s t : Content) → IsContentAtMost s t → IsTrue (meets (Removed vs) s) → IsTrue (meets (Removed vs) t)
removed-grows vs s t a h = (removed-words vs t).1 (λ v member. (let dead = (removed-words vs s).0 h v member in (dead.0, omega (arith, dead.1, a (at_row v dead.0), mark-small t.rows v dead.0))))

pub threshold-grows : (threshold : Threshold) (s t : Content) → IsOrdered s → IsOrdered t → IsContentAtMost s t → IsTrue (meets threshold s) → IsTrue (meets threshold t)
threshold-grows (AtLeast shape u) s t up_s up_t a h = at_least-grows shape u s t a h
threshold-grows (Above shape u) s t up_s up_t a h = above-grows shape u s t a h
threshold-grows (Count k) s t up_s up_t a h = count-grows k s t up_s.values up_t.values a h
threshold-grows (Added vs) s t up_s up_t a h = added-grows vs s t a h
threshold-grows (Removed vs) s t up_s up_t a h = removed-grows vs s t a h

pub ruleset words = (at_least-words, above-words, above-other, count-words, added-words, removed-words)

pub ruleset growth = (threshold-grows, at_least-grows, above-grows, count-grows, added-grows, removed-grows)
