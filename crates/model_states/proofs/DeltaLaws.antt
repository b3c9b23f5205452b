-- What updates join in: ordered contents of one shape, key by key.
use Rattle.std.proofs.Common.{◌≡◌, ◌≢◌, ℕ, ◌+◌, ◌<◌, min, max, ℤ, Bool, true, false, if◌then◌else◌, ◌==◌, [], ◌∷◌, length, Some, refl, sym, ap, subst, ◌∙◌, arith, ◌↔◌}
use Rattle.std.proofs.lemmas.Bool.Decides.{nat_tests}
use Rattle.std.specs.Ordering.{is_eq, eq_by_cmp}
use Rattle.std.specs.Cmp.{tied_itself}
use Rattle.model_values.specs.Value.{Val, val_cmp, val_exact, val_total}
use Rattle.model_values.specs.Token.{Tok, single}
use Rattle.model_values.specs.Row.{Key, key_cmp, key_exact}
use Rattle.model_sets.specs.Rows.{HasRow, IsDeadIn, mark, add_delta}
use Rattle.model_sets.specs.Values.{IsHeld}
use Rattle.model_sets.proofs.RowLaws.{is-Equal}
use Rattle.model_sets.proofs.EquationLaws.{tied_key}
use Rattle.model_sets.proofs.AlgebraLaws.{held-here, same-value}
use Rattle.model_sets.proofs.UpdateLaws.{dead_of, remove-mark, remove-ascending}
use Rattle.model_states.specs.Counts.{count_max, count_at}
use Rattle.model_states.specs.Content.{Content, IsOrdered, join_contents}
use Rattle.model_states.specs.Threshold.{Shape, set, grow, counter, register, fold}
use Rattle.model_states.specs.Shape.{HasShape}
use Rattle.model_states.specs.Update.{Add, Remove, Insert, Inc, Max, delta}
use Rattle.model_states.proofs.CountLaws.{length-inc, count_at-inc, length-larger}

-- ---- shapes

pub shape-join : (shape : Shape) (s t : Content) → HasShape shape s → HasShape shape t → HasShape shape (join_contents s t)
shape-join set s t p q = λ i. join_contents (p i) (q i)
shape-join grow s t p q = λ i. join_contents (p i) (q i)
shape-join (counter nodes) s t p q = (λ i. join_contents (p.0 i) (q.0 i), omega (arith, length-larger s.counts t.counts, p.1, q.1))
shape-join register s t p q = λ i. join_contents (p i) (q i)
shape-join fold s t p q = λ i. join_contents (p i) (q i)

-- contents of one shape have the same number of counts
pub shape-counts : (shape : Shape) (s t : Content) → HasShape shape s → HasShape shape t → length s.counts ≡ length t.counts
shape-counts set s t p q = ap (λ (u : Content). length u.counts) p ∙ sym (ap (λ (u : Content). length u.counts) q)
shape-counts grow s t p q = ap (λ (u : Content). length u.counts) p ∙ sym (ap (λ (u : Content). length u.counts) q)
shape-counts (counter nodes) s t p q = p.1 ∙ sym q.1
shape-counts register s t p q = ap (λ (u : Content). length u.counts) p ∙ sym (ap (λ (u : Content). length u.counts) q)
shape-counts fold s t p q = ap (λ (u : Content). length u.counts) p ∙ sym (ap (λ (u : Content). length u.counts) q)

-- ---- an add and a remove

pub add-shape : (v : Val) (s : Content) (replica k : ℕ) → IsOrdered (delta (Add v) s replica k) × HasShape set (delta (Add v) s replica k)
add-shape v s replica k = (record { rows = refl; values = refl }, refl)

-- an add has the one row, and it is live
pub add-row : (v : Val) (s : Content) (replica k : ℕ) (u : Val) (t : Tok) → HasRow (delta (Add v) s replica k).rows u t ↔ ((u ≡ v) × (t ≡ single replica k))
add-row v s replica k u t = (λ h. there (eq_by_cmp key_cmp (u, t) (v, single replica k)) refl h, λ h. back h.0 h.1) where
  there : (b : Bool) → eq_by_cmp key_cmp (u, t) (v, single replica k) ≡ b → 0 < max (if b then 1 else 0) 0 → (u ≡ v) × (t ≡ single replica k)
  there true e pos = let same : (u, t) ≡ (v, single replica k) = key_exact (u, t) (v, single replica k) (is-Equal (key_cmp (u, t) (v, single replica k)) e) in
      (ap (λ (q : Key). q.0) same, ap (λ (q : Key). q.1) same)
  there false e pos = absurd (omega (arith, pos))

  here : eq_by_cmp key_cmp (v, single replica k) (v, single replica k) ≡ true
  here = tied_key (v, single replica k)

  own : HasRow (add_delta v replica k) v (single replica k)
  own = omega (arith, ap {B = ℕ} (λ (b : Bool). if b then 1 else 0) here)

  back : u ≡ v → t ≡ single replica k → HasRow (add_delta v replica k) u t
  back e f = subst (λ (q : Key). HasRow (add_delta v replica k) q.0 q.1) (λ i. (sym e i, sym f i)) own

pub add-live : (v : Val) (s : Content) (replica k : ℕ) (u : Val) (t : Tok) → IsDeadIn (delta (Add v) s replica k).rows u t → ⊥
add-live v s replica k u t h = choose (eq_by_cmp key_cmp (u, t) (v, single replica k)) h where
  choose : (b : Bool) → max (if b then 1 else 0) 0 ≡ 2 → ⊥
  choose true e = omega (arith, e)
  choose false e = omega (arith, e)

pub remove-shape : (v : Val) (s : Content) (replica k : ℕ) → IsOrdered s → IsOrdered (delta (Remove v) s replica k) × HasShape set (delta (Remove v) s replica k)
remove-shape v s replica k up = (record { rows = remove-ascending v s.rows up.rows; values = refl }, refl)

dead-two : (m : ℕ) → 0 < m → dead_of m ≡ 2
dead-two m h = grind (arith, nat_tests, h)

dead-some : (m : ℕ) → 0 < dead_of m → 0 < m
dead-some m h = grind (arith, nat_tests, h)

-- a remove has the rows of its value that are seen
pub remove-row : (v : Val) (s : Content) (replica k : ℕ) (u : Val) (t : Tok) → HasRow (delta (Remove v) s replica k).rows u t ↔ ((u ≡ v) × HasRow s.rows v t)
remove-row v s replica k u t = (λ h. there (eq_by_cmp val_cmp v u) refl (subst (λ (n : ℕ). 0 < n) (remove-mark v s.rows u t) h), λ h. subst (λ (n : ℕ). 0 < n) (sym (remove-mark v s.rows u t)) (back h.0 h.1)) where
  there : (b : Bool) → eq_by_cmp val_cmp v u ≡ b → 0 < (if b then dead_of (mark s.rows u t) else 0) → (u ≡ v) × HasRow s.rows v t
  there true e h =
      let same : v ≡ u = val_exact v u (is-Equal (val_cmp v u) e) in
      (sym same, subst (λ (z : Val). HasRow s.rows z t) (sym same) (dead-some (mark s.rows u t) h))
  there false e h = absurd (omega (arith, h))

  back : u ≡ v → HasRow s.rows v t → 0 < (if eq_by_cmp val_cmp v u then dead_of (mark s.rows u t) else 0)
  back e h = subst (λ (z : Val). 0 < (if eq_by_cmp val_cmp v z then dead_of (mark s.rows z t) else 0)) (sym e)
      (subst (λ (b : Bool). 0 < (if b then dead_of (mark s.rows v t) else 0)) (sym (ap is_eq (tied_itself val_total v))) (omega (arith, dead-two (mark s.rows v t) h)))

-- and each of them is dead
pub remove-dead : (v : Val) (s : Content) (replica k : ℕ) (u : Val) (t : Tok) → HasRow (delta (Remove v) s replica k).rows u t → IsDeadIn (delta (Remove v) s replica k).rows u t
remove-dead v s replica k u t h = remove-mark v s.rows u t ∙ choose (eq_by_cmp val_cmp v u) (subst (λ (n : ℕ). 0 < n) (remove-mark v s.rows u t) h) where
  choose : (b : Bool) → 0 < (if b then dead_of (mark s.rows u t) else 0) → (if b then dead_of (mark s.rows u t) else 0) ≡ 2
  choose true h = dead-two (mark s.rows u t) (dead-some (mark s.rows u t) h)
  choose false h = absurd (omega (arith, h))

-- ---- an insert

pub insert-shape : (v : Val) (s : Content) (replica k : ℕ) → IsOrdered (delta (Insert v) s replica k) × HasShape grow (delta (Insert v) s replica k)
insert-shape v s replica k = (record { rows = refl; values = refl }, refl)

pub insert-value : (v : Val) (s : Content) (replica k : ℕ) (u : Val) → IsHeld (delta (Insert v) s replica k).values u ↔ (u ≡ v)
insert-value v s replica k u = (λ h. sym (same-value v u (omega (arith, h))), λ e. subst (λ (z : Val). IsHeld (v ∷ []) z) (sym e) (omega (arith, held-here v)))

-- ---- a count

pub inc-shape : (by : ℕ) (s : Content) (replica k : ℕ) → IsOrdered (delta (Inc by) s replica k) × HasShape (counter (length s.counts)) (delta (Inc by) s replica k)
inc-shape by s replica k = (record { rows = refl; values = refl }, (refl, length-inc s.counts replica by))

-- the replica's own count rises, up to the most that it can count
pub inc-own : (by : ℕ) (s : Content) (replica k : ℕ) → replica < length s.counts → count_at (delta (Inc by) s replica k).counts replica ≡ min (count_at s.counts replica + by) count_max
inc-own by s replica k low = count_at-inc s.counts replica by replica low ∙ test (replica == replica) refl where
  test : (b : Bool) → (replica == replica) ≡ b → (if b then min (count_at s.counts replica + by) count_max else 0) ≡ min (count_at s.counts replica + by) count_max
  test true e = refl
  test false e = absurd (grind (arith, nat_tests, e))

pub inc-others : (by : ℕ) (s : Content) (replica k q : ℕ) → replica < length s.counts → q ≢ replica → count_at (delta (Inc by) s replica k).counts q ≡ 0
inc-others by s replica k q low other = count_at-inc s.counts replica by q low ∙ test (q == replica) refl where
  test : (b : Bool) → (q == replica) ≡ b → (if b then min (count_at s.counts replica + by) count_max else 0) ≡ 0
  test true e = absurd (grind (arith, nat_tests, e, other))
  test false e = refl

-- ---- a number

pub max-shape : (n : ℤ) (s : Content) (replica k : ℕ) → IsOrdered (delta (Max n) s replica k) × HasShape register (delta (Max n) s replica k)
max-shape n s replica k = (record { rows = refl; values = refl }, refl)

pub max-top : (n : ℤ) (s : Content) (replica k : ℕ) → (delta (Max n) s replica k).top ≡ Some n
max-top n s replica k = refl

pub ruleset shapes = (shape-join, shape-counts)

pub ruleset delta_shapes = (add-shape, remove-shape, insert-shape, inc-shape, max-shape)

pub ruleset delta_keys = (add-row, add-live, remove-row, remove-dead, insert-value, inc-own, inc-others, max-top)
