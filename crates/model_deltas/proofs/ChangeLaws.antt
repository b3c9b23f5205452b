-- What changed in a source, part by part, and what it makes of an earlier content.
use Rattle.std.proofs.Common.{◌≡◌, ◌≢◌, ℕ, zero, suc, ◌≤◌, max, ℤ, Bool, true, false, cond, ◌==◌, nat_lt, if◌then◌else◌, IsTrue, ◌↔◌, List, [], ◌∷◌, ◌++◌, length, Option, Some, None, refl, sym, ap, ◌∙◌, arith}
use Rattle.std.proofs.lemmas.Bool.Decides.{nat_tests, Decides-int_eq}
use Rattle.std.proofs.lemmas.Int.{ints, clamps}
use Rattle.std.specs.Ordering.{int_eq}
use Rattle.model_values.specs.Value.{Val}
use Rattle.model_values.specs.Token.{Tok}
use Rattle.model_values.specs.Row.{Row}
use Rattle.model_sets.specs.Rows.{mark}
use Rattle.model_sets.specs.Values.{held, IsHeld, AreAscending, unite, IsWithin}
use Rattle.model_sets.proofs.ValueLaws.{held-small, held-unite, ascending-of_values, same_from_held}
use Rattle.model_sets.proofs.EquationLaws.{changed-mark, join-changed, ascending-changed}
use Rattle.model_sets.proofs.AlgebraLaws.{held-filter, IsHeld-filter, ascending-filter}
use Rattle.model_states.specs.Counts.{count_at, larger, AreCountsAtMost}
use Rattle.model_states.specs.Register.{later, reaches, IsNotLater}
use Rattle.model_states.specs.Content.{Content, least, join_contents, Key, at_row, at_value, at_count, at_top, content_mark, IsContentAtMost, IsOrdered}
use Rattle.model_states.proofs.CountLaws.{count_at-larger}
use Rattle.model_states.proofs.ContentLaws.{order-parts, same_from_content_mark, content_mark-join, content_mark-least, ordered-join, counts-join}
use Rattle.model_graph.proofs.PlaceLaws.{equal-numbers}
use Rattle.model_deltas.specs.Delta.{new_values, changed_counts, changed_top, changed_content}

-- ---- rows

pub rows-changed : (s t : Content) (v : Val) (w : Tok) → mark (changed_content s t).rows v w ≡ (if nat_lt (mark s.rows v w) (mark t.rows v w) then mark t.rows v w else 0)
rows-changed s t v w = changed-mark s.rows t.rows v w

-- ---- elements

is-new : (s : List Val) (v : Val) → IsTrue (held s v == 0) ↔ (IsHeld s v → ⊥)
is-new s v = (λ h has. grind (arith, nat_tests, h, has), λ none. back (held s v) (held-small s v) none) where
  back : (n : ℕ) → n ≤ 1 → (n ≡ 1 → ⊥) → IsTrue (n == 0)
  back zero h none = refl
  back (suc zero) h none = absurd (none refl)
  back (suc (suc n)) h none = absurd (omega (arith, h))

pub values-changed : (s t : Content) (v : Val) → IsHeld (changed_content s t).values v ↔ (IsHeld t.values v × (IsHeld s.values v → ⊥))
values-changed s t v = (
  λ h. let parts = (IsHeld-filter (λ u. held s.values u == 0) t.values v).0 h in (parts.1, (is-new s.values v).0 parts.0),
  λ h. (IsHeld-filter (λ u. held s.values u == 0) t.values v).1 ((is-new s.values v).1 h.1, h.0),
)

values-joined : (s t : List Val) → AreAscending t → IsWithin s t → unite s (new_values s t) ≡ t
values-joined s t up within = same_from_held (unite s (new_values s t)) t (ascending-of_values (s ++ new_values s t)) up (λ v. each v (held s v) refl) where
  each : (v : Val) (n : ℕ) → held s v ≡ n → held (unite s (new_values s t)) v ≡ held t v
  each v zero e =
      let test : (held s v == 0) ≡ true = grind (arith, nat_tests, e) in
      let kept : held (new_values s t) v ≡ held t v = held-filter (λ u. held s u == 0) t v ∙ ap (λ (b : Bool). if b then held t v else 0) test in
      omega (arith, held-unite s (new_values s t) v, kept, e)
  each v (suc n) e =
      let test : (held s v == 0) ≡ false = grind (arith, nat_tests, e) in
      let none : held (new_values s t) v ≡ 0 = held-filter (λ u. held s u == 0) t v ∙ ap (λ (b : Bool). if b then held t v else 0) test in
      omega (arith, held-unite s (new_values s t) v, none, e, within v, held-small s v, held-small t v)

-- ---- counts

counts-changed : (s t : List ℕ) (node : ℕ) → count_at (changed_counts s t) node ≡ (if count_at s node == count_at t node then 0 else count_at t node)
counts-changed [] t node = choose (0 == count_at t node) (count_at t node) refl where
  choose : (b : Bool) (n : ℕ) → (0 == n) ≡ b → n ≡ (if b then 0 else n)
  choose true n e = sym (equal-numbers 0 n e)
  choose false n e = refl
counts-changed (c ∷ s) [] node = choose (count_at (c ∷ s) node == 0) 0 where
  choose : (b : Bool) (n : ℕ) → n ≡ (if b then n else n)
  choose true n = refl
  choose false n = refl
counts-changed (c ∷ s) (d ∷ t) zero = refl
counts-changed (c ∷ s) (d ∷ t) (suc node) = counts-changed s t node

pub content_counts-changed : (s t : Content) (node : ℕ) → count_at (changed_content s t).counts node ≡ (if count_at s.counts node == count_at t.counts node then 0 else count_at t.counts node)
content_counts-changed s t node = counts-changed s.counts t.counts node

pub length-changed_counts : (s t : List ℕ) → length (changed_counts s t) ≡ length t
length-changed_counts [] t = refl
length-changed_counts (c ∷ s) [] = refl
length-changed_counts (c ∷ s) (d ∷ t) = ap suc (length-changed_counts s t)

counts-joined : (s t : List ℕ) → length s ≤ length t → AreCountsAtMost s t → larger s (changed_counts s t) ≡ t
counts-joined [] t long a = refl
counts-joined (c ∷ s) [] long a = absurd (omega (arith, long))
counts-joined (c ∷ s) (d ∷ t) long a = λ i. choose (c == d) refl i ∷ counts-joined s t (omega (arith, long)) (λ node. a (suc node)) i where
  choose : (b : Bool) → (c == d) ≡ b → max c (cond b 0 d) ≡ d
  choose true e = grind (arith, nat_tests, e)
  choose false e = omega (arith, a 0)

-- ---- registers

is-same : (m n : ℤ) → int_eq m n ≡ true → m ≡ n
is-same m n e = (Decides-int_eq m n).0 e

top-changed : (s t : Option ℤ) (n : ℤ) → changed_top s t ≡ Some n → (t ≡ Some n) × (s ≢ Some n)
top-changed None t n h = (h, λ e. absurd cc)
top-changed (Some m) None n h = absurd cc
top-changed (Some m) (Some k) n h = choose (int_eq m k) refl h where
  choose : (b : Bool) → int_eq m k ≡ b → cond b None (Some k) ≡ Some n → (Some k ≡ Some n) × (Some m ≢ Some n)
  choose true e h = absurd cc
  choose false e h = (h, λ same. differ (let is : m ≡ k = cc in is)) where
    clash : true ≡ false → ⊥
    clash q = cc

    differ : m ≡ k → ⊥
    differ is = clash (sym ((Decides-int_eq m k).1 is) ∙ e)

top-told : (s t : Option ℤ) (n : ℤ) → t ≡ Some n → s ≢ Some n → changed_top s t ≡ Some n
top-told None t n is other = is
top-told (Some m) None n is other = absurd cc
top-told (Some m) (Some k) n is other = choose (int_eq m k) refl where
  choose : (b : Bool) → int_eq m k ≡ b → cond b None (Some k) ≡ Some n
  choose true e = absurd (other (ap Some (is-same m k e) ∙ is))
  choose false e = is

pub content_top-changed : (s t : Content) (n : ℤ) → (changed_content s t).top ≡ Some n ↔ ((t.top ≡ Some n) × (s.top ≢ Some n))
content_top-changed s t n = (top-changed s.top t.top n, λ h. top-told s.top t.top n h.0 h.1)

top-joined : (s t : Option ℤ) → IsNotLater s t → later s (changed_top s t) ≡ t
top-joined None t h = refl
top-joined (Some m) None h = absurd h
top-joined (Some m) (Some n) h = choose (int_eq m n) refl where
  choose : (b : Bool) → int_eq m n ≡ b → later (Some m) (cond b None (Some n)) ≡ Some n
  choose true e = ap Some (is-same m n e)
  choose false e = ap Some (omega (arith, ints, clamps, h))

-- ---- contents

pub changed-ordered : (s t : Content) → IsOrdered t → IsOrdered (changed_content s t)
changed-ordered s t up = record { rows = ascending-changed s.rows t.rows up.rows; values = ascending-filter (λ v. held s.values v == 0) t.values up.values }

pub changed-joined : (s t : Content) → IsOrdered t → length s.counts ≤ length t.counts → IsContentAtMost s t → join_contents s (changed_content s t) ≡ t
changed-joined s t up long a =
    let parts = (order-parts s t).0 a in
    λ i. record {
      rows = join-changed s.rows t.rows up.rows parts.0 i;
      values = values-joined s.values t.values up.values parts.1 i;
      counts = counts-joined s.counts t.counts long parts.2 i;
      top = top-joined s.top t.top parts.3 i;
    }

-- key by key the change makes up the difference, however many nodes the first counts
count-joined : (s t : List ℕ) → AreCountsAtMost s t → (node : ℕ) → count_at (larger s (changed_counts s t)) node ≡ count_at t node
count-joined s t a node = choose (count_at s node == count_at t node) refl (counts-changed s t node) where
  choose : (b : Bool) → (count_at s node == count_at t node) ≡ b → count_at (changed_counts s t) node ≡ (if b then 0 else count_at t node) → count_at (larger s (changed_counts s t)) node ≡ count_at t node
  choose true e is = omega (arith, count_at-larger s (changed_counts s t) node, is, equal-numbers (count_at s node) (count_at t node) e)
  choose false e is = omega (arith, count_at-larger s (changed_counts s t) node, is, a node)

marks-joined : (s t : Content) → IsOrdered t → IsContentAtMost s t → (k : Key) → content_mark (join_contents s (changed_content s t)) k ≡ content_mark t k
marks-joined s t up a (at_row v w) = ap (λ (rows : List Row). mark rows v w) (join-changed s.rows t.rows up.rows ((order-parts s t).0 a).0)
marks-joined s t up a (at_value v) = ap (λ (values : List Val). held values v) (values-joined s.values t.values up.values ((order-parts s t).0 a).1)
marks-joined s t up a (at_count node) = count-joined s.counts t.counts ((order-parts s t).0 a).2 node
marks-joined s t up a (at_top n) = ap (λ (top : Option ℤ). reaches top n) (top-joined s.top t.top ((order-parts s t).0 a).3)

-- to a content that has what there was before, a change is what came to be
pub changed-onto : (m s t : Content) → IsOrdered t → IsContentAtMost s t → IsContentAtMost s m → join_contents m (changed_content s t) ≡ join_contents m t
changed-onto m s t up a b =
    same_from_content_mark (join_contents m (changed_content s t)) (join_contents m t) (ordered-join m (changed_content s t)) (ordered-join m t)
    (omega (arith, counts-join m (changed_content s t), counts-join m t, length-changed_counts s.counts t.counts))
    (λ k. omega (arith, content_mark-join m (changed_content s t) k, content_mark-join m t k, content_mark-join s (changed_content s t) k, marks-joined s t up a k, b k))

-- from nothing everything is new
pub changed-from_nothing : (s t : Content) → IsOrdered t → IsContentAtMost s t → IsContentAtMost s least → changed_content s t ≡ t
changed-from_nothing s t up a none =
    same_from_content_mark (changed_content s t) t (changed-ordered s t up) up (length-changed_counts s.counts t.counts)
    (λ k. omega (arith, content_mark-join s (changed_content s t) k, marks-joined s t up a k, none k, content_mark-least k))

pub ruleset changes = (rows-changed, values-changed, content_counts-changed, content_top-changed, changed-joined, changed-ordered)
