-- The laws of contents, read by keys, and equality last: ordered contents with the same numbers of counts that agree at each key are the same.
use Rattle.std.proofs.Common.{◌≡◌, ◌≤◌, max, ◌&&◌, IsTrue, ◌↔◌, ◌++◌, length, refl, subst, ◌∙◌, arith}
use Rattle.model_sets.specs.Rows.{IsAtMost}
use Rattle.model_sets.specs.Values.{IsWithin}
use Rattle.model_sets.specs.Tests.{is_at_most, is_within}
use Rattle.model_sets.proofs.RowLaws.{and-left, and-right, and-both, mark-join, ascending-join, same_from_mark}
use Rattle.model_sets.proofs.ValueLaws.{held-unite, ascending-of_values, same_from_held}
use Rattle.model_sets.proofs.TestLaws.{is_at_most-tells, is_within-tells}
use Rattle.model_states.specs.Counts.{AreCountsAtMost, are_counts_at_most}
use Rattle.model_states.specs.Register.{IsNotLater, is_not_later}
use Rattle.model_states.specs.Content.{Content, least, join_contents, Key, at_row, at_value, at_count, at_top, content_mark, IsContentAtMost, is_content_at_most, IsOrdered}
use Rattle.model_states.proofs.CountLaws.{count_at-larger, length-larger, same_from_counts, counts-test}
use Rattle.model_states.proofs.RegisterLaws.{reaches-later, same_from_reaches, not_later-reaches, reaches-not_later, register-test}

-- ---- keys

pub content_mark-join : (s t : Content) (k : Key) → content_mark (join_contents s t) k ≡ max (content_mark s k) (content_mark t k)
content_mark-join s t (at_row v w) = mark-join s.rows t.rows v w
content_mark-join s t (at_value v) = held-unite s.values t.values v
content_mark-join s t (at_count node) = count_at-larger s.counts t.counts node
content_mark-join s t (at_top n) = reaches-later s.top t.top n

pub content_mark-least : (k : Key) → content_mark least k ≡ 0
content_mark-least (at_row v w) = refl
content_mark-least (at_value v) = refl
content_mark-least (at_count node) = refl
content_mark-least (at_top n) = refl

pub same_from_content_mark : (s t : Content) → IsOrdered s → IsOrdered t → length s.counts ≡ length t.counts → ((k : Key) → content_mark s k ≡ content_mark t k) → s ≡ t
same_from_content_mark s t up_s up_t e same = λ i. record {
  rows = same_from_mark s.rows t.rows up_s.rows up_t.rows (λ v w. same (at_row v w)) i;
  values = same_from_held s.values t.values up_s.values up_t.values (λ v. same (at_value v)) i;
  counts = same_from_counts s.counts t.counts e (λ node. same (at_count node)) i;
  top = same_from_reaches s.top t.top (λ n. same (at_top n)) i;
}

pub counts-join : (s t : Content) → length (join_contents s t).counts ≡ max (length s.counts) (length t.counts)
counts-join s t = length-larger s.counts t.counts

pub ordered-least : IsOrdered least
ordered-least = record { rows = refl; values = refl }

pub ordered-join : (s t : Content) → IsOrdered (join_contents s t)
ordered-join s t = record { rows = ascending-join s.rows t.rows; values = ascending-of_values (s.values ++ t.values) }

-- ---- the order, part by part, and as a test

at_most-parts : (s t : Content) → IsContentAtMost s t → IsAtMost s.rows t.rows × IsWithin s.values t.values × AreCountsAtMost s.counts t.counts × IsNotLater s.top t.top
at_most-parts s t a = (λ v w. a (at_row v w), λ v. a (at_value v), λ node. a (at_count node), reaches-not_later s.top t.top (λ n. a (at_top n)))

parts-at_most : (s t : Content) → IsAtMost s.rows t.rows × IsWithin s.values t.values × AreCountsAtMost s.counts t.counts × IsNotLater s.top t.top → IsContentAtMost s t
parts-at_most s t p (at_row v w) = p.0 v w
parts-at_most s t p (at_value v) = p.1 v
parts-at_most s t p (at_count node) = p.2 node
parts-at_most s t p (at_top n) = not_later-reaches s.top t.top p.3 n

-- at most at each key is at most in each part
pub order-parts : (s t : Content) → IsContentAtMost s t ↔ (IsAtMost s.rows t.rows × IsWithin s.values t.values × AreCountsAtMost s.counts t.counts × IsNotLater s.top t.top)
order-parts s t = (at_most-parts s t, parts-at_most s t)

pub at_most-from-test : (s t : Content) → IsTrue (is_content_at_most s t) → IsContentAtMost s t
at_most-from-test s t h =
    let sets : IsTrue (is_at_most s.rows t.rows && is_within s.values t.values && are_counts_at_most s.counts t.counts) = and-left (is_at_most s.rows t.rows && is_within s.values t.values && are_counts_at_most s.counts t.counts) (is_not_later s.top t.top) h in
    let first : IsTrue (is_at_most s.rows t.rows && is_within s.values t.values) = and-left (is_at_most s.rows t.rows && is_within s.values t.values) (are_counts_at_most s.counts t.counts) sets in
    parts-at_most s t (
      (is_at_most-tells s.rows t.rows).0 (and-left (is_at_most s.rows t.rows) (is_within s.values t.values) first),
      (is_within-tells s.values t.values).0 (and-right (is_at_most s.rows t.rows) (is_within s.values t.values) first),
      (counts-test s.counts t.counts).0 (and-right (is_at_most s.rows t.rows && is_within s.values t.values) (are_counts_at_most s.counts t.counts) sets),
      (register-test s.top t.top).0 (and-right (is_at_most s.rows t.rows && is_within s.values t.values && are_counts_at_most s.counts t.counts) (is_not_later s.top t.top) h),
    )

pub test-from-at_most : (s t : Content) → IsContentAtMost s t → IsTrue (is_content_at_most s t)
test-from-at_most s t a =
    let parts = at_most-parts s t a in
    and-both (is_at_most s.rows t.rows && is_within s.values t.values && are_counts_at_most s.counts t.counts) (is_not_later s.top t.top)
    (and-both (is_at_most s.rows t.rows && is_within s.values t.values) (are_counts_at_most s.counts t.counts)
    (and-both (is_at_most s.rows t.rows) (is_within s.values t.values) ((is_at_most-tells s.rows t.rows).1 parts.0) ((is_within-tells s.values t.values).1 parts.1))
    ((counts-test s.counts t.counts).1 parts.2))
    ((register-test s.top t.top).1 parts.3)

pub order-test : (s t : Content) → IsTrue (is_content_at_most s t) ↔ IsContentAtMost s t
order-test s t = (at_most-from-test s t, test-from-at_most s t)

pub at_most-itself : (s : Content) → IsContentAtMost s s
at_most-itself s k = omega arith

pub at_most-chain : (s t u : Content) → IsContentAtMost s t → IsContentAtMost t u → IsContentAtMost s u
at_most-chain s t u a b k = omega (arith, a k, b k)

pub at_most-least : (s : Content) → IsContentAtMost least s
at_most-least s k = omega (arith, content_mark-least k)

pub at_most-same : (s t : Content) → s ≡ t → IsContentAtMost s t
at_most-same s t e = subst (λ (u : Content). IsContentAtMost s u) e (at_most-itself s)

pub same-content : (s t : Content) → IsOrdered s → IsOrdered t → length s.counts ≡ length t.counts → IsContentAtMost s t → IsContentAtMost t s → s ≡ t
same-content s t up_s up_t e a b = same_from_content_mark s t up_s up_t e (λ k. omega (arith, a k, b k))

-- ---- the lattice

pub join-idempotent : (s : Content) → IsOrdered s → join_contents s s ≡ s
join-idempotent s up = same_from_content_mark (join_contents s s) s (ordered-join s s) up (omega (arith, counts-join s s)) (λ k. omega (arith, content_mark-join s s k))

pub join-commutative : (s t : Content) → join_contents s t ≡ join_contents t s
join-commutative s t =
    same_from_content_mark (join_contents s t) (join_contents t s) (ordered-join s t) (ordered-join t s) (omega (arith, counts-join s t, counts-join t s))
    (λ k. omega (arith, content_mark-join s t k, content_mark-join t s k))

pub join-associative : (s t u : Content) → join_contents (join_contents s t) u ≡ join_contents s (join_contents t u)
join-associative s t u =
    same_from_content_mark (join_contents (join_contents s t) u) (join_contents s (join_contents t u)) (ordered-join (join_contents s t) u) (ordered-join s (join_contents t u))
    (omega (arith, counts-join (join_contents s t) u, counts-join s t, counts-join s (join_contents t u), counts-join t u))
    (λ k. omega (arith, content_mark-join (join_contents s t) u k, content_mark-join s t k, content_mark-join s (join_contents t u) k, content_mark-join t u k))

pub join-left : (s t : Content) → IsContentAtMost s (join_contents s t)
join-left s t k = omega (arith, content_mark-join s t k)

pub join-right : (s t : Content) → IsContentAtMost t (join_contents s t)
join-right s t k = omega (arith, content_mark-join s t k)

pub join-least : (s t u : Content) → IsContentAtMost s u → IsContentAtMost t u → IsContentAtMost (join_contents s t) u
join-least s t u a b k = omega (arith, content_mark-join s t k, a k, b k)

pub join-monotone : (s s' t t' : Content) → IsContentAtMost s s' → IsContentAtMost t t' → IsContentAtMost (join_contents s t) (join_contents s' t')
join-monotone s s' t t' a b k = omega (arith, content_mark-join s t k, content_mark-join s' t' k, a k, b k)

pub join-above : (s t : Content) → IsOrdered t → length s.counts ≤ length t.counts → IsContentAtMost s t → join_contents s t ≡ t
join-above s t up e a = same_from_content_mark (join_contents s t) t (ordered-join s t) up (omega (arith, e, counts-join s t)) (λ k. omega (arith, content_mark-join s t k, a k))

pub join-below : (s t : Content) → IsOrdered s → length t.counts ≤ length s.counts → IsContentAtMost t s → join_contents s t ≡ s
join-below s t up e a = join-commutative s t ∙ join-above t s up e a

pub at_most-join : (s t : Content) → join_contents s t ≡ t → IsContentAtMost s t
at_most-join s t e = subst (λ (u : Content). IsContentAtMost s u) e (join-left s t)

pub join-nothing : (s : Content) → IsOrdered s → join_contents s least ≡ s
join-nothing s up = join-below s least up (omega arith) (at_most-least s)

pub ruleset keys = (content_mark-join, content_mark-least, same_from_content_mark, order-parts, order-test, counts-join)

pub ruleset lattice = (ordered-join, join-idempotent, join-commutative, join-associative, join-left, join-right, join-least, join-monotone, join-above, at_most-join, at_most-itself, at_most-chain, at_most-least, same-content)
