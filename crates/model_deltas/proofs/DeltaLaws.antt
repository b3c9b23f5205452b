-- The delta between two messages of one sender: its sources, and that they are within the ranges of the format.
use Rattle.std.proofs.Common.{◌≡◌, ℕ, zero, suc, ◌+◌, ◌≤◌, ◌<◌, ℤ, Bool, true, false, cond, ◌==◌, nat_lt, List, [], ◌∷◌, length, filter, Option, Some, None, refl, ap, ◌∙◌, arith}
use Rattle.std.specs.List.{AllByRecursion}
use Rattle.std.specs.Ordering.{int_eq}
use Rattle.model_values.specs.Value.{Val}
use Rattle.model_values.specs.Row.{Row}
use Rattle.model_values.proofs.ListLaws.{length-filter_least}
use Rattle.model_sets.specs.Rows.{mark, level}
use Rattle.model_sets.specs.Values.{held}
use Rattle.model_sets.proofs.EquationLaws.{ascending-changed}
use Rattle.model_sets.proofs.AlgebraLaws.{ascending-filter}
use Rattle.model_states.specs.Counts.{count_max}
use Rattle.model_states.specs.Register.{FitsTop}
use Rattle.model_states.specs.Content.{Content}
use Rattle.model_graph.specs.Graph.{Kind, OrSet, GSet, Counter, MaxReg, Union, Product, Intersection, Map, Filter, Fold}
use Rattle.model_graph.specs.Message.{Sent, Message, sent_at}
use Rattle.model_wire.specs.Lawful.{IsSourceValue, IsRow, AreAtMost, IsSource, IsSent, IsMessage}
use Rattle.model_deltas.specs.Delta.{new_values, changed_counts, changed_top, changed_content, changed_sources, delta_of}
use Rattle.model_deltas.specs.Before.{IsBefore, IsDelta}
use Rattle.model_deltas.proofs.ChangeLaws.{length-changed_counts}

-- ---- sources by their places

pub length-changed : (before : List Sent) (i : ℕ) (after : List Sent) → length (changed_sources before i after) ≡ length after
length-changed before i [] = refl
length-changed before i (t ∷ after) = ap suc (length-changed before (i + 1) after)

changed-at : (before : List Sent) (i : ℕ) (after : List Sent) (j : ℕ) → j < length after → sent_at (changed_sources before i after) j ≡ changed_content (sent_at before (i + j)) (sent_at after j)
changed-at before i [] j low = absurd (omega (arith, low))
changed-at before i (t ∷ after) zero low = ap (λ (n : ℕ). changed_content (sent_at before n) t.content) (let here : i ≡ i + 0 = omega arith in here)
changed-at before i (t ∷ after) (suc j) low =
    changed-at before (i + 1) after j (omega (arith, low)) ∙ ap (λ (n : ℕ). changed_content (sent_at before n) (sent_at after j)) (let there : (i + 1) + j ≡ i + suc j = omega arith in there)

pub delta-source : (before after : Message) (i : ℕ) → i < length after.sources → sent_at (delta_of before after).sources i ≡ changed_content (sent_at before.sources i) (sent_at after.sources i)
delta-source before after i low = changed-at before.sources 0 after.sources i low ∙ ap (λ (n : ℕ). changed_content (sent_at before.sources n) (sent_at after.sources i)) (let here : 0 + i ≡ i = omega arith in here)

pub delta-length : (before after : Message) → length (delta_of before after).sources ≡ length after.sources
delta-length before after = length-changed before.sources 0 after.sources

-- ---- what is kept of a list

pub each-kept : {A : Type 0} (P : A → Type 0) (test : A → Bool) (xs : List A) → AllByRecursion P xs → AllByRecursion P (filter test xs)
each-kept P test [] h = tt
each-kept P test (x ∷ xs) h = choose (test x) (each-kept P test xs h.1) where
  choose : (b : Bool) → AllByRecursion P (filter test xs) → AllByRecursion P (cond b (x ∷ filter test xs) (filter test xs))
  choose true rest = (h.0, rest)
  choose false rest = rest

-- ---- counts and registers

no-counts : (s : List ℕ) → changed_counts s [] ≡ []
no-counts [] = refl
no-counts (c ∷ s) = refl

no-top : (s : Option ℤ) → changed_top s None ≡ None
no-top None = refl
no-top (Some m) = refl

most-changed : (most : ℕ) (s t : List ℕ) → AreAtMost most t → AreAtMost most (changed_counts s t)
most-changed most [] t h = h
most-changed most (c ∷ s) [] h = tt
most-changed most (c ∷ s) (d ∷ t) h = (choose (c == d), most-changed most s t h.1) where
  choose : (b : Bool) → cond b 0 d ≤ most
  choose true = omega arith
  choose false = h.0

top-fits : (s t : Option ℤ) → FitsTop t → FitsTop (changed_top s t)
top-fits None t h = h
top-fits (Some m) None h = tt
top-fits (Some m) (Some n) h = choose (int_eq m n) where
  choose : (b : Bool) → FitsTop (cond b None (Some n))
  choose true = tt
  choose false = h

-- ---- sources

-- a part that a kind has not stays empty
values-none : (s t : Content) → t.values ≡ [] → (changed_content s t).values ≡ []
values-none s t e = ap (λ (values : List Val). new_values s.values values) e

counts-none : (s t : Content) → t.counts ≡ [] → (changed_content s t).counts ≡ []
counts-none s t e = ap (λ (counts : List ℕ). changed_counts s.counts counts) e ∙ no-counts s.counts

top-none : (s t : Content) → t.top ≡ None → (changed_content s t).top ≡ None
top-none s t e = ap (λ (top : Option ℤ). changed_top s.top top) e ∙ no-top s.top

rows-none : (s t : Content) → t.rows ≡ [] → (changed_content s t).rows ≡ []
rows-none s t e = ap (λ (rows : List Row). filter (λ r. nat_lt (mark s.rows r.0.0 r.0.1) (level r.1)) rows) e

pub changed-lawful : (nodes : ℕ) (k : Kind) (s t : Content) → IsSource nodes k t → IsSource nodes k (changed_content s t)
changed-lawful nodes OrSet s t h = (
  record {
    ascending = ascending-changed s.rows t.rows h.0.ascending;
    few = omega (arith, h.0.few, length-filter_least (λ (r : Row). nat_lt (mark s.rows r.0.0 r.0.1) (level r.1)) t.rows);
    each = each-kept (IsRow nodes) (λ r. nat_lt (mark s.rows r.0.0 r.0.1) (level r.1)) t.rows h.0.each;
  },
  λ i. record {
    rows = (changed_content s t).rows;
    values = values-none s t (ap (λ (c : Content). c.values) h.1) i;
    counts = counts-none s t (ap (λ (c : Content). c.counts) h.1) i;
    top = top-none s t (ap (λ (c : Content). c.top) h.1) i;
  },
)
changed-lawful nodes GSet s t h = (
  record {
    ascending = ascending-filter (λ v. held s.values v == 0) t.values h.0.ascending;
    few = omega (arith, h.0.few, length-filter_least (λ (v : Val). held s.values v == 0) t.values);
    each = each-kept IsSourceValue (λ v. held s.values v == 0) t.values h.0.each;
  },
  λ i. record {
    rows = rows-none s t (ap (λ (c : Content). c.rows) h.1) i;
    values = (changed_content s t).values;
    counts = counts-none s t (ap (λ (c : Content). c.counts) h.1) i;
    top = top-none s t (ap (λ (c : Content). c.top) h.1) i;
  },
)
changed-lawful nodes Counter s t h = (
  (length-changed_counts s.counts t.counts ∙ h.0.0, most-changed count_max s.counts t.counts h.0.1),
  λ i. record {
    rows = rows-none s t (ap (λ (c : Content). c.rows) h.1) i;
    values = values-none s t (ap (λ (c : Content). c.values) h.1) i;
    counts = (changed_content s t).counts;
    top = top-none s t (ap (λ (c : Content). c.top) h.1) i;
  },
)
changed-lawful nodes MaxReg s t h = (
  top-fits s.top t.top h.0,
  λ i. record {
    rows = rows-none s t (ap (λ (c : Content). c.rows) h.1) i;
    values = values-none s t (ap (λ (c : Content). c.values) h.1) i;
    counts = counts-none s t (ap (λ (c : Content). c.counts) h.1) i;
    top = (changed_content s t).top;
  },
)
changed-lawful nodes (Union x y) s t h = absurd h
changed-lawful nodes (Product x y) s t h = absurd h
changed-lawful nodes (Intersection x y) s t h = absurd h
changed-lawful nodes (Map x place ops) s t h = absurd h
changed-lawful nodes (Filter x place ops) s t h = absurd h
changed-lawful nodes (Fold x op place lift) s t h = absurd h

pub sources-lawful : (nodes : ℕ) (before : List Sent) (i : ℕ) (after : List Sent) → AllByRecursion (IsSent nodes) after → AllByRecursion (IsSent nodes) (changed_sources before i after)
sources-lawful nodes before i [] h = tt
sources-lawful nodes before i (t ∷ after) h = ((h.0.0, changed-lawful nodes t.decl.kind (sent_at before i) t.content h.0.1), sources-lawful nodes before (i + 1) after h.1)

pub delta-lawful : (before after : Message) → IsMessage before → IsMessage after → IsBefore before after → IsDelta (delta_of before after)
delta-lawful before after b a h = record {
  nodes = a.nodes;
  wide = h.nodes;
  counts = a.counts;
  rises = h.counts;
  few = omega (arith, a.few, delta-length before after);
  sources = sources-lawful (length after.counts) before.sources 0 after.sources a.sources;
}

pub ruleset deltas = (delta-lawful, delta-source, delta-length)
