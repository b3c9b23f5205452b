-- What a source may hold in a message: the least content, the join of two such contents that is not too large, and what an update brings.
use Rattle.std.proofs.Common.{◌≡◌, ℕ, ◌+◌, ◌≤◌, ◌<◌, min, max, Bool, true, false, cond, IsTrue, List, [], ◌∷◌, ◌++◌, length, refl, sym, ap, subst, ◌∙◌, arith}
use Rattle.std.specs.List.{AllByRecursion}
use Rattle.std.specs.Ordering.{eq_by_cmp}
use Rattle.model_values.specs.Value.{Val}
use Rattle.model_values.specs.Token.{Tok, single, both}
use Rattle.model_values.specs.Row.{Key, Row, key_cmp, key_exact}
use Rattle.model_values.specs.Size.{IsTokenOfWidth}
use Rattle.model_sets.specs.Rows.{HasRow, level, mark}
use Rattle.model_sets.proofs.RowLaws.{is-Equal, ascending-join}
use Rattle.model_sets.proofs.ValueLaws.{ascending-of_values}
use Rattle.model_sets.proofs.UpdateLaws.{remove-ascending, length-remove_delta}
use Rattle.model_states.specs.Counts.{count_max, count_at, zeros, larger}
use Rattle.model_states.specs.Content.{Content, join_contents, size_of, row_limit, IsOrdered}
use Rattle.model_states.specs.Threshold.{set, grow, counter, register}
use Rattle.model_states.specs.Shape.{HasShape}
use Rattle.model_states.specs.Update.{Op, Add, Remove, Insert, Inc, Max, Join, delta}
use Rattle.model_states.proofs.CountLaws.{length-zeros, length-inc}
use Rattle.model_states.proofs.DeltaLaws.{shape-join}
use Rattle.model_graph.specs.Graph.{Kind, OrSet, GSet, Counter, MaxReg, Union, Product, Intersection, Map, Filter, Fold, Decl, is_source, kind_at}
use Rattle.model_graph.specs.Evaluation.{least_of}
use Rattle.model_graph.specs.Lawful.{shape_of}
use Rattle.model_graph.specs.Width.{HasWidth}
use Rattle.model_states.proofs.RegisterLaws.{fits-later}
use Rattle.model_wire.specs.Lawful.{IsSourceValue, IsBase, IsRow, AreAtMost, IsSource}
use Rattle.model_runs.specs.Held.{IsUpdate}
use Rattle.model_runs.proofs.EachLaws.{each-replicate, each-set, each-join, each-removed, each-unite, each-larger}

-- what is held of no other kind than a source
pub source-kind : (nodes : ℕ) (k : Kind) (s : Content) → IsSource nodes k s → IsTrue (is_source k)
source-kind nodes OrSet s h = refl
source-kind nodes GSet s h = refl
source-kind nodes Counter s h = refl
source-kind nodes MaxReg s h = refl
source-kind nodes (Union x y) s h = absurd h
source-kind nodes (Product x y) s h = absurd h
source-kind nodes (Intersection x y) s h = absurd h
source-kind nodes (Map x place ops) s h = absurd h
source-kind nodes (Filter x place ops) s h = absurd h
source-kind nodes (Fold x op place lift) s h = absurd h

pub source-shape : (nodes : ℕ) (k : Kind) (s : Content) → IsSource nodes k s → HasShape (shape_of nodes k) s
source-shape nodes OrSet s h = h.1
source-shape nodes GSet s h = h.1
source-shape nodes Counter s h = (h.1, h.0.0)
source-shape nodes MaxReg s h = h.1
source-shape nodes (Union x y) s h = absurd h
source-shape nodes (Product x y) s h = absurd h
source-shape nodes (Intersection x y) s h = absurd h
source-shape nodes (Map x place ops) s h = absurd h
source-shape nodes (Filter x place ops) s h = absurd h
source-shape nodes (Fold x op place lift) s h = absurd h

pub source-ordered : (nodes : ℕ) (k : Kind) (s : Content) → IsSource nodes k s → IsOrdered s
source-ordered nodes OrSet s h = subst IsOrdered (sym h.1) (record { rows = h.0.ascending; values = refl })
source-ordered nodes GSet s h = subst IsOrdered (sym h.1) (record { rows = refl; values = h.0.ascending })
source-ordered nodes Counter s h = subst IsOrdered (sym h.1) (record { rows = refl; values = refl })
source-ordered nodes MaxReg s h = subst IsOrdered (sym h.1) (record { rows = refl; values = refl })
source-ordered nodes (Union x y) s h = absurd h
source-ordered nodes (Product x y) s h = absurd h
source-ordered nodes (Intersection x y) s h = absurd h
source-ordered nodes (Map x place ops) s h = absurd h
source-ordered nodes (Filter x place ops) s h = absurd h
source-ordered nodes (Fold x op place lift) s h = absurd h

-- ---- widths

-- the value and the token of a row are those of a source
pub row-of : (nodes : ℕ) (rows : List Row) (v : Val) (t : Tok) → AllByRecursion (IsRow nodes) rows → HasRow rows v t → IsSourceValue v × IsBase nodes t
row-of nodes [] v t each row = absurd (omega (arith, row))
row-of nodes (r ∷ rows) v t each row = choose (λ g. row-of nodes rows v t each.1 g) (eq_by_cmp key_cmp (v, t) r.0) refl row where
  choose : (HasRow rows v t → IsSourceValue v × IsBase nodes t) → (b : Bool) → eq_by_cmp key_cmp (v, t) r.0 ≡ b → 0 < max (cond b (level r.1) 0) (mark rows v t) → IsSourceValue v × IsBase nodes t
  choose rest true e g = subst (λ (k : Key). IsSourceValue k.0 × IsBase nodes k.1) (sym (key_exact (v, t) r.0 (is-Equal (key_cmp (v, t) r.0) e))) each.0
  choose rest false e g = rest (omega (arith, g))

base-narrow : (nodes : ℕ) (t : Tok) → IsBase nodes t → IsTokenOfWidth 1 t
base-narrow nodes (single q k) h = omega arith
base-narrow nodes (both t s) h = absurd h

no-rows : (s t : Content) → s ≡ t → t.rows ≡ [] → HasWidth 1 s
no-rows s t e none = subst (HasWidth 1) (sym e) (record {
  values = λ v w row. absurd (let nothing : mark t.rows v w ≡ 0 = ap (λ (rows : List Row). mark rows v w) none in omega (arith, row, nothing));
  tokens = λ v w row. absurd (let nothing : mark t.rows v w ≡ 0 = ap (λ (rows : List Row). mark rows v w) none in omega (arith, row, nothing));
})

pub source-narrow : (nodes : ℕ) (k : Kind) (s : Content) → IsSource nodes k s → HasWidth 1 s
source-narrow nodes OrSet s h = record { values = λ v t row. (row-of nodes s.rows v t h.0.each row).0.size; tokens = λ v t row. base-narrow nodes t (row-of nodes s.rows v t h.0.each row).1 }
source-narrow nodes GSet s h = no-rows s _ h.1 refl
source-narrow nodes Counter s h = no-rows s _ h.1 refl
source-narrow nodes MaxReg s h = no-rows s _ h.1 refl
source-narrow nodes (Union x y) s h = absurd h
source-narrow nodes (Product x y) s h = absurd h
source-narrow nodes (Intersection x y) s h = absurd h
source-narrow nodes (Map x place ops) s h = absurd h
source-narrow nodes (Filter x place ops) s h = absurd h
source-narrow nodes (Fold x op place lift) s h = absurd h

-- ---- the least content, and joins

pub source-least : (nodes : ℕ) (k : Kind) → IsTrue (is_source k) → IsSource nodes k (least_of nodes k)
source-least nodes OrSet e = (record { ascending = refl; few = omega arith; each = tt }, refl)
source-least nodes GSet e = (record { ascending = refl; few = omega arith; each = tt }, refl)
source-least nodes Counter e = ((length-zeros nodes, each-replicate (λ c. c ≤ count_max) nodes 0 (omega arith)), refl)
source-least nodes MaxReg e = (tt, refl)
source-least nodes (Union x y) e = absurd cc
source-least nodes (Product x y) e = absurd cc
source-least nodes (Intersection x y) e = absurd cc
source-least nodes (Map x place ops) e = absurd cc
source-least nodes (Filter x place ops) e = absurd cc
source-least nodes (Fold x op place lift) e = absurd cc

most-larger : (most : ℕ) (s t : List ℕ) → AreAtMost most s → AreAtMost most t → AreAtMost most (larger s t)
most-larger most s t h g = each-larger (λ c. c ≤ most) (λ c d low high. omega (arith, low, high)) s t h g

-- the join of what two sources hold, if it is not too large
pub source-join : (nodes : ℕ) (k : Kind) (s t : Content) → IsSource nodes k s → IsSource nodes k t → size_of (join_contents s t) ≤ row_limit → IsSource nodes k (join_contents s t)
source-join nodes OrSet s t h g small =
    (record { ascending = ascending-join s.rows t.rows; few = omega (arith, small); each = each-join nodes s.rows t.rows h.0.each g.0.each }, shape-join set s t h.1 g.1)
source-join nodes GSet s t h g small =
    (record { ascending = ascending-of_values (s.values ++ t.values); few = omega (arith, small); each = each-unite IsSourceValue s.values t.values h.0.each g.0.each }, shape-join grow s t h.1 g.1)
source-join nodes Counter s t h g small =
    let shape = shape-join (counter nodes) s t (h.1, h.0.0) (g.1, g.0.0) in
    ((shape.1, most-larger count_max s.counts t.counts h.0.1 g.0.1), shape.0)
source-join nodes MaxReg s t h g small = (fits-later s.top t.top h.0 g.0, shape-join register s t h.1 g.1)
source-join nodes (Union x y) s t h g small = absurd h
source-join nodes (Product x y) s t h g small = absurd h
source-join nodes (Intersection x y) s t h g small = absurd h
source-join nodes (Map x place ops) s t h g small = absurd h
source-join nodes (Filter x place ops) s t h g small = absurd h
source-join nodes (Fold x op place lift) s t h g small = absurd h

-- ---- updates

pub update-source : (nodes : ℕ) (g : List Decl) (x : ℕ) (op : Op) → IsUpdate nodes g x op → IsTrue (is_source (kind_at g x))
update-source nodes g x (Add v) h = subst (λ (k : Kind). IsTrue (is_source k)) (sym h.0) refl
update-source nodes g x (Remove v) h = subst (λ (k : Kind). IsTrue (is_source k)) (sym h.0) refl
update-source nodes g x (Insert v) h = subst (λ (k : Kind). IsTrue (is_source k)) (sym h.0) refl
update-source nodes g x (Inc by) h = subst (λ (k : Kind). IsTrue (is_source k)) (sym h) refl
update-source nodes g x (Max n) h = subst (λ (k : Kind). IsTrue (is_source k)) (sym h.0) refl
update-source nodes g x (Join s) h = source-kind nodes (kind_at g x) s h

-- what an update of one of the nodes brings is what its source may hold
pub delta-source : (nodes p n : ℕ) (g : List Decl) (x : ℕ) (op : Op) (s : Content) → IsUpdate nodes g x op → IsSource nodes (kind_at g x) s → p < nodes → n < 100000 → IsSource nodes (kind_at g x) (delta op s p (n + 1))
delta-source nodes p n g x (Add v) s h here member low =
    subst (λ (k : Kind). IsSource nodes k (delta (Add v) s p (n + 1))) (sym h.0)
    (record { ascending = refl; few = omega arith; each = ((h.1, (member, omega arith, omega (arith, low))), tt) }, refl)
delta-source nodes p n g x (Remove v) s h here member low =
    let old : IsSource nodes OrSet s = subst (λ (k : Kind). IsSource nodes k s) h.0 here in
    subst (λ (k : Kind). IsSource nodes k (delta (Remove v) s p (n + 1))) (sym h.0)
    (record { ascending = remove-ascending v s.rows old.0.ascending; few = omega (arith, length-remove_delta v s.rows, old.0.few); each = each-removed nodes v s.rows old.0.each }, refl)
delta-source nodes p n g x (Insert v) s h here member low =
    subst (λ (k : Kind). IsSource nodes k (delta (Insert v) s p (n + 1))) (sym h.0) (record { ascending = refl; few = omega arith; each = (h.1, tt) }, refl)
delta-source nodes p n g x (Inc by) s h here member low =
    let old : IsSource nodes Counter s = subst (λ (k : Kind). IsSource nodes k s) h here in
    subst (λ (k : Kind). IsSource nodes k (delta (Inc by) s p (n + 1))) (sym h)
    ((length-inc s.counts p by ∙ old.0.0, each-set (λ c. c ≤ count_max) (zeros (length s.counts)) p (min (count_at s.counts p + by) count_max) (each-replicate (λ c. c ≤ count_max) (length s.counts) 0 (omega arith)) (omega arith)), refl)
delta-source nodes p n g x (Max m) s h here member low = subst (λ (k : Kind). IsSource nodes k (delta (Max m) s p (n + 1))) (sym h.0) (h.1, refl)
delta-source nodes p n g x (Join t) s h here member low = h
