-- The rows of a process are of its width, with tokens of the replicas, where those of its inputs are; so it is valid where there is room.
use Rattle.std.proofs.Common.{◌≡◌, ℕ, ◌+◌, ◌≤◌, ◌⊎◌, inl, inr, max, IsFalse, List, refl, sym, ap, subst, arith}
use Rattle.model_values.specs.Value.{Val, pair}
use Rattle.model_values.specs.Token.{Tok, both}
use Rattle.model_values.specs.Row.{Row}
use Rattle.model_values.specs.Size.{IsTokenOfWidth}
use Rattle.model_functions.specs.Map.{MapOp, mapped}
use Rattle.model_functions.specs.Predicate.{PredOp, passes}
use Rattle.model_functions.proofs.MapLaws.{mapped-width, mapped-ints}
use Rattle.model_sets.specs.Rows.{HasRow}
use Rattle.model_sets.specs.Values.{held, IsHeld}
use Rattle.model_sets.specs.Equations.{union_set, product_set, intersect_set, map_set, filter_set}
use Rattle.model_sets.proofs.WordLaws.{map-has, filter-has, union-has, product-has, product-only, intersect-has, intersect-only}
use Rattle.model_states.specs.Counts.{count_at}
use Rattle.model_states.specs.Content.{Content, of_set, IsOrdered, size_of, row_limit}
use Rattle.model_states.specs.Shape.{HasShape}
use Rattle.model_graph.specs.Graph.{Kind, OrSet, GSet, Counter, MaxReg, Union, Product, Intersection, Map, Filter, Fold, is_source, IsInput}
use Rattle.model_graph.specs.Evaluation.{content_at, rows_at, equation}
use Rattle.model_graph.specs.Lawful.{width_limit, width_at, width_of, shape_of}
use Rattle.model_graph.proofs.EquationLaws.{equation-ordered}
use Rattle.model_states.specs.Register.{FitsTop}
use Rattle.model_journal.specs.Legal.{IsTokenOf, IsValidValue, IsValid}

-- a row of width w with tokens of the replicas
pub record IsFit (nodes w : ℕ) (v : Val) (t : Tok) : Type 0 where
  pub value : IsValidValue w v
  pub width : IsTokenOfWidth w t
  pub token : IsTokenOf nodes t

abbrev pub AreFit : ℕ → ℕ → List Row → Type 0
AreFit nodes w rows = (v : Val) (t : Tok) → HasRow rows v t → IsFit nodes w v t

fit-wider : (nodes w x : ℕ) (v : Val) (t : Tok) → w ≤ x → IsFit nodes w v t → IsFit nodes x v t
fit-wider nodes w x v t wide p = record { value = (record { leaves = omega (arith, p.value.0.leaves, wide); bytes = omega (arith, p.value.0.bytes, wide) }, p.value.1); width = omega (arith, p.width, wide); token = p.token }

fit-union : (nodes w u : ℕ) (x y : List Row) → AreFit nodes w x → AreFit nodes u y → AreFit nodes (max w u) (union_set x y)
fit-union nodes w u x y p q v t h = choose ((union-has x y v t).0 h) where
  choose : HasRow x v t ⊎ HasRow y v t → IsFit nodes (max w u) v t
  choose (inl row) = fit-wider nodes w (max w u) v t (omega arith) (p v t row)
  choose (inr row) = fit-wider nodes u (max w u) v t (omega arith) (q v t row)

fit-product : (nodes w u : ℕ) (x y : List Row) → AreFit nodes w x → AreFit nodes u y → AreFit nodes (w + u) (product_set x y)
fit-product nodes w u x y p q z r h =
    let found = product-only x y z r h in
    let here : HasRow (product_set x y) (pair found.0 found.1) (both found.2 found.3) = subst (λ (c : Tok). HasRow (product_set x y) (pair found.0 found.1) c) found.5 (subst (λ (c : Val). HasRow (product_set x y) c r) found.4 h) in
    let rows = (product-has x y found.0 found.1 found.2 found.3).0 here in
    let a = p found.0 found.2 rows.0 in
    let b = q found.1 found.3 rows.1 in
    subst (λ (c : Val). IsFit nodes (w + u) c r) (sym found.4) (subst (λ (c : Tok). IsFit nodes (w + u) (pair found.0 found.1) c) (sym found.5) (record {
      value = (record { leaves = omega (arith, a.value.0.leaves, b.value.0.leaves); bytes = omega (arith, a.value.0.bytes, b.value.0.bytes) }, (a.value.1, b.value.1));
      width = omega (arith, a.width, b.width);
      token = (a.token, b.token);
    }))

fit-intersection : (nodes w u : ℕ) (x y : List Row) → AreFit nodes w x → AreFit nodes u y → AreFit nodes (w + u) (intersect_set x y)
fit-intersection nodes w u x y p q v r h =
    let found = intersect-only x y v r h in
    let here : HasRow (intersect_set x y) v (both found.0 found.1) = subst (λ (c : Tok). HasRow (intersect_set x y) v c) found.2 h in
    let rows = (intersect-has x y v found.0 found.1).0 here in
    let a = p v found.0 rows.0 in
    let b = q v found.1 rows.1 in
    subst (λ (c : Tok). IsFit nodes (w + u) v c) (sym found.2) (record {
      value = (record { leaves = omega (arith, a.value.0.leaves); bytes = omega (arith, a.value.0.bytes) }, a.value.1);
      width = omega (arith, a.width, b.width);
      token = (a.token, b.token);
    })

fit-map : (nodes w : ℕ) (ops : List MapOp) (x : List Row) → w ≤ width_limit → AreFit nodes w x → AreFit nodes w (map_set (mapped ops) x)
fit-map nodes w ops x narrow p v t h =
    let found = (map-has (mapped ops) x v t).0 h in
    let a = p found.0 t found.2 in
    subst (λ (c : Val). IsFit nodes w c t) found.1 (record { value = (mapped-width w ops found.0 a.value.0, mapped-ints ops found.0 a.value.1 (omega (arith, a.value.0.bytes, narrow))); width = a.width; token = a.token })

fit-filter : (nodes w : ℕ) (ops : List PredOp) (x : List Row) → AreFit nodes w x → AreFit nodes w (filter_set (passes ops) x)
fit-filter nodes w ops x p v t h = p v t ((filter-has (passes ops) x v t).0 h).1

pub fit-equation : (nodes : ℕ) (k : Kind) (ws : List ℕ) (ss : List Content) → IsFalse (is_source k) → width_of k ws ≤ width_limit → ((x : ℕ) → IsInput k x → AreFit nodes (width_at ws x) (rows_at ss x)) → AreFit nodes (width_of k ws) (equation k ss).rows
fit-equation nodes OrSet ws ss e narrow h = cc
fit-equation nodes GSet ws ss e narrow h = cc
fit-equation nodes Counter ws ss e narrow h = cc
fit-equation nodes MaxReg ws ss e narrow h = cc
fit-equation nodes (Union x y) ws ss e narrow h = fit-union nodes (width_at ws x) (width_at ws y) (rows_at ss x) (rows_at ss y) (h x (inl refl)) (h y (inr refl))
fit-equation nodes (Product x y) ws ss e narrow h = fit-product nodes (width_at ws x) (width_at ws y) (rows_at ss x) (rows_at ss y) (h x (inl refl)) (h y (inr refl))
fit-equation nodes (Intersection x y) ws ss e narrow h = fit-intersection nodes (width_at ws x) (width_at ws y) (rows_at ss x) (rows_at ss y) (h x (inl refl)) (h y (inr refl))
fit-equation nodes (Map x place ops) ws ss e narrow h = fit-map nodes (width_at ws x) ops (rows_at ss x) narrow (h x refl)
fit-equation nodes (Filter x place ops) ws ss e narrow h = fit-filter nodes (width_at ws x) ops (rows_at ss x) (h x refl)
fit-equation nodes (Fold x op place lift) ws ss e narrow h = h x refl

-- a process has rows alone
pub equation-shape : (nodes : ℕ) (k : Kind) (ss : List Content) → IsFalse (is_source k) → HasShape (shape_of nodes k) (equation k ss) × (equation k ss ≡ of_set (equation k ss).rows)
equation-shape nodes OrSet ss e = cc
equation-shape nodes GSet ss e = cc
equation-shape nodes Counter ss e = cc
equation-shape nodes MaxReg ss e = cc
equation-shape nodes (Union x y) ss e = (refl, refl)
equation-shape nodes (Product x y) ss e = (refl, refl)
equation-shape nodes (Intersection x y) ss e = (refl, refl)
equation-shape nodes (Map x place ops) ss e = (refl, refl)
equation-shape nodes (Filter x place ops) ss e = (refl, refl)
equation-shape nodes (Fold x op place lift) ss e = (refl, refl)

set-valid : (nodes : ℕ) (k : Kind) (w : ℕ) (s : Content) → s ≡ of_set s.rows → HasShape (shape_of nodes k) s → IsOrdered s → AreFit nodes w s.rows → size_of s ≤ row_limit → IsValid nodes k w s
set-valid nodes k w s rows shape up fit small = record {
  ordered = up;
  shape = shape;
  few = small;
  values = λ v t h. (fit v t h).value;
  tokens = λ v t h. ((fit v t h).width, (fit v t h).token);
  elements = λ v h. absurd (none v h);
  counts = λ q. omega (arith, nobody q);
  top = subst (λ (c : Content). FitsTop c.top) (sym rows) tt;
} where
  none : (v : Val) → IsHeld s.values v → ⊥
  none v h = let z : held s.values v ≡ 0 = ap (λ (c : Content). held c.values v) rows in omega (arith, h, z)

  nobody : (q : ℕ) → count_at s.counts q ≡ 0
  nobody q = ap (λ (c : Content). count_at c.counts q) rows

pub valid-fit : (nodes : ℕ) (k : Kind) (w : ℕ) (s : Content) → IsValid nodes k w s → AreFit nodes w s.rows
valid-fit nodes k w s p v t h = record { value = p.values v t h; width = (p.tokens v t h).0; token = (p.tokens v t h).1 }

-- a process over valid inputs is valid where there is room
pub valid-equation : (nodes : ℕ) (kinds : ℕ → Kind) (k : Kind) (ws : List ℕ) (ss : List Content) → IsFalse (is_source k) → width_of k ws ≤ width_limit → ((x : ℕ) → IsInput k x → IsValid nodes (kinds x) (width_at ws x) (content_at ss x)) → size_of (equation k ss) ≤ row_limit
    → IsValid nodes k (width_of k ws) (equation k ss)
valid-equation nodes kinds k ws ss e narrow inputs small =
    set-valid nodes k (width_of k ws) (equation k ss) (equation-shape nodes k ss e).1 (equation-shape nodes k ss e).0
    (equation-ordered k ss (λ x i. (inputs x i).ordered))
    (fit-equation nodes k ws ss e narrow (λ x i. valid-fit nodes (kinds x) (width_at ws x) (content_at ss x) (inputs x i))) small
