-- What keeps contents valid: joins, the deltas of updates, and what a variable has before anything happened.
use Rattle.std.proofs.Common.{◌≡◌, ℕ, ℤ, ◌≤◌, ◌<◌, max, ◌⊎◌, inl, inr, Bool, true, false, ◌==◌, length, FitsSigned, refl, sym, subst, ◌∙◌, arith}
use Rattle.std.proofs.lemmas.Bool.Decides.{nat_tests}
use mir.Syntax.{w64}
use Rattle.model_values.specs.Value.{Val}
use Rattle.model_values.specs.Token.{Tok}
use Rattle.model_values.specs.Size.{IsSized, IsTokenOfWidth}
use Rattle.model_sets.specs.Rows.{mark, HasRow}
use Rattle.model_sets.specs.Values.{held, IsHeld}
use Rattle.model_sets.proofs.RowLaws.{mark-join}
use Rattle.model_sets.proofs.ValueLaws.{held-unite, held-small}
use Rattle.model_sets.proofs.UpdateLaws.{length-remove_delta}
use Rattle.model_states.specs.Counts.{count_max, count_at}
use Rattle.model_states.specs.Content.{Content, least, join_contents, size_of, row_limit}
use Rattle.model_states.specs.Shape.{HasShape}
use Rattle.model_states.specs.Update.{Op, Add, Remove, Insert, Inc, Max, Join, delta}
use Rattle.model_states.proofs.CountLaws.{count_at-larger, count_at-zeros, length-zeros}
use Rattle.model_states.proofs.ContentLaws.{ordered-join}
use Rattle.model_states.proofs.DeltaLaws.{shape-join, add-row, remove-row, remove-shape, insert-value, inc-own, inc-others, inc-shape}
use Rattle.model_states.proofs.RegisterLaws.{fits-later}
use Rattle.model_graph.specs.Graph.{Kind, OrSet, GSet, Counter, MaxReg, Union, Product, Intersection, Map, Filter, Fold}
use Rattle.model_graph.specs.Evaluation.{least_of}
use Rattle.model_graph.specs.Lawful.{width_limit, shape_of}
use Rattle.model_graph.proofs.PlaceLaws.{below-or-not, equal-numbers}
use Rattle.model_journal.specs.Legal.{IsTokenOf, IsValidValue, IsValid, IsOpOf, IsSmallOp, count_limit}

positive-max : (a b : ℕ) → 0 < max a b → (0 < a) ⊎ (0 < b)
positive-max a b h = choose (below-or-not 0 a) where
  choose : (0 < a) ⊎ (a ≤ 0) → (0 < a) ⊎ (0 < b)
  choose (inl p) = inl p
  choose (inr p) = inr (omega (arith, p, h))

row-of-join : (s t : Content) (v : Val) (w : Tok) → HasRow (join_contents s t).rows v w → HasRow s.rows v w ⊎ HasRow t.rows v w
row-of-join s t v w h = positive-max (mark s.rows v w) (mark t.rows v w) (subst (λ (n : ℕ). 0 < n) (mark-join s.rows t.rows v w) h)

value-of-join : (s t : Content) (v : Val) → IsHeld (join_contents s t).values v → IsHeld s.values v ⊎ IsHeld t.values v
value-of-join s t v h = choose (positive-max (held s.values v) (held t.values v) (omega (arith, h, held-unite s.values t.values v))) where
  choose : (0 < held s.values v) ⊎ (0 < held t.values v) → IsHeld s.values v ⊎ IsHeld t.values v
  choose (inl p) = inl (omega (arith, p, held-small s.values v))
  choose (inr p) = inr (omega (arith, p, held-small t.values v))

pub valid-join : (nodes : ℕ) (k : Kind) (w : ℕ) (s t : Content) → IsValid nodes k w s → IsValid nodes k w t → size_of (join_contents s t) ≤ row_limit → IsValid nodes k w (join_contents s t)
valid-join nodes k w s t p q small = record {
  ordered = ordered-join s t;
  shape = shape-join (shape_of nodes k) s t p.shape q.shape;
  few = small;
  values = λ v u h. value v u (row-of-join s t v u h);
  tokens = λ v u h. token v u (row-of-join s t v u h);
  elements = λ v h. element v (value-of-join s t v h);
  counts = λ node. omega (arith, count_at-larger s.counts t.counts node, p.counts node, q.counts node);
  top = fits-later s.top t.top p.top q.top;
} where
  value : (v : Val) (u : Tok) → HasRow s.rows v u ⊎ HasRow t.rows v u → IsValidValue w v
  value v u (inl h) = p.values v u h
  value v u (inr h) = q.values v u h

  token : (v : Val) (u : Tok) → HasRow s.rows v u ⊎ HasRow t.rows v u → IsTokenOfWidth w u × IsTokenOf nodes u
  token v u (inl h) = p.tokens v u h
  token v u (inr h) = q.tokens v u h

  element : (v : Val) → IsHeld s.values v ⊎ IsHeld t.values v → IsValidValue w v
  element v (inl h) = p.elements v h
  element v (inr h) = q.elements v h

-- ---- before anything happened

valid-nothing : (nodes : ℕ) (k : Kind) (w : ℕ) → HasShape (shape_of nodes k) least → IsValid nodes k w least
valid-nothing nodes k w shape = record {
  ordered = record { rows = refl; values = refl };
  shape = shape;
  few = omega arith;
  values = λ v u h. absurd (omega (arith, h));
  tokens = λ v u h. absurd (omega (arith, h));
  elements = λ v h. absurd (omega (arith, h));
  counts = λ q. omega arith;
  top = tt;
}

pub valid-least_of : (nodes : ℕ) (k : Kind) (w : ℕ) → IsValid nodes k w (least_of nodes k)
valid-least_of nodes OrSet w = valid-nothing nodes OrSet w refl
valid-least_of nodes GSet w = valid-nothing nodes GSet w refl
valid-least_of nodes MaxReg w = valid-nothing nodes MaxReg w refl
valid-least_of nodes (Union x y) w = valid-nothing nodes (Union x y) w refl
valid-least_of nodes (Product x y) w = valid-nothing nodes (Product x y) w refl
valid-least_of nodes (Intersection x y) w = valid-nothing nodes (Intersection x y) w refl
valid-least_of nodes (Map x place ops) w = valid-nothing nodes (Map x place ops) w refl
valid-least_of nodes (Filter x place ops) w = valid-nothing nodes (Filter x place ops) w refl
valid-least_of nodes (Fold x op place lift) w = valid-nothing nodes (Fold x op place lift) w refl
valid-least_of nodes Counter w = record {
  ordered = record { rows = refl; values = refl };
  shape = (refl, length-zeros nodes);
  few = omega arith;
  values = λ v u h. absurd (omega (arith, h));
  tokens = λ v u h. absurd (omega (arith, h));
  elements = λ v h. absurd (omega (arith, h));
  counts = λ q. omega (arith, count_at-zeros nodes q);
  top = tt;
}

-- ---- the deltas of updates

valid-add : (nodes replica number : ℕ) (v : Val) (s : Content) → IsValidValue 1 v → replica < nodes → 1 ≤ number → number ≤ count_limit → IsValid nodes OrSet 1 (delta (Add v) s replica number)
valid-add nodes replica number v s ok member some most = record {
  ordered = record { rows = refl; values = refl };
  shape = refl;
  few = omega arith;
  values = λ u t h. subst (λ (z : Val). IsValidValue 1 z) (sym ((add-row v s replica number u t).0 h).0) ok;
  tokens = λ u t h. subst (λ (z : Tok). IsTokenOfWidth 1 z × IsTokenOf nodes z) (sym ((add-row v s replica number u t).0 h).1) (omega arith, (member, some, most));
  elements = λ u h. absurd (omega (arith, h));
  counts = λ q. omega arith;
  top = tt;
}

valid-remove : (nodes replica number : ℕ) (v : Val) (s : Content) → IsValid nodes OrSet 1 s → IsValid nodes OrSet 1 (delta (Remove v) s replica number)
valid-remove nodes replica number v s p = record {
  ordered = (remove-shape v s replica number p.ordered).0;
  shape = refl;
  few = omega (arith, length-remove_delta v s.rows, p.few);
  values = λ u t h. (let row = (remove-row v s replica number u t).0 h in subst (λ (z : Val). IsValidValue 1 z) (sym row.0) (p.values v t row.1));
  tokens = λ u t h. p.tokens v t ((remove-row v s replica number u t).0 h).1;
  elements = λ u h. absurd (omega (arith, h));
  counts = λ q. omega arith;
  top = tt;
}

valid-insert : (nodes replica number : ℕ) (v : Val) (s : Content) → IsValidValue 1 v → IsValid nodes GSet 1 (delta (Insert v) s replica number)
valid-insert nodes replica number v s ok = record {
  ordered = record { rows = refl; values = refl };
  shape = refl;
  few = omega arith;
  values = λ u t h. absurd (omega (arith, h));
  tokens = λ u t h. absurd (omega (arith, h));
  elements = λ u h. subst (λ (z : Val). IsValidValue 1 z) (sym ((insert-value v s replica number u).0 h)) ok;
  counts = λ q. omega arith;
  top = tt;
}

valid-inc : (nodes replica number by : ℕ) (s : Content) → IsValid nodes Counter 1 s → replica < nodes → IsValid nodes Counter 1 (delta (Inc by) s replica number)
valid-inc nodes replica number by s p member = record {
  ordered = record { rows = refl; values = refl };
  shape = (refl, (inc-shape by s replica number).1.1 ∙ p.shape.1);
  few = omega arith;
  values = λ u t h. absurd (omega (arith, h));
  tokens = λ u t h. absurd (omega (arith, h));
  elements = λ u h. absurd (omega (arith, h));
  counts = λ q. choose q (q == replica) refl;
  top = tt;
} where
  low : replica < length s.counts
  low = omega (arith, member, p.shape.1)

  choose : (q : ℕ) (b : Bool) → (q == replica) ≡ b → count_at (delta (Inc by) s replica number).counts q ≤ count_max
  choose q true e = subst (λ (n : ℕ). count_at (delta (Inc by) s replica number).counts n ≤ count_max) (sym (equal-numbers q replica e)) (omega (arith, inc-own by s replica number low))
  choose q false e = omega (arith, inc-others by s replica number q low (grind (arith, nat_tests, e)))

valid-max : (nodes replica number : ℕ) (n : ℤ) (s : Content) → FitsSigned w64 n → IsValid nodes MaxReg 1 (delta (Max n) s replica number)
valid-max nodes replica number n s fits = record {
  ordered = record { rows = refl; values = refl };
  shape = refl;
  few = omega arith;
  values = λ u t h. absurd (omega (arith, h));
  tokens = λ u t h. absurd (omega (arith, h));
  elements = λ u h. absurd (omega (arith, h));
  counts = λ q. omega arith;
  top = fits;
}

pub valid-delta : (nodes replica number : ℕ) (k : Kind) (op : Op) (s : Content) → IsValid nodes k 1 s → IsOpOf k op → IsSmallOp nodes k op → replica < nodes → 1 ≤ number → number ≤ count_limit → IsValid nodes k 1 (delta op s replica number)
valid-delta nodes replica number k (Add v) s p e ok member some most = subst (λ (c : Kind). IsValid nodes c 1 (delta (Add v) s replica number)) (sym e) (valid-add nodes replica number v s ok member some most)
valid-delta nodes replica number k (Remove v) s p e ok member some most =
    subst (λ (c : Kind). IsValid nodes c 1 (delta (Remove v) s replica number)) (sym e) (valid-remove nodes replica number v s (subst (λ (c : Kind). IsValid nodes c 1 s) e p))
valid-delta nodes replica number k (Insert v) s p e ok member some most = subst (λ (c : Kind). IsValid nodes c 1 (delta (Insert v) s replica number)) (sym e) (valid-insert nodes replica number v s ok)
valid-delta nodes replica number k (Inc by) s p e ok member some most =
    subst (λ (c : Kind). IsValid nodes c 1 (delta (Inc by) s replica number)) (sym e) (valid-inc nodes replica number by s (subst (λ (c : Kind). IsValid nodes c 1 s) e p) member)
valid-delta nodes replica number k (Max n) s p e ok member some most = subst (λ (c : Kind). IsValid nodes c 1 (delta (Max n) s replica number)) (sym e) (valid-max nodes replica number n s ok)
valid-delta nodes replica number k (Join t) s p e ok member some most = ok

-- a value of a valid content may be handed to a stored function
pub valid-sized : (nodes : ℕ) (k : Kind) (w : ℕ) (s : Content) → IsValid nodes k w s → w ≤ width_limit → (v : Val) (t : Tok) → HasRow s.rows v t → IsSized v
valid-sized nodes k w s p narrow v t h = let value = p.values v t h in record { leaves = omega (arith, value.0.leaves, narrow); bytes = omega (arith, value.0.bytes, narrow); ints = value.1 }
