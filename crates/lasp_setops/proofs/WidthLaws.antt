-- How large the rows of results are.
use Rattle.std.proofs.Common.{◌≡◌, ℕ, ◌+◌, ◌≤◌, ◌<◌, max, ℤ, Bool, true, false, if◌then◌else◌, List, ◌∷◌, refl, ◌∙◌, subst, sym, ap, arith, ◌⊎◌, inl, inr}
use Rattle.std.specs.Ordering.{eq_by_cmp}
use Rattle.model_values.specs.Value.{Val, int}
use Rattle.model_values.specs.Token.{Tok, single, both}
use Rattle.model_values.specs.Row.{Key, Row, key_cmp, key_exact}
use Rattle.model_values.specs.Size.{leaves, text_bytes, HasSmallInts, IsSized, IsOfWidth, IsTokenOfWidth}
use Rattle.model_functions.specs.Map.{MapOp, mapped}
use Rattle.model_sets.specs.Rows.{level, row_mark, HasRow, put, of_rows}
use Rattle.model_sets.proofs.RowLaws.{is-Equal, mark-put}
use Rattle.model_sets.specs.Equations.{map_set, filter_set, union_set, product_set, intersect_set}
use Rattle.model_sets.proofs.WordLaws.{map-has, filter-has, union-has, product-has, product-only, intersect-has, intersect-only}
use Rattle.model_sets.proofs.EquationLaws.{tied_key}
use Rattle.lasp_setops.proofs.EntryLaws.{entries-mark}
use Rattle.lasp_fns.proofs.SizeLaws.{width-mapped}
use Rattle.lasp_setops.specs.Width.{IsSetOfWidth}

wider : (w u : ℕ) (v : Val) → w ≤ u → IsOfWidth w v → IsOfWidth u v
wider w u v le h = record { leaves = omega (arith, h.leaves, le); bytes = omega (arith, h.bytes, le) }

pub width-map : (w : ℕ) (ops : List MapOp) (x : List Row) → IsSetOfWidth w x → IsSetOfWidth w (map_set (mapped ops) x)
width-map w ops x h = record {
  values = λ v t has. let from = (map-has (mapped ops) x v t).0 has in subst (λ (z : Val). IsOfWidth w z) from.1 (width-mapped w ops from.0 (h.values from.0 t from.2));
  tokens = λ v t has. let from = (map-has (mapped ops) x v t).0 has in h.tokens from.0 t from.2;
}

pub width-filter : (w : ℕ) (p : Val → Bool) (x : List Row) → IsSetOfWidth w x → IsSetOfWidth w (filter_set p x)
width-filter w p x h = record {
  values = λ v t has. h.values v t ((filter-has p x v t).0 has).1;
  tokens = λ v t has. h.tokens v t ((filter-has p x v t).0 has).1;
}

pub width-union : (w u : ℕ) (x y : List Row) → IsSetOfWidth w x → IsSetOfWidth u y → IsSetOfWidth (max w u) (union_set x y)
width-union w u x y h k = record { values = λ v t has. value v t ((union-has x y v t).0 has); tokens = λ v t has. token v t ((union-has x y v t).0 has) } where
  value : (v : Val) (t : Tok) → HasRow x v t ⊎ HasRow y v t → IsOfWidth (max w u) v
  value v t (inl has) = wider w (max w u) v (omega arith) (h.values v t has)
  value v t (inr has) = wider u (max w u) v (omega arith) (k.values v t has)

  token : (v : Val) (t : Tok) → HasRow x v t ⊎ HasRow y v t → IsTokenOfWidth (max w u) t
  token v t (inl has) = omega (arith, h.tokens v t has)
  token v t (inr has) = omega (arith, k.tokens v t has)

pub width-product : (w u : ℕ) (x y : List Row) → IsSetOfWidth w x → IsSetOfWidth u y → IsSetOfWidth (w + u) (product_set x y)
width-product w u x y h k = record {
  values = λ v t has.
      let o = product-only x y v t has in
      let b = (product-has x y o.0 o.1 o.2 o.3).0 (subst (λ (z : Val). HasRow (product_set x y) z (both o.2 o.3)) o.4 (subst (λ (z : Tok). HasRow (product_set x y) v z) o.5 has)) in
      let a = h.values o.0 o.2 b.0 in
      let c = k.values o.1 o.3 b.1 in
      subst (λ (z : Val). IsOfWidth (w + u) z) (sym o.4) (record { leaves = omega (arith, a.leaves, c.leaves); bytes = omega (arith, a.bytes, c.bytes) });
  tokens = λ v t has.
      let o = product-only x y v t has in
      let b = (product-has x y o.0 o.1 o.2 o.3).0 (subst (λ (z : Val). HasRow (product_set x y) z (both o.2 o.3)) o.4 (subst (λ (z : Tok). HasRow (product_set x y) v z) o.5 has)) in
      subst (λ (z : Tok). IsTokenOfWidth (w + u) z) (sym o.5) (omega (arith, h.tokens o.0 o.2 b.0, k.tokens o.1 o.3 b.1));
}

pub width-intersection : (w u : ℕ) (x y : List Row) → IsSetOfWidth w x → IsSetOfWidth u y → IsSetOfWidth (w + u) (intersect_set x y)
width-intersection w u x y h k = record {
  values = λ v t has.
      let o = intersect-only x y v t has in
      let b = (intersect-has x y v o.0 o.1).0 (subst (λ (z : Tok). HasRow (intersect_set x y) v z) o.2 has) in
      wider w (w + u) v (omega arith) (h.values v o.0 b.0);
  tokens = λ v t has.
      let o = intersect-only x y v t has in
      let b = (intersect-has x y v o.0 o.1).0 (subst (λ (z : Tok). HasRow (intersect_set x y) v z) o.2 has) in
      subst (λ (z : Tok). IsTokenOfWidth (w + u) z) (sym o.2) (omega (arith, h.tokens v o.0 b.0, k.tokens v o.1 b.1));
}

-- ---- along a pass over rows

own-row : (r : Row) → 0 < row_mark r r.0.0 r.0.1
own-row r = subst (λ (b : Bool). 0 < (if b then level r.1 else 0)) (sym (tied_key r.0)) (some r.1) where
  some : (d : Bool) → 0 < level d
  some true = omega arith
  some false = omega arith

-- the value of the first row may be handed to a stored function
pub sized-row : (rows rest : List Row) (r : Row) (v : Val) → rows ≡ r ∷ rest → v ≡ r.0.0 → IsSetOfWidth 16 rows → HasSmallInts v → IsSized v
sized-row rows rest r v at is h small =
    let first = subst (IsSetOfWidth 16) at h in
    let width = first.values r.0.0 r.0.1 (omega (arith, own-row r)) in
    record { leaves = omega (arith, ap leaves is, width.leaves); bytes = omega (arith, ap text_bytes is, width.bytes); ints = small }

pub width-entries : (w : ℕ) (rows x : List Row) → of_rows rows ≡ x → IsSetOfWidth w x → IsSetOfWidth w rows
width-entries w rows x is h = record {
  values = λ v t has. h.values v t (omega (arith, has, entries-mark rows x is v t));
  tokens = λ v t has. h.tokens v t (omega (arith, has, entries-mark rows x is v t));
}

pub width-rest : (w : ℕ) (rows rest : List Row) (r : Row) → rows ≡ r ∷ rest → IsSetOfWidth w rows → IsSetOfWidth w rest
width-rest w rows rest r at h =
    let all = subst (IsSetOfWidth w) at h in
    record { values = λ v t has. all.values v t (omega (arith, has)); tokens = λ v t has. all.tokens v t (omega (arith, has)) }

-- one row more of a number and a single token
pub width-number : (s t : List Row) (r : Row) (n : ℤ) (q k : ℕ) (d : Bool) → IsSetOfWidth 16 s → r ≡ ((int n, single q k), d) → t ≡ put r s → IsSetOfWidth 16 t
width-number s t r n q k d h is new = subst (IsSetOfWidth 16) (sym (new ∙ ap (λ (p : Row). put p s) is)) record {
  values = λ v u has. value v u (eq_by_cmp key_cmp (v, u) (int n, single q k)) refl has;
  tokens = λ v u has. token v u (eq_by_cmp key_cmp (v, u) (int n, single q k)) refl has;
} where
  w : Row
  w = ((int n, single q k), d)

  older : (v : Val) (u : Tok) → eq_by_cmp key_cmp (v, u) (int n, single q k) ≡ false → HasRow (put w s) v u → HasRow s v u
  older v u e has =
      let none : row_mark w v u ≡ 0 = ap (λ (b : Bool). if b then level d else 0) e in
      omega (arith, none, has, mark-put w s v u)

  value : (v : Val) (u : Tok) (b : Bool) → eq_by_cmp key_cmp (v, u) (int n, single q k) ≡ b → HasRow (put w s) v u → IsOfWidth 16 v
  value v u true e has = subst (IsOfWidth 16) (sym (ap (λ (key : Key). key.0) (key_exact (v, u) (int n, single q k) (is-Equal (key_cmp (v, u) (int n, single q k)) e)))) (record { leaves = omega arith; bytes = omega arith })
  value v u false e has = h.values v u (older v u e has)

  token : (v : Val) (u : Tok) (b : Bool) → eq_by_cmp key_cmp (v, u) (int n, single q k) ≡ b → HasRow (put w s) v u → IsTokenOfWidth 16 u
  token v u true e has = subst (IsTokenOfWidth 16) (sym (ap (λ (key : Key). key.1) (key_exact (v, u) (int n, single q k) (is-Equal (key_cmp (v, u) (int n, single q k)) e)))) (omega arith)
  token v u false e has = h.tokens v u (older v u e has)

pub ruleset widths = (width-map, width-filter, width-union, width-product, width-intersection)
