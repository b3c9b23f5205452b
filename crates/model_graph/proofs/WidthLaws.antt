-- Each variable's rows are of its width where the sources' rows are of width 1.
use Rattle.std.proofs.Common.{◌≡◌, ℕ, suc, ◌+◌, ◌≤◌, ◌<◌, ◌⊎◌, inl, inr, Bool, true, false, if◌then◌else◌, IsTrue, List, [], ◌∷◌, ◌++◌, length, refl, sym, subst, arith}
use Rattle.model_values.specs.Value.{Val, pair}
use Rattle.model_values.specs.Token.{Tok, both}
use Rattle.model_values.specs.Size.{IsOfWidth, IsTokenOfWidth}
use Rattle.model_functions.specs.Map.{mapped}
pub use Rattle.model_functions.proofs.MapLaws.{mapped-width}
use Rattle.model_functions.specs.Predicate.{passes}
use Rattle.model_sets.specs.Rows.{HasRow}
use Rattle.model_sets.proofs.WordLaws.{map-has, filter-has, union-has, product-has, product-only, intersect-has, intersect-only}
use Rattle.model_states.specs.Content.{Content, least}
use Rattle.model_graph.specs.Graph.{Kind, OrSet, GSet, Counter, MaxReg, Union, Product, Intersection, Map, Filter, Fold, Decl, is_source, kind_at}
use Rattle.model_graph.specs.Evaluation.{content_at, rows_at, equation, evaluated, eval_from, eval}
use Rattle.model_graph.specs.Lawful.{width_at, width_of, widths_from, widths}
use Rattle.model_graph.specs.Width.{HasWidth}
use Rattle.model_graph.proofs.PlaceLaws.{length-append, pairs-push, from-nothing}

pub widths_from-append : (g h : List Decl) (done : List ℕ) → widths_from (g ++ h) done ≡ widths_from h (widths_from g done)
widths_from-append [] h done = refl
widths_from-append (d ∷ g) h done = widths_from-append g h (done ++ width_of d.kind done ∷ [])

-- ---- wider

wide-value : (w x : ℕ) (v : Val) → w ≤ x → IsOfWidth w v → IsOfWidth x v
wide-value w x v le h = record { leaves = omega (arith, le, h.leaves); bytes = omega (arith, le, h.bytes) }

paired-width : (w x : ℕ) (v u : Val) → IsOfWidth w v → IsOfWidth x u → IsOfWidth (w + x) (pair v u)
paired-width w x v u h g = record { leaves = omega (arith, h.leaves, g.leaves); bytes = omega (arith, h.bytes, g.bytes) }

wide-least : (w : ℕ) → HasWidth w least
wide-least w = record { values = λ v t h. absurd (omega (arith, h)); tokens = λ v t h. absurd (omega (arith, h)) }

module _ (ws : List ℕ) (done : List Content) (old : (x : ℕ) → HasWidth (width_at ws x) (content_at done x)) where
  wide-union : (x y : ℕ) → HasWidth (width_of (Union x y) ws) (equation (Union x y) done)
  wide-union x y = record { values = λ v t h. value v t ((union-has (rows_at done x) (rows_at done y) v t).0 h); tokens = λ v t h. token v t ((union-has (rows_at done x) (rows_at done y) v t).0 h) } where
    value : (v : Val) (t : Tok) → HasRow (rows_at done x) v t ⊎ HasRow (rows_at done y) v t → IsOfWidth (width_of (Union x y) ws) v
    value v t (inl h) = wide-value (width_at ws x) (width_of (Union x y) ws) v (omega arith) ((old x).values v t h)
    value v t (inr h) = wide-value (width_at ws y) (width_of (Union x y) ws) v (omega arith) ((old y).values v t h)

    token : (v : Val) (t : Tok) → HasRow (rows_at done x) v t ⊎ HasRow (rows_at done y) v t → IsTokenOfWidth (width_of (Union x y) ws) t
    token v t (inl h) = omega (arith, (old x).tokens v t h)
    token v t (inr h) = omega (arith, (old y).tokens v t h)

  wide-product : (x y : ℕ) → HasWidth (width_of (Product x y) ws) (equation (Product x y) done)
  wide-product x y = record { values = λ u r h. (both-of u r h).0; tokens = λ u r h. (both-of u r h).1 } where
    both-of : (u : Val) (r : Tok) → HasRow (equation (Product x y) done).rows u r → IsOfWidth (width_of (Product x y) ws) u × IsTokenOfWidth (width_of (Product x y) ws) r
    both-of u r h =
        let found = product-only (rows_at done x) (rows_at done y) u r h in
        let v = found.0 in
        let w = found.1 in
        let t = found.2 in
        let s = found.3 in
        let here : HasRow (equation (Product x y) done).rows (pair v w) (both t s) = subst (λ (q : Tok). HasRow (equation (Product x y) done).rows (pair v w) q) found.5 (subst (λ (z : Val). HasRow (equation (Product x y) done).rows z r) found.4 h) in
        let rows = (product-has (rows_at done x) (rows_at done y) v w t s).0 here in (
          subst (λ (z : Val). IsOfWidth (width_of (Product x y) ws) z) (sym found.4) (paired-width (width_at ws x) (width_at ws y) v w ((old x).values v t rows.0) ((old y).values w s rows.1)),
          subst (λ (q : Tok). IsTokenOfWidth (width_of (Product x y) ws) q) (sym found.5) (omega (arith, (old x).tokens v t rows.0, (old y).tokens w s rows.1)),
        )

  wide-intersection : (x y : ℕ) → HasWidth (width_of (Intersection x y) ws) (equation (Intersection x y) done)
  wide-intersection x y = record { values = λ v r h. (both-of v r h).0; tokens = λ v r h. (both-of v r h).1 } where
    both-of : (v : Val) (r : Tok) → HasRow (equation (Intersection x y) done).rows v r → IsOfWidth (width_of (Intersection x y) ws) v × IsTokenOfWidth (width_of (Intersection x y) ws) r
    both-of v r h =
        let found = intersect-only (rows_at done x) (rows_at done y) v r h in
        let t = found.0 in
        let s = found.1 in
        let here : HasRow (equation (Intersection x y) done).rows v (both t s) = subst (λ (q : Tok). HasRow (equation (Intersection x y) done).rows v q) found.2 h in
        let rows = (intersect-has (rows_at done x) (rows_at done y) v t s).0 here in (
          wide-value (width_at ws x) (width_of (Intersection x y) ws) v (omega arith) ((old x).values v t rows.0),
          subst (λ (q : Tok). IsTokenOfWidth (width_of (Intersection x y) ws) q) (sym found.2) (omega (arith, (old x).tokens v t rows.0, (old y).tokens v s rows.1)),
        )

  wide-equation : (k : Kind) → HasWidth (width_of k ws) (equation k done)
  wide-equation OrSet = wide-least 1
  wide-equation GSet = wide-least 1
  wide-equation Counter = wide-least 1
  wide-equation MaxReg = wide-least 1
  wide-equation (Union x y) = wide-union x y
  wide-equation (Product x y) = wide-product x y
  wide-equation (Intersection x y) = wide-intersection x y
  wide-equation (Map x place ops) = record {
    values = λ w t h. let found = (map-has (mapped ops) (rows_at done x) w t).0 h in
        subst (λ (z : Val). IsOfWidth (width_at ws x) z) found.1 (mapped-width (width_at ws x) ops found.0 ((old x).values found.0 t found.2));
    tokens = λ w t h. let found = (map-has (mapped ops) (rows_at done x) w t).0 h in (old x).tokens found.0 t found.2;
  }
  wide-equation (Filter x place ops) = record {
    values = λ v t h. (old x).values v t ((filter-has (passes ops) (rows_at done x) v t).0 h).1;
    tokens = λ v t h. (old x).tokens v t ((filter-has (passes ops) (rows_at done x) v t).0 h).1;
  }
  wide-equation (Fold x op place lift) = record { values = λ v t h. (old x).values v t h; tokens = λ v t h. (old x).tokens v t h }

-- a source's width is 1
pub width-source : (k : Kind) (ws : List ℕ) → is_source k ≡ true → width_of k ws ≡ 1
width-source OrSet ws e = refl
width-source GSet ws e = refl
width-source Counter ws e = refl
width-source MaxReg ws e = refl
width-source (Union x y) ws e = cc
width-source (Product x y) ws e = cc
width-source (Intersection x y) ws e = cc
width-source (Map x place ops) ws e = cc
width-source (Filter x place ops) ws e = cc
width-source (Fold x op place lift) ws e = cc

wide-evaluated : (k : Kind) (ws : List ℕ) (done ss : List Content) → ((x : ℕ) → HasWidth (width_at ws x) (content_at done x)) → (is_source k ≡ true → HasWidth 1 (content_at ss (length done))) → HasWidth (width_of k ws) (evaluated k done ss)
wide-evaluated k ws done ss old given = choose (is_source k) refl where
  choose : (b : Bool) → is_source k ≡ b → HasWidth (width_of k ws) (if b then content_at ss (length done) else equation k done)
  choose true e = subst (λ (w : ℕ). HasWidth w (content_at ss (length done))) (sym (width-source k ws e)) (given e)
  choose false e = wide-equation ws done old k

wide-from : (g : List Decl) (ws : List ℕ) (done ss : List Content) → length ws ≡ length done → ((x : ℕ) → HasWidth (width_at ws x) (content_at done x))
    → ((i : ℕ) → i < length g → is_source (kind_at g i) ≡ true → HasWidth 1 (content_at ss (length done + i)))
    → (x : ℕ) → HasWidth (width_at (widths_from g ws) x) (content_at (eval_from g done ss) x)
wide-from [] ws done ss long old given x = old x
wide-from (d ∷ g) ws done ss long old given x =
    let here : length done + 0 ≡ length done = omega arith in
    let w = width_of d.kind ws in
    let s = evaluated d.kind done ss in
    let first : HasWidth w s = wide-evaluated d.kind ws done ss old (λ e. subst (λ (n : ℕ). HasWidth 1 (content_at ss n)) here (given 0 (omega arith) e)) in
    wide-from g (ws ++ w ∷ []) (done ++ s ∷ []) ss (omega (arith, long, length-append ws (w ∷ []), length-append done (s ∷ [])))
    (pairs-push (λ (n : ℕ) (c : Content). HasWidth n c) ws done w 0 s least long old first)
    (λ i low e.
    let there : length done + suc i ≡ length (done ++ s ∷ []) + i = omega (arith, length-append done (s ∷ [])) in
    subst (λ (n : ℕ). HasWidth 1 (content_at ss n)) there (given (suc i) (omega (arith, low)) e)) x

-- the rows of each variable are of its width
pub eval-width : (g : List Decl) (ss : List Content) → ((x : ℕ) → x < length g → IsTrue (is_source (kind_at g x)) → HasWidth 1 (content_at ss x)) → (x : ℕ) → HasWidth (width_at (widths g) x) (content_at (eval g ss) x)
eval-width g ss given = wide-from g [] [] ss refl (λ x. wide-least 0) (λ i low e. subst (λ (n : ℕ). HasWidth 1 (content_at ss n)) (from-nothing i) (given i low e))

widths_from-length : (g : List Decl) (ws : List ℕ) → length (widths_from g ws) ≡ length ws + length g
widths_from-length [] ws = omega arith
widths_from-length (d ∷ g) ws = omega (arith, widths_from-length g (ws ++ width_of d.kind ws ∷ []), length-append ws (width_of d.kind ws ∷ []))

-- there is a width for each variable
pub widths-length : (g : List Decl) → length (widths g) ≡ length g
widths-length g = omega (arith, widths_from-length g [])

pub ruleset width_laws = (eval-width, widths-length)
