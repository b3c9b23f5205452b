-- Evaluation makes of removed rows what it makes of rows, removed: how many rows come of it doesn't hang on which are removed.
use Rattle.std.proofs.Common.{◌≡◌, ℕ, ◌+◌, Bool, true, false, cond, if◌then◌else◌, List, [], ◌∷◌, ◌++◌, length, map, filter, Option, Some, refl, sym, ap, ◌∙◌}
use Rattle.std.specs.Prelude.{flat_map, nat_lt, ◌||◌}
use Rattle.std.specs.FinMap.Entries.{by_order}
use Rattle.std.specs.Ordering.{eq_by_cmp}
use Rattle.std.specs.declared.cmp.Ordering.{Ordering}
use Rattle.std.specs.declared.cmp.Ordering.TheVariants.{Less, Equal, Greater}
use Rattle.std.proofs.lemmas.List.{length-map, map-append}
use Rattle.model_values.specs.Row.{Row, key_cmp}
use Rattle.model_values.specs.Value.{Val, val_cmp}
use Rattle.model_functions.specs.Map.{mapped}
use Rattle.model_functions.specs.Predicate.{passes}
use Rattle.model_sets.specs.Equations.{filter_set, intersect_set, map_set, met, moved, paired, product_set, union_set}
use Rattle.model_sets.specs.Rows.{is_of, of_rows, put}
use Rattle.model_states.specs.Content.{Content, of_set, row_limit, size_of}
use Rattle.model_graph.specs.Evaluation.{content_at, equation, eval, eval_from, evaluated, first_large, rows_at}
use Rattle.model_graph.specs.Graph.{Kind, OrSet, GSet, Counter, MaxReg, Union, Product, Intersection, Map, Filter, Fold, Decl, is_source}
use Rattle.model_live.specs.Together.{all_dead, dead_row}
use Rattle.model_live.proofs.FullLaws.{dead-at}

-- ---- rows

abbrev dead : List Row → List Row
dead s = map dead_row s

dead-put : (r : Row) (s : List Row) → dead (put r s) ≡ put (dead_row r) (dead s)
dead-put r [] = refl
dead-put r (q ∷ s) = choose (key_cmp r.0 q.0) (dead-put r s) where
  choose : (o : Ordering) → dead (put r s) ≡ put (dead_row r) (dead s)
      → dead (by_order o (r ∷ q ∷ s) ((q.0, r.1 || q.1) ∷ s) (q ∷ put r s)) ≡ by_order o (dead_row r ∷ dead_row q ∷ dead s) ((q.0, true) ∷ dead s) (dead_row q ∷ put (dead_row r) (dead s))
  choose Less e = refl
  choose Equal e = refl
  choose Greater e = ap (λ (l : List Row). dead_row q ∷ l) e

dead-of : (s : List Row) → dead (of_rows s) ≡ of_rows (dead s)
dead-of [] = refl
dead-of (r ∷ s) = dead-put r (of_rows s) ∙ ap (put (dead_row r)) (dead-of s)

dead-moved : (f : Val → Val) (s : List Row) → dead (map (moved f) s) ≡ map (moved f) (dead s)
dead-moved f [] = refl
dead-moved f (r ∷ s) = ap (λ (l : List Row). dead_row (moved f r) ∷ l) (dead-moved f s)

dead-passed : (p : Val → Bool) (s : List Row) → dead (filter (λ r. p r.0.0) s) ≡ filter (λ r. p r.0.0) (dead s)
dead-passed p [] = refl
dead-passed p (r ∷ s) = choose (p r.0.0) (dead-passed p s) where
  choose : (b : Bool) → dead (filter (λ r. p r.0.0) s) ≡ filter (λ r. p r.0.0) (dead s)
      → dead (cond b (r ∷ filter (λ r. p r.0.0) s) (filter (λ r. p r.0.0) s)) ≡ cond b (dead_row r ∷ filter (λ r. p r.0.0) (dead s)) (filter (λ r. p r.0.0) (dead s))
  choose true e = ap (λ (l : List Row). dead_row r ∷ l) e
  choose false e = e

dead-paired : (r : Row) (s : List Row) → dead (map (paired r) s) ≡ map (paired (dead_row r)) (dead s)
dead-paired r [] = refl
dead-paired r (q ∷ s) = ap (λ (l : List Row). dead_row (paired r q) ∷ l) (dead-paired r s)

dead-times : (s t : List Row) → dead (flat_map (λ r. map (paired r) t) s) ≡ flat_map (λ r. map (paired r) (dead t)) (dead s)
dead-times [] t = refl
dead-times (r ∷ s) t =
    map-append dead_row (map (paired r) t) (flat_map (λ q. map (paired q) t) s)
    ∙ (λ i. dead-paired r t i ++ dead-times s t i)

dead-met : (r : Row) (s : List Row) → dead (map (met r) s) ≡ map (met (dead_row r)) (dead s)
dead-met r [] = refl
dead-met r (q ∷ s) = ap (λ (l : List Row). dead_row (met r q) ∷ l) (dead-met r s)

dead-meets : (s t : List Row) → dead (flat_map (λ r. map (met r) (filter (is_of r.0.0) t)) s) ≡ flat_map (λ r. map (met r) (filter (is_of r.0.0) (dead t))) (dead s)
dead-meets [] t = refl
dead-meets (r ∷ s) t =
    map-append dead_row (map (met r) (filter (is_of r.0.0) t)) (flat_map (λ q. map (met q) (filter (is_of q.0.0) t)) s)
    ∙ (λ i. (dead-met r (filter (is_of r.0.0) t) ∙ ap (map (met (dead_row r))) (dead-passed (λ (v : Val). eq_by_cmp val_cmp r.0.0 v) t)) i ++ dead-meets s t i)

-- ---- equations

rows-dead : (ss : List Content) (x : ℕ) → rows_at (map all_dead ss) x ≡ dead (rows_at ss x)
rows-dead ss x = ap (λ (s : Content). s.rows) (dead-at ss x)

equation-dead : (k : Kind) (ss : List Content) → equation k (map all_dead ss) ≡ all_dead (equation k ss)
equation-dead OrSet ss = refl
equation-dead GSet ss = refl
equation-dead Counter ss = refl
equation-dead MaxReg ss = refl
equation-dead (Union a b) ss =
    (λ i. of_set (union_set (rows-dead ss a i) (rows-dead ss b i)))
    ∙ ap of_set (ap of_rows (sym (map-append dead_row (rows_at ss a) (rows_at ss b))) ∙ sym (dead-of (rows_at ss a ++ rows_at ss b)))
equation-dead (Product a b) ss =
    (λ i. of_set (product_set (rows-dead ss a i) (rows-dead ss b i)))
    ∙ ap of_set (ap of_rows (sym (dead-times (rows_at ss a) (rows_at ss b))) ∙ sym (dead-of (flat_map (λ r. map (paired r) (rows_at ss b)) (rows_at ss a))))
equation-dead (Intersection a b) ss =
    (λ i. of_set (intersect_set (rows-dead ss a i) (rows-dead ss b i)))
    ∙ ap of_set (ap of_rows (sym (dead-meets (rows_at ss a) (rows_at ss b))) ∙ sym (dead-of (flat_map (λ r. map (met r) (filter (is_of r.0.0) (rows_at ss b))) (rows_at ss a))))
equation-dead (Map a place ops) ss =
    (λ i. of_set (map_set (mapped ops) (rows-dead ss a i)))
    ∙ ap of_set (ap of_rows (sym (dead-moved (mapped ops) (rows_at ss a))) ∙ sym (dead-of (map (moved (mapped ops)) (rows_at ss a))))
equation-dead (Filter a place ops) ss =
    (λ i. of_set (filter_set (passes ops) (rows-dead ss a i))) ∙ ap of_set (sym (dead-passed (passes ops) (rows_at ss a)))
equation-dead (Fold a o place lift) ss = ap of_set (rows-dead ss a)

evaluated-dead : (k : Kind) (done ss : List Content) → evaluated k (map all_dead done) (map all_dead ss) ≡ all_dead (evaluated k done ss)
evaluated-dead k done ss = choose (is_source k) where
  choose : (b : Bool) → (if b then content_at (map all_dead ss) (length (map all_dead done)) else equation k (map all_dead done)) ≡ all_dead (if b then content_at ss (length done) else equation k done)
  choose true = ap (content_at (map all_dead ss)) (length-map done all_dead) ∙ dead-at ss (length done)
  choose false = equation-dead k done

eval-dead : (g : List Decl) (done ss : List Content) → eval_from g (map all_dead done) (map all_dead ss) ≡ map all_dead (eval_from g done ss)
eval-dead [] done ss = refl
eval-dead (d ∷ g) done ss =
    ap (λ (l : List Content). eval_from g l (map all_dead ss)) (ap (λ (s : Content). map all_dead done ++ s ∷ []) (evaluated-dead d.kind done ss) ∙ sym (map-append all_dead done (evaluated d.kind done ss ∷ [])))
    ∙ eval-dead g (done ++ evaluated d.kind done ss ∷ []) ss

-- ---- the first that is too large

large-dead : (n : ℕ) (ss : List Content) → first_large n (map all_dead ss) ≡ first_large n ss
large-dead n [] = refl
large-dead n (s ∷ ss) =
    ap (λ (m : ℕ). if nat_lt row_limit (m + length s.values) then Some n else first_large (n + 1) (map all_dead ss)) (length-map s.rows dead_row)
    ∙ ap (λ (o : Option ℕ). if nat_lt row_limit (size_of s) then Some n else o) (large-dead (n + 1) ss)

pub dead-large : (g : List Decl) (ss : List Content) → first_large 0 (eval g (map all_dead ss)) ≡ first_large 0 (eval g ss)
dead-large g ss = ap (first_large 0) (eval-dead g [] ss) ∙ large-dead 0 (eval g ss)
