-- Where one list of dead tokens tells all deaths, what evaluation shows is what the plain algebra gives on what the sources show.
use Rattle.std.proofs.Common.{◌≡◌, ℕ, suc, ◌+◌, ◌<◌, Bool, true, false, if◌then◌else◌, List, [], ◌∷◌, ◌++◌, length, map, refl, sym, ap, subst, ◌∙◌, arith}
use Rattle.model_values.specs.Value.{Val}
use Rattle.model_values.specs.Row.{Row}
use Rattle.model_functions.specs.Lift.{LiftOp}
use Rattle.model_functions.specs.Map.{mapped}
use Rattle.model_functions.specs.Predicate.{passes}
use Rattle.model_sets.specs.Rows.{IsAscending}
use Rattle.model_sets.specs.Values.{visible}
use Rattle.model_sets.specs.Algebra.{plain_map, plain_filter, plain_union, plain_product, plain_intersection, IsMarkedBy}
use Rattle.model_sets.specs.Equations.{moved}
use Rattle.model_sets.proofs.RowLaws.{ascending-join, ascending-of_rows}
use Rattle.model_sets.proofs.EquationLaws.{filter-ascending, ascending-product, ascending-intersect}
use Rattle.model_sets.proofs.AlgebraLaws.{marked-map, marked-filter, marked-union, marked-product, marked-intersect, visible-map, visible-filter, visible-union, visible-product, visible-intersect}
use Rattle.model_states.specs.Content.{Content, least}
use Rattle.model_graph.specs.Graph.{Kind, OrSet, GSet, Counter, MaxReg, Union, Product, Intersection, Map, Filter, Fold, FoldOp, Decl, is_source, kind_at}
use Rattle.model_graph.specs.Evaluation.{content_at, rows_at, equation, evaluated, eval_from, eval}
use Rattle.model_graph.specs.Fold.{fold_values, fold_rows}
use Rattle.model_graph.specs.Algebra.{values_at, plain_equation, plain_evaluated, algebra_from, algebra, visible_sets, AreMarkedSources}
use Rattle.model_graph.proofs.PlaceLaws.{length-append, pairs-push, at-map, from-nothing}

-- rows in order whose deaths go by the dead tokens, with the values that they show
record Shows (dead : ℕ → ℕ → Bool) (vs : List Val) (rows : List Row) : Type 0 where
  shown : vs ≡ visible rows
  ascends : IsAscending rows
  marked : IsMarkedBy dead rows

module _ (dead : ℕ → ℕ → Bool) where
  shows-nothing : Shows dead [] []
  shows-nothing = record { shown = refl; ascends = refl; marked = λ v t h. absurd (omega (arith, h)) }

  shows-equation : (k : Kind) (sets : List (List Val)) (done : List Content) → ((x : ℕ) → Shows dead (values_at sets x) (rows_at done x)) → Shows dead (plain_equation k sets) (equation k done).rows
  shows-equation OrSet sets done old = shows-nothing
  shows-equation GSet sets done old = shows-nothing
  shows-equation Counter sets done old = shows-nothing
  shows-equation MaxReg sets done old = shows-nothing
  shows-equation (Union x y) sets done old = record {
    shown = (λ i. plain_union ((old x).shown i) ((old y).shown i)) ∙ sym (visible-union dead (rows_at done x) (rows_at done y) (old x).ascends (old y).ascends (old x).marked (old y).marked);
    ascends = ascending-join (rows_at done x) (rows_at done y);
    marked = marked-union dead (rows_at done x) (rows_at done y) (old x).marked (old y).marked;
  }
  shows-equation (Product x y) sets done old = record {
    shown = (λ i. plain_product ((old x).shown i) ((old y).shown i)) ∙ sym (visible-product (rows_at done x) (rows_at done y) (old x).ascends (old y).ascends);
    ascends = ascending-product (rows_at done x) (rows_at done y);
    marked = marked-product dead (rows_at done x) (rows_at done y) (old x).marked (old y).marked;
  }
  shows-equation (Intersection x y) sets done old = record {
    shown = (λ i. plain_intersection ((old x).shown i) ((old y).shown i)) ∙ sym (visible-intersect (rows_at done x) (rows_at done y) (old x).ascends (old y).ascends);
    ascends = ascending-intersect (rows_at done x) (rows_at done y);
    marked = marked-intersect dead (rows_at done x) (rows_at done y) (old x).marked (old y).marked;
  }
  shows-equation (Map x place ops) sets done old = record {
    shown = (λ i. plain_map (mapped ops) ((old x).shown i)) ∙ sym (visible-map dead (mapped ops) (rows_at done x) (old x).ascends (old x).marked);
    ascends = ascending-of_rows (map (moved (mapped ops)) (rows_at done x));
    marked = marked-map dead (mapped ops) (rows_at done x) (old x).marked;
  }
  shows-equation (Filter x place ops) sets done old = record {
    shown = (λ i. plain_filter (passes ops) ((old x).shown i)) ∙ sym (visible-filter (passes ops) (rows_at done x) (old x).ascends);
    ascends = filter-ascending (passes ops) (rows_at done x) (old x).ascends;
    marked = marked-filter dead (passes ops) (rows_at done x) (old x).marked;
  }
  shows-equation (Fold x op place lift) sets done old = old x

  -- a source at a place of the graph shows its values
  abbrev SourceShows : Kind → List (List Val) → List Content → ℕ → Type 0
  SourceShows k sources ss n = is_source k ≡ true → Shows dead (values_at sources n) (rows_at ss n)

  shows-evaluated : (k : Kind) (sets sources : List (List Val)) (done ss : List Content) → length sets ≡ length done → ((x : ℕ) → Shows dead (values_at sets x) (rows_at done x)) → SourceShows k sources ss (length done)
      → Shows dead (plain_evaluated k sets sources) (evaluated k done ss).rows
  shows-evaluated k sets sources done ss long old given = choose (is_source k) given where
    choose : (b : Bool) → (b ≡ true → Shows dead (values_at sources (length done)) (rows_at ss (length done)))
        → Shows dead (if b then values_at sources (length sets) else plain_equation k sets) (if b then content_at ss (length done) else equation k done).rows
    choose true h = subst (λ (n : ℕ). Shows dead (values_at sources n) (rows_at ss (length done))) (sym long) (h refl)
    choose false h = shows-equation k sets done old

  shows-from : (g : List Decl) (sets sources : List (List Val)) (done ss : List Content) → length sets ≡ length done → ((x : ℕ) → Shows dead (values_at sets x) (rows_at done x))
      → ((i : ℕ) → i < length g → SourceShows (kind_at g i) sources ss (length done + i))
      → (x : ℕ) → Shows dead (values_at (algebra_from g sets sources) x) (rows_at (eval_from g done ss) x)
  shows-from [] sets sources done ss long old given x = old x
  shows-from (d ∷ g) sets sources done ss long old given x =
      let here : length done + 0 ≡ length done = omega arith in
      let vs = plain_evaluated d.kind sets sources in
      let s = evaluated d.kind done ss in
      let first : Shows dead vs s.rows = shows-evaluated d.kind sets sources done ss long old (subst (λ (n : ℕ). SourceShows d.kind sources ss n) here (given 0 (omega arith))) in
      shows-from g (sets ++ vs ∷ []) sources (done ++ s ∷ []) ss (omega (arith, long, length-append sets (vs ∷ []), length-append done (s ∷ [])))
      (pairs-push (λ (us : List Val) (c : Content). Shows dead us c.rows) sets done vs [] s least long old first)
      (λ i low.
      let there : length done + suc i ≡ length (done ++ s ∷ []) + i = omega (arith, length-append done (s ∷ [])) in
      subst (λ (n : ℕ). SourceShows (kind_at g i) sources ss n) there (given (suc i) (omega (arith, low)))) x

  values-visible : (ss : List Content) (x : ℕ) → values_at (visible_sets ss) x ≡ visible (rows_at ss x)
  values-visible ss x = at-map (λ (s : Content). visible s.rows) ss x least

  shows-eval : (g : List Decl) (ss : List Content) → AreMarkedSources dead g ss → (x : ℕ) → Shows dead (values_at (algebra g (visible_sets ss)) x) (rows_at (eval g ss) x)
  shows-eval g ss given = shows-from g [] (visible_sets ss) [] ss refl (λ x. shows-nothing)
      (λ i low. subst (SourceShows (kind_at g i) (visible_sets ss) ss) (from-nothing i) (λ e. let at = given i low e in record { shown = values-visible ss i; ascends = at.0; marked = at.1 }))

-- the rows of each variable are marked by the dead tokens
pub eval-marked : (dead : ℕ → ℕ → Bool) (g : List Decl) (ss : List Content) → AreMarkedSources dead g ss → (x : ℕ) → IsMarkedBy dead (rows_at (eval g ss) x)
eval-marked dead g ss given x = (shows-eval dead g ss given x).marked

-- and show what the algebra gives
pub eval-algebra : (dead : ℕ → ℕ → Bool) (g : List Decl) (ss : List Content) → AreMarkedSources dead g ss → (x : ℕ) → visible (rows_at (eval g ss) x) ≡ values_at (algebra g (visible_sets ss)) x
eval-algebra dead g ss given x = sym (shows-eval dead g ss given x).shown

-- so a fold's number is the fold of the algebra's values
pub fold-algebra : (dead : ℕ → ℕ → Bool) (g : List Decl) (ss : List Content) → AreMarkedSources dead g ss → (x : ℕ) (op : FoldOp) (lift : LiftOp)
    → fold_rows op lift (rows_at (eval g ss) x) ≡ fold_values op lift (values_at (algebra g (visible_sets ss)) x)
fold-algebra dead g ss given x op lift = ap (λ (vs : List Val). fold_values op lift vs) (eval-algebra dead g ss given x)

pub ruleset shown = (eval-marked)
