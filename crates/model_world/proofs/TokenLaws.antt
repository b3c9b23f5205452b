-- Each token has one owner: what was given stays given, a new add gives a token that no update gave before, and what is known of a variable has tokens of that variable alone.
use Rattle.std.proofs.Common.{◌≡◌, ℕ, zero, suc, ◌+◌, ◌≤◌, ◌<◌, ◌⊎◌, inl, inr, Bool, true, false, if◌then◌else◌, ◌==◌, nat_lt, List, [], ◌∷◌, ◌++◌, length, slice_index_or, slice_set, Some, None, refl, sym, ap, subst, ◌∙◌, arith}
use Rattle.std.proofs.lemmas.Bool.Decides.{nat_tests}
use Rattle.model_values.specs.Value.{Val}
use Rattle.model_values.specs.Token.{Tok, single, both}
use Rattle.model_values.specs.Row.{Row}
use Rattle.model_sets.specs.Rows.{level, mark, HasRow}
use Rattle.model_sets.specs.Algebra.{IsMarkedBy}
use Rattle.model_sets.proofs.RowLaws.{mark-join, mark-small}
use Rattle.model_states.specs.Counts.{count_at}
use Rattle.model_states.specs.Content.{Content}
use Rattle.model_states.specs.Update.{Op, Add, Remove, Insert, Inc, Max, Join}
use Rattle.model_states.proofs.DeltaLaws.{add-row, remove-row}
use Rattle.model_graph.specs.Graph.{Decl, kind_at}
use Rattle.model_graph.specs.Evaluation.{content_at, rows_at, least_of}
use Rattle.model_graph.proofs.PlaceLaws.{below-or-not, at-append, at-last, at-past, at-set, equal-numbers}
use Rattle.model_graph.proofs.LeastLaws.{least_of-rows}
use Rattle.model_world.specs.World.{Peer}
use Rattle.model_world.specs.Delta.{Delta, deltas_at, first_deltas, brought_to, known}
use Rattle.model_world.specs.Follow.{delta_of}
use Rattle.model_world.specs.Owner.{no_delta, delta_at, IsOwnedBy, AreOwned, is_dead_at, is_dead_in}
use Rattle.model_world.specs.Known.{EachOf, Each}
use Rattle.model_world.proofs.MeasureLaws.{IsMeasure, measure-all, total, one, total-more, each-first}

-- a token was given once, to one value of one variable
pub owned-once : (all : List (List Delta)) (x y : ℕ) (v w : Val) (t : Tok) → IsOwnedBy all x v t → IsOwnedBy all y w t → (x ≡ y) × (v ≡ w)
owned-once all x y v w (single q zero) h g = absurd h
owned-once all x y v w (single q (suc j)) h g = (sym h.0 ∙ g.0, same (sym h.1 ∙ g.1)) where
  same : Some v ≡ Some w → v ≡ w
  same e = cc
owned-once all x y v w (both t s) h g = absurd h

-- ---- one more delta of replica p

module _ (all : List (List Delta)) (p : ℕ) (d : Delta) where
  abbrev more : List (List Delta)
  more = slice_set all p (deltas_at all p ++ d ∷ [])

  delta-kept : (q j : ℕ) → j < length (deltas_at all q) → delta_at more q j ≡ delta_at all q j
  delta-kept q j h = choose (below-or-not q (length all)) where
    choose : (q < length all) ⊎ (length all ≤ q) → delta_at more q j ≡ delta_at all q j
    choose (inl low) = at-set (λ (ds : List Delta). slice_index_or ds j no_delta ≡ delta_at all q j) all p (deltas_at all p ++ d ∷ []) [] q low
        (λ e. subst (λ (i : ℕ). slice_index_or (deltas_at all i ++ d ∷ []) j no_delta ≡ delta_at all q j) e (at-append (deltas_at all q) (d ∷ []) j no_delta h)) (λ _. refl)
    choose (inr high) = absurd (omega (arith, h, ap (λ (ds : List Delta). length ds) (at-past all q [] high)))

  pub owned-kept : (x : ℕ) (v : Val) (t : Tok) → IsOwnedBy all x v t → IsOwnedBy more x v t
  owned-kept x v (single q zero) h = h
  owned-kept x v (both t s) h = h
  owned-kept x v (single q (suc j)) h = choose (below-or-not j (length (deltas_at all q))) where
    none : None ≡ Some v → ⊥
    none e = cc

    choose : (j < length (deltas_at all q)) ⊎ (length (deltas_at all q) ≤ j) → IsOwnedBy more x v (single q (suc j))
    choose (inl low) = (ap (λ (c : Delta). c.var) (delta-kept q j low) ∙ h.0, ap (λ (c : Delta). c.added) (delta-kept q j low) ∙ h.1)
    choose (inr high) = absurd (none (sym (ap (λ (c : Delta). c.added) (at-past (deltas_at all q) j no_delta high)) ∙ h.1))

  delta-new : p < length all → delta_at more p (length (deltas_at all p)) ≡ d
  delta-new few = at-set (λ (ds : List Delta). slice_index_or ds (length (deltas_at all p)) no_delta ≡ d) all p (deltas_at all p ++ d ∷ []) [] p few (λ _. at-last (deltas_at all p) d no_delta) (λ n. absurd (n refl))

  -- an add gives the token of its replica and its number
  pub owned-new : p < length all → (v : Val) (k : ℕ) → k ≡ suc (length (deltas_at all p)) → d.added ≡ Some v → IsOwnedBy more d.var v (single p k)
  owned-new few v k e added =
      subst (λ (n : ℕ). IsOwnedBy more d.var v (single p n)) (sym e) (ap (λ (c : Delta). c.var) (delta-new few), ap (λ (c : Delta). c.added) (delta-new few) ∙ added)

-- the delta of an update has tokens of its own variable, where what the replica has of it and what it joins in have
pub delta-owned : (all : List (List Delta)) (r : Peer) (p x : ℕ) (op : Op) → p < length all → count_at r.counts p ≡ length (deltas_at all p) → AreOwned all x (rows_at r.contents x)
    → ((s : Content) → op ≡ Join s → AreOwned all x s.rows)
    → AreOwned (slice_set all p (deltas_at all p ++ delta_of r p x op ∷ [])) x (delta_of r p x op).content.rows
delta-owned all r p x (Add v) few own here joined u t h =
    let key = (add-row v (content_at r.contents x) p (count_at r.counts p + 1) u t).0 h in
    let d = delta_of r p x (Add v) in
    let owned : IsOwnedBy (slice_set all p (deltas_at all p ++ d ∷ [])) x v (single p (count_at r.counts p + 1)) = owned-new all p d few v (count_at r.counts p + 1) (omega (arith, own)) refl in
    subst (λ (w : Val). IsOwnedBy (slice_set all p (deltas_at all p ++ d ∷ [])) x w t) (sym key.0)
    (subst (λ (s : Tok). IsOwnedBy (slice_set all p (deltas_at all p ++ d ∷ [])) x v s) (sym key.1) owned)
delta-owned all r p x (Remove v) few own here joined u t h =
    let key = (remove-row v (content_at r.contents x) p (count_at r.counts p + 1) u t).0 h in
    owned-kept all p (delta_of r p x (Remove v)) x u t (here u t (subst (λ (w : Val). HasRow (rows_at r.contents x) w t) (sym key.0) key.1))
delta-owned all r p x (Insert v) few own here joined u t h = absurd (omega (arith, h))
delta-owned all r p x (Inc by) few own here joined u t h = absurd (omega (arith, h))
delta-owned all r p x (Max n) few own here joined u t h = absurd (omega (arith, h))
delta-owned all r p x (Join s) few own here joined u t h = owned-kept all p (delta_of r p x (Join s)) x u t (joined s refl u t h)

-- ---- what is known

-- the rows of each delta have tokens of its variable
abbrev pub AreAllOwned : List (List Delta) → List (List Delta) → Type 0
AreAllOwned all deltas = Each (λ d. AreOwned all d.var d.content.rows) deltas

abbrev row_measure : Val → Tok → Content → ℕ
row_measure v t s = mark s.rows v t

is-measure : (v : Val) (t : Tok) → IsMeasure (row_measure v t)
is-measure v t s u = mark-join s.rows u.rows v t

total-owned : (all : List (List Delta)) (x : ℕ) (v : Val) (t : Tok) (ds : List Delta) → EachOf (λ d. AreOwned all d.var d.content.rows) ds → 0 < total (row_measure v t) (is-measure v t) x ds → IsOwnedBy all x v t
total-owned all x v t [] owned h = absurd (omega (arith, h))
total-owned all x v t (d ∷ ds) owned h = choose (λ g. total-owned all x v t ds owned.1 g) (d.var == x) refl (nat_lt 0 (mark d.content.rows v t)) refl where
  choose : (0 < total (row_measure v t) (is-measure v t) x ds → IsOwnedBy all x v t) → (b : Bool) → (d.var == x) ≡ b → (c : Bool) → nat_lt 0 (mark d.content.rows v t) ≡ c → IsOwnedBy all x v t
  choose later true e true g =
      let some : HasRow d.content.rows v t = grind (arith, nat_tests, g) in
      subst (λ (y : ℕ). IsOwnedBy all y v t) (equal-numbers d.var x e) (owned.0 v t some)
  choose later true e false g =
      let none : mark d.content.rows v t ≡ 0 = grind (arith, nat_tests, g) in
      let is : one (row_measure v t) (is-measure v t) x d ≡ mark d.content.rows v t = ap (λ (b : Bool). if b then mark d.content.rows v t else 0) e in
      later (omega (arith, h, total-more (row_measure v t) (is-measure v t) x d ds, is, none))
  choose later false e c g =
      let is : one (row_measure v t) (is-measure v t) x d ≡ 0 = ap (λ (b : Bool). if b then mark d.content.rows v t else 0) e in
      later (omega (arith, h, total-more (row_measure v t) (is-measure v t) x d ds, is))

pub known-owned : (g : List Decl) (nodes : ℕ) (all : List (List Delta)) (cs : List ℕ) (x : ℕ) → AreAllOwned all all → AreOwned all x (known g nodes all cs x).rows
known-owned g nodes all cs x owned v t h =
    total-owned all x v t (first_deltas all cs) (each-first (λ d. AreOwned all d.var d.content.rows) all cs owned)
    (omega (arith, h, measure-all (row_measure v t) (is-measure v t) (least_of nodes (kind_at g x)) (brought_to x (first_deltas all cs)), ap (λ (rows : List Row). mark rows v t) (least_of-rows nodes (kind_at g x))))

-- ---- the test of dead tokens

level-two : (m : ℕ) → 0 < m → m ≤ 2 → m ≡ level (m == 2)
level-two m some small = grind (arith, nat_tests, some, small)

-- where every variable has tokens of its own, one look-up tells whether a token is dead
pub marked-sources : (all : List (List Delta)) (contents : List Content) (x : ℕ) → AreOwned all x (rows_at contents x) → IsMarkedBy (is_dead_in all contents) (rows_at contents x)
marked-sources all contents x owned v (single q zero) h = absurd (owned v (single q zero) h)
marked-sources all contents x owned v (both t s) h = absurd (owned v (both t s) h)
marked-sources all contents x owned v (single q (suc j)) h =
    let is = owned v (single q (suc j)) h in
    level-two (mark (rows_at contents x) v (single q (suc j))) h (mark-small (rows_at contents x) v (single q (suc j)))
    ∙ (λ i. level (is_dead_at contents (sym is.0 i) (sym is.1 i) (single q (suc j))))
