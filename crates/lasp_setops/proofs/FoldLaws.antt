-- A fold of a set from the fold before, in members that are small.
use Rattle.std.proofs.Common.{◌≡◌, ℕ, ◌+◌, ◌*◌, ◌^◌, ◌≤◌, max, ℤ, Bool, IsTrue, FitsSigned, List, [], ◌∷◌, map, fold, length, sym, ap, subst, ◌∙◌, arith}
use mir.Syntax.{w64}
use Rattle.model_values.specs.Value.{Val, int, text, pair}
use Rattle.model_values.specs.Token.{Tok}
use Rattle.model_values.specs.Row.{Row}
use Rattle.model_values.specs.Size.{IsSized}
use Rattle.model_functions.specs.Lift.{LiftOp, One, Itself, Length, First, lifted}
use Rattle.model_sets.specs.Rows.{mark, IsAscending, IsAtMost}
use Rattle.model_sets.specs.Values.{IsHeld, visible, row_values}
use Rattle.model_sets.specs.Equations.{changed}
use Rattle.model_sets.specs.Folds.{AreLifted, fold_set}
use Rattle.model_sets.proofs.RowLaws.{mark-join}
use Rattle.model_sets.proofs.ValueLaws.{held-small, ascending-visible, ascending-of_values}
use Rattle.model_sets.proofs.AlgebraLaws.{held-here}
use Rattle.model_sets.proofs.WordLaws.{visible-live}
use Rattle.model_sets.proofs.FoldLaws.{fold-corrected}
use Rattle.model_sets.proofs.UpdateLaws.{changed-values}
use Rattle.model_states.specs.Content.{row_limit}
use Rattle.model_states.proofs.SizeLaws.{length-at_most}
use Rattle.model_graph.specs.Increment.{IsChange}
use Rattle.model_sets.specs.Reads.{HaveSmallInts}
use Rattle.lasp_setops.specs.Group.{IsSizedGroup}
use Rattle.lasp_setops.specs.Fold.{IsWithinLimits, AreSized, taken_lift}
use Rattle.lasp_setops.specs.Turns.{turns, turned}
use Rattle.lasp_setops.proofs.TurnLaws.{listed, length-visible, length-row_values, length-turns, turns-same, turns-corrected}

-- ---- sizes of values

pub sized-limits : (s : List Row) → IsWithinLimits s → HaveSmallInts s → AreSized s
sized-limits s limits small v t has =
    let w = limits.values v t has in
    record { leaves = omega (arith, w.leaves); bytes = omega (arith, w.bytes); ints = small v t has }

pub sized-below : (s t : List Row) → IsAtMost s t → AreSized t → AreSized s
sized-below s t a h v w has = h v w (omega (arith, has, a v w))

sized-visible : (s : List Row) → IsAscending s → AreSized s → (v : Val) → IsHeld (visible s) v → IsSized v
sized-visible s up h v shown = let live = (visible-live s up v).0 shown in h v live.0 (omega (arith, live.1))

fits-lifted : (op : LiftOp) (v : Val) → IsSized v → FitsSigned w64 (lifted op v)
fits-lifted One v h = record { sfits = omega arith }
fits-lifted Itself (int n) h = h.ints
fits-lifted Itself (text t) h = record { sfits = omega arith }
fits-lifted Itself (pair a b) h = record { sfits = omega arith }
fits-lifted Length (int n) h = record { sfits = omega arith }
fits-lifted Length (text t) h = record { sfits = omega (arith, h.bytes) }
fits-lifted Length (pair a b) h = record { sfits = omega arith }
fits-lifted First (int n) h = record { sfits = omega arith }
fits-lifted First (text t) h = record { sfits = omega arith }
fits-lifted First (pair (int n) b) h = h.ints.0
fits-lifted First (pair (text t) b) h = record { sfits = omega arith }
fits-lifted First (pair (pair a c) b) h = record { sfits = omega arith }

module _ {member : ℤ → Bool} {combined : ℤ → ℤ → ℤ} {unit : ℤ} {undone taken : ℤ → ℤ} {size : ℤ → ℕ} (g : IsSizedGroup member combined unit undone taken size) (op : LiftOp) where
  abbrev lift : Val → ℤ
  lift = taken_lift taken op

  -- ---- members and their sizes

  fold-in : (a : ℤ) (vs : List Val) → IsTrue (member a) → AreLifted member lift vs → IsTrue (member (fold (λ b v. combined b (lift v)) a vs))
  fold-in a [] m h = m
  fold-in a (v ∷ vs) m h =
      fold-in (combined a (lift v)) vs (g.group.op_in a (lift v) m (h v (omega (arith, held-here v, held-small vs v)))) (λ w k. h w (omega (arith, k, held-small (v ∷ vs) w)))

  fold-small : (a : ℤ) (vs : List Val) → ((v : Val) → IsHeld vs v → size (lift v) ≤ 2 ^ 63) → size (fold (λ b v. combined b (lift v)) a vs) ≤ size a + 2 ^ 63 * length vs
  fold-small a [] h = omega arith
  fold-small a (v ∷ vs) h =
      omega (arith, fold-small (combined a (lift v)) vs (λ w k. h w (omega (arith, k, held-small (v ∷ vs) w))), g.size_combined a (lift v), h v (omega (arith, held-here v, held-small vs v)))

  lifted-visible : (s : List Row) → IsAscending s → AreSized s → AreLifted member lift (visible s)
  lifted-visible s up h v shown = g.lifts (lifted op v) (fits-lifted op v (sized-visible s up h v shown))

  -- the number of a set is a member
  pub number-in : (s : List Row) → IsAscending s → AreSized s → IsTrue (member (fold_set combined unit lift s))
  number-in s up h = fold-in unit (visible s) g.group.neutral_in (lifted-visible s up h)

  -- and small
  pub number-small : (s : List Row) → IsAscending s → AreSized s → size (fold_set combined unit lift s) ≤ 2 ^ 63 * length s
  number-small s up h =
      omega (arith, fold-small unit (visible s) (λ v shown. g.size_taken (lifted op v) (fits-lifted op v (sized-visible s up h v shown))), g.size_unit, length-visible s)

  pub old-in : (s : List Row) (old : ℤ) → old ≡ fold_set combined unit lift s → IsAscending s → AreSized s → IsTrue (member old)
  old-in s old is up h = subst (λ (n : ℤ). IsTrue (member n)) (sym is) (number-in s up h)

  -- with room for as many values more as a set may have
  pub old-small : (s c : List Row) (old : ℤ) → old ≡ fold_set combined unit lift s → IsAscending s → AreSized s → length s ≤ row_limit → length c ≤ row_limit → size old + 2 ^ 63 * length c ≤ 2 ^ 99
  old-small s c old is up h few few_c = let same = ap size is in omega (arith, same, number-small s up h, few, few_c)

  -- ---- a change

  follow : (s c t : List Row) → IsAscending s → IsAscending t → IsAscending c → AreSized s → AreSized t → ((v : Val) (w : Tok) → mark t v w ≡ max (mark s v w) (mark c v w))
      → fold (turned combined undone lift) (fold_set combined unit lift s) (turns (visible s) (visible t) (row_values c)) ≡ fold_set combined unit lift t
  follow s c t up_s up_t up_c small_s small_t joined =
      sym (turns-corrected combined undone lift (visible s) (visible t) (fold_set combined unit lift s) (row_values c))
      ∙ fold-corrected g.group lift (visible s) (visible t) (row_values c) (lifted-visible s up_s small_s) (lifted-visible t up_t small_t) (ascending-visible s) (ascending-visible t) (ascending-of_values (map (λ r. r.0.0) c)) (listed s c t up_s up_t joined)

  -- from a set to a greater one, along the rows of the greater one
  pub follow-all : (s t : List Row) (old : ℤ) → IsAscending s → IsAscending t → AreSized t → IsAtMost s t → old ≡ fold_set combined unit lift s
      → fold (turned combined undone lift) old (turns (visible s) (visible t) (row_values t)) ≡ fold_set combined unit lift t
  follow-all s t old up_s up_t small a is =
      ap (λ (n : ℤ). fold (turned combined undone lift) n (turns (visible s) (visible t) (row_values t))) is
      ∙ follow s t t up_s up_t up_t (sized-below s t a small) small (λ v w. omega (arith, a v w))

  -- along the rows of a change
  pub follow-change : (s c t : List Row) (old : ℤ) → IsChange s c t → IsAscending t → AreSized t → old ≡ fold_set combined unit lift s
      → fold (turned combined undone lift) old (turns (visible s) (visible t) (row_values c)) ≡ fold_set combined unit lift t
  follow-change s c t old h up_t small is =
      ap (λ (n : ℤ). fold (turned combined undone lift) n (turns (visible s) (visible t) (row_values c))) is
      ∙ follow s c t h.was up_t h.ascends (λ v w has. small v w (omega (arith, has, marks v w))) small marks where
        marks : (v : Val) (w : Tok) → mark t v w ≡ max (mark s v w) (mark c v w)
        marks v w = ap (λ (u : List Row). mark u v w) (sym h.joined) ∙ mark-join s c v w

-- ---- how many values came or went

pub count-all : (s t : List Row) → IsAscending s → IsAscending t → IsAtMost s t → length (turns (visible s) (visible t) (row_values t)) ≤ length (changed s t)
count-all s t up_s up_t a =
    let same = ap length (turns-same (visible s) (visible t) (row_values t) (row_values (changed s t)) (ascending-of_values (map (λ r. r.0.0) t)) (ascending-of_values (map (λ r. r.0.0) (changed s t)))
    (listed s t t up_s up_t (λ v w. omega (arith, a v w))) (changed-values s t up_s up_t a)) in
    omega (arith, same, length-turns (visible s) (visible t) (row_values (changed s t)), length-row_values (changed s t))

pub count-change : (s t c : List Row) → length (turns (visible s) (visible t) (row_values c)) ≤ length c
count-change s t c = omega (arith, length-turns (visible s) (visible t) (row_values c), length-row_values c)

-- ---- how large a number becomes

pub rows-below : (s t : List Row) → IsAscending s → IsAscending t → IsAtMost s t → length s ≤ length t
rows-below s t up_s up_t a = length-at_most s t up_s up_t a

pub change-below : (s c t : List Row) → IsChange s c t → IsAtMost c t
change-below s c t h v w = let m = ap (λ (u : List Row). mark u v w) h.joined in omega (arith, mark-join s c v w, m)

pub change-grown : (s c t : List Row) → IsChange s c t → IsAtMost s t
change-grown s c t h v w = let m = ap (λ (u : List Row). mark u v w) h.joined in omega (arith, mark-join s c v w, m)
