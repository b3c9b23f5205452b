-- A log that begins as another one.
use Rattle.std.proofs.Common.{◌≡◌, ◌++◌, ◌∷◌, [], List, Bool, true, false, not, IsTrue, length, take, drop, refl, sym, ap, ◌∙◌, append_assoc, append-nil}
use Rattle.std.proofs.Math.Seq.{drop-append_seam, take-append_seam}
use Rattle.std.specs.Bool.{beq}
use Rattle.std.specs.Ordering.{eq_by_cmp}
use Rattle.model_values.specs.Row.{Key, Row, key_cmp, key_exact}
use Rattle.model_sets.specs.Rows.{of_rows}
use Rattle.model_sets.specs.Equations.{changed}
use Rattle.model_sets.specs.Rises.{AreRises}
use Rattle.model_sets.proofs.RowLaws.{is-Equal}
use Rattle.model_sets.proofs.RiseLaws.{rest-changed}

-- the rows of two passes that have one key, and are dead both or live both, are one row
pub same-row : (r q : Row) → eq_by_cmp key_cmp r.0 q.0 ≡ true → r.1 ≡ q.1 → r ≡ q
same-row r q key dead = λ i. (key_exact r.0 q.0 (is-Equal (key_cmp r.0 q.0) key) i, dead i)

alike : (a b : Bool) → not (beq a b) ≡ false → a ≡ b
alike true true e = refl
alike true false e = absurd cc
alike false true e = absurd cc
alike false false e = refl

pub row-told : (r q : Row) (k l : Key) (d e same : Bool) → k ≡ r.0 → l ≡ q.0 → d ≡ r.1 → e ≡ q.1 → not (beq d e) ≡ false → same ≡ eq_by_cmp key_cmp k l → IsTrue same → r ≡ q
row-told r q k l d e same kr lq dr eq alike_dead is yes_it =
    same-row r q ((λ i. eq_by_cmp key_cmp (sym kr i) (sym lq i)) ∙ sym is ∙ yes_it) (sym dr ∙ alike d e alike_dead ∙ eq)

-- two passes that came equally far
pub record AreAbreast (log other left rest : List Row) : Type 0 where
  pub done : List Row
  pub first : log ≡ done ++ left
  pub second : other ≡ done ++ rest

pub abreast-first : (log other left rest : List Row) → left ≡ log → rest ≡ other → AreAbreast log other left rest
abreast-first log other left rest l r = record { done = []; first = sym l; second = sym r }

pub abreast-next : (log other left left' rest rest' : List Row) (r : Row) → left ≡ r ∷ left' → rest ≡ r ∷ rest' → AreAbreast log other left rest → AreAbreast log other left' rest'
abreast-next log other left left' rest rest' r l m h = record {
  done = h.done ++ r ∷ [];
  first = h.first ∙ ap (λ (s : List Row). h.done ++ s) l ∙ sym (append_assoc h.done (r ∷ []) left');
  second = h.second ∙ ap (λ (s : List Row). h.done ++ s) m ∙ sym (append_assoc h.done (r ∷ []) rest');
}

pub abreast-last : (log other left rest : List Row) → left ≡ [] → AreAbreast log other left rest → other ≡ log ++ rest
abreast-last log other left rest l h = h.second ∙ ap (λ (s : List Row). s ++ rest) (sym (h.first ∙ ap (λ (s : List Row). h.done ++ s) l ∙ append-nil h.done))

-- to a set without rows each row is new
pub all-new : (rows : List Row) → changed [] rows ≡ rows
all-new [] = refl
all-new ((k, true) ∷ rows) = ap (λ (s : List Row). (k, true) ∷ s) (all-new rows)
all-new ((k, false) ∷ rows) = ap (λ (s : List Row). (k, false) ∷ s) (all-new rows)

-- what stands behind is what changed
pub behind-changed : (log other rest before after : List Row) → other ≡ log ++ rest → AreRises [] other → of_rows log ≡ before → of_rows other ≡ after → of_rows rest ≡ changed before after
behind-changed log other rest before after e up b a =
    let rests : of_rows (drop (length log) other) ≡ of_rows rest = ap (λ (s : List Row). of_rows (drop (length log) s)) e ∙ ap (λ (s : List Row). of_rows s) (drop-append_seam log rest) in
    let begins : of_rows (take (length log) other) ≡ before = ap (λ (s : List Row). of_rows (take (length log) s)) e ∙ ap (λ (s : List Row). of_rows s) (take-append_seam log rest) ∙ b in
    sym rests ∙ rest-changed other (length log) up ∙ (λ i. changed (begins i) (a i))
