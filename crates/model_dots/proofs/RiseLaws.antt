-- Updates lead upwards: no mark becomes smaller.
use Rattle.std.proofs.Common.{◌≡◌, ℕ, ◌+◌, ◌≤◌, ◌<◌, Bool, true, false, nat_le, ◌==◌, if◌then◌else◌, List, length, refl, sym, subst, arith}
use Rattle.std.proofs.lemmas.Bool.Decides.{nat_tests}
use Rattle.std.proofs.lemmas.List.{length-set}
use Rattle.model_values.specs.Value.{Val}
use Rattle.model_values.specs.Token.{Tok, single, both}
use Rattle.model_sets.specs.Rows.{mark}
use Rattle.model_sets.proofs.RowLaws.{mark-put}
use Rattle.model_states.specs.Counts.{count_at}
use Rattle.model_dots.specs.Dots.{Dots, count_limit, is_counted, IsState, IsAtMost, raised, add_dot, remove_dots}
use Rattle.model_dots.proofs.DotLaws.{at_most-from_marks}
use Rattle.model_dots.proofs.StandLaws.{raised-more, new-mark, state-add, is_other, remove-rows, if-most, state-remove}

counted-raised : (counts : List ℕ) (node : ℕ) (w : Tok) → node < length counts → is_counted counts w ≡ true → is_counted (raised counts node) w ≡ true
counted-raised counts node (single q k) low e = grind (arith, nat_tests, e, raised-more counts node q low)
counted-raised counts node (both w u) low e = e

-- the numbers: m and n tell the rows, b and c whether the update is counted; what is counted stays so, and a row that is counted and isn't there doesn't come
told-rises : (b c : Bool) (m n : ℕ) → (b ≡ true → c ≡ true) → (b ≡ true → m ≡ 0 → n ≡ 0) → (if b then (if m == 0 then 2 else 1) else 0) ≤ (if c then (if n == 0 then 2 else 1) else 0)
told-rises false c m n f g = omega arith
told-rises true false m n f g = absurd (let wrong : false ≡ true = f refl in cc)
told-rises true true m n f g = choose (m == 0) refl where
  choose : (d : Bool) → (m == 0) ≡ d → (if m == 0 then 2 else 1) ≤ (if n == 0 then 2 else 1)
  choose true e =
      let none : n ≡ 0 = g refl (grind (arith, nat_tests, e)) in
      grind (arith, nat_tests, e, none)
  choose false e = grind (arith, nat_tests, e)

-- a new row is of no counted update
row-uncounted : (v u : Val) (node : ℕ) (s : Dots) (w : Tok) → is_counted s.counts w ≡ true → mark s.rows u w ≡ 0 → mark (add_dot v node s).rows u w ≡ 0
row-uncounted v u node s w counted none = choose (mark (add_dot v node s).rows u w == 0) refl where
  t : Tok
  t = single node (count_at s.counts node + 1)

  choose : (b : Bool) → (mark (add_dot v node s).rows u w == 0) ≡ b → mark (add_dot v node s).rows u w ≡ 0
  choose true e = grind (arith, nat_tests, e)
  choose false e =
      let some : 0 < mark (add_dot v node s).rows u w = grind (arith, nat_tests, e) in
      let new : w ≡ single node (count_at s.counts node + 1) = new-mark v u w t (omega (arith, some, mark-put ((v, single node (count_at s.counts node + 1)), false) s.rows u w, none)) in
      let past : nat_le (count_at s.counts node + 1) (count_at s.counts node) ≡ true = subst (λ (z : Tok). is_counted s.counts z ≡ true) new counted in
      absurd (grind (arith, nat_tests, past))

pub add-rises : (v : Val) (node : ℕ) (s : Dots) → IsState s → node < length s.counts → count_at s.counts node < count_limit → IsAtMost s (add_dot v node s)
add-rises v node s h low left =
    at_most-from_marks s (add_dot v node s) h (state-add v node s h low left) (sym (length-set s.counts node (count_at s.counts node + 1)))
    (λ u w. told-rises (is_counted s.counts w) (is_counted (raised s.counts node) w) (mark s.rows u w) (mark (add_dot v node s).rows u w) (counted-raised s.counts node w low) (row-uncounted v u node s w))

pub remove-rises : (v : Val) (node : ℕ) (s : Dots) → IsState s → node < length s.counts → count_at s.counts node < count_limit → IsAtMost s (remove_dots v node s)
remove-rises v node s h low left =
    at_most-from_marks s (remove_dots v node s) h (state-remove v node s h low left) (sym (length-set s.counts node (count_at s.counts node + 1)))
    (λ u w. told-rises (is_counted s.counts w) (is_counted (raised s.counts node) w) (mark s.rows u w) (mark (remove_dots v node s).rows u w) (counted-raised s.counts node w low)
    (λ _ none. omega (arith, none, remove-rows v s.rows u w, if-most (is_other v (u, w)) (mark s.rows u w))))
