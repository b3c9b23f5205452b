-- How many rows the join of two sets has.
use Rattle.std.proofs.Common.{◌≡◌, ℕ, ◌+◌, ◌≤◌, nat_le, Bool, true, List, ◌++◌, length, sym, subst, ◌∙◌, arith, length-append}
use Rattle.std.proofs.lemmas.Bool.{leb-true, le-leb}
use Rattle.model_values.specs.Row.{Row}
use Rattle.model_sets.specs.Rows.{join}
use Rattle.model_states.specs.Content.{join_contents, of_set, size_of, row_limit}
use Rattle.lasp_logset.proofs.WholeLaws.{few-rows}

-- the join of two sets has the rows of their join, and no elements
pub size-set : (s t : List Row) → size_of (join_contents (of_set s) (of_set t)) ≡ length (join s t)
size-set s t = plain (length (join s t)) where
  plain : (n : ℕ) → n + 0 ≡ n
  plain n = omega arith

-- sets that have no more rows together than a variable may have may be joined
pub few-joined : (s t : List Row) (few : Bool) → few ≡ nat_le (length s + length t) row_limit → few ≡ true → true ≡ nat_le (size_of (join_contents (of_set s) (of_set t))) row_limit
few-joined s t few is fewer =
    let joined : length (join s t) ≤ length (s ++ t) = few-rows (s ++ t) in
    let both : length s + length t ≤ row_limit = leb-true (length s + length t) row_limit (sym is ∙ fewer) in
    let within : length (join s t) ≤ row_limit = omega (arith, joined, both, length-append s t) in
    sym (le-leb (size_of (join_contents (of_set s) (of_set t))) row_limit (subst (λ (n : ℕ). n ≤ row_limit) (sym (size-set s t)) within))
