-- A pair's second part is read as its first part was.
use Rattle.std.proofs.Common.{◌≡◌, ℕ, suc, ◌-◌, ◌<◌, false, eqb, List, Ok, ap, ◌∙◌, arith}
use Rattle.std.proofs.lemmas.Bool.{ne_eqb}
use Rattle.model_graph.specs.Chain.{◌>>=◌}
use Rattle.model_wire.specs.Reader.{Reading, remade, kind_at}
use Rattle.model_wire.specs.Value.{Part, pair_part, part_at}
use Rattle.model_wire.proofs.DepthLaws.{fewer, enough}

-- what is read of a pair whose first part was read
pub second_read : (pairs room : ℕ) (bytes : List ℕ) (tag : ℕ × List ℕ) (a : Part × List ℕ) → kind_at 0 2 bytes ≡ Ok tag → 1 < tag.0 → 0 < pairs → part_at (suc (pairs - 1)) (pairs - 1) room tag.1 ≡ Ok a
    → part_at (suc pairs) pairs room bytes ≡ (part_at (suc a.0.pairs) a.0.pairs a.0.room a.1 >>= remade (pair_part a.0.value))
unfolding part_at
second_read pairs room bytes tag a kind more some first =
    let not-int : eqb tag.0 0 ≡ false = ne_eqb tag.0 0 (λ e. absurd (omega (arith, more, e))) in
    let not-text : eqb tag.0 1 ≡ false = ne_eqb tag.0 1 (λ e. absurd (omega (arith, more, e))) in
    let not-none : eqb pairs 0 ≡ false = ne_eqb pairs 0 (λ e. absurd (omega (arith, some, e))) in
    let depth : part_at pairs (pairs - 1) room tag.1 ≡ Ok a = enough pairs (suc (pairs - 1)) (pairs - 1) room tag.1 (omega (arith, some)) (omega (arith, some)) ∙ first in
    let few = fewer pairs (pairs - 1) room tag.1 a depth in
    rw (kind, not-int, not-text, not-none, depth)
    (ap (λ (r : Reading Part). r >>= remade (pair_part a.0.value)) (enough pairs (suc a.0.pairs) a.0.pairs a.0.room a.1 (omega (arith, some, few)) (omega arith)))
