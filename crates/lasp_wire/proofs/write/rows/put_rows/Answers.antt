use Rattle.std.proofs.Common.{ℕ, zero, suc, ◌<◌, List, [], ◌∷◌, length, sym, subst, arith}
use Rattle.std.specs.Prelude.{get_or}
use Rattle.std.specs.List.{AllByRecursion}
use Rattle.model_values.specs.Row.{Row}
use Rattle.lasp_wire.specs.Written.{IsShort}
use Rattle.lasp_wire.proofs.write.rows.put_rows.Goals as goal

short_at : (rows : List Row) (i : ℕ) (d : Row) → i < length rows → AllByRecursion (λ r. IsShort r.0.0) rows → IsShort (get_or rows i d).0.0
short_at [] i d lt h = absurd (omega (arith, lt))
short_at (r ∷ rows) zero d lt h = h.0
short_at (r ∷ rows) (suc i) d lt h = short_at rows i d (omega (arith, lt)) h.1

pub put_row-requires-clause-short : goal.put_row-requires-clause-short
put_row-requires-clause-short c =
    subst (λ (r : Row). IsShort r.0.0) (sym c.index-rows-i.is) (short_at c.args.rows.now c.loop-i.i _ c.loop-i-test.true c.requires.1)
