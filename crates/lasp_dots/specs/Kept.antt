-- A pair as it is kept, seen as a live row.
use Rattle.std.specs.Prelude.{false}
use Rattle.std.specs.Arc.{arc_value}
use Rattle.std.specs.declared.sync.Arc.{Arc}
use Rattle.model_values.specs.Row.{Row}
use Rattle.lasp_value.specs.Value.{val_of}
use Rattle.lasp_value.specs.Token.{tok_of}
use Rattle.lasp_dots.specs.declared.dot.Pair.{Pair}

abbrev pub row_of : {Z : Type 0} → Arc Pair Z → Row
row_of shared = ((val_of (arc_value shared).value, tok_of (arc_value shared).token), false)
