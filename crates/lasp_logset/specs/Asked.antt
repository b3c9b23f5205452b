-- What answers for the keys of a set.
use Rattle.std.specs.Prelude.{List}
use Rattle.std.specs.Arc.{arc_value}
use Rattle.model_values.specs.Row.{Row}
use Rattle.lasp_logset.specs.declared.asked.By.{By}
use Rattle.lasp_logset.specs.declared.asked.By.TheVariants.{Table, Behind}

-- the log that it knows
abbrev pub asked_of : By → List Row
asked_of (Table set) = arc_value set
asked_of (Behind grown) = grown.now
