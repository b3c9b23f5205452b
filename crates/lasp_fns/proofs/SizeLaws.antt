-- What one step of a map function is given stays small, since no map function makes a value larger.
use Rattle.std.proofs.Common.{[], ◌∷◌}
use Rattle.model_values.specs.Value.{Val, pair}
use Rattle.model_values.specs.Size.{IsSized}
use Rattle.model_functions.specs.Map.{MapOp, First, Second, mapped, mapped_once}
use Rattle.model_functions.proofs.MapLaws.{mapped-sized}
pub use Rattle.model_functions.proofs.MapLaws.{mapped-width as width-mapped}

pub sized-once : (op : MapOp) (v : Val) → IsSized v → IsSized (mapped_once op v)
unfolding mapped
sized-once op v s = mapped-sized (op ∷ []) v s

pub sized-first : (a b : Val) → IsSized (pair a b) → IsSized a
sized-first a b s = sized-once First (pair a b) s

pub sized-second : (a b : Val) → IsSized (pair a b) → IsSized b
sized-second a b s = sized-once Second (pair a b) s

pub ruleset sizes = (sized-once, sized-first, sized-second)
