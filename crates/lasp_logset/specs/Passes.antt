-- What is left of a pass.
use Rattle.std.specs.Prelude.{◌≡◌, ◌<◌, ◌≤◌, List}
use Rattle.model_values.specs.Value.{Val}
use Rattle.model_values.specs.Token.{Tok}
use Rattle.model_values.specs.Row.{Row}
use Rattle.model_sets.specs.Rows.{mark}
use Rattle.lasp_logset.specs.declared.pass.Left.{Left}
use Rattle.lasp_logset.specs.declared.pass.Left.TheVariants.{Table, Log, Standing, Near, Grown}

abbrev pub left_of : Left → List Row
left_of (Table left) = left
left_of (Log left) = left
left_of (Standing left) = left
left_of (Near left) = left
left_of (Grown left) = left

-- each live row of the value is still to come in a pass over the log
pub record IsSought (log left : List Row) (v : Val) : Type 0 where
  pub live : (t : Tok) → mark log v t ≡ 1 → 0 < mark left v t
  pub low : (u : Val) (t : Tok) → mark left u t ≤ mark log u t
