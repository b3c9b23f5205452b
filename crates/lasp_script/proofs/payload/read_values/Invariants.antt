use Rattle.std.proofs.Common.{◌≡◌, map, drop, []}
use Rattle.serde_json.specs.View.{view}
use Rattle.lasp_script.specs.Made.{values_from}
use Rattle.lasp_script.proofs.payload.read_values.Given as goal

abbrev pub invariant-loop-j : goal.invariant-loop-j
invariant-loop-j l = values_from l.values (map view (drop l.j-index l.items)) ≡ values_from [] (map view l.items)
