use Rattle.std.proofs.Common.{◌+◌, ◌*◌, map}
use Rattle.serde_json.specs.View.{view}
use Rattle.lasp_spelling.specs.Spelling.{Opens}
use Rattle.lasp_spelling.proofs.tree.+trees.Given as goal

abbrev pub decreases-take_list : goal.decreases-take_list
decreases-take_list l = 2 * l.nesting + 1

abbrev pub decreases-take_tree : goal.decreases-take_tree
decreases-take_tree l = 2 * l.nesting

abbrev pub invariant-take_list-loop : goal.invariant-take_list-loop
invariant-take_list-loop l = Opens l.nesting l.bytes (map view l.items.items) l.rest
