use Rattle.serde_json.specs.View.{view}
use Rattle.lasp_script.proofs.usual.take_by_tree.Goals as goal

pub returns-in-Ok : goal.returns-in-Ok
returns-in-Ok g c = record { tree = view c.in_ok-tree.tree; spelled = c.in_ok-tree.ensures; read = c.in-Ok.ensures }
