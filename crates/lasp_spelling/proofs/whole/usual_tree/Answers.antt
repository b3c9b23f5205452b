use Rattle.serde_json.specs.View.{view}
use Rattle.lasp_spelling.proofs.Trees.{read-Spells}
use Rattle.lasp_spelling.proofs.whole.usual_tree.Goals as goal

pub returns-then-is_over : goal.returns-then-is_over
returns-then-is_over c = read-Spells c.args.bytes.now c.in_ok-tree.rest.now (view c.in_ok-tree.tree) c.in_ok-tree.ensures (c.is_over.ensures c.if-is_over.true)
