use Rattle.std.proofs.Common.{sym}
use Rattle.serde_json.specs.View.{view}
use Rattle.lasp_spelling.proofs.Arrays.{opens-first}
use Rattle.lasp_script.specs.Usual.{nesting_limit}
use Rattle.lasp_script.proofs.usual.take_nodes.Goals as goal

pub returns : goal.returns
returns c = record {
  first = view c.in_ok-first.first;
  opens = opens-first nesting_limit c.args.bytes.now c.in_ok-inside.inside.now c.in_ok-first.rest.now (view c.in_ok-first.first) c.in_ok-inside.ensures c.in_ok-first.ensures;
  told = sym c.in_ok-nodes.ensures;
}
