use Rattle.std.proofs.Common.{◌<◌, length, map, arith, ◌∙◌}
use Rattle.std.proofs.lemmas.List.{length-set}
use Rattle.lasp_drive.specs.Node.{IsSettled, AreSettled, AreNodes}
use Rattle.lasp_drive.proofs.NodeLaws.{at-set, seen-at, seen-set, nodes-set, node-stays, learned-settled}
use Rattle.tests_runs.proofs.nodes.tell_nodes.Goals as goal

pub tell_node-requires-clause-settled : goal.tell_node-requires-clause-settled
tell_node-requires-clause-settled g c =
    c.loop-p.invariant.settled c.loop-p.p (g.N.Node.view c.index_mut.result.now) (seen-at g.N.Node.view c.loop-p.nodes.items c.loop-p.p c.index_mut.result.now (omega (arith, c.loop-p-test.true, c.len-p-end.ensures, c.loop-p.invariant.size)) c.index_mut.ensures.value)

pub tell_node-requires-clause-graph : goal.tell_node-requires-clause-graph
tell_node-requires-clause-graph g c =
    (c.loop-p.invariant.each c.loop-p.p (g.N.Node.view c.index_mut.result.now) (seen-at g.N.Node.view c.loop-p.nodes.items c.loop-p.p c.index_mut.result.now (omega (arith, c.loop-p-test.true, c.len-p-end.ensures, c.loop-p.invariant.size)) c.index_mut.ensures.value)).graph

pub loop-p-preserved : goal.loop-p-preserved
loop-p-preserved g c =
    let now = c.loop-p.nodes.items in
    let nodes = map g.N.Node.view now in
    let many = length c.args.nodes.now.items in
    let p = c.loop-p.p in
    let n = g.N.Node.view c.index_mut.result.now in
    let new = g.N.Node.view c.tell_node.new.node in
    let within : p < length now = omega (arith, c.loop-p-test.true, c.len-p-end.ensures, c.loop-p.invariant.size) in
    let at = seen-at g.N.Node.view now p c.index_mut.result.now within c.index_mut.ensures.value in
    record {
      size = length-set now p c.tell_node.new.node ∙ c.loop-p.invariant.size;
      settled = seen-set g.N.Node.view now p c.tell_node.new.node AreSettled
          (at-set (λ q m. IsSettled m) nodes p new (λ q m _ there. c.loop-p.invariant.settled q m there) (learned-settled n new c.tell_node.ensures (c.loop-p.invariant.settled p n at)));
      each = seen-set g.N.Node.view now p c.tell_node.new.node (AreNodes c.args.graph.now many)
          (nodes-set c.args.graph.now many nodes p new c.loop-p.invariant.each (node-stays c.args.graph.now many p n new (c.loop-p.invariant.each p n at) c.tell_node.ensures.still));
    }
