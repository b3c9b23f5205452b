use Rattle.std.proofs.Common.{ℕ}
use Rattle.lasp_state.specs.State.{op_of}
use Rattle.lasp_site.proofs.NodeLaws.{node-updated}
use Rattle.lasp_site.proofs.UpdateLaws.{may-update, do-low, do-update}
use Rattle.lasp_site.proofs.update.make.Goals as goal

pub update-requires-clause-may : goal.update-requires-clause-may
update-requires-clause-may g c =
    may-update c.args.me c.args.graph.now (g.N.Node.view c.args.node) c.args.var c.args.op.now c.requires.node c.requires.may
    c.requires.room

pub returns-in-Ok-clause-node : goal.returns-in-Ok-clause-node
returns-in-Ok-clause-node g c =
    let among : ℕ = (g.N.Node.view c.args.node).among in
    node-updated c.args.me c.args.graph.now (g.N.Node.view c.args.node) (g.N.Node.view c.update.new.self) c.args.var (op_of c.args.op.now) c.requires.node
    (do-low among c.args.me c.args.graph.now c.args.var c.args.op.now c.requires.may)
    (do-update among c.args.me c.args.graph.now c.args.var c.args.op.now c.requires.may)
    c.requires.room
    c.in-Ok.ensures.takes.still c.in-Ok.ensures.done.0 c.in-Ok.ensures.done.1

pub returns-in-Ok-clause-among : goal.returns-in-Ok-clause-among
returns-in-Ok-clause-among g c = c.in-Ok.ensures.takes.still.nodes

pub too_large-requires : goal.too_large-requires
too_large-requires g c = do-low (g.N.Node.view c.args.node).among c.args.me c.args.graph.now c.args.var c.args.op.now c.requires.may
