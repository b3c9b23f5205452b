use Rattle.std.proofs.Common.{sym, subst}
use Rattle.lasp_graph.specs.Library.{library_of}
use Rattle.lasp_script.specs.Progress.{Left, progress_over}
use Rattle.lasp_script.specs.Usual.{IsReadTo}
use Rattle.lasp_script.proofs.UsualLaws.{read_to-begun, read_to-next}
use Rattle.lasp_script.proofs.usual.take_parts.Goals as goal

pub loop-init : goal.loop-init
loop-init g c =
    subst (λ (l : Left). IsReadTo (library_of c.args.lib.now) c.args.g.now c.args.bytes.now c.in_ok-nodes.nodes (progress_over c.args.g.now l) c.in_ok-nodes.start.now) (sym c.new-progress.ensures)
    (read_to-begun (library_of c.args.lib.now) c.args.g.now c.args.bytes.now c.in_ok-nodes.nodes c.in_ok-nodes.start.now c.in_ok-nodes.ensures)

pub loop-preserved : goal.loop-preserved
loop-preserved g c =
    read_to-next (library_of c.args.lib.now) c.args.g.now c.args.bytes.now c.in_ok-nodes.nodes (progress_over c.args.g.now c.loop.progress) (progress_over c.args.g.now c.in-Some-take_next.more) c.loop.rest.now c.in-Some.next.now
    c.in-Some-take_next.behind.now c.loop.invariant c.in-Some.ensures c.in-Some-take_next.ensures
