use Rattle.std.proofs.Common.{◌≡◌, [], sym, subst}
use Rattle.std.specs.Prelude.{IfOk}
use Rattle.model_world.specs.World.{Peer}
use Rattle.lasp_drive.specs.Driver.{seen}
use Rattle.lasp_drive.proofs.NodeLaws.{seen-at, seen-low, seen-set, peer-here}
use Rattle.lasp_drive.proofs.StepLaws.{with_nodes}
use Rattle.lasp_delta.specs.Acts.{Did}
use Rattle.lasp_delta.proofs.GoLaws.{did-ask}
use Rattle.lasp_delta.proofs.run.hand.counts_at.Goals as goal

pub returns-clause-counts : goal.returns-clause-counts
returns-clause-counts g c =
    let d = seen g.N.Node.view g.N.Node.read c.args.driver.now in
    let n = g.N.Node.view c.index_mut.result.now in
    let at = seen-at g.N.Node.view c.args.driver.now.nodes.items c.args.p c.index_mut.result.now (seen-low g.N.Node.view c.args.driver.now.nodes.items c.args.p c.requires.lawful.0) c.index_mut.ensures.value in
    subst (λ (r : Peer). IfOk c.counts.result (λ found. found ≡ r.counts)) (sym (peer-here d.nodes c.args.p n at)) c.counts.ensures.counts

pub returns-clause-asked : goal.returns-clause-asked
returns-clause-asked g c =
    let d = seen g.N.Node.view g.N.Node.read c.args.driver.now in
    let nodes = c.args.driver.now.nodes.items in
    let n = g.N.Node.view c.index_mut.result.now in
    let at = seen-at g.N.Node.view nodes c.args.p c.index_mut.result.now (seen-low g.N.Node.view nodes c.args.p c.requires.lawful.0) c.index_mut.ensures.value in
    seen-set g.N.Node.view nodes c.args.p c.counts.new.self (λ ns. Did c.args.c d [] (with_nodes d ns)) (did-ask c.args.c c.args.p d n (g.N.Node.view c.counts.new.self) c.requires.ready at c.counts.ensures.learns)
