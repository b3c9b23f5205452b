use Rattle.std.specs.Arc.{arc_value}
use Rattle.lasp_drive.specs.Driver.{seen}
use Rattle.lasp_delta.proofs.PlayLaws.{begins-fresh}
use Rattle.lasp_delta.proofs.run.deltas.DeltaRun.new.Goals as goal

pub returns : goal.returns
returns g c = begins-fresh (arc_value c.args.graph.now) c.args.nodes (seen g.N.Node.view g.N.Node.read c.in_ok-driver.driver) c.in_ok-last.last.items c.new-2.result.items c.in_ok-driver.ensures c.in_ok-last.ensures c.new-2.ensures.items
