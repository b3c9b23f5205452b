use Rattle.std.proofs.Common.{rules, refl, map, ap, length}
use Rattle.std.specs.Arc.{arc_value}
use Rattle.lasp_gossip.specs.Network.{Network}
use Rattle.lasp_drive.specs.Driver.{read_seen, seen}
use Rattle.lasp_drive.specs.declared.driver.Driver.{Driver}
use Rattle.lasp_drive.proofs.StepLaws.{starts-fresh}
use Rattle.lasp_drive.proofs.driver.Driver.of.Goals as goal

pub returns-clause-starts : goal.returns-clause-starts
returns-clause-starts g c =
    let d : Driver g.row.N.Denot g.row.N-Read.Denot = record { graph = c.args.graph; nodes = c.args.nodes; network = c.new.result; tails = c.new-2.result; marks = c.new-3.result; reads = c.new-4.result; text = c.new-5.result } in
    starts-fresh (arc_value c.args.graph) (length c.args.nodes.items) (seen g.N.Node.view g.N.Node.read d) c.requires.some c.requires.few c.requires.fresh refl
    (ap (λ (n : Network). n.sent) c.new.ensures) (ap (λ (n : Network). n.limit) c.new.ensures) c.new-2.ensures.items c.new-3.ensures.items (ap (map (read_seen g.N.Node.read)) c.new-4.ensures.items) (search rules)
