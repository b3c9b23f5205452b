use Rattle.std.proofs.Common.{◌≡◌, ◌∙◌, arith}
use Rattle.std.specs.Prelude.{None, slice_get, Some, slice_index_or}
use Rattle.std.specs.Arc.{arc_value}
use Rattle.std.proofs.lemmas.Result.{IfOk-weaker}
use Rattle.model_deltas.specs.Gossip.{last_told}
use Rattle.lasp_drive.proofs.NodeLaws.{seen-high}
use Rattle.lasp_delta.specs.Seen.{delta_seen, gossip_of}
use Rattle.lasp_delta.proofs.MessageLaws.{last-low, read-or, told-number, told-read}
use Rattle.lasp_delta.proofs.run.deltas.DeltaRun.last_told.Goals as goal

pub index-requires : goal.index-requires
index-requires g c =
    omega (arith, last-low c.args.c c.args.p (delta_seen g.N.Node.view g.N.Node.read c.args.self.now) c.requires.under_way (seen-high g.N.Node.view c.args.self.now.driver.nodes.items c.args.p c.requires.node), c.args.self.now.last.ok.0)

pub receive-requires : goal.receive-requires
receive-requires g c =
    let d = delta_seen g.N.Node.view g.N.Node.read c.args.self.now in
    let member = seen-high g.N.Node.view c.args.self.now.driver.nodes.items c.args.p c.requires.node in
    told-number c.args.c c.args.p c.in-Some.i d c.requires.under_way member
    (read-or d.last c.args.p c.index.result.now None (last-low c.args.c c.args.p d c.requires.under_way member) c.index.ensures ∙ c.in-Some.is)

pub returns-in-Some : goal.returns-in-Some
returns-in-Some g c =
    let d = delta_seen g.N.Node.view g.N.Node.read c.args.self.now in
    let member = seen-high g.N.Node.view c.args.self.now.driver.nodes.items c.args.p c.requires.node in
    let number : slice_index_or d.last c.args.p None ≡ Some c.in-Some.i = read-or d.last c.args.p c.index.result.now None (last-low c.args.c c.args.p d c.requires.under_way member) c.index.ensures ∙ c.in-Some.is in
    IfOk-weaker c.receive.result (λ m. slice_get d.driver.sent c.in-Some.i ≡ Some (arc_value m)) (λ m. arc_value m ≡ last_told (gossip_of d) c.args.p) (λ m at. told-read d c.args.p c.in-Some.i (arc_value m) number at) c.receive.ensures.message
