use Rattle.std.proofs.Common.{arith, ◌≡◌, ◌∙◌, sym, subst}
use Rattle.lasp_drive.specs.Driver.{seen}
use Rattle.lasp_drive.proofs.NodeLaws.{seen-high}
use Rattle.model_deltas.specs.Delta.{Delta}
use Rattle.model_deltas.specs.Gossip.{no_delta, delta_number}
use Rattle.lasp_delta.specs.Seen.{delta_seen, gossip_of}
use Rattle.lasp_delta.specs.Acts.{StandsFor}
use Rattle.lasp_delta.proofs.MessageLaws.{letter-low, read-or, stands-there, went-taken}
use Rattle.lasp_delta.proofs.run.deltas.DeltaRun.take.Goals as goal

pub index-requires : goal.index-requires
index-requires g c = omega (arith, letter-low c.args.c c.args.i (delta_seen g.N.Node.view g.N.Node.read c.args.self.now) c.requires.under_way c.requires.message, c.args.self.now.letters.ok.0)

pub bring-requires-clause-may : goal.bring-requires-clause-may
bring-requires-clause-may g c = record { ready = c.requires.under_way.ready; lawful = (seen-high g.N.Node.view c.args.self.now.driver.nodes.items c.args.p c.requires.node, c.requires.message) }

pub bring-requires-clause-stands : goal.bring-requires-clause-stands
bring-requires-clause-stands g c =
    let d = delta_seen g.N.Node.view g.N.Node.read c.args.self.now in
    let member = seen-high g.N.Node.view c.args.self.now.driver.nodes.items c.args.p c.requires.node in
    let is : delta_number (gossip_of d) c.args.i ≡ c.in_ok-delta.delta =
    read-or d.deltas c.args.i c.index.result.now no_delta (letter-low c.args.c c.args.i d c.requires.under_way c.requires.message) c.index.ensures ∙ sym c.in_ok-delta.ensures in
    subst (λ (delta : Delta). StandsFor d.driver c.args.p c.args.i delta) is (stands-there c.args.c c.args.p c.args.i d c.requires.under_way member c.requires.message)

pub returns : goal.returns
returns g c =
    let d = delta_seen g.N.Node.view g.N.Node.read c.args.self.now in
    let is : delta_number (gossip_of d) c.args.i ≡ c.in_ok-delta.delta =
    read-or d.deltas c.args.i c.index.result.now no_delta (letter-low c.args.c c.args.i d c.requires.under_way c.requires.message) c.index.ensures ∙ sym c.in_ok-delta.ensures in
    went-taken c.args.c c.args.p c.args.i c.in_ok-deliveries.deliveries c.in_ok-gaps.gaps c.in-Ok.gap d (seen g.N.Node.view g.N.Node.read c.bring.new.driver) c.in_ok-delta.delta c.requires.under_way c.in-Ok.ensures.done is c.in-Ok.ensures.gap
    c.in_ok-gaps.ensures c.in_ok-deliveries.ensures
