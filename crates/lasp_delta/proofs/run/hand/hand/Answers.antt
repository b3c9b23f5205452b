use Rattle.std.proofs.Common.{◌∷◌, [], List, length, sym, subst, slice_set}
use Rattle.std.specs.Arc.{arc_value}
use Rattle.model_graph.specs.Graph.{Decl}
use Rattle.model_graph.specs.Message.{Message}
use Rattle.model_world.specs.World.{Peer, Take, peer_at, delivered}
use Rattle.model_runs.specs.Part.{BringsAsMuch}
use Rattle.lasp_drive.specs.Nodes.{peers_of}
use Rattle.lasp_drive.specs.Driver.{seen}
use Rattle.lasp_drive.proofs.NodeLaws.{seen-at, seen-low, seen-set, held-here, peer-here, sent-read, stopped-delivery}
use Rattle.lasp_drive.proofs.StepLaws.{with_nodes, may-take, acted-take}
use Rattle.lasp_delta.specs.Acts.{Did}
use Rattle.lasp_delta.proofs.GoLaws.{did-acted, halts-take}
use Rattle.lasp_delta.proofs.run.hand.hand.Goals as goal

pub deliver-requires-clause-held : goal.deliver-requires-clause-held
deliver-requires-clause-held g c =
    let d = seen g.N.Node.view g.N.Node.read c.args.driver.now in
    let nodes = c.args.driver.now.nodes.items in
    let n = g.N.Node.view c.index_mut.result.now in
    let at = seen-at g.N.Node.view nodes c.args.p c.index_mut.result.now (seen-low g.N.Node.view nodes c.args.p c.requires.may.lawful.0) c.index_mut.ensures.value in
    held-here d.graph (length d.nodes) d.nodes c.args.p n (c.requires.may.ready.nodes c.args.p n at) at (c.requires.may.ready.sound.held c.args.p c.requires.may.lawful.0)

pub deliver-requires-clause-sent : goal.deliver-requires-clause-sent
deliver-requires-clause-sent g c =
    let d = seen g.N.Node.view g.N.Node.read c.args.driver.now in
    let nodes = c.args.driver.now.nodes.items in
    let m = arc_value c.in_ok-message.message in
    let at = seen-at g.N.Node.view nodes c.args.p c.index_mut.result.now (seen-low g.N.Node.view nodes c.args.p c.requires.may.lawful.0) c.index_mut.ensures.value in
    may-take c.args.c c.args.p c.args.i d (g.N.Node.view c.index_mut.result.now) m c.requires.may.ready c.requires.may.lawful at (sent-read d.sent c.args.i m c.in_ok-message.ensures.message)

pub deliver-requires-clause-part : goal.deliver-requires-clause-part
deliver-requires-clause-part g c =
    let d = seen g.N.Node.view g.N.Node.read c.args.driver.now in
    let nodes = c.args.driver.now.nodes.items in
    let n = g.N.Node.view c.index_mut.result.now in
    let m = arc_value c.in_ok-message.message in
    let at = seen-at g.N.Node.view nodes c.args.p c.index_mut.result.now (seen-low g.N.Node.view nodes c.args.p c.requires.may.lawful.0) c.index_mut.ensures.value in
    subst (λ (h : List Decl). BringsAsMuch h n.peer.contents m c.args.part.now) (sym (c.requires.may.ready.nodes c.args.p n at).graph)
    (subst (λ (r : Peer). BringsAsMuch d.graph r.contents m c.args.part.now) (peer-here d.nodes c.args.p n at)
    (subst (λ (k : Message). BringsAsMuch d.graph (peer_at (peers_of d.nodes) c.args.p).contents k c.args.part.now) (sym (sent-read d.sent c.args.i m c.in_ok-message.ensures.message)) c.requires.brings))

pub returns-in-Ok : goal.returns-in-Ok
returns-in-Ok g c =
    let d = seen g.N.Node.view g.N.Node.read c.args.driver.now in
    let nodes = c.args.driver.now.nodes.items in
    let n = g.N.Node.view c.index_mut.result.now in
    let m = arc_value c.in_ok-message.message in
    let at = seen-at g.N.Node.view nodes c.args.p c.index_mut.result.now (seen-low g.N.Node.view nodes c.args.p c.requires.may.lawful.0) c.index_mut.ensures.value in
    seen-set g.N.Node.view nodes c.args.p c.deliver.new.self (λ ns. Did c.args.c d (Take c.args.p c.args.i ∷ []) (with_nodes d ns))
    (did-acted c.args.c d (with_nodes d (slice_set d.nodes c.args.p (g.N.Node.view c.deliver.new.self))) (Take c.args.p c.args.i ∷ [])
    (acted-take c.args.c c.args.p c.args.i d n (g.N.Node.view c.deliver.new.self) m c.requires.may.ready c.requires.may.lawful at (sent-read d.sent c.args.i m c.in_ok-message.ensures.message) c.in-Ok.ensures.takes.still
    c.in-Ok.ensures.done.0 c.in-Ok.ensures.done.1 c.in-Ok.ensures.takes.calls c.in-Ok.ensures.takes.grew))

pub returns-in-Err-TooLarge : goal.returns-in-Err-TooLarge
returns-in-Err-TooLarge g c =
    let d = seen g.N.Node.view g.N.Node.read c.args.driver.now in
    let nodes = c.args.driver.now.nodes.items in
    let m = arc_value c.in_ok-message.message in
    let n = g.N.Node.view c.index_mut.result.now in
    let at = seen-at g.N.Node.view nodes c.args.p c.index_mut.result.now (seen-low g.N.Node.view nodes c.args.p c.requires.may.lawful.0) c.index_mut.ensures.value in
    halts-take c.args.c c.args.p c.args.i c.in-Err-TooLarge.x d n m (c.requires.may.ready.nodes c.args.p n at).graph at (sent-read d.sent c.args.i m c.in_ok-message.ensures.message)
    (stopped-delivery (delivered n.decls m n.peer) (g.N.Node.view c.deliver.new.self).peer c.in-Err-TooLarge.field-0 c.in-Err-TooLarge.x c.in-Err-TooLarge.field-0-is c.in-Err-TooLarge.ensures.done)
