use Rattle.std.proofs.Common.{◌≡◌, length, sym, ◌∙◌, subst}
use Rattle.std.specs.Prelude.{IfOk}
use Rattle.model_graph.specs.Message.{Message}
use Rattle.model_graph.specs.Spelling.{spelled}
use Rattle.model_wire.specs.Lawful.{IsMessage}
use Rattle.model_readings.specs.Lawful.{IsGraph}
use Rattle.model_world.specs.World.{peer_at}
use Rattle.model_runs.proofs.HeldLaws.{held-message}
use Rattle.lasp_drive.specs.Nodes.{peers_of, AllLearn}
use Rattle.lasp_drive.specs.Driver.{seen}
use Rattle.lasp_drive.proofs.NodeLaws.{seen-at, seen-high, seen-set, same-place, message-here, below-limit}
use Rattle.lasp_drive.proofs.PointLaws.{learning-begins, learning-next}
use Rattle.lasp_drive.proofs.StepLaws.{stands-asked}
use Rattle.lasp_drive.proofs.ReportLaws.{asked-run}
use Rattle.lasp_drive.proofs.driver.Driver.export.Goals as goal

pub message-requires : goal.message-requires
message-requires g c =
    let d = seen g.N.Node.view g.N.Node.read c.args.self.now in
    let ready = c.requires.ready.2 in
    let n = g.N.Node.view c.index_mut.result.now in
    let member = seen-high g.N.Node.view c.args.self.now.nodes.items c.args.p c.requires.node in
    let at = seen-at g.N.Node.view c.args.self.now.nodes.items c.args.p c.index_mut.result.now c.requires.node c.index_mut.ensures.value in
    subst IsMessage (sym (message-here d.graph d.nodes c.args.p n (ready.nodes c.args.p n at).graph at))
    (held-message (length d.nodes) d.graph (peer_at (peers_of d.nodes) c.args.p) (subst IsGraph c.deref.ensures c.recall.ensures) ready.some ready.few
    (ready.sound.held c.args.p member) (below-limit c.requires.ready.0 (peer_at (peers_of d.nodes) c.args.p).counts c.requires.ready.1 (ready.sound.below c.args.p member)))

pub returns-clause-bytes : goal.returns-clause-bytes
returns-clause-bytes g c =
    let d = seen g.N.Node.view g.N.Node.read c.args.self.now in
    let n = g.N.Node.view c.index_mut.result.now in
    let at = seen-at g.N.Node.view c.args.self.now.nodes.items c.args.p c.index_mut.result.now c.requires.node c.index_mut.ensures.value in
    subst (λ (m : Message). IfOk c.encode.result (λ bytes. bytes.items ≡ spelled m))
    (c.in_ok-message.ensures.message ∙ message-here d.graph d.nodes c.args.p n (c.requires.ready.2.nodes c.args.p n at).graph at) c.encode.ensures

pub returns-clause-asked : goal.returns-clause-asked
returns-clause-asked g c =
    let d = seen g.N.Node.view g.N.Node.read c.args.self.now in
    let nodes = c.args.self.now.nodes.items in
    let new = c.message.new.self in
    let at = seen-at g.N.Node.view nodes c.args.p c.index_mut.result.now c.requires.node c.index_mut.ensures.value in
    let learn = seen-set g.N.Node.view nodes c.args.p new (AllLearn d.nodes) (learning-next c.args.p d.nodes d.nodes (g.N.Node.view c.index_mut.result.now) (g.N.Node.view new) (learning-begins d.nodes) at c.message.ensures.learns) in
    record {
      learn = learn;
      in_place = same-place g.N.Node.place nodes c.args.p c.index_mut.result.now new c.requires.node c.index_mut.ensures.value c.message.ensures.place;
      run = asked-run d _ learn;
      ready = λ k ready. stands-asked k d _ ready learn;
    }

pub returns-in_err-message-clause-asked : goal.returns-in_err-message-clause-asked
returns-in_err-message-clause-asked g c =
    let d = seen g.N.Node.view g.N.Node.read c.args.self.now in
    let nodes = c.args.self.now.nodes.items in
    let new = c.message.new.self in
    let at = seen-at g.N.Node.view nodes c.args.p c.index_mut.result.now c.requires.node c.index_mut.ensures.value in
    let learn = seen-set g.N.Node.view nodes c.args.p new (AllLearn d.nodes) (learning-next c.args.p d.nodes d.nodes (g.N.Node.view c.index_mut.result.now) (g.N.Node.view new) (learning-begins d.nodes) at c.message.ensures.learns) in
    record {
      learn = learn;
      in_place = same-place g.N.Node.place nodes c.args.p c.index_mut.result.now new c.requires.node c.index_mut.ensures.value c.message.ensures.place;
      run = asked-run d _ learn;
      ready = λ k ready. stands-asked k d _ ready learn;
    }
