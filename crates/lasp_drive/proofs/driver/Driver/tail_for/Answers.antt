use Rattle.std.proofs.Common.{List, ℕ, length, sym, ap, subst, ◌∙◌}
use Rattle.std.specs.Arc.{arc_value}
use Rattle.model_states.specs.Counts.{AreCountsAtMost}
use Rattle.model_graph.specs.Message.{Message}
use Rattle.model_world.specs.World.{Peer, peer_at, sent_number}
use Rattle.model_runs.specs.Part.{BringsAsMuch}
use Rattle.lasp_drive.specs.Nodes.{peers_of}
use Rattle.lasp_drive.specs.Driver.{seen, run_of, stage_of}
use Rattle.lasp_drive.proofs.NodeLaws.{seen-at, seen-high, peer-here, sent-read}
use Rattle.lasp_drive.proofs.PartLaws.{counted-wide}
use Rattle.lasp_drive.proofs.TailLaws.{kept-behind, brings-tail}
use Rattle.lasp_drive.proofs.driver.Driver.tail_for.Goals as goal

pub receive-requires : goal.receive-requires
receive-requires g c =
    let d = seen g.N.Node.view g.N.Node.read c.args.self.now in
    (kept-behind d.graph d.nodes d.sent d.tails c.args.i c.index.result.now c.in-Some.tail c.requires.ready.1.tailed c.requires.message c.index.ensures c.in-Some.is).place

pub has_counted-requires : goal.has_counted-requires
has_counted-requires g c =
    let d = seen g.N.Node.view g.N.Node.read c.args.self.now in
    let nodes = c.args.self.now.nodes.items in
    let n = g.N.Node.view c.index-in-Some.result.now in
    let at = seen-at g.N.Node.view nodes c.args.p c.index-in-Some.result.now c.requires.node c.index-in-Some.ensures in
    let before = c.in-Some.tail.before in
    let behind = kept-behind d.graph d.nodes d.sent d.tails c.args.i c.index.result.now c.in-Some.tail c.requires.ready.1.tailed c.requires.message c.index.ensures c.in-Some.is in
    let is = sent-read d.sent before (arc_value c.in_ok-before-in-Some.before) c.in_ok-before-in-Some.ensures.message in
    ap (λ (ns : List ℕ). length ns) c.counts.ensures
    ∙ ap (λ (m : Message). length m.counts) (c.deref.ensures ∙ is)
    ∙ counted-wide (length d.nodes) c.requires.ready.0 before c.args.p (stage_of d) (run_of d) c.requires.ready.1.sound behind.place (seen-high g.N.Node.view nodes c.args.p c.requires.node)
    ∙ ap (λ (r : Peer). length r.counts) (peer-here d.nodes c.args.p n at)

pub returns-then-has_counted : goal.returns-then-has_counted
returns-then-has_counted g c =
    let d = seen g.N.Node.view g.N.Node.read c.args.self.now in
    let nodes = c.args.self.now.nodes.items in
    let n = g.N.Node.view c.index-in-Some.result.now in
    let at = seen-at g.N.Node.view nodes c.args.p c.index-in-Some.result.now c.requires.node c.index-in-Some.ensures in
    let before = c.in-Some.tail.before in
    let behind = kept-behind d.graph d.nodes d.sent d.tails c.args.i c.index.result.now c.in-Some.tail c.requires.ready.1.tailed c.requires.message c.index.ensures c.in-Some.is in
    let is = sent-read d.sent before (arc_value c.in_ok-before-in-Some.before) c.in_ok-before-in-Some.ensures.message in
    let counted : AreCountsAtMost (sent_number d.sent before).counts (peer_at (peers_of d.nodes) c.args.p).counts =
    subst (λ (r : Peer). AreCountsAtMost (sent_number d.sent before).counts r.counts) (sym (peer-here d.nodes c.args.p n at))
    (subst (λ (ns : List ℕ). AreCountsAtMost ns n.peer.counts) (c.counts.ensures ∙ ap (λ (k : Message). k.counts) (c.deref.ensures ∙ is)) (c.has_counted.ensures c.if-has_counted.true)) in
    subst (λ (m : Message). BringsAsMuch d.graph (peer_at (peers_of d.nodes) c.args.p).contents (sent_number d.sent c.args.i) m) (sym c.in_ok-try_clone-in-Some.ensures)
    (brings-tail (length d.nodes) (run_of d) c.requires.ready.1.known c.args.p c.args.i (seen-high g.N.Node.view nodes c.args.p c.requires.node) c.in-Some.tail behind counted)
