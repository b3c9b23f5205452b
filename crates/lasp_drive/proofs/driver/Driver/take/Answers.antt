use Rattle.std.proofs.Common.{◌≡◌, ◌∷◌, [], List, ℕ, length, sym, ap, subst, ◌∙◌, refl}
use Rattle.std.proofs.lemmas.Result.{err_from_is_err_and}
use Rattle.std.specs.Prelude.{Option, IfSome}
use Rattle.std.specs.Arc.{arc_value}
use Rattle.std.specs.declared.sync.Arc.{Arc}
use Rattle.std.specs.declared.alloc.Global.{Global}
use Rattle.lasp_wire.specs.declared.message.Message as rust
use Rattle.model_states.specs.Counts.{AreCountsAtMost}
use Rattle.model_graph.specs.Message.{Message}
use Rattle.model_world.specs.World.{Peer, Take, peer_at, sent_number}
use Rattle.model_runs.specs.Part.{BringsAsMuch}
use Rattle.model_runs.proofs.PartLaws.{brings-equal}
use Rattle.lasp_drive.specs.Nodes.{peers_of}
use Rattle.lasp_drive.specs.Driver.{seen, run_of, stage_of}
use Rattle.lasp_drive.proofs.NodeLaws.{seen-at, seen-low, peer-here, sent-read}
use Rattle.lasp_drive.proofs.ActLaws.{stops-early}
use Rattle.lasp_drive.proofs.PartLaws.{brings-nothing, counted-wide}
use Rattle.lasp_drive.proofs.driver.Driver.take.Goals as goal

pub returns-in_err-message : goal.returns-in_err-message
returns-in_err-message g c =
    let p = err_from_is_err_and c.from_residual.result c.from_residual.ensures.1 in
    rw (p.1, p.2) (record { acts = stops-early c.args.c (seen g.N.Node.view g.N.Node.read c.args.self.now) (Take c.args.p c.args.i ∷ []); reads = tt; in_place = refl })

pub has_counted-requires : goal.has_counted-requires
has_counted-requires g c =
    let d = seen g.N.Node.view g.N.Node.read c.args.self.now in
    let nodes = c.args.self.now.nodes.items in
    let n = g.N.Node.view c.index.result.now in
    let at = seen-at g.N.Node.view nodes c.args.p c.index.result.now (seen-low g.N.Node.view nodes c.args.p c.requires.lawful.0) c.index.ensures in
    let is = sent-read d.sent c.args.i (arc_value c.in_ok-message.message) c.in_ok-message.ensures.message in
    ap (λ (ns : List ℕ). length ns) c.counts.ensures
    ∙ ap (λ (m : Message). length m.counts) (c.deref.ensures ∙ is)
    ∙ counted-wide (length d.nodes) c.args.c c.args.i c.args.p (stage_of d) (run_of d) c.requires.ready.sound c.requires.lawful.1 c.requires.lawful.0
    ∙ ap (λ (r : Peer). length r.counts) (peer-here d.nodes c.args.p n at)

pub hand-requires-clause-part : goal.hand-requires-clause-part
hand-requires-clause-part g c =
    let d = seen g.N.Node.view g.N.Node.read c.args.self.now in
    let nodes = c.args.self.now.nodes.items in
    let n = g.N.Node.view c.index.result.now in
    let m = arc_value c.in_ok-message.message in
    let at = seen-at g.N.Node.view nodes c.args.p c.index.result.now (seen-low g.N.Node.view nodes c.args.p c.requires.lawful.0) c.index.ensures in
    let is : m ≡ sent_number d.sent c.args.i = sent-read d.sent c.args.i m c.in_ok-message.ensures.message in
    let nothing = c.in_ok-nothing.nothing in
    let bare : nothing ≡ record { counts = m.counts; sources = [] } = c.in_ok-nothing.ensures ∙ ap (λ (k : Message). record { counts = k.counts; sources = [] }) c.deref-then-has_counted.ensures in
    let counted : AreCountsAtMost (sent_number d.sent c.args.i).counts (peer_at (peers_of d.nodes) c.args.p).counts =
    subst (λ (r : Peer). AreCountsAtMost (sent_number d.sent c.args.i).counts r.counts) (sym (peer-here d.nodes c.args.p n at))
    (subst (λ (ns : List ℕ). AreCountsAtMost ns n.peer.counts) (c.counts.ensures ∙ ap (λ (k : Message). k.counts) (c.deref.ensures ∙ is)) (c.has_counted.ensures c.if-has_counted.true)) in
    subst (λ (k : Message). BringsAsMuch d.graph (peer_at (peers_of d.nodes) c.args.p).contents k nothing) (sym is)
    (brings-nothing (length d.nodes) (run_of d) c.requires.ready.known c.args.p c.args.i c.requires.lawful.0 counted nothing (ap (λ (k : Message). k.sources) bare) (ap (λ (k : Message). length k.counts) (bare ∙ ap (λ (k : Message). record { counts = k.counts; sources = [] }) is)))

pub hand-requires-in-Some-clause-part : goal.hand-requires-in-Some-clause-part
hand-requires-in-Some-clause-part g c =
    let d = seen g.N.Node.view g.N.Node.read c.args.self.now in
    let contents = (peer_at (peers_of d.nodes) c.args.p).contents in
    let m = arc_value c.in_ok-message.message in
    let is : m ≡ sent_number d.sent c.args.i = sent-read d.sent c.args.i m c.in_ok-message.ensures.message in
    let brings : BringsAsMuch d.graph contents (sent_number d.sent c.args.i) (arc_value c.in-Some.tail) =
    subst (λ (found : Option (Arc rust.Message Global)). IfSome found (λ part. BringsAsMuch d.graph contents (sent_number d.sent c.args.i) (arc_value part))) c.in-Some.is c.in_ok-tail.ensures in
    subst (λ (k : Message). BringsAsMuch d.graph contents m k) (sym c.deref-in-Some.ensures) (subst (λ (k : Message). BringsAsMuch d.graph contents k (arc_value c.in-Some.tail)) (sym is) brings)

pub hand-requires-in-None-clause-part : goal.hand-requires-in-None-clause-part
hand-requires-in-None-clause-part g c = brings-equal c.deref-in-None.ensures

pub returns-in_err-tail : goal.returns-in_err-tail
returns-in_err-tail g c =
    let p = err_from_is_err_and c.from_residual-in_err-tail.result c.from_residual-in_err-tail.ensures.1 in
    rw (p.1, p.2) (record { acts = stops-early c.args.c (seen g.N.Node.view g.N.Node.read c.args.self.now) (Take c.args.p c.args.i ∷ []); reads = tt; in_place = refl })

pub returns-in_err-nothing : goal.returns-in_err-nothing
returns-in_err-nothing g c =
    let p = err_from_is_err_and c.from_residual-in_err-nothing.result c.from_residual-in_err-nothing.ensures.1 in
    rw (p.1, p.2) (record { acts = stops-early c.args.c (seen g.N.Node.view g.N.Node.read c.args.self.now) (Take c.args.p c.args.i ∷ []); reads = tt; in_place = refl })
