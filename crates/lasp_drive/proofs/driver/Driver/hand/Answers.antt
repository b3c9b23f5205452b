use Rattle.std.proofs.Common.{◌∷◌, [], List, length, refl, sym, subst}
use Rattle.std.specs.Arc.{arc_value}
use Rattle.model_graph.specs.Graph.{Decl}
use Rattle.model_world.specs.World.{Peer, Take, delivered, sent_number}
use Rattle.model_runs.specs.Part.{BringsAsMuch}
use Rattle.lasp_drive.specs.Driver.{seen, run_of}
use Rattle.lasp_drive.specs.Acts.{Acted, StopsWithin}
use Rattle.lasp_drive.specs.declared.halt.Halt.TheVariants as halt
use Rattle.lasp_drive.proofs.NodeLaws.{seen-at, seen-low, seen-set, held-here, peer-here, sent-read, deliver-stops, stopped-delivery, same-place}
use Rattle.lasp_drive.proofs.ActLaws.{stops-at}
use Rattle.lasp_drive.proofs.StepLaws.{with_nodes, may-take, acted-take}
use Rattle.lasp_drive.proofs.driver.Driver.hand.Goals as goal

pub deliver-requires-clause-held : goal.deliver-requires-clause-held
deliver-requires-clause-held g c =
    let d = seen g.N.Node.view g.N.Node.read c.args.self.now in
    let nodes = c.args.self.now.nodes.items in
    let n = g.N.Node.view c.index_mut.result.now in
    let at = seen-at g.N.Node.view nodes c.args.p c.index_mut.result.now (seen-low g.N.Node.view nodes c.args.p c.requires.may.lawful.0) c.index_mut.ensures.value in
    held-here d.graph (length d.nodes) d.nodes c.args.p n (c.requires.may.ready.nodes c.args.p n at) at (c.requires.may.ready.sound.held c.args.p c.requires.may.lawful.0)

pub deliver-requires-clause-sent : goal.deliver-requires-clause-sent
deliver-requires-clause-sent g c =
    let d = seen g.N.Node.view g.N.Node.read c.args.self.now in
    let nodes = c.args.self.now.nodes.items in
    let m = arc_value c.args.message.now in
    let at = seen-at g.N.Node.view nodes c.args.p c.index_mut.result.now (seen-low g.N.Node.view nodes c.args.p c.requires.may.lawful.0) c.index_mut.ensures.value in
    may-take c.args.c c.args.p c.args.i d (g.N.Node.view c.index_mut.result.now) m c.requires.may.ready c.requires.may.lawful at (sent-read d.sent c.args.i m c.requires.message)

pub deliver-requires-clause-part : goal.deliver-requires-clause-part
deliver-requires-clause-part g c =
    let d = seen g.N.Node.view g.N.Node.read c.args.self.now in
    let nodes = c.args.self.now.nodes.items in
    let n = g.N.Node.view c.index_mut.result.now in
    let m = arc_value c.args.message.now in
    let at = seen-at g.N.Node.view nodes c.args.p c.index_mut.result.now (seen-low g.N.Node.view nodes c.args.p c.requires.may.lawful.0) c.index_mut.ensures.value in
    subst (λ (h : List Decl). BringsAsMuch h n.peer.contents m c.args.part.now) (sym (c.requires.may.ready.nodes c.args.p n at).graph)
    (subst (λ (r : Peer). BringsAsMuch d.graph r.contents m c.args.part.now) (peer-here d.nodes c.args.p n at) c.requires.part)

pub returns-in-Ok : goal.returns-in-Ok
returns-in-Ok g c =
    let d = seen g.N.Node.view g.N.Node.read c.args.self.now in
    let nodes = c.args.self.now.nodes.items in
    let m = arc_value c.args.message.now in
    let at = seen-at g.N.Node.view nodes c.args.p c.index_mut.result.now (seen-low g.N.Node.view nodes c.args.p c.requires.may.lawful.0) c.index_mut.ensures.value in
    record {
      acts = seen-set g.N.Node.view nodes c.args.p c.deliver.new.self (λ ns. Acted c.args.c c.args.c d (Take c.args.p c.args.i ∷ []) (with_nodes d ns))
          (acted-take c.args.c c.args.p c.args.i d (g.N.Node.view c.index_mut.result.now) (g.N.Node.view c.deliver.new.self) m c.requires.may.ready c.requires.may.lawful at (sent-read d.sent c.args.i m c.requires.message)
          c.in-Ok.ensures.takes.still c.in-Ok.ensures.done.0 c.in-Ok.ensures.done.1 c.in-Ok.ensures.takes.calls c.in-Ok.ensures.takes.grew);
      reads = refl;
      in_place = same-place g.N.Node.place nodes c.args.p c.index_mut.result.now c.deliver.new.self (seen-low g.N.Node.view nodes c.args.p c.requires.may.lawful.0) c.index_mut.ensures.value c.deliver.ensures.place;
    }

pub returns-in-Err-TooLarge : goal.returns-in-Err-TooLarge
returns-in-Err-TooLarge g c =
    let d = seen g.N.Node.view g.N.Node.read c.args.self.now in
    let nodes = c.args.self.now.nodes.items in
    let m = arc_value c.args.message.now in
    let n = g.N.Node.view c.index_mut.result.now in
    let at = seen-at g.N.Node.view nodes c.args.p c.index_mut.result.now (seen-low g.N.Node.view nodes c.args.p c.requires.may.lawful.0) c.index_mut.ensures.value in
    record {
      acts = seen-set g.N.Node.view nodes c.args.p c.deliver.new.self (λ ns. StopsWithin c.args.c d (Take c.args.p c.args.i ∷ []) (halt.TooLarge c.args.c c.args.p c.in-Err-TooLarge.x) ns)
          (stops-at c.args.c c.args.p d (Take c.args.p c.args.i) (halt.TooLarge c.args.c c.args.p c.in-Err-TooLarge.x) n (g.N.Node.view c.deliver.new.self) at c.in-Err-TooLarge.ensures.takes.refused.learns.calls
          (deliver-stops (run_of d) m (sent_number d.sent c.args.i) d.nodes c.args.c c.args.p c.in-Err-TooLarge.x n (c.requires.may.ready.nodes c.args.p n at).graph (sent-read d.sent c.args.i m c.requires.message) at
          (stopped-delivery (delivered n.decls m n.peer) (g.N.Node.view c.deliver.new.self).peer c.in-Err-TooLarge.field-0 c.in-Err-TooLarge.x c.in-Err-TooLarge.field-0-is c.in-Err-TooLarge.ensures.done)));
      reads = tt;
      in_place = same-place g.N.Node.place nodes c.args.p c.index_mut.result.now c.deliver.new.self (seen-low g.N.Node.view nodes c.args.p c.requires.may.lawful.0) c.index_mut.ensures.value c.deliver.ensures.place;
    }

pub returns-in-Err-Memory : goal.returns-in-Err-Memory
returns-in-Err-Memory g c =
    let d = seen g.N.Node.view g.N.Node.read c.args.self.now in
    let nodes = c.args.self.now.nodes.items in
    let at = seen-at g.N.Node.view nodes c.args.p c.index_mut.result.now (seen-low g.N.Node.view nodes c.args.p c.requires.may.lawful.0) c.index_mut.ensures.value in
    record {
      acts = seen-set g.N.Node.view nodes c.args.p c.deliver.new.self (λ ns. StopsWithin c.args.c d (Take c.args.p c.args.i ∷ []) halt.Memory ns)
          (stops-at c.args.c c.args.p d (Take c.args.p c.args.i) halt.Memory (g.N.Node.view c.index_mut.result.now) (g.N.Node.view c.deliver.new.self) at c.in-Err-Memory.ensures.takes.refused.learns.calls tt);
      reads = tt;
      in_place = same-place g.N.Node.place nodes c.args.p c.index_mut.result.now c.deliver.new.self (seen-low g.N.Node.view nodes c.args.p c.requires.may.lawful.0) c.index_mut.ensures.value c.deliver.ensures.place;
    }
