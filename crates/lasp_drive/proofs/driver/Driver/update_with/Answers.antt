use Rattle.std.proofs.Common.{◌+◌, ◌∷◌, []}
use Rattle.model_world.specs.World.{Update, updated}
use Rattle.lasp_state.specs.State.{op_of}
use Rattle.lasp_drive.specs.Driver.{seen, run_of}
use Rattle.lasp_drive.specs.Acts.{Acted, StopsWithin}
use Rattle.lasp_drive.specs.declared.halt.Halt.TheVariants as halt
use Rattle.lasp_drive.proofs.NodeLaws.{seen-at, seen-low, seen-set, update-stops, stopped-large, same-place}
use Rattle.lasp_drive.proofs.ActLaws.{stops-at}
use Rattle.lasp_drive.proofs.StepLaws.{with_nodes, may-update, acted-update}
use Rattle.lasp_drive.proofs.driver.Driver.update_with.Goals as goal

pub update-requires-clause-may : goal.update-requires-clause-may
update-requires-clause-may g c =
    let d = seen g.N.Node.view g.N.Node.read c.args.self.now in
    let nodes = c.args.self.now.nodes.items in
    let at = seen-at g.N.Node.view nodes c.args.p c.index_mut.result.now (seen-low g.N.Node.view nodes c.args.p c.requires.may.lawful.0.0) c.index_mut.ensures.value in
    may-update c.args.c c.args.p c.args.x c.args.op.now d (g.N.Node.view c.index_mut.result.now) c.requires.may.ready c.requires.may.lawful c.requires.suits at

pub returns-in-Ok-clause-acts : goal.returns-in-Ok-clause-acts
returns-in-Ok-clause-acts g c =
    let d = seen g.N.Node.view g.N.Node.read c.args.self.now in
    let nodes = c.args.self.now.nodes.items in
    let at = seen-at g.N.Node.view nodes c.args.p c.index_mut.result.now (seen-low g.N.Node.view nodes c.args.p c.requires.may.lawful.0.0) c.index_mut.ensures.value in
    record {
      acts = seen-set g.N.Node.view nodes c.args.p c.update.new.self (λ ns. Acted c.args.c (c.args.c + 1) d (Update c.args.p c.args.x (op_of c.args.op.now) ∷ []) (with_nodes d ns))
          (acted-update c.args.c c.args.p c.args.x (op_of c.args.op.now) d (g.N.Node.view c.index_mut.result.now) (g.N.Node.view c.update.new.self) c.requires.may.ready c.requires.may.lawful at
          c.in-Ok.ensures.takes.still c.in-Ok.ensures.done.0 c.in-Ok.ensures.done.1 c.in-Ok.ensures.takes.calls c.in-Ok.ensures.takes.grew);
      in_place = same-place g.N.Node.place nodes c.args.p c.index_mut.result.now c.update.new.self (seen-low g.N.Node.view nodes c.args.p c.requires.may.lawful.0.0) c.index_mut.ensures.value c.update.ensures.place;
    }

pub returns-in-Err-TooLarge-clause-acts : goal.returns-in-Err-TooLarge-clause-acts
returns-in-Err-TooLarge-clause-acts g c =
    let d = seen g.N.Node.view g.N.Node.read c.args.self.now in
    let nodes = c.args.self.now.nodes.items in
    let a = Update c.args.p c.args.x (op_of c.args.op.now) in
    let n = g.N.Node.view c.index_mut.result.now in
    let low = seen-low g.N.Node.view nodes c.args.p c.requires.may.lawful.0.0 in
    let at = seen-at g.N.Node.view nodes c.args.p c.index_mut.result.now low c.index_mut.ensures.value in
    record {
      acts = seen-set g.N.Node.view nodes c.args.p c.update.new.self (λ ns. StopsWithin c.args.c d (a ∷ []) (halt.TooLarge c.args.c c.args.p c.args.x) ns)
          (stops-at c.args.c c.args.p d a (halt.TooLarge c.args.c c.args.p c.args.x) n (g.N.Node.view c.update.new.self) at c.in-Err-TooLarge.ensures.takes.refused.learns.calls
          (update-stops (run_of d) d.nodes c.args.c c.args.p c.args.x (op_of c.args.op.now) n (c.requires.may.ready.nodes c.args.p n at).replica at
          (stopped-large (updated n.number c.args.x (op_of c.args.op.now) n.peer) (g.N.Node.view c.update.new.self).peer c.args.x c.in-Err-TooLarge.field-0 c.in-Err-TooLarge.field-0-0 c.in-Err-TooLarge.field-0-is c.in-Err-TooLarge.ensures.done)));
      in_place = same-place g.N.Node.place nodes c.args.p c.index_mut.result.now c.update.new.self low c.index_mut.ensures.value c.update.ensures.place;
    }

pub returns-in-Err-Memory-clause-acts : goal.returns-in-Err-Memory-clause-acts
returns-in-Err-Memory-clause-acts g c =
    let d = seen g.N.Node.view g.N.Node.read c.args.self.now in
    let nodes = c.args.self.now.nodes.items in
    let a = Update c.args.p c.args.x (op_of c.args.op.now) in
    let low = seen-low g.N.Node.view nodes c.args.p c.requires.may.lawful.0.0 in
    let at = seen-at g.N.Node.view nodes c.args.p c.index_mut.result.now low c.index_mut.ensures.value in
    record {
      acts = seen-set g.N.Node.view nodes c.args.p c.update.new.self (λ ns. StopsWithin c.args.c d (a ∷ []) halt.Memory ns)
          (stops-at c.args.c c.args.p d a halt.Memory (g.N.Node.view c.index_mut.result.now) (g.N.Node.view c.update.new.self) at c.in-Err-Memory.ensures.takes.refused.learns.calls tt);
      in_place = same-place g.N.Node.place nodes c.args.p c.index_mut.result.now c.update.new.self low c.index_mut.ensures.value c.update.ensures.place;
    }

pub update-requires-clause-known : goal.update-requires-clause-known
update-requires-clause-known g c is_known =
    let nodes = c.args.self.now.nodes.items in
    c.requires.known is_known (g.N.Node.view c.index_mut.result.now) (seen-at g.N.Node.view nodes c.args.p c.index_mut.result.now (seen-low g.N.Node.view nodes c.args.p c.requires.may.lawful.0.0) c.index_mut.ensures.value)
