use Rattle.std.proofs.Common.{◌<◌, length, take, ◌∙◌, arith, subst, sym, ap}
use Rattle.std.specs.Prelude.{◌+◌, List}
use Rattle.std.specs.List.{range_with_len}
use Rattle.std.proofs.lemmas.List.{length-map}
use Rattle.model_world.specs.Lawful.{Stage}
use Rattle.model_world.specs.World.{Act, each}
use Rattle.lasp_drive.specs.Driver.{run_of, stage_of}
use Rattle.lasp_drive.specs.Acts.{Halts}
use Rattle.lasp_drive.proofs.ActLaws.{takes_of, takes-parts, takes-other, takes-own, other-node, own-node, taken-stage}
use Rattle.lasp_delta.specs.Acts.{Went}
use Rattle.lasp_delta.specs.Seen.{delta_seen}
use Rattle.lasp_delta.specs.declared.run.deltas.DeltaRun.{DeltaRun}
use Rattle.lasp_delta.proofs.GoLaws.{went-none}
use Rattle.lasp_delta.proofs.SyncLaws.{HaveGone, gone-next, gone-stops, gone-all}
use Rattle.lasp_delta.proofs.run.deltas.DeltaRun.take_others.Goals as goal
use Rattle.lasp_delta.proofs.run.deltas.DeltaRun.take_others.Goals.{then-q-p+in-Ok, else-q-p}

pub loop-q-init : goal.loop-q-init
loop-q-init g c = record { within = omega arith; done = went-none c.args.c (delta_seen g.N.Node.view g.N.Node.read c.args.self.now) c.requires.under_way }

pub take-requires-clause-under_way : goal.take-requires-clause-under_way
take-requires-clause-under_way g c = c.loop-q.invariant.done.under_way

pub take-requires-clause-node : goal.take-requires-clause-node
take-requires-clause-node g c =
    omega (arith, c.requires.node, c.loop-q.invariant.done.size, length-map c.args.self.now.driver.nodes.items g.N.Node.view, length-map c.loop-q.self.driver.nodes.items g.N.Node.view)

pub take-requires-clause-message : goal.take-requires-clause-message
take-requires-clause-message g c =
    let old = stage_of (delta_seen g.N.Node.view g.N.Node.read c.args.self.now).driver in
    omega (arith, c.loop-q-test.true, c.len-q-end.ensures, c.requires.messages, ap (λ (s : Stage). s.sent) (c.loop-q.invariant.done.stage ∙ taken-stage old c.args.i c.args.p (take c.loop-q.q (range_with_len 0 (length c.args.self.now.driver.nodes.items)))))

pub loop-q-preserved : goal.loop-q-preserved
loop-q-preserved g c =
    let many = length c.args.self.now.driver.nodes.items in
    let within : c.loop-q.q < many = omega (arith, c.loop-q-test.true, c.len-q-end.ensures) in
    let old = delta_seen g.N.Node.view g.N.Node.read c.args.self.now in
    let now = delta_seen g.N.Node.view g.N.Node.read c.loop-q.self in
    elim c.if-q-p.branch [
      | then-q-p+in-Ok w ↦ record {
        within = omega (arith, within);
        done = subst (λ (d : DeltaRun g.row.N.Denot g.row.N-Read.Denot). HaveGone (takes_of c.args.i c.args.p) c.args.c many old (c.loop-q.q + 1) (delta_seen g.N.Node.view g.N.Node.read d)) (sym w.self-is)
            (gone-next (takes_of c.args.i c.args.p) (takes-parts c.args.i c.args.p) c.args.c many old c.loop-q.q now (delta_seen g.N.Node.view g.N.Node.read w.take.new.self) within c.loop-q.invariant.done
            (subst (λ (all : List Act). Went c.args.c c.args.c now all (delta_seen g.N.Node.view g.N.Node.read w.take.new.self)) (sym (takes-other c.args.i c.args.p c.loop-q.q (other-node c.loop-q.q c.args.p w.if-q-p.true))) w.in-Ok.ensures));
      }
      | else-q-p w ↦ record {
        within = omega (arith, within);
        done = subst (λ (d : DeltaRun g.row.N.Denot g.row.N-Read.Denot). HaveGone (takes_of c.args.i c.args.p) c.args.c many old (c.loop-q.q + 1) (delta_seen g.N.Node.view g.N.Node.read d)) (sym w.self-is)
            (gone-next (takes_of c.args.i c.args.p) (takes-parts c.args.i c.args.p) c.args.c many old c.loop-q.q now now within c.loop-q.invariant.done
            (subst (λ (all : List Act). Went c.args.c c.args.c now all now) (sym (takes-own c.args.i c.args.p c.loop-q.q (own-node c.loop-q.q c.args.p w.if-q-p.false))) (went-none c.args.c now c.loop-q.invariant.done.under_way)));
      }
    ]

pub returns-in-Err : goal.returns-in-Err
returns-in-Err g c =
    let many = length c.args.self.now.driver.nodes.items in
    let now = delta_seen g.N.Node.view g.N.Node.read c.loop-q.self in
    gone-stops (takes_of c.args.i c.args.p) (takes-parts c.args.i c.args.p) c.args.c many (delta_seen g.N.Node.view g.N.Node.read c.args.self.now) c.loop-q.q now c.in-Err.halt
    (omega (arith, c.loop-q-test.true, c.len-q-end.ensures)) c.loop-q.invariant.done
    (subst (λ (all : List Act). Halts (each c.args.c (run_of now.driver) all) c.in-Err.halt) (sym (takes-other c.args.i c.args.p c.loop-q.q (other-node c.loop-q.q c.args.p c.if-q-p.true))) c.in-Err.ensures)

pub returns : goal.returns
returns g c =
    let many = length c.args.self.now.driver.nodes.items in
    gone-all (takes_of c.args.i c.args.p) (takes-parts c.args.i c.args.p) c.args.c many (delta_seen g.N.Node.view g.N.Node.read c.args.self.now) c.loop-q.q (delta_seen g.N.Node.view g.N.Node.read c.loop-q.self)
    (omega (arith, c.loop-q-test.false, c.len-q-end.ensures)) c.loop-q.invariant.done

pub overflow_add-i : goal.overflow_add-i
overflow_add-i g c = omega (arith, c.loop-q-test.true, c.len-q-end.ensures, c.requires.messages, c.len.ensures.few, c.requires.under_way.ready.limit)
