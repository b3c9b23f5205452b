use Rattle.std.proofs.Common.{◌≡◌, ◌<◌, length, take, ◌∙◌, append-nil, arith, subst, sym, ap}
use Rattle.std.specs.Prelude.{ℕ, List, flat_map}
use Rattle.std.specs.List.{range_with_len}
use Rattle.std.proofs.lemmas.List.{length-map}
use Rattle.model_world.specs.Lawful.{Stage}
use Rattle.model_world.specs.World.{Act, takes, each}
use Rattle.lasp_drive.specs.Driver.{run_of, stage_of}
use Rattle.lasp_drive.specs.Acts.{Halts}
use Rattle.lasp_drive.proofs.ActLaws.{all-parts, all-taken-stage}
use Rattle.lasp_delta.specs.Acts.{Went}
use Rattle.lasp_delta.specs.Seen.{delta_seen}
use Rattle.lasp_delta.proofs.GoLaws.{went-none}
use Rattle.lasp_delta.proofs.SyncLaws.{gone-next, gone-stops, gone-all}
use Rattle.lasp_delta.proofs.run.deltas.DeltaRun.take_all.Goals as goal

pub loop-p-init : goal.loop-p-init
loop-p-init g c = record { within = omega arith; done = went-none c.args.c (delta_seen g.N.Node.view g.N.Node.read c.args.self.now) c.requires.under_way }

pub take_others-requires-clause-under_way : goal.take_others-requires-clause-under_way
take_others-requires-clause-under_way g c = c.loop-p.invariant.done.under_way

pub take_others-requires-clause-node : goal.take_others-requires-clause-node
take_others-requires-clause-node g c =
    omega (arith, c.loop-p-test.true, c.len-p-end.ensures, c.loop-p.invariant.done.size, length-map c.args.self.now.driver.nodes.items g.N.Node.view, length-map c.loop-p.self.driver.nodes.items g.N.Node.view)

pub take_others-requires-clause-messages : goal.take_others-requires-clause-messages
take_others-requires-clause-messages g c =
    let old = stage_of (delta_seen g.N.Node.view g.N.Node.read c.args.self.now).driver in
    omega (
      arith,
      c.requires.messages,
      c.loop-p.invariant.done.size,
      length-map c.args.self.now.driver.nodes.items g.N.Node.view,
      length-map c.loop-p.self.driver.nodes.items g.N.Node.view,
      ap (λ (s : Stage). s.sent) (c.loop-p.invariant.done.stage ∙ all-taken-stage old (length c.args.self.now.driver.nodes.items) c.args.i (take c.loop-p.p (range_with_len 0 (length c.args.self.now.driver.nodes.items)))),
    )

pub loop-p-preserved : goal.loop-p-preserved
loop-p-preserved g c =
    let many = length c.args.self.now.driver.nodes.items in
    let within : c.loop-p.p < many = omega (arith, c.loop-p-test.true, c.len-p-end.ensures) in
    let size : length c.loop-p.self.driver.nodes.items ≡ many = omega (arith, c.loop-p.invariant.done.size, length-map c.args.self.now.driver.nodes.items g.N.Node.view, length-map c.loop-p.self.driver.nodes.items g.N.Node.view) in
    let now = delta_seen g.N.Node.view g.N.Node.read c.loop-p.self in
    let next = delta_seen g.N.Node.view g.N.Node.read c.take_others.new.self in
    record {
      within = omega (arith, within);
      done = gone-next (flat_map (takes many c.args.i)) (all-parts many c.args.i) c.args.c many (delta_seen g.N.Node.view g.N.Node.read c.args.self.now) c.loop-p.p now next within c.loop-p.invariant.done
          (subst (λ (all : List Act). Went c.args.c c.args.c now all next) (sym (append-nil (takes many c.args.i c.loop-p.p))) (subst (λ (k : ℕ). Went c.args.c c.args.c now (takes k c.args.i c.loop-p.p) next) size c.in-Ok.ensures));
    }

pub returns-in-Err : goal.returns-in-Err
returns-in-Err g c =
    let many = length c.args.self.now.driver.nodes.items in
    let size : length c.loop-p.self.driver.nodes.items ≡ many = omega (arith, c.loop-p.invariant.done.size, length-map c.args.self.now.driver.nodes.items g.N.Node.view, length-map c.loop-p.self.driver.nodes.items g.N.Node.view) in
    let now = delta_seen g.N.Node.view g.N.Node.read c.loop-p.self in
    gone-stops (flat_map (takes many c.args.i)) (all-parts many c.args.i) c.args.c many (delta_seen g.N.Node.view g.N.Node.read c.args.self.now) c.loop-p.p now c.in-Err.halt (omega (arith, c.loop-p-test.true, c.len-p-end.ensures)) c.loop-p.invariant.done
    (subst (λ (all : List Act). Halts (each c.args.c (run_of now.driver) all) c.in-Err.halt) (sym (append-nil (takes many c.args.i c.loop-p.p)))
    (subst (λ (k : ℕ). Halts (each c.args.c (run_of now.driver) (takes k c.args.i c.loop-p.p)) c.in-Err.halt) size c.in-Err.ensures))

pub returns : goal.returns
returns g c =
    let many = length c.args.self.now.driver.nodes.items in
    gone-all (flat_map (takes many c.args.i)) (all-parts many c.args.i) c.args.c many (delta_seen g.N.Node.view g.N.Node.read c.args.self.now) c.loop-p.p (delta_seen g.N.Node.view g.N.Node.read c.loop-p.self)
    (omega (arith, c.loop-p-test.false, c.len-p-end.ensures)) c.loop-p.invariant.done
