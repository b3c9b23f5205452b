use Rattle.std.proofs.Common.{arith, ℕ, ◌≡◌, sym, subst, ◌+◌, ◌∷◌, []}
use Rattle.model_world.specs.World.{Point}
use Rattle.lasp_drive.specs.Acts.{ActsSeen}
use Rattle.lasp_graph.specs.Library.{library_of}
use Rattle.lasp_script.specs.Command.{command_of}
use Rattle.lasp_drive.specs.Driver.{seen}
use Rattle.lasp_delta.specs.Seen.{delta_seen}
use Rattle.lasp_delta.proofs.PlayLaws.{goes-begin, goes-command, goes-after, goes-stopped, goes-point}
use Rattle.lasp_delta.proofs.run.deltas.DeltaRun.play.Goals as goal

pub loop-i-init : goal.loop-i-init
loop-i-init g c = record {
  within = omega arith;
  way = goes-begin (library_of c.args.lib.now) c.args.graph.now c.args.script.now (delta_seen g.N.Node.view g.N.Node.read c.args.self.now) c.requires.runnable c.requires.begins;
}

pub step-requires-clause-may : goal.step-requires-clause-may
step-requires-clause-may g c =
    (goes-command (library_of c.args.lib.now) c.loop-i.i c.args.script.now.commands c.args.script.now.commands (delta_seen g.N.Node.view g.N.Node.read c.args.self.now) (delta_seen g.N.Node.view g.N.Node.read c.loop-i.self) (command_of c.at.result.now) c.loop-i.invariant.way c.at.ensures).may

pub step-requires-clause-graph : goal.step-requires-clause-graph
step-requires-clause-graph g c =
    (goes-command (library_of c.args.lib.now) c.loop-i.i c.args.script.now.commands c.args.script.now.commands (delta_seen g.N.Node.view g.N.Node.read c.args.self.now) (delta_seen g.N.Node.view g.N.Node.read c.loop-i.self) (command_of c.at.result.now) c.loop-i.invariant.way c.at.ensures).graph

pub step-requires-clause-fits : goal.step-requires-clause-fits
step-requires-clause-fits g c =
    (goes-command (library_of c.args.lib.now) c.loop-i.i c.args.script.now.commands c.args.script.now.commands (delta_seen g.N.Node.view g.N.Node.read c.args.self.now) (delta_seen g.N.Node.view g.N.Node.read c.loop-i.self) (command_of c.at.result.now) c.loop-i.invariant.way c.at.ensures).fits

pub loop-i-preserved : goal.loop-i-preserved
loop-i-preserved g c = record {
  within = omega (arith, c.loop-i-test.true, c.len-i-end.ensures);
  way = goes-after (library_of c.args.lib.now) c.loop-i.i c.args.script.now.commands c.args.script.now.commands (delta_seen g.N.Node.view g.N.Node.read c.args.self.now) (delta_seen g.N.Node.view g.N.Node.read c.loop-i.self)
      (delta_seen g.N.Node.view g.N.Node.read c.step.new.self) (command_of c.at.result.now) c.loop-i.invariant.way c.at.ensures c.in-Ok.ensures;
}

pub returns-in-Err : goal.returns-in-Err
returns-in-Err g c =
    goes-stopped (library_of c.args.lib.now) c.args.graph.now c.args.script.now c.loop-i.i (delta_seen g.N.Node.view g.N.Node.read c.args.self.now) (delta_seen g.N.Node.view g.N.Node.read c.loop-i.self) (command_of c.at.result.now) c.in-Err.halt
    c.requires.begins c.loop-i.invariant.way c.at.ensures c.in-Err.ensures

pub returns : goal.returns
returns g c =
    let old = delta_seen g.N.Node.view g.N.Node.read c.args.self.now in
    let now = delta_seen g.N.Node.view g.N.Node.read c.loop-i.self in
    let e = seen g.N.Node.view g.N.Node.read c.point.new.self in
    let all : c.loop-i.i ≡ c.len.result = omega (arith, c.loop-i-test.false, c.len-i-end.ensures, c.len.ensures, c.loop-i.invariant.within) in
    goes-point (library_of c.args.lib.now) c.args.graph.now c.args.script.now c.loop-i.i old now e c.point.result c.requires.begins c.loop-i.invariant.way (omega (arith, c.loop-i-test.false, c.len-i-end.ensures))
    (subst (λ (k : ℕ). ActsSeen (k + 1) (k + 1) now.driver (Point ∷ []) c.point.result e) (sym all) c.point.ensures.passes.acts) c.point.ensures.settled
