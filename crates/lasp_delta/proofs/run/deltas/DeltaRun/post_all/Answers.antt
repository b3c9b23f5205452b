use Rattle.std.proofs.Common.{◌<◌, length, map, arith}
use Rattle.std.proofs.lemmas.List.{length-map}
use Rattle.model_world.specs.World.{Post}
use Rattle.lasp_drive.proofs.ActLaws.{posts-parts}
use Rattle.lasp_delta.specs.Seen.{delta_seen}
use Rattle.lasp_delta.proofs.GoLaws.{went-none}
use Rattle.lasp_delta.proofs.SyncLaws.{gone-next, gone-stops, gone-all}
use Rattle.lasp_delta.proofs.run.deltas.DeltaRun.post_all.Goals as goal

pub loop-p-init : goal.loop-p-init
loop-p-init g c = record { within = omega arith; done = went-none c.args.c (delta_seen g.N.Node.view g.N.Node.read c.args.self.now) c.requires.under_way }

pub post-requires-clause-under_way : goal.post-requires-clause-under_way
post-requires-clause-under_way g c = c.loop-p.invariant.done.under_way

pub post-requires-clause-node : goal.post-requires-clause-node
post-requires-clause-node g c =
    omega (arith, c.loop-p-test.true, c.len-p-end.ensures, c.loop-p.invariant.done.size, length-map c.args.self.now.driver.nodes.items g.N.Node.view, length-map c.loop-p.self.driver.nodes.items g.N.Node.view)

pub loop-p-preserved : goal.loop-p-preserved
loop-p-preserved g c =
    let within : c.loop-p.p < length c.args.self.now.driver.nodes.items = omega (arith, c.loop-p-test.true, c.len-p-end.ensures) in
    record {
      within = omega (arith, within);
      done = gone-next (map Post) posts-parts c.args.c (length c.args.self.now.driver.nodes.items) (delta_seen g.N.Node.view g.N.Node.read c.args.self.now) c.loop-p.p (delta_seen g.N.Node.view g.N.Node.read c.loop-p.self)
          (delta_seen g.N.Node.view g.N.Node.read c.post.new.self) within c.loop-p.invariant.done c.in-Ok.ensures;
    }

pub returns-in-Err : goal.returns-in-Err
returns-in-Err g c =
    gone-stops (map Post) posts-parts c.args.c (length c.args.self.now.driver.nodes.items) (delta_seen g.N.Node.view g.N.Node.read c.args.self.now) c.loop-p.p (delta_seen g.N.Node.view g.N.Node.read c.loop-p.self) c.in-Err.halt
    (omega (arith, c.loop-p-test.true, c.len-p-end.ensures)) c.loop-p.invariant.done c.in-Err.ensures

pub returns : goal.returns
returns g c =
    gone-all (map Post) posts-parts c.args.c (length c.args.self.now.driver.nodes.items) (delta_seen g.N.Node.view g.N.Node.read c.args.self.now) c.loop-p.p (delta_seen g.N.Node.view g.N.Node.read c.loop-p.self)
    (omega (arith, c.loop-p-test.false, c.len-p-end.ensures)) c.loop-p.invariant.done
