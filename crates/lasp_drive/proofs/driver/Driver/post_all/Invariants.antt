use Rattle.std.proofs.Common.{◌≡◌, ◌≤◌, length, map}
use Rattle.model_world.specs.World.{Post}
use Rattle.lasp_drive.specs.Driver.{seen}
use Rattle.lasp_drive.proofs.ActLaws.{AreDone}
use Rattle.lasp_drive.proofs.driver.Driver.post_all.Given as goal

abbrev pub invariant-loop-p : goal.invariant-loop-p
invariant-loop-p g l = record {
  within : l.p ≤ length l.fn.self.nodes.items;
  done : AreDone (map Post) l.c (length l.fn.self.nodes.items) (seen g.N.Node.view g.N.Node.read l.fn.self) l.p (seen g.N.Node.view g.N.Node.read l.self);
  reads : l.self.reads ≡ l.fn.self.reads;
  in_place : map g.N.Node.place l.self.nodes.items ≡ map g.N.Node.place l.fn.self.nodes.items;
}
