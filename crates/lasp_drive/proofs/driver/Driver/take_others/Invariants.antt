use Rattle.std.proofs.Common.{◌≡◌, ◌≤◌, length, map}
use Rattle.lasp_drive.specs.Driver.{seen}
use Rattle.lasp_drive.proofs.ActLaws.{takes_of, AreDone}
use Rattle.lasp_drive.proofs.driver.Driver.take_others.Given as goal

abbrev pub invariant-loop-q : goal.invariant-loop-q
invariant-loop-q g l = record {
  within : l.q ≤ length l.fn.self.nodes.items;
  done : AreDone (takes_of l.i l.p) l.c (length l.fn.self.nodes.items) (seen g.N.Node.view g.N.Node.read l.fn.self) l.q (seen g.N.Node.view g.N.Node.read l.self);
  reads : l.self.reads ≡ l.fn.self.reads;
  in_place : map g.N.Node.place l.self.nodes.items ≡ map g.N.Node.place l.fn.self.nodes.items;
}
