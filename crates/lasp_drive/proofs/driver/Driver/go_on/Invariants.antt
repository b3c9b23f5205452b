use Rattle.std.proofs.Common.{◌≡◌, ◌≤◌, map}
use Rattle.lasp_graph.specs.Library.{library_of}
use Rattle.lasp_drive.specs.Driver.{seen}
use Rattle.lasp_drive.specs.Stretch.{HaveNoPoint, IsAt}
use Rattle.lasp_drive.proofs.driver.Driver.go_on.Given as goal

abbrev pub invariant-loop-i : goal.invariant-loop-i
invariant-loop-i g l = record {
  past : l.from ≤ l.i;
  there : IsAt (library_of l.lib) l.from l.i l.script.commands (seen g.N.Node.view g.N.Node.read l.fn.self) (seen g.N.Node.view g.N.Node.read l.self);
  between : HaveNoPoint l.from l.i l.script.commands;
  in_place : map g.N.Node.place l.self.nodes.items ≡ map g.N.Node.place l.fn.self.nodes.items;
}
