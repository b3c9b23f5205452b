use Rattle.std.proofs.Common.{◌+◌, ◌≤◌, subst, sym, arith}
use Rattle.lasp_graph.specs.Decl.{decl_of}
use Rattle.lasp_script.specs.Command.{command_of}
use Rattle.lasp_run.proofs.NameLaws.{IsLeft, left-later, left-behind}
use Rattle.lasp_run.proofs.name.name_in_script.Goals as goal
use Rattle.lasp_run.proofs.name.name_in_script.Goals.{in-Some-2, in-None}

pub loop-i-preserved : goal.loop-i-preserved
loop-i-preserved c = elim c.match-declared.branch [
  | in-Some-2 w ↦
      let some : 1 ≤ c.loop-i.left = omega (arith, w.if-left-eq0.false) in
      subst (IsLeft c.args.script.now.commands c.args.number (c.loop-i.i + 1)) (sym w.left-is)
      (left-later c.args.script.now.commands c.args.number c.loop-i.i c.loop-i.left (command_of c.at.result.now) (decl_of w.in-Some.decl.now) c.loop-i.invariant c.at.ensures w.in-Some.ensures.some some)
  | in-None w ↦
      subst (IsLeft c.args.script.now.commands c.args.number (c.loop-i.i + 1)) (sym w.left-is)
      (left-behind c.args.script.now.commands c.args.number c.loop-i.i c.loop-i.left (command_of c.at.result.now) c.loop-i.invariant c.at.ensures w.in-None.ensures.none)
]
