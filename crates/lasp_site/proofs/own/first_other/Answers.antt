use Rattle.std.proofs.Common.{sym, ◌∙◌, arith}
use Rattle.lasp_script.specs.Command.{command_of}
use Rattle.lasp_site.proofs.OwnLaws.{other-here, other-next, other-end}
use Rattle.lasp_site.proofs.own.first_other.Goals as goal

pub returns-then-not-is_own : goal.returns-then-not-is_own
returns-then-not-is_own c =
    sym (other-here c.args.node c.loop-i.number c.args.script.now.commands c.loop-i.i (command_of c.at.result.now) c.at.ensures (sym c.is_own.ensures ∙ c.if-not-is_own.true)) ∙ c.loop-i.invariant.rest

pub loop-i-preserved : goal.loop-i-preserved
loop-i-preserved c = record {
  number = omega (arith, c.loop-i.invariant.number);
  within = omega (arith, c.loop-i-test.true, c.len-i-end.ensures);
  rest = sym (other-next c.args.node c.loop-i.number c.args.script.now.commands c.loop-i.i (command_of c.at.result.now) c.at.ensures (sym c.is_own.ensures ∙ c.if-not-is_own.false)) ∙ c.loop-i.invariant.rest;
}

pub returns : goal.returns
returns c = sym (other-end c.args.node c.loop-i.number c.args.script.now.commands c.loop-i.i (omega (arith, c.loop-i-test.false, c.len-i-end.ensures))) ∙ c.loop-i.invariant.rest
