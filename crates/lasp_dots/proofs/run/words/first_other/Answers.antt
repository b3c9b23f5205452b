use Rattle.std.proofs.Common.{sym, ◌∙◌, arith}
use Rattle.lasp_script.specs.Command.{command_of}
use Rattle.lasp_dots.proofs.PlayLaws.{other-here, other-next, other-end}
use Rattle.lasp_dots.proofs.run.words.first_other.Goals as goal

pub returns-then-not-is_known : goal.returns-then-not-is_known
returns-then-not-is_known c = sym (other-here c.loop-i.number c.args.script.now.commands c.loop-i.i (command_of c.at.result.now) c.at.ensures (sym c.is_known.ensures ∙ c.if-not-is_known.true)) ∙ c.loop-i.invariant.rest

pub loop-i-preserved : goal.loop-i-preserved
loop-i-preserved c = record {
  number = omega (arith, c.loop-i.invariant.number);
  within = omega (arith, c.loop-i-test.true, c.len-i-end.ensures);
  rest = sym (other-next c.loop-i.number c.args.script.now.commands c.loop-i.i (command_of c.at.result.now) c.at.ensures (sym c.is_known.ensures ∙ c.if-not-is_known.false)) ∙ c.loop-i.invariant.rest;
}

pub returns : goal.returns
returns c = sym (other-end c.loop-i.number c.args.script.now.commands c.loop-i.i (omega (arith, c.loop-i-test.false, c.len-i-end.ensures))) ∙ c.loop-i.invariant.rest
