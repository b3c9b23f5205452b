use Rattle.std.proofs.Common.{sym, ◌∙◌, arith}
use Rattle.lasp_script.specs.Command.{command_of}
use Rattle.lasp_live.proofs.WordLaws.{other-here, other-next, other-end}
use Rattle.lasp_live.proofs.words.first_other.Goals as goal

pub returns-then-not-is_live_at : goal.returns-then-not-is_live_at
returns-then-not-is_live_at c = sym (other-here c.loop-i.number c.args.script.now.commands c.loop-i.i (command_of c.at.result.now) c.at.ensures (sym c.is_live_at.ensures ∙ c.if-not-is_live_at.true)) ∙ c.loop-i.invariant.rest

pub loop-i-preserved : goal.loop-i-preserved
loop-i-preserved c = record {
  number = omega (arith, c.loop-i.invariant.number);
  within = omega (arith, c.loop-i-test.true, c.len-i-end.ensures);
  rest = sym (other-next c.loop-i.number c.args.script.now.commands c.loop-i.i (command_of c.at.result.now) c.at.ensures (sym c.is_live_at.ensures ∙ c.if-not-is_live_at.false)) ∙ c.loop-i.invariant.rest;
}

pub returns : goal.returns
returns c = sym (other-end c.loop-i.number c.args.script.now.commands c.loop-i.i (omega (arith, c.loop-i-test.false, c.len-i-end.ensures))) ∙ c.loop-i.invariant.rest
