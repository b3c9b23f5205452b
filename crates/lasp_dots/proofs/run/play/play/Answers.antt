use Rattle.std.proofs.Common.{◌+◌, List, ◌++◌, length, drop, sym, ap, subst, ◌∙◌, arith}
use Rattle.std.specs.String.{string_bytes}
use Rattle.model_values.proofs.ListLaws.{drop-at}
use Rattle.model_world.specs.Command as plain
use Rattle.model_world.specs.Lawful.{AreLawful}
use Rattle.model_dots.specs.DotReport.{dot_text}
use Rattle.model_dots.specs.DotWorld.{DotWorld, AreDotCommands, dot_play}
use Rattle.model_dots.specs.Sizes.{CountAtMost}
use Rattle.model_dots.proofs.SizeLaws.{step-more}
use Rattle.lasp_script.specs.Command.{command_of}
use Rattle.lasp_dots.specs.Commands.{stage_at}
use Rattle.lasp_dots.proofs.PlayLaws.{step-size, lawful-next, play-next, play-end, text-next, text-end}
use Rattle.lasp_dots.proofs.run.play.play.Goals as goal

pub do_command-requires-clause-can : goal.do_command-requires-clause-can
do_command-requires-clause-can c =
    let ks = c.args.script.now.commands in
    let at = drop-at ks c.loop-i.i (command_of c.at.result.now) c.at.ensures in
    let w = c.loop-i.replicas in
    record {
      lawful = (subst (λ (rest : List plain.Command). AreLawful (length w.nodes) (stage_at w) rest) at c.loop-i.invariant.lawful).0;
      known = (subst (λ (rest : List plain.Command). AreDotCommands rest) at c.loop-i.invariant.known).0;
      many = c.loop-i.i;
      few = omega (arith, c.loop-i-test.true, c.len-i-end.ensures, c.requires.few);
      counts = c.loop-i.invariant.counts;
    }

pub loop-i-preserved : goal.loop-i-preserved
loop-i-preserved c =
    let ks = c.args.script.now.commands in
    let k = command_of c.at.result.now in
    let i = c.loop-i.i in
    let at = drop-at ks i k c.at.ensures in
    let w = c.loop-i.replicas in
    let done = c.in_ok-do_command.ensures.done in
    let lawful = subst (λ (rest : List plain.Command). AreLawful (length w.nodes) (stage_at w) rest) at c.loop-i.invariant.lawful in
    let known = subst (λ (rest : List plain.Command). AreDotCommands rest) at c.loop-i.invariant.known in
    record {
      within = omega (arith, c.loop-i-test.true, c.len-i-end.ensures);
      size = ap (λ (v : DotWorld). length v.nodes) done ∙ step-size w k ∙ c.loop-i.invariant.size;
      lawful = subst (λ (v : DotWorld). AreLawful (length v.nodes) (stage_at v) (drop (i + 1) ks)) (sym done) (lawful-next w k (drop (i + 1) ks) known.0 lawful);
      known = known.1;
      counts = subst (λ (v : DotWorld). CountAtMost (i + 1) v) (sym done) (step-more i w k c.loop-i.invariant.counts);
      done = ap (λ (v : DotWorld). dot_play v (drop (i + 1) ks)) done ∙ sym (play-next w ks i k c.at.ensures) ∙ c.loop-i.invariant.done;
      text = ap (λ (v : DotWorld). string_bytes c.do_command.new.text ++ dot_text v (drop (i + 1) ks)) done
          ∙ text-next (string_bytes c.loop-i.text) (string_bytes c.do_command.new.text) w ks i k c.at.ensures c.in_ok-do_command.ensures.text ∙ c.loop-i.invariant.text;
    }

pub returns-clause-done : goal.returns-clause-done
returns-clause-done c = sym (play-end c.loop-i.replicas c.args.script.now.commands c.loop-i.i (omega (arith, c.loop-i-test.false, c.len-i-end.ensures))) ∙ c.loop-i.invariant.done

pub returns-clause-text : goal.returns-clause-text
returns-clause-text c = sym (text-end (string_bytes c.loop-i.text) c.loop-i.replicas c.args.script.now.commands c.loop-i.i (omega (arith, c.loop-i-test.false, c.len-i-end.ensures))) ∙ c.loop-i.invariant.text
