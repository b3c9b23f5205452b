use Rattle.std.proofs.Common.{rules, ◌++◌, sym, ap, ◌∙◌, append-nil}
use Rattle.std.specs.Prelude.{string_bytes}
use Rattle.model_program.specs.Generator.{next_number}
use Rattle.lasp_top.proofs.CommandLaws.{number-next, no-commands, pushed-next}
use Rattle.lasp_top.proofs.generator.push_commands.Goals as goal

pub loop-j-init : goal.loop-j-init
loop-j-init c = record {
  number = c.from-x.ensures;
  small = search rules;
  pushed = sym (append-nil _) ∙ ap (λ l. string_bytes c.args.text.now ++ l) (sym (no-commands c.args.seed));
}

pub loop-j-preserved : goal.loop-j-preserved
loop-j-preserved c =
    let number = c.next_number-x.ensures.exact ∙ ap next_number c.loop-j.invariant.number ∙ sym (number-next c.args.seed c.loop-j.j) in
    record {
      number = number;
      small = search rules;
      pushed = pushed-next _ _ _ _ _ _ _ c.loop-j.invariant.pushed number c.from.ensures c.in_ok-push_listed.ensures;
    }
