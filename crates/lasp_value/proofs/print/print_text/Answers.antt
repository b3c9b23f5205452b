use Rattle.std.specs.String.{string_bytes}
use Rattle.lasp_value.proofs.Characters.{printed-more}
use Rattle.lasp_value.proofs.print.print_text.Goals as goal

pub loop-c-preserved : goal.loop-c-preserved
loop-c-preserved c =
    printed-more (string_bytes c.args.out.now) (string_bytes c.loop-c.out) (string_bytes c.print_char.new.out) c.loop-c.yielded c.in-Some.c c.loop-c.invariant c.in_ok-print_char.ensures
