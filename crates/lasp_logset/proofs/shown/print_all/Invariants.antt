use Rattle.std.proofs.Common.{◌≡◌, ◌++◌, drop}
use Rattle.std.specs.String.{string_bytes}
use Rattle.model_values.specs.Text.{shown_values}
use Rattle.lasp_logset.specs.Shown.{shown_rest}
use Rattle.lasp_logset.proofs.shown.print_all.Given as goal

abbrev pub invariant-loop-next : goal.invariant-loop-next
invariant-loop-next l = string_bytes l.out ++ shown_rest l.is_behind (drop l.next-index l.shown) ≡ string_bytes l.fn.out ++ shown_values l.shown
