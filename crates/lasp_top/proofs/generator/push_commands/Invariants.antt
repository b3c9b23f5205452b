use Rattle.std.proofs.Common.{◌≡◌, ◌<◌, ◌++◌}
use Rattle.std.specs.Prelude.{string_bytes}
use Rattle.model_program.specs.Generator.{number_at, commands}
use Rattle.lasp_top.proofs.generator.push_commands.Given as goal

abbrev pub invariant-loop-j : goal.invariant-loop-j
invariant-loop-j l = record {
  number : l.x ≡ number_at l.seed l.j;
  small : l.x < 2147483648;
  pushed : string_bytes l.text ≡ string_bytes l.fn.text ++ commands l.seed l.j;
}
