use Rattle.std.proofs.Common.{◌≡◌, ◌≤◌, ◌++◌, length, drop}
use Rattle.std.specs.Prelude.{string_bytes}
use Rattle.model_journal.specs.Journal.{graph, vals}
use Rattle.model_program.specs.Summary.{number_lines}
use Rattle.lasp_top.specs.Summary.{core_lines}
use Rattle.lasp_top.proofs.summary.push_variables.Given as goal

abbrev pub invariant-loop-x : goal.invariant-loop-x
invariant-loop-x l = record {
  within : l.x ≤ length (graph l.core.frame l.core.entries);
  text : string_bytes l.text ++ number_lines l.x (drop l.x (graph l.core.frame l.core.entries)) (vals l.core.frame l.core.entries) ≡ string_bytes l.fn.text ++ core_lines l.core;
}
