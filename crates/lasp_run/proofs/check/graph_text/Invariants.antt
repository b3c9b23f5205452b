use Rattle.std.proofs.Common.{◌≡◌, ◌++◌, ◌≤◌, length, drop}
use Rattle.std.specs.Prelude.{string_bytes}
use Rattle.model_graph.specs.Lawful.{widths}
use Rattle.model_program.specs.Check.{check_text}
use Rattle.lasp_run.proofs.CheckLaws.{lines_with}
use Rattle.lasp_run.proofs.check.graph_text.Given as goal

abbrev pub invariant-loop-var : goal.invariant-loop-var
invariant-loop-var l = record {
  within : l.var ≤ length l.graph;
  text : string_bytes l.text ++ lines_with (drop l.var l.graph) (drop l.var (widths l.graph)) ≡ check_text l.graph;
}
