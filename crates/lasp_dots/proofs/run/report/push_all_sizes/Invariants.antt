use Rattle.std.proofs.Common.{◌≡◌, ◌≤◌, ◌++◌, length, drop}
use Rattle.std.specs.String.{string_bytes}
use Rattle.model_dots.specs.DotReport.{dot_sizes}
use Rattle.lasp_dots.proofs.run.report.push_all_sizes.Given as goal

abbrev pub invariant-loop-p : goal.invariant-loop-p
invariant-loop-p l = record {
  within : l.p ≤ length l.replicas.nodes;
  rest : string_bytes l.text ++ dot_sizes l.p (drop l.p l.replicas.nodes) ≡ string_bytes l.fn.text ++ dot_sizes 0 l.replicas.nodes;
}
