use Rattle.std.proofs.Common.{◌↔◌, ◌≤◌, length}
use Rattle.lasp_replica.specs.Replica.{IsBeginning}
use Rattle.lasp_replica.proofs.BeginLaws.{BeginsFrom}
use Rattle.lasp_replica.proofs.sources.begins.Given as goal

abbrev pub invariant-loop-x : goal.invariant-loop-x
invariant-loop-x l = record {
  within : l.x ≤ length l.graph;
  some : l.i ≤ length l.message.sources;
  rest : BeginsFrom l.message l.graph l.i l.x ↔ IsBeginning l.message l.graph;
}
