use Rattle.std.proofs.Common.{◌≡◌, ◌≤◌, ◌+◌, ◌-◌, ℕ, List, length}
use Rattle.model_program.specs.Follows.{view}
use Rattle.model_program.specs.Merge.{merging_more}
use Rattle.lasp_run.specs.Merge.{IsReplica, Leads}
use Rattle.lasp_call.specs.Words.{words_of}
use Rattle.lasp_run.proofs.merge.merge_rest.Given as goal

abbrev pub invariant-loop-number : goal.invariant-loop-number
invariant-loop-number g l = record {
  some : 1 ≤ l.number;
  few : l.number + 2 ≤ length l.words;
  node : IsReplica l.graph (g.N.Node.view l.node);
  same : (name : List ℕ) → g.F.Files.content l.files name ≡ g.F.Files.content l.fn.files name;
  later : (name : List ℕ) → g.F.Files.faults l.fn.files name ≤ g.F.Files.faults l.files name;
  rest : Leads (words_of l.words) (view (g.F.Files.content l.fn.files) (g.F.Files.faults l.fn.files) (g.F.Files.faults l.files)) (merging_more l.graph 1 (length l.words - 3) (g.N.Node.view l.fn.first).peer) (merging_more l.graph l.number (length l.words - 2 - l.number) (g.N.Node.view l.node).peer);
}
