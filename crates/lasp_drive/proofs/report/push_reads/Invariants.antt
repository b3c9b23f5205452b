use Rattle.std.proofs.Common.{◌≡◌, ◌++◌, ◌≤◌, length, drop, map}
use Rattle.std.specs.Prelude.{string_bytes}
use Rattle.model_world.specs.Report.{read_lines}
use Rattle.lasp_drive.specs.Driver.{read_seen, opened_of}
use Rattle.lasp_drive.specs.Nodes.{AllLearn}
use Rattle.lasp_drive.specs.Report.{OfTheirRun}
use Rattle.lasp_drive.proofs.report.push_reads.Given as goal

abbrev pub invariant-loop-k : goal.invariant-loop-k
invariant-loop-k g l = record {
  within : l.k ≤ length l.reads;
  place : map g.N.Node.place l.nodes.items ≡ map g.N.Node.place l.fn.nodes.items;
  learn : AllLearn (map g.N.Node.view l.fn.nodes.items) (map g.N.Node.view l.nodes.items);
  text : OfTheirRun (map g.N.Node.view l.fn.nodes.items)
      (λ run. string_bytes l.text ++ read_lines l.k run (drop l.k (map opened_of (map (read_seen g.N.Node.read) l.reads))) ≡ string_bytes l.fn.text ++ read_lines 0 run (map opened_of (map (read_seen g.N.Node.read) l.reads)));
}
