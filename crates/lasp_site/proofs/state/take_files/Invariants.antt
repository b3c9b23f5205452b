use Rattle.std.proofs.Common.{◌≡◌, ◌≤◌, ◌-◌, ℕ, List, length}
use Rattle.model_world.specs.Command.{Script}
use Rattle.model_program.specs.Follows.{view}
use Rattle.model_site.specs.Program.{filing_more}
use Rattle.lasp_site.specs.Site.{IsSiteNode, Leads}
use Rattle.lasp_call.specs.Words.{words_of}
use Rattle.lasp_site.proofs.state.take_files.Given as goal

abbrev pub invariant-loop-file : goal.invariant-loop-file
invariant-loop-file g l = record {
  some : 4 ≤ l.file;
  few : l.file ≤ length l.words;
  node : IsSiteNode l.me l.graph (g.N.Node.view l.node);
  among : (g.N.Node.view l.node).among ≡ (g.N.Node.view l.fn.first).among;
  same : (name : List ℕ) → g.F.Files.content l.files name ≡ g.F.Files.content l.fn.files name;
  later : (name : List ℕ) → g.F.Files.faults l.fn.files name ≤ g.F.Files.faults l.files name;
  rest : (s : Script) → Leads (words_of l.words) (view (g.F.Files.content l.fn.files) (g.F.Files.faults l.fn.files) (g.F.Files.faults l.files)) (filing_more l.me l.graph s 4 (length l.words - 4) (g.N.Node.view l.fn.first).peer) (filing_more l.me l.graph s l.file (length l.words - l.file) (g.N.Node.view l.node).peer);
}
