use Rattle.std.proofs.Common.{◌≡◌, ◌+◌, ◌≤◌, length, drop}
use Rattle.model_site.specs.Site.{updates_done}
use Rattle.lasp_site.specs.Site.{IsSiteNode}
use Rattle.lasp_site.proofs.update.do_commands.Given as goal

abbrev pub invariant-loop-i : goal.invariant-loop-i
invariant-loop-i g l = record {
  number : l.number ≡ l.i + 1;
  within : l.i ≤ length l.script.commands;
  node : IsSiteNode l.me l.graph (g.N.Node.view l.node);
  among : (g.N.Node.view l.node).among ≡ (g.N.Node.view l.fn.first).among;
  rest : updates_done l.me l.graph l.number (g.N.Node.view l.node).peer (drop l.i l.script.commands) ≡ updates_done l.me l.graph 1 (g.N.Node.view l.fn.first).peer l.script.commands;
}
