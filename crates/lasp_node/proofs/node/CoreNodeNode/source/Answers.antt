use Rattle.std.proofs.Common.{◌≡◌, refl, sym, ap, ◌∙◌}
use Rattle.std.specs.Arc.{arc_value}
use Rattle.std.specs.declared.sync.Arc.{Arc}
use Rattle.std.specs.declared.alloc.Global.{Global}
use Rattle.model_journal.specs.Journal.{graph, vals}
use Rattle.model_core.proofs.SourceLaws.{sources-source}
use Rattle.lasp_state.specs.State.{content_of, shape_of}
use Rattle.lasp_state.specs.declared.state.State.{State}
use Rattle.lasp_drive.specs.Node.{Holds}
use Rattle.lasp_node.specs.View.{node_of}
use Rattle.lasp_node.proofs.NodeLaws.{if-ok}
use Rattle.lasp_node.proofs.CallLaws.{learned-none}
use Rattle.lasp_node.proofs.node.CoreNodeNode.source.Goals as goal

pub returns-clause-holds : goal.returns-clause-holds
returns-clause-holds c =
    let core = c.args.self.now.core in
    if-ok (λ (s : Arc State Global). arc_value s ≡ arc_value c.state.result.now) (λ (s : Arc State Global). Holds (node_of core c.args.self.now.sent) c.args.x (arc_value s)) c.try_clone.result
    (λ s same. record {
      content = ap content_of same ∙ c.state.ensures.content ∙ sym (sources-source (graph core.frame core.entries) (vals core.frame core.entries) c.args.x c.requires.var c.requires.source);
      shape = ap shape_of same ∙ c.state.ensures.shape;
    }) c.try_clone.ensures

pub returns-clause-learns : goal.returns-clause-learns
returns-clause-learns c = learned-none c.args.self.now.sent c.args.self.now.core c.args.self.now.core c.recall.ensures.core refl
