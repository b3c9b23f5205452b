use Rattle.std.proofs.Common.{sym}
use Rattle.model_journal.specs.Journal.{graph, vals}
use Rattle.model_core.proofs.SourceLaws.{sources-source}
use Rattle.lasp_node.proofs.CallLaws.{reads-released}
use Rattle.lasp_node.proofs.node.CoreNodeNode.recall.Goals as goal

pub returns : goal.returns
returns c =
    let core = c.args.self.now.core in
    record {
      sources = λ x low source. sym (sources-source (graph core.frame core.entries) (vals core.frame core.entries) x low source);
      bounded = c.recall_states.ensures.below;
      unmet = reads-released core c.recall.ensures.core;
    }
