use Rattle.lasp_graph.specs.Decl.{decl_of}
use Rattle.lasp_graph.proofs.Evaluation.{kind-sound}
use Rattle.lasp_graph.proofs.evaluate.eval_node.Goals as goal

pub eval_process-requires-clause-sound : goal.eval_process-requires-clause-sound
eval_process-requires-clause-sound g c = kind-sound c.args.g.now c.args.var (decl_of c.at.result.now) c.recall.ensures c.at.ensures.decl
