use Rattle.lasp_graph.specs.Decl.{decl_of}
use Rattle.lasp_graph.proofs.Evaluation.{kind-sound}
use Rattle.lasp_graph.proofs.delta.node_rows_gained.Goals as goal

pub eval_rows_gained-requires-clause-sound : goal.eval_rows_gained-requires-clause-sound
eval_rows_gained-requires-clause-sound g c = kind-sound c.args.g.now c.args.var (decl_of c.at.result.now) c.recall.ensures c.at.ensures.decl
