use Rattle.std.proofs.Common.{◌∙◌, ap, length}
use Rattle.lasp_graph.proofs.SourceLists.{placed-long}
use Rattle.lasp_graph.proofs.evaluate.eval_all.Goals as goal

pub eval_by_variable-requires-clause-all : goal.eval_by_variable-requires-clause-all
eval_by_variable-requires-clause-all g c = ap length c.in_ok-given.ensures ∙ placed-long c.args.g.now c.args.sources.now
