use Rattle.std.proofs.Common.{◌∙◌}
use Rattle.lasp_core.proofs.EvaluatedLaws.{long-of, narrow-of}
use Rattle.tests_cores.proofs.cores.evaluated.Goals as goal

pub eval_by_variable-requires-clause-all : goal.eval_by_variable-requires-clause-all
eval_by_variable-requires-clause-all g c =
    long-of c.args.core.now c.recall.ensures.core c.deref-then-fits.result.now c.states.result.now (c.deref-then-fits.ensures ∙ c.graph-graph.ensures) c.states.ensures.contents

pub eval_by_variable-requires-clause-narrow : goal.eval_by_variable-requires-clause-narrow
eval_by_variable-requires-clause-narrow g c =
    narrow-of c.args.core.now c.recall.ensures.core c.deref-then-fits.result.now c.states.result.now (c.deref-then-fits.ensures ∙ c.graph-graph.ensures) c.states.ensures.contents
    c.sources_stay_within_the_format.ensures.narrow
