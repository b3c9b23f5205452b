use Rattle.std.proofs.Common.{ap}
use Rattle.model_functions.specs.Predicate.{passes}
use Rattle.model_sets.specs.Equations.{filter_set}
use Rattle.lasp_fns.specs.Library.{predicates_of}
use Rattle.lasp_graph.proofs.ProcessLaws.{place-within, ops-found, length-filter_set, result-as}
use Rattle.lasp_graph.proofs.process.filtered_set.Goals as goal

pub pred_at-requires : goal.pred_at-requires
pred_at-requires g c = place-within (predicates_of c.args.lib.now) c.args.p.now.place c.args.p.now.ops c.requires.fits

pub returns-clause-ok : goal.returns-clause-ok
returns-clause-ok g c =
    result-as c.filter_set.result _ _ (ap (λ ops. filter_set (passes ops) c.args.x.now) (ops-found (predicates_of c.args.lib.now) c.args.p.now.place _ c.args.p.now.ops c.pred_at.ensures c.requires.fits)) c.filter_set.ensures

pub returns-clause-small : goal.returns-clause-small
returns-clause-small g c = length-filter_set (passes c.args.p.now.ops) c.args.x.now
