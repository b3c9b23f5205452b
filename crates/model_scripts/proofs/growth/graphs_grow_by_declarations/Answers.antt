use Rattle.model_scripts.proofs.GrowthLaws.{graph-stage_behind, grown-append, grown-added, take-grown}
use Rattle.model_scripts.proofs.growth.graphs_grow_by_declarations.Goals as goal

pub returns-clause-behind : goal.returns-clause-behind
returns-clause-behind c = graph-stage_behind

pub returns-clause-append : goal.returns-clause-append
returns-clause-append c = grown-append

pub returns-clause-added : goal.returns-clause-added
returns-clause-added c = grown-added

pub returns-clause-kept : goal.returns-clause-kept
returns-clause-kept c = take-grown
