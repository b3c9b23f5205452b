use Rattle.model_live.proofs.LargeLaws.{source-size, large-derived}
use Rattle.model_live.proofs.large.what_is_too_large_is_derived.Goals as goal

pub returns-clause-sources : goal.returns-clause-sources
returns-clause-sources c = source-size

pub returns-clause-derived : goal.returns-clause-derived
returns-clause-derived c = large-derived
