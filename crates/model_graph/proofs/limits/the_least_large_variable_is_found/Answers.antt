use Rattle.model_graph.proofs.LimitLaws.{large-words, small-words}
use Rattle.model_graph.proofs.limits.the_least_large_variable_is_found.Goals as goal

pub returns-clause-found : goal.returns-clause-found
returns-clause-found c = large-words

pub returns-clause-none : goal.returns-clause-none
returns-clause-none c = small-words
