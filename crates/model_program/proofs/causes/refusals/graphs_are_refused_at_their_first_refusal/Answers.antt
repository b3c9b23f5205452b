use Rattle.std.proofs.Common.{[], ap, ◌∙◌, Option}
use Rattle.serde_json.specs.Data.{Data, Items}
use Rattle.model_graph.specs.Chain.{◌>>=◌, or_else}
use Rattle.model_readings.specs.Tree.{list_of}
use Rattle.model_readings.specs.Graph.{graph_of, tree_read, decls_read}
use Rattle.model_readings.specs.declared.graph_why.GraphWhy.TheVariants.{NotJson, Shape}
use Rattle.model_program.proofs.Firsts.{decls-refused, decls-accepted}
use Rattle.model_program.proofs.causes.refusals.graphs_are_refused_at_their_first_refusal.Goals as goal

pub returns-clause-not_json : goal.returns-clause-not_json
unfolding graph_of
returns-clause-not_json c = λ lib bytes e. ap (λ (o : Option Data). or_else o (0, NotJson) >>= tree_read lib) e

pub returns-clause-not_array : goal.returns-clause-not_array
unfolding graph_of tree_read
returns-clause-not_array c = λ lib bytes tree e f. ap (λ (o : Option Data). or_else o (0, NotJson) >>= tree_read lib) e ∙ ap (λ (o : Option Items). or_else o (0, Shape) >>= (λ ds. decls_read lib [] (list_of ds))) f

pub returns-clause-items : goal.returns-clause-items
unfolding graph_of tree_read
returns-clause-items c = λ lib bytes tree items e f. ap (λ (o : Option Data). or_else o (0, NotJson) >>= tree_read lib) e ∙ ap (λ (o : Option Items). or_else o (0, Shape) >>= (λ ds. decls_read lib [] (list_of ds))) f

pub returns-clause-refused : goal.returns-clause-refused
returns-clause-refused c = decls-refused

pub returns-clause-accepted : goal.returns-clause-accepted
returns-clause-accepted c = decls-accepted
