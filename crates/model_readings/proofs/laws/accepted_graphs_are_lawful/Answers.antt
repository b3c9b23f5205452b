use Rattle.model_readings.proofs.Graphs.{graph-graph_of, fits-graph_of}
use Rattle.model_readings.proofs.laws.accepted_graphs_are_lawful.Goals as goal

pub returns-clause-graph : goal.returns-clause-graph
returns-clause-graph c = graph-graph_of

pub returns-clause-fits : goal.returns-clause-fits
returns-clause-fits c = fits-graph_of
