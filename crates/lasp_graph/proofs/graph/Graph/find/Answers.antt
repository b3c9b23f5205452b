use Rattle.lasp_graph.proofs.Entries.{place-keys_of}
use Rattle.lasp_graph.proofs.graph.Graph.find.Goals as goal

pub returns-in-Some-clause-exact : goal.returns-in-Some-clause-exact
returns-in-Some-clause-exact c = rw (← c.self.view_is, place-keys_of c.args.name.now c.self.inside.decls.entries c.self.invariant.names) c.in-Some.ensures.index

pub returns-in-None-clause-exact : goal.returns-in-None-clause-exact
returns-in-None-clause-exact c = rw (← c.self.view_is, place-keys_of c.args.name.now c.self.inside.decls.entries c.self.invariant.names) c.in-None.ensures.index
