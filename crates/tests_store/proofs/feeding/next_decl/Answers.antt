use Rattle.lasp_graph.proofs.Declared.{next-of}
use Rattle.tests_store.proofs.feeding.next_decl.Goals as goal

pub returns : goal.returns
returns g c = next-of _ c.read_decl.result c.args.graph.now (λ d is. c.read_declarations_are_lawful.ensures.next _ _ _ d is) c.read_decl.ensures.exact
