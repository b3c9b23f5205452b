use Rattle.std.proofs.lemmas.List.{map-set}
use Rattle.lasp_graph.proofs.StateLists.{shown}
use Rattle.lasp_graph.proofs.states.States.replace.Goals as goal

pub returns : goal.returns
returns c = rw (← c.self.view_is) (map-set (λ s. shown s) c.self.inside.states.items c.args.i c.args.state)
