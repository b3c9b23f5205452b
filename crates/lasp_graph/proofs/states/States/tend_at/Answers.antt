use Rattle.lasp_graph.proofs.StateLists.{same-at}
use Rattle.lasp_graph.proofs.states.States.tend_at.Goals as goal

pub returns : goal.returns
returns c = rw (← c.self.view_is) (same-at c.self.inside.states.items c.args.i c.index_mut.result.now c.tend_shared.new.shared c.index_mut.ensures.value c.tend_shared.ensures)
