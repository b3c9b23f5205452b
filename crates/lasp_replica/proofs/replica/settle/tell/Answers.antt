use Rattle.lasp_replica.proofs.TakenLaws.{told-set}
use Rattle.lasp_replica.proofs.replica.settle.tell.Goals as goal

pub returns-then-is_told-clause-told : goal.returns-then-is_told-clause-told
returns-then-is_told-clause-told c = told-set c.args.histories.now.items c.args.var c.index_mut.result.now c.put_in.new.self c.index_mut.ensures.value c.put_in.ensures.history
