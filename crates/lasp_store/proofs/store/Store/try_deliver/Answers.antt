use Rattle.model_runs.proofs.PartLaws.{brings-equal}
use Rattle.lasp_store.proofs.store.Store.try_deliver.Goals as goal

pub end_deliver-requires-clause-part : goal.end_deliver-requires-clause-part
end_deliver-requires-clause-part c = brings-equal c.deref.ensures
