use Rattle.model_runs.proofs.PartLaws.{brings-equal}
use Rattle.lasp_core.proofs.replica_core.Core.deliver.Goals as goal

pub deliver_part-requires : goal.deliver_part-requires
deliver_part-requires c = brings-equal c.deref.ensures
