use Rattle.lasp_replica.proofs.DeliveryLaws.{kept-delivered}
use Rattle.lasp_replica.proofs.kept.deliveries_are_kept.Goals as goal

pub returns : goal.returns
returns c = kept-delivered
