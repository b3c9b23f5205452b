use Rattle.model_world.proofs.PointLaws.{point-stop, point-end, take-stop}
use Rattle.model_world.proofs.laws.points_and_deliveries_stop_at_what_is_too_large.Goals as goal

pub returns-clause-point : goal.returns-clause-point
returns-clause-point c = point-stop

pub returns-clause-passed : goal.returns-clause-passed
returns-clause-passed c = point-end

pub returns-clause-delivery : goal.returns-clause-delivery
returns-clause-delivery c = take-stop
