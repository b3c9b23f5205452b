use Rattle.model_functions.proofs.MapLaws.{mapped-width}
use Rattle.model_functions.proofs.maps.maps_make_no_value_larger.Goals as goal

pub returns-clause-width : goal.returns-clause-width
returns-clause-width c = mapped-width
