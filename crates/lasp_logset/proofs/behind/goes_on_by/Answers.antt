use Rattle.std.proofs.Common.{ap, ◌∷◌, ◌∙◌}
use Rattle.model_values.specs.Row.{Row}
use Rattle.lasp_logset.proofs.behind.goes_on_by.Goals as goal

pub returns-in-Some : goal.returns-in-Some
returns-in-Some c = λ same. c.in-Some.ensures.some ∙ ap (λ (r : Row). r ∷ c.next.new.self) (c.is_same.ensures same)
