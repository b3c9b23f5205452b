-- A delta between messages of a world, applied to a message of the world.
use Rattle.std.proofs.Common.{Result, ap, subst, ◌∙◌}
use Rattle.model_graph.specs.Message.{Message}
use Rattle.model_deltas.specs.Delta.{Delta}
use Rattle.model_deltas.specs.Applied.{Cause, applied}
use Rattle.model_deltas.proofs.TellLaws.{delta-world}
use Rattle.lasp_delta.specs.Answered.{Answers, AnswersInWorlds}
use Rattle.lasp_delta.specs.declared.refused.DeltaRefused.{DeltaRefused}

pub answers-world : (m : Message) (d : Delta) (result : Result Message DeltaRefused) → Answers result (applied m d) → AnswersInWorlds m d result
unfolding AnswersInWorlds
answers-world m d result h = λ before after world step is.
    subst (λ (r : Result Message Cause). Answers result r) (ap (applied m) is ∙ delta-world before after m world step) h
