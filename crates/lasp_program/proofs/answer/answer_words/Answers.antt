use Rattle.std.proofs.Common.{refl}
use Rattle.lasp_program.specs.Functions.{program_maps, program_predicates, program_lifts}
use Rattle.lasp_program.proofs.answer.answer_words.Goals as goal

pub answer_over-requires-clause-maps : goal.answer_over-requires-clause-maps
unfolding program_maps
answer_over-requires-clause-maps g c κs within = refl

pub answer_over-requires-clause-predicates : goal.answer_over-requires-clause-predicates
unfolding program_predicates
answer_over-requires-clause-predicates g c κs within = refl

pub answer_over-requires-clause-lifts : goal.answer_over-requires-clause-lifts
unfolding program_lifts
answer_over-requires-clause-lifts g c κs within = refl
