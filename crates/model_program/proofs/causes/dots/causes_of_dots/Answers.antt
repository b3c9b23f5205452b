use Rattle.model_program.proofs.DotCauses.{dots-long, dots-refused, dots-other, dots-written, dots-reported, dots-unlimited}
use Rattle.model_program.proofs.causes.dots.causes_of_dots.Goals as goal

pub returns-clause-script_too_long : goal.returns-clause-script_too_long
returns-clause-script_too_long c = λ lib content words script is. dots-long lib content words is script

pub returns-clause-script_refused : goal.returns-clause-script_refused
returns-clause-script_refused c = λ lib content words script number why is. dots-refused lib content words is script number why

pub returns-clause-other_word : goal.returns-clause-other_word
returns-clause-other_word c = λ lib content words s place is. dots-other lib content words is s place

pub returns-clause-written : goal.returns-clause-written
returns-clause-written c = λ lib content words s is. dots-written lib content words is s

pub returns-clause-reported : goal.returns-clause-reported
returns-clause-reported c = λ lib content words s run is. dots-reported lib content words is s run

pub returns-clause-unlimited : goal.returns-clause-unlimited
returns-clause-unlimited c = λ lib content words s run is. dots-unlimited lib content words is s run
