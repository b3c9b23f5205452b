use Rattle.model_program.specs.Program.{plan}
use Rattle.model_program.proofs.AnswerLaws.{told-decides}
use Rattle.model_program.proofs.causes.statuses.told_files_decide_an_answer.Goals as goal

pub returns : goal.returns
returns c = λ lib content words told. told-decides content words (plan lib words) told
