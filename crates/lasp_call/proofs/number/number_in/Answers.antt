use Rattle.std.proofs.Common.{◌∙◌, arith}
use Rattle.model_program.proofs.NumberLaws.{number-parsed}
use Rattle.lasp_call.proofs.number.number_in.Goals as goal

pub returns-in-Ok-clause-exact : goal.returns-in-Ok-clause-exact
returns-in-Ok-clause-exact c =
    c.spelled_in.ensures ∙ number-parsed c.args.word.now c.args.least c.args.most c.in-Ok.number c.parse.result (omega arith) c.parse.ensures.value.0 c.in-Ok.is
