use Rattle.model_program.proofs.TopLaws.{trace-answered}
use Rattle.lasp_call.specs.Words.{answered}
use Rattle.lasp_top.proofs.program.answer_trace.Goals as goal

pub returns : goal.returns
returns g c = trace-answered _ _ _ (answered c.run_traced-trace.result) _ _ _ c.run_traced-trace.ensures.same c.run_traced-trace.ensures.later c.run_traced-trace.ensures.follows c.end.ensures.out_later c.end.ensures.err_later c.end.ensures.ends
