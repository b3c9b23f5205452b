use Rattle.model_program.proofs.PromiseLaws.{call-answered}
use Rattle.lasp_call.specs.Words.{answered}
use Rattle.lasp_run.proofs.program.one_thread.Goals as goal

pub returns : goal.returns
returns g c = record {
  answered =
      call-answered _ _ _ (answered c.answer-text.result) _ _ _ c.answer-text.ensures.same c.answer-text.ensures.later c.answer-text.ensures.unread c.answer-text.ensures.follows c.end.ensures.out_later c.end.ensures.err_later c.end.ensures.ends;
}
