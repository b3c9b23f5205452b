use Rattle.model_site.proofs.CallLaws.{call-answered}
use Rattle.lasp_site.specs.Failure.{answered}
use Rattle.lasp_site.proofs.site.answer_site.Goals as goal

pub returns : goal.returns
returns g c = record {
  answered =
      call-answered _ _ _ (answered c.answer-state.result) _ _ _ c.answer-state.ensures.same c.answer-state.ensures.later c.answer-state.ensures.unread c.answer-state.ensures.follows c.end.ensures.out_later c.end.ensures.err_later c.end.ensures.ends;
}
