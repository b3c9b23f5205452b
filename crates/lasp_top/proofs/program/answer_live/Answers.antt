use Rattle.model_program.proofs.LiveLaws.{live-answered}
use Rattle.lasp_top.specs.Live.{lived_of}
use Rattle.lasp_top.proofs.program.answer_live.Goals as goal

pub returns : goal.returns
returns g c = live-answered _ _ _ (lived_of c.open_live-lived.result) _ _ _ c.open_live-lived.ensures.same c.open_live-lived.ensures.later c.open_live-lived.ensures.follows c.end_live.ensures.out_later c.end_live.ensures.err_later c.end_live.ensures.ends
