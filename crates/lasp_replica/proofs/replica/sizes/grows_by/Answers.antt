use Rattle.std.proofs.Common.{sym}
use Rattle.model_states.specs.Content.{IsContentAtMost}
use Rattle.lasp_state.specs.State.{content_of}
use Rattle.lasp_replica.proofs.NewsLaws.{news-tell}
use Rattle.lasp_replica.proofs.UpdateLaws.{flipped}
use Rattle.lasp_replica.proofs.replica.sizes.grows_by.Goals as goal

pub le-requires : goal.le-requires
le-requires c = sym c.requires.shape

pub returns-then-is_set : goal.returns-then-is_set
returns-then-is_set c = news-tell c.args.s.now c.args.t.now c.args.rows.now c.rows-is_new.result (c.is_set.ensures.0 c.if-is_set.true) c.requires.shape c.requires.rows c.rows-is_new.ensures.exact

pub returns : goal.returns
returns c = flipped c.le.result (IsContentAtMost (content_of c.args.t.now) (content_of c.args.s.now)) c.le.ensures
