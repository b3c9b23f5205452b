use Rattle.lasp_live.proofs.OwnLaws.{there-within}
use Rattle.lasp_live.proofs.own.is_source_within.Goals as goal

pub returns-else-len-i : goal.returns-else-len-i
returns-else-len-i c = λ t. there-within c.args.m.now.sources c.args.i c.args.me c.args.total c.state_at.result.now c.state_at.ensures (c.is_within.ensures t)
