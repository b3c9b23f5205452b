use Rattle.lasp_store.proofs.SettleLaws.{turn-peer}
use Rattle.lasp_store.proofs.laws.feeds_tell_the_sources.Goals as goal

pub returns : goal.returns
returns c = turn-peer
