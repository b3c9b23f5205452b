use Rattle.lasp_replica.proofs.ReadLaws.{news-by-gain, news-none}
use Rattle.lasp_replica.proofs.reading.news_are_what_is_gained.Goals as goal

pub returns-clause-gain : goal.returns-clause-gain
returns-clause-gain c = news-by-gain

pub returns-clause-none : goal.returns-clause-none
returns-clause-none c = news-none
