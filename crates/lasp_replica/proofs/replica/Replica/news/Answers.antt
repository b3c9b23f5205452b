use Rattle.std.proofs.Common.{◌≡◌, true}
use Rattle.lasp_replica.proofs.FinishLaws.{news-of-a-set, news-of-a-fold}
use Rattle.lasp_replica.proofs.replica.Replica.news.Goals as goal

pub returns-then-is_set : goal.returns-then-is_set
returns-then-is_set c =
    news-of-a-set c.args.self.now c.args.job.now c.args.state.now c.requires.replica c.requires.job c.requires.result c.in_ok-rows.rows c.rows-grows.result c.in_ok-rows.ensures c.rows-grows.ensures.exact
    (c.is_set.ensures.0 c.if-is_set.true)

pub returns : goal.returns
returns c =
    news-of-a-fold c.args.self.now c.args.job.now c.args.state.now c.requires.replica c.requires.job c.requires.result c.in_ok-rows.rows c.rows-grows.result c.in_ok-rows.ensures c.rows-grows.ensures.exact
    (λ p. let set : c.is_set.result ≡ true = c.is_set.ensures.1 p in cc (set, c.if-is_set.false)) c.empty.result c.empty.ensures
