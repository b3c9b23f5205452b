use Rattle.lasp_logset.proofs.ChainLaws.{chained-pruned}
use Rattle.lasp_logset.proofs.chains.Chains.prune.Goals as goal

pub returns : goal.returns
returns c =
    chained-pruned c.args.rows.now.entries c.args.self.now.newest.entries c.insert.new.self.entries c.args.self.now.older.items c.hash_of-hash.result c.newest_live-live.result c.requires c.newest_live-live.ensures.behind
    c.newest_live-live.ensures.live c.in_ok-insert.ensures.updates.0
