use Rattle.std.proofs.Common.{refl, arith}
use Rattle.lasp_logset.proofs.KeptLaws.{joined-rises, more-any}
use Rattle.lasp_logset.proofs.set.LogSet.join_log.Goals as goal

pub put_all-requires : goal.put_all-requires
put_all-requires c =
    rw (← c.self.view_is) (joined-rises c.self.inside.rows.entries c.self.inside.log.items c.args.log.now.items c.in_ok-news.news.items c.self.invariant.kept c.requires c.in_ok-news.ensures)

pub returns-clause-grew : goal.returns-clause-grew
returns-clause-grew c =
    let up = joined-rises c.self.inside.rows.entries c.self.inside.log.items c.args.log.now.items c.in_ok-news.news.items c.self.invariant.kept c.requires c.in_ok-news.ensures in
    rw (← c.self.view_is) (
      λ _. more-any c.self.inside.log.items c.in_ok-news.news.items c.put_all.new.self c.in_ok-news.news.len c.is_empty.result (omega (arith, c.in_ok-news.news.ok.0)) c.is_empty.ensures c.if-is_empty.false up (rw c.self.view_is c.in_ok-put_all.ensures.ok),
      λ _. refl,
    )
