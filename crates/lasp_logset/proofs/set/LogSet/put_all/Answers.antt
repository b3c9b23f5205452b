use Rattle.std.proofs.Common.{List, subst}
use Rattle.model_values.specs.Row.{Row}
use Rattle.lasp_logset.specs.Chains.{StayRows}
use Rattle.lasp_logset.proofs.FewLaws.{set-after}
use Rattle.lasp_logset.proofs.set.LogSet.put_all.Goals as goal

pub put_news-requires-clause-rises : goal.put_news-requires-clause-rises
put_news-requires-clause-rises c = rw (c.reserve-2.ensures.same, c.self.view_is) c.requires

pub invariant_of-self-2 : goal.invariant_of-self-2
invariant_of-self-2 c =
    let stay = subst (λ (r : List Row). StayRows r c.put_news.new.rows.entries) c.reserve.ensures.entries c.put_news.ensures.stay in
    rw c.seal.ensures
    (set-after c.self.inside.rows.entries c.put_news.new.rows.entries c.put_news.new.log.items c.self.inside.chains.newest.entries c.self.inside.chains.older.items c.self.inside.places.newest.entries c.self.inside.places.older.items
    c.self.inside.few.places.items c.self.inside.few.upto c.put_news.ensures.kept c.self.invariant.chained c.self.invariant.found c.self.invariant.seen stay)
