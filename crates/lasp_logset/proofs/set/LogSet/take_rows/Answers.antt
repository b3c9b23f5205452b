use Rattle.std.proofs.Common.{List, sym, subst, ◌∙◌}
use Rattle.model_values.specs.Row.{Row}
use Rattle.lasp_logset.specs.Chains.{StayRows}
use Rattle.lasp_logset.specs.Taken.{AreDeadFirst}
use Rattle.lasp_logset.proofs.FewLaws.{set-after}
use Rattle.lasp_logset.proofs.TakenLaws.{order-first, taken-rows}
use Rattle.lasp_logset.proofs.set.LogSet.take_rows.Goals as goal

pub put_told-requires-clause-order : goal.put_told-requires-clause-order
put_told-requires-clause-order c = subst AreDeadFirst (sym c.in_ok-coming.ensures) (order-first c.args.rows.items)

pub invariant_of-self-2 : goal.invariant_of-self-2
invariant_of-self-2 c =
    let stay = subst (λ (r : List Row). StayRows r c.put_told.new.rows.entries) c.reserve.ensures.entries c.put_told.ensures.stay in
    rw c.seal.ensures
    (set-after c.self.inside.rows.entries c.put_told.new.rows.entries c.put_told.new.log.items c.self.inside.chains.newest.entries c.self.inside.chains.older.items c.self.inside.places.newest.entries c.self.inside.places.older.items
    c.self.inside.few.places.items c.self.inside.few.upto c.put_told.ensures.kept c.self.invariant.chained c.self.invariant.found c.self.invariant.seen stay)

pub returns-clause-taken : goal.returns-clause-taken
returns-clause-taken c =
    taken-rows c.reserve-2.new.self.items c.args.self.now c.args.rows.items c.in_ok-coming.coming.items c.put_told.new.log.items c.seal.new.self.items c.put_told.new.told.items (c.reserve-2.ensures.same ∙ c.self.view_is) c.in_ok-coming.ensures c.seal.ensures
    c.put_told.ensures.taken
