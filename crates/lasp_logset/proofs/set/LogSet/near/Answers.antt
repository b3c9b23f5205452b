use Rattle.std.proofs.Common.{arith}
use Rattle.lasp_value.specs.Value.{val_of}
use Rattle.lasp_logset.proofs.LiveLaws.{got-within}
use Rattle.lasp_logset.proofs.NearLaws.{near-whole, near-apart, near-within}
use Rattle.lasp_logset.proofs.set.LogSet.near.Goals as goal

pub newest_before-behind-requires-clause-since : goal.newest_before-behind-requires-clause-since
newest_before-behind-requires-clause-since c = omega (arith, c.first_places.ensures.found.covered, c.len.ensures.len)

pub returns-clause-rows : goal.returns-clause-rows
returns-clause-rows c =
    near-whole (val_of c.args.value.now) c.first_places.result.0.now.entries c.args.self.now c.newest_before-behind.result c.first_places.ensures.state (omega (arith, c.newest_before-behind.ensures.falls, c.len.ensures.len))
    (λ i row. c.newest_before-behind.ensures.passed i row (omega (arith, got-within c.first_places.result.0.now.entries i _ row.2, c.len.ensures.len)))

pub returns-clause-apart : goal.returns-clause-apart
returns-clause-apart c = near-apart (val_of c.args.value.now) c.first_places.result.0.now.entries c.newest_before-behind.result c.first_places.ensures.apart

pub returns-clause-within : goal.returns-clause-within
returns-clause-within c = near-within (val_of c.args.value.now) c.first_places.result.0.now.entries c.args.self.now c.newest_before-behind.result c.first_places.ensures.state
