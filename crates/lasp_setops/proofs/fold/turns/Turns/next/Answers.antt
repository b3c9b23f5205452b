use Rattle.std.proofs.Common.{rules, ◌≡◌}
use Rattle.std.specs.Option.{option_map}
use Rattle.model_sets.specs.Values.{visible}
use Rattle.lasp_value.specs.Value.{val_of}
use Rattle.lasp_setops.specs.Turns.{values_left, turns}
use Rattle.lasp_setops.proofs.PassLaws.{sized-first, sized-rest, skip-same, skip-still}
use Rattle.lasp_setops.proofs.fold.turns.Turns.next.Goals as goal

pub loop-row-preserved-then-is_same : goal.loop-row-preserved-then-is_same
loop-row-preserved-then-is_same c = (
  skip-same (visible c.args.before.now) (visible c.args.after.now) (turns (visible c.args.before.now) (visible c.args.after.now) (values_left (option_map (λ v. val_of v.now) c.args.self.now.last) c.args.self.now.rows))
      (option_map (λ v. val_of v.now) c.loop-row.self.last) c.loop-row.self.rows c.next.new.self c.in-Some.row (val_of c.value-value.result.now) c.is_same.result c.loop-row.invariant.0 c.in-Some.ensures.some c.value-value.ensures c.is_same.ensures c.if-is_same.true,
  sized-rest c.loop-row.self.rows c.next.new.self c.in-Some.row c.in-Some.ensures.some c.loop-row.invariant.1,
)

pub returns-then-has-came-clause-this : goal.returns-then-has-came-clause-this
returns-then-has-came-clause-this c = sized-first c.loop-row.self.rows c.next.new.self c.in-Some.row (val_of c.value-value.result.now) c.in-Some.ensures.some c.value-value.ensures c.loop-row.invariant.1

pub returns-then-has-came-clause-rest : goal.returns-then-has-came-clause-rest
returns-then-has-came-clause-rest c = sized-rest c.loop-row.self.rows c.next.new.self c.in-Some.row c.in-Some.ensures.some c.loop-row.invariant.1

pub loop-row-preserved : goal.loop-row-preserved
loop-row-preserved c =
    let same : c.has.result ≡ c.has-came.result = search rules in (
      skip-still (visible c.args.before.now) (visible c.args.after.now) (turns (visible c.args.before.now) (visible c.args.after.now) (values_left (option_map (λ v. val_of v.now) c.args.self.now.last) c.args.self.now.rows))
          (option_map (λ v. val_of v.now) c.loop-row.self.last) c.loop-row.self.rows c.next.new.self c.in-Some.row (val_of c.value-value.result.now) c.is_same.result c.has.result c.has-came.result c.loop-row.invariant.0 c.in-Some.ensures.some c.value-value.ensures c.is_same.ensures c.if-is_same.false c.has.ensures c.has-came.ensures same,
      sized-rest c.loop-row.self.rows c.next.new.self c.in-Some.row c.in-Some.ensures.some c.loop-row.invariant.1,
    )
