use Rattle.lasp_value.specs.Value.{val_of}
use Rattle.lasp_core.proofs.LackLaws.{set-lacks}
use Rattle.lasp_core.proofs.lacking.lacks_at.Goals as goal

pub returns-then-place-len : goal.returns-then-place-len
returns-then-place-len c lacking = record {
  value = val_of c.at.result.now;
  at = c.at.ensures;
  lacks = set-lacks c.has_row.result c.args.dead c.args.set.now (val_of c.at.result.now) c.has_row.ensures lacking;
}
