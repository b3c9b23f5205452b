use Rattle.lasp_value.specs.Value.{val_of}
use Rattle.lasp_core.proofs.LackLaws.{none-of}
use Rattle.lasp_core.proofs.news.spares_value.Goals as goal

pub returns-then-place-len : goal.returns-then-place-len
returns-then-place-len c none = record {
  value = val_of c.at.result.now;
  at = c.at.ensures;
  spared = none-of c.has_any.result (val_of c.at.result.now) c.args.rows.now c.has_any.ensures none;
}
