use Rattle.std.proofs.Common.{◌∙◌}
use Rattle.lasp_dots.proofs.PartLaws.{on_ok}
use Rattle.lasp_dots.specs.Places.{is_below}
use Rattle.lasp_dots.proofs.PlaceLaws.{down-below, parted, insert-put}
use Rattle.lasp_dots.proofs.changes.put_in.Goals as goal

pub put-requires : goal.put-requires
put-requires c = parted (is_below c.args.dot.0) (down-below c.args.dot.0) c.args.dots.now c.requires.ascends

pub returns-clause-ok : goal.returns-clause-ok
returns-clause-ok c = on_ok c.put.result (λ e. e ∙ insert-put c.args.dot c.args.dots.now c.requires.ascends c.requires.fresh) c.put.ensures.ok
