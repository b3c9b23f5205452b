use Rattle.std.proofs.Common.{◌∙◌}
use Rattle.lasp_value.specs.Value.{val_of}
use Rattle.lasp_dots.specs.Places.{is_before}
use Rattle.lasp_dots.proofs.PlaceLaws.{down-before, parted, value-found, value-none}
use Rattle.lasp_dots.proofs.search.has_value.Goals as goal

pub behind-requires : goal.behind-requires
behind-requires c = parted (is_before (val_of c.args.value.now)) (down-before (val_of c.args.value.now)) c.args.dots.now c.requires

pub returns-in-Some : goal.returns-in-Some
returns-in-Some c = c.is_of.ensures ∙ value-found (val_of c.args.value.now) c.args.dots.now c.in-Some.found.now c.requires c.in-Some.ensures.some

pub returns-in-None : goal.returns-in-None
returns-in-None c = value-none (val_of c.args.value.now) c.args.dots.now c.requires c.in-None.ensures.none
