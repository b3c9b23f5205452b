use Rattle.std.proofs.Common.{ap, ◌∙◌}
use Rattle.std.specs.Ordering.{is_eq}
use Rattle.lasp_dots.specs.Places.{is_below}
use Rattle.lasp_dots.proofs.PlaceLaws.{down-below, parted, holds-found, holds-none}
use Rattle.lasp_dots.proofs.search.holds.Goals as goal

pub behind-requires : goal.behind-requires
behind-requires c = parted (is_below c.args.dot.now.0) (down-below c.args.dot.now.0) c.args.dots.now c.requires

pub returns-in-Some : goal.returns-in-Some
returns-in-Some c = c.is_eq.ensures ∙ ap is_eq c.compare.ensures ∙ holds-found c.args.dot.now.0 c.args.dots.now c.in-Some.found.now c.requires c.in-Some.ensures.some

pub returns-in-None : goal.returns-in-None
returns-in-None c = holds-none c.args.dot.now.0 c.args.dots.now c.requires c.in-None.ensures.none
