use Rattle.std.specs.Arc.{arc_value}
use Rattle.lasp_drive.proofs.PlayLaws.{fits-so-far}
use Rattle.lasp_graph.specs.Library.{library_of}
use Rattle.lasp_top.proofs.live.run_live.Goals as goal

pub first_too_large-requires-clause-fits : goal.first_too_large-requires-clause-fits
first_too_large-requires-clause-fits g c = fits-so-far (library_of c.args.lib.now) (arc_value c.args.graph.now) c.args.script.commands c.requires.runnable.fits
