use Rattle.std.proofs.Common.{List, sym, subst}
use Rattle.model_graph.specs.Graph.{Decl}
use Rattle.model_readings.specs.Lawful.{FitsAll}
use Rattle.lasp_graph.specs.Library.{library_of}
use Rattle.std.specs.Arc.{arc_value}
use Rattle.tests_store.proofs.Passes.{feed-settled}
use Rattle.tests_store.proofs.feeding.settle_all.Goals as goal

pub settle_all-requires-clause-fits : goal.settle_all-requires-clause-fits
settle_all-requires-clause-fits g c = subst (λ (ds : List Decl). FitsAll (library_of c.args.lib.now) ds) (sym c.requires.feed.graph) c.requires.fits

pub returns : goal.returns
returns g c = feed-settled c.args.store.now (arc_value c.args.graph.now) c.args.f.now c.settle_all.new.f c.settle_all.ensures.pass c.settle_all.ensures.seated c.settle_all.ensures.graph c.requires.feed
