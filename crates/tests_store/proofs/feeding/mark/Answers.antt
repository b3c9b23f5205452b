use Rattle.std.proofs.Common.{◌<◌, List, [], length, IsTrue, refl, sym, subst}
use Rattle.std.specs.Arc.{arc_value}
use Rattle.model_graph.specs.Graph.{Decl, is_source, kind_at}
use Rattle.tests_store.proofs.Passes.{feed-same}
use Rattle.tests_store.proofs.feeding.mark.Goals as goal

pub mark-marked-requires-clause-var : goal.mark-marked-requires-clause-var
mark-marked-requires-clause-var g c = subst (λ (ds : List Decl). c.args.var < length ds) (sym c.requires.feed.graph) c.requires.var

pub mark-marked-requires-clause-source : goal.mark-marked-requires-clause-source
mark-marked-requires-clause-source g c = subst (λ (ds : List Decl). IsTrue (is_source (kind_at ds c.args.var))) (sym c.requires.feed.graph) c.requires.source

pub returns : goal.returns
returns g c =
    feed-same c.args.store.now (arc_value c.args.graph.now) [] c.args.f.now c.mark-marked.new.f
    (record { own = c.known.ensures.own; allowed = c.known.ensures.allowed }) (record { own = c.known-2.ensures.own; allowed = c.known-2.ensures.allowed }) refl c.requires.feed
    c.mark-marked.ensures.turn
