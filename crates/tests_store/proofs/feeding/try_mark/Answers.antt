use Rattle.std.proofs.Common.{◌<◌, List, [], length, IsTrue, refl, sym, subst}
use Rattle.std.specs.Arc.{arc_value}
use Rattle.model_graph.specs.Graph.{Decl, is_source, kind_at}
use Rattle.tests_store.proofs.Passes.{feed-tried}
use Rattle.tests_store.proofs.feeding.try_mark.Goals as goal

pub try_mark-marked-requires-clause-var : goal.try_mark-marked-requires-clause-var
try_mark-marked-requires-clause-var c = subst (λ (ds : List Decl). c.args.var < length ds) (sym c.requires.feed.graph) c.requires.var

pub try_mark-marked-requires-clause-source : goal.try_mark-marked-requires-clause-source
try_mark-marked-requires-clause-source c = subst (λ (ds : List Decl). IsTrue (is_source (kind_at ds c.args.var))) (sym c.requires.feed.graph) c.requires.source

pub returns : goal.returns
returns c =
    feed-tried c.args.store.now (arc_value c.args.graph.now) [] c.args.f.now c.try_mark-marked.new.f c.try_mark-marked.result
    (record { own = c.known.ensures.own; allowed = c.known.ensures.allowed }) (record { own = c.known-2.ensures.own; allowed = c.known-2.ensures.allowed }) refl c.requires.feed
    c.try_mark-marked.ensures.busy c.try_mark-marked.ensures.ok c.try_mark-marked.ensures.refused
