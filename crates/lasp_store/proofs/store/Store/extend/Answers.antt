use Rattle.std.proofs.Common.{◌≡◌, ◌<◌, List, length, sym, subst}
use Rattle.model_graph.specs.Graph.{Decl}
use Rattle.model_graph.specs.Lawful.{variable_limit}
use Rattle.model_readings.specs.Lawful.{IsNext}
use Rattle.lasp_graph.specs.Decl.{decl_of}
use Rattle.lasp_store.specs.Turn.{graph_seen}
use Rattle.lasp_store.proofs.SettleLaws.{begun-graph}
use Rattle.lasp_store.proofs.store.Store.extend.Goals as goal

pub end_extend-requires-clause-room : goal.end_extend-requires-clause-room
end_extend-requires-clause-room g c =
    let same : graph_seen c.begin-core.new.h ≡ graph_seen c.args.f.now =
    begun-graph c.args.self.now c.args.f.now c.begin-core.new.h c.begin-core.result.value (record { own = c.known.ensures.own; allowed = c.known.ensures.allowed }) (record { own = c.known-2.ensures.own; allowed = c.known-2.ensures.allowed }) c.requires.first c.begin-core.ensures in
    subst (λ (ds : List Decl). length ds < variable_limit) (sym same) c.requires.room

pub end_extend-requires-clause-next : goal.end_extend-requires-clause-next
end_extend-requires-clause-next g c =
    let same : graph_seen c.begin-core.new.h ≡ graph_seen c.args.f.now =
    begun-graph c.args.self.now c.args.f.now c.begin-core.new.h c.begin-core.result.value (record { own = c.known.ensures.own; allowed = c.known.ensures.allowed }) (record { own = c.known-2.ensures.own; allowed = c.known-2.ensures.allowed }) c.requires.first c.begin-core.ensures in
    subst (λ (ds : List Decl). IsNext ds (decl_of c.args.d.now)) (sym same) c.requires.next
