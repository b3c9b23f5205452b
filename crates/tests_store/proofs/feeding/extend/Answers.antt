use Rattle.std.proofs.Common.{◌<◌, List, [], ◌∷◌, length, refl, sym, subst}
use Rattle.std.specs.Arc.{arc_value}
use Rattle.model_graph.specs.Graph.{Decl}
use Rattle.model_graph.specs.Lawful.{variable_limit}
use Rattle.model_readings.specs.Lawful.{IsNext}
use Rattle.model_journal.specs.Entry as model
use Rattle.model_journal.specs.Entry.{entry}
use Rattle.lasp_graph.specs.Decl.{decl_of}
use Rattle.lasp_store.proofs.TurnLaws.{on-ok, on-err}
use Rattle.tests_store.proofs.Passes.{feed-turn, feed-same}
use Rattle.tests_store.proofs.feeding.extend.Goals as goal

pub extend-extended-requires-clause-room : goal.extend-extended-requires-clause-room
extend-extended-requires-clause-room g c = subst (λ (ds : List Decl). length ds < variable_limit) (sym c.requires.feed.graph) c.requires.room

pub extend-extended-requires-clause-next : goal.extend-extended-requires-clause-next
extend-extended-requires-clause-next g c = subst (λ (ds : List Decl). IsNext ds (decl_of c.args.decl.now)) (sym c.requires.feed.graph) c.requires.next

pub returns-clause-ok : goal.returns-clause-ok
returns-clause-ok g c =
    on-ok c.extend-extended.result
    (feed-turn c.args.store.now (arc_value c.args.graph.now) c.args.longer.now (entry 0 (model.Extend (decl_of c.args.decl.now)) ∷ []) c.args.f.now c.extend-extended.new.f
    (record { own = c.known.ensures.own; allowed = c.known.ensures.allowed }) (record { own = c.known-2.ensures.own; allowed = c.known-2.ensures.allowed }) c.requires.longer c.requires.feed)
    c.extend-extended.ensures.ok

pub returns-clause-err : goal.returns-clause-err
returns-clause-err g c =
    on-err c.extend-extended.result
    (feed-same c.args.store.now (arc_value c.args.graph.now) [] c.args.f.now c.extend-extended.new.f
    (record { own = c.known.ensures.own; allowed = c.known.ensures.allowed }) (record { own = c.known-2.ensures.own; allowed = c.known-2.ensures.allowed }) refl c.requires.feed)
    c.extend-extended.ensures.err
