use Rattle.std.proofs.Common.{◌≡◌, ◌≤◌, ◌∙◌, sym, subst, length}
use Rattle.std.specs.Arc.{arc_value}
use Rattle.model_journal.specs.Journal.{graph}
use Rattle.lasp_store.specs.Shelves.{IsVersionAt}
use Rattle.lasp_store.proofs.ShelfLaws.{is-version}
use Rattle.lasp_store.proofs.shelves.version_of.Goals as goal

pub returns : goal.returns
returns c =
    let X = c.args.core.now.frame in
    let entries = c.args.core.now.entries in
    let same : arc_value c.in_ok-new.field-0 ≡ c.states.result.now = c.in_ok-new.ensures.ok ∙ c.in_ok-states.ensures in
    let few : length (graph X entries) ≤ 64 = subst (λ g. length g ≤ 64) (c.deref.ensures ∙ c.graph.ensures) c.recall-2.ensures.few in
    subst (IsVersionAt X entries) (sym c.new-2.ensures)
    (is-version X entries c.journal_len.result (arc_value c.in_ok-new.field-0) c.states.result.now same c.recall.ensures.core.legal c.journal_len.ensures.length c.states.ensures.contents c.states.ensures.kinds c.states.ensures.numbers few)
