use Rattle.std.proofs.Common.{refl}
use Rattle.std.specs.Arc.{arc_value}
use Rattle.model_journal.specs.Entry as model
use Rattle.model_journal.specs.Entry.{entry}
use Rattle.lasp_state.specs.State.{op_of}
use Rattle.tests_store.proofs.Passes.{feed-done}
use Rattle.lasp_store.specs.Turn.{frame_of}
use Rattle.tests_store.proofs.feeding.update.Goals as goal

pub returns : goal.returns
returns g c =
    feed-done c.args.store.now (arc_value c.args.graph.now) (entry 0 (model.Update c.args.var (op_of c.op-act.result))) c.args.f.now c.update-updated.new.f c.update-updated.result
    (record { own = c.known.ensures.own; allowed = c.known.ensures.allowed }) (record { own = c.known-2.ensures.own; allowed = c.known-2.ensures.allowed }) refl c.requires c.update-updated.ensures.ok c.update-updated.ensures.err

pub update-updated-requires-clause-small : goal.update-updated-requires-clause-small
update-updated-requires-clause-small g c = c.op-act.ensures (frame_of c.args.f.now).nodes
