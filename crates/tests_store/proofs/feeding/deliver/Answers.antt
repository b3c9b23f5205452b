use Rattle.std.proofs.Common.{refl}
use Rattle.std.specs.Arc.{arc_value}
use Rattle.model_journal.specs.Entry as model
use Rattle.model_journal.specs.Entry.{entry}
use Rattle.tests_store.proofs.Passes.{feed-done}
use Rattle.tests_store.proofs.feeding.deliver.Goals as goal

pub returns : goal.returns
returns g c =
    feed-done c.args.store.now (arc_value c.args.graph.now) (entry 0 (model.Deliver c.args.number (arc_value c.args.message.now))) c.args.f.now c.deliver-delivered.new.f c.deliver-delivered.result
    (record { own = c.known.ensures.own; allowed = c.known.ensures.allowed }) (record { own = c.known-2.ensures.own; allowed = c.known-2.ensures.allowed }) refl c.requires c.deliver-delivered.ensures.ok c.deliver-delivered.ensures.err
