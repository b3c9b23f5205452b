use Rattle.std.proofs.Common.{[], refl}
use Rattle.std.specs.Arc.{arc_value}
use Rattle.tests_store.proofs.Passes.{feed-same}
use Rattle.tests_store.proofs.feeding.message.Goals as goal

pub returns : goal.returns
returns g c =
    feed-same c.args.store.now (arc_value c.args.graph.now) [] c.args.f.now c.message-made.new.f
    (record { own = c.known.ensures.own; allowed = c.known.ensures.allowed }) (record { own = c.known-2.ensures.own; allowed = c.known-2.ensures.allowed }) refl c.requires c.message-made.ensures.turn
