use Rattle.std.specs.Arc.{arc_value}
use Rattle.lasp_store.proofs.BringLaws.{begun-brings}
use Rattle.lasp_store.proofs.store.Store.deliver_part.Goals as goal

pub end_deliver-requires-clause-part : goal.end_deliver-requires-clause-part
end_deliver-requires-clause-part g c =
    begun-brings c.args.self.now c.args.f.now c.begin-core.new.h c.begin-core.result.value (arc_value c.args.m.now) c.args.part.now
    (record { own = c.known.ensures.own; allowed = c.known.ensures.allowed }) (record { own = c.known-2.ensures.own; allowed = c.known-2.ensures.allowed }) c.requires.first c.begin-core.ensures c.requires.part
