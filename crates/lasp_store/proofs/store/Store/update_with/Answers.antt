use Rattle.lasp_state.specs.State.{op_of}
use Rattle.lasp_store.proofs.KnownLaws.{begun-idle}
use Rattle.lasp_store.proofs.store.Store.update_with.Goals as goal

pub end_update-requires-clause-known : goal.end_update-requires-clause-known
end_update-requires-clause-known g c is_known =
    begun-idle c.args.self.now c.args.f.now c.begin-core.new.h c.begin-core.result.value c.args.var (op_of c.args.op.now)
    (record { own = c.known.ensures.own; allowed = c.known.ensures.allowed }) (record { own = c.known-2.ensures.own; allowed = c.known-2.ensures.allowed }) c.requires.first c.begin-core.ensures (c.requires.source is_known) (c.requires.known is_known)
