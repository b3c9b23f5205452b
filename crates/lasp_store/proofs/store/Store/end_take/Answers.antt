use Rattle.std.proofs.Common.{subst}
use Rattle.model_core.specs.Core.{Core, IsCore}
use Rattle.lasp_store.specs.Turn.{IsStill}
use Rattle.lasp_store.proofs.TurnLaws.{in-turn, still-take, may-still}
use Rattle.lasp_store.proofs.store.Store.end_take.Goals as goal

pub end-requires : goal.end-requires
end-requires c =
    let d = c.take-taken.new.self in
    let still : IsStill c.deref_mut.result.now d = still-take c.deref_mut.result.now d c.take-taken.result c.take-taken.ensures.same c.take-taken.ensures.taken c.take-taken.ensures.err in
    may-still c.args.self.now c.args.h.now c.deref_mut.result.now d (in-turn c.args.self.now c.args.h.now c.args.core.value c.deref_mut.result.now c.deref_mut.ensures.value c.requires.turn) (subst (λ (x : Core). IsCore x) c.deref-2.ensures c.recall-2.ensures.core) still.frame still.entries
