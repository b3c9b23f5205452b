-- Stores may cross threads and be shared; the hands of a store, and a hand at its store, may cross them.
use denote.Ref.{NamedLft}
use denote.RattleType.{RattleType}
use denote.Struct.Declared.{shape}
use denote.Param.Send.{IsSend, IsSync, shr_send, plain_send, struct_send, recorded_send, view_send}
use Rattle.lasp_crossing.proofs.Values.{owned}
use Rattle.lasp_crossing.proofs.Cores.{Core-send}
use Rattle.lasp_histlock.proofs.lock.HistLock.TheSendSync as lock
use Rattle.lasp_histlock.proofs.pass.Pass.TheSendSync as pass
use Rattle.lasp_histlock.specs.contracts.pass.Pass as Pass
use Rattle.lasp_core.specs.contracts.kept.KeptEntry as KeptEntry
use Rattle.lasp_core.specs.contracts.kept.KeptFrame as KeptFrame
use Rattle.lasp_store.specs.contracts.kept.KeptCore as KeptCore
use Rattle.lasp_store.specs.contracts.kept.KeptCoreKept.TheImpl as kept
use Rattle.lasp_store.specs.contracts.seated.Seated as Seated
use Rattle.lasp_store.specs.contracts.seated.Seated.TheInside as inside
use Rattle.lasp_store.specs.contracts.store.Store as Store

pub KeptCore-send : IsSend KeptCore.the_row
KeptCore-send = search (Core-send, owned) depth 40 fits 4000

pub Hand-send : IsSend (Pass.the_row KeptCore.the_row KeptEntry.the_row KeptFrame.the_row kept.ghosts)
Hand-send = pass.the_send KeptCore.the_row KeptEntry.the_row KeptFrame.the_row kept.ghosts KeptCore-send

pub Store-send : IsSend Store.the_row
Store-send = search (lock.the_send, KeptCore-send, owned) depth 40 fits 4000

pub Store-sync : IsSync Store.the_row
Store-sync = search (lock.the_sync, KeptCore-send, owned) depth 40 fits 4000

pub Seated-send : (a : NamedLft) (R : RattleType) → IsSync R → IsSend (Seated.the_row a R)
Seated-send a R s = view_send (inside.the_row a R) _ _ _ _ (recorded_send (inside.the_field a R).row _ _ (inside.the_type a R).to_one
    (struct_send (shape (inside.the_type a R)) (shr_send _ _ Store.the_row Store-sync, (Hand-send, (shr_send _ _ R s, (plain_send _ _ _ _ _, tt))))))
