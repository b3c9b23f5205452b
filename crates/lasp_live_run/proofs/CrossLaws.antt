-- What a run of nodes hands to threads may cross them, and what its threads share may be shared.
use denote.Ref.{NamedLft}
use denote.RattleType.{RattleType}
use denote.Struct.Declared.{shape}
use denote.Param.Send.{IsSend, IsSync, shr_send, shr_sync, struct_send, struct_sync, recorded_send, recorded_sync, view_send}
use Rattle.std.proofs.alloc.Global.TheSendSync as heap
use Rattle.lasp_graph.proofs.graph.Graph.TheSendSync as graph
use Rattle.lasp_mail.proofs.ends.Inlet.TheSendSync as inlet
use Rattle.lasp_mail.proofs.ends.Outlet.TheSendSync as outlet
use Rattle.lasp_mail.proofs.mailbox.Mailbox.TheSendSync as mailbox
use Rattle.lasp_live.specs.contracts.diary.Diary as Diary
use Rattle.lasp_live.specs.contracts.diary.Note as Note
use Rattle.lasp_live.specs.contracts.diary.Noted as Noted
use Rattle.lasp_live.specs.contracts.mail.Letter as Letter
use Rattle.lasp_live.specs.contracts.mail.Mail as Mail
use Rattle.lasp_live_run.specs.declared.feeder.Settles.{Ghosts}
use Rattle.lasp_live_run.specs.contracts.feeder.StoreFeeder as StoreFeeder
use Rattle.lasp_live_run.specs.contracts.feeder.StoreFeeder.TheInside as inside
use Rattle.lasp_live_run.specs.contracts.seat.Office as Office
use Rattle.lasp_store.specs.contracts.store.Store as Store
use Rattle.lasp_crossing.proofs.Messages.{Message-send, Message-sync}
use Rattle.lasp_crossing.proofs.Scripts.{Script-send, Script-sync}
use Rattle.lasp_crossing.proofs.States.{State-send, State-sync}
use Rattle.lasp_crossing.proofs.Stores.{Hand-send, Store-sync}
use Rattle.lasp_crossing.proofs.Values.{owned}

-- ---- mail

pub Letter-send : IsSend Letter.the_row
Letter-send = search (Message-send, Message-sync, graph.the_send, graph.the_sync, Script-send, Script-sync, owned) depth 40 fits 4000

pub Letter-sync : IsSync Letter.the_row
Letter-sync = search (Message-send, Message-sync, graph.the_send, graph.the_sync, Script-send, Script-sync, owned) depth 40 fits 4000

pub Mail-send : IsSend (Mail.the_field).row
Mail-send = search (Letter-send, graph.the_send, graph.the_sync, Script-send, Script-sync, owned) depth 40 fits 4000

pub Mail-sync : IsSync (Mail.the_field).row
Mail-sync = search (Letter-sync, graph.the_send, graph.the_sync, Script-send, Script-sync, owned) depth 40 fits 4000

-- ---- diaries

pub Noted-send : IsSend (Noted.the_field).row
Noted-send = search (Message-send, Message-sync, State-send, State-sync, owned) depth 40 fits 4000

pub Note-send : IsSend (Note.the_field).row
Note-send = search (Noted-send, owned) depth 40 fits 4000

pub Diary-send : IsSend (Diary.the_field).row
Diary-send = search (Note-send, owned) depth 40 fits 4000

-- ---- feeders

pub Feeder-send : (a : NamedLft) (R T S : RattleType) (g : Ghosts S.Denot T.Denot) → IsSync R → IsSync T → IsSync S → IsSend (StoreFeeder.the_row a R T S g)
Feeder-send a R T S g r t s = view_send (inside.the_row a R T S g) _ _ _ _ (recorded_send (inside.the_field a R T S g).row _ _ (inside.the_type a R T S g).to_one
    (struct_send (shape (inside.the_type a R T S g)) (shr_send _ _ R r, (heap.the_field_send, (shr_send _ _ Store.the_row Store-sync, (Hand-send, (shr_send _ _ T t, (shr_send _ _ S s, tt))))))))

-- ---- offices

pub Office-fields : (a : NamedLft) (R : RattleType) → IsSync R → IsSync (Office.the_field a R).row
Office-fields a R r = struct_sync (shape (Office.the_type a R)) (
  shr_sync _ _ R r,
  (
    search owned depth 40 fits 4000,
    (
      search (graph.the_send, graph.the_sync, owned) depth 40 fits 4000,
      (
        search (Script-send, Script-sync, owned) depth 40 fits 4000,
        (search (mailbox.the_sync, Mail-send, owned) depth 40 fits 4000, (search owned depth 40 fits 4000, tt)),
      ),
    ),
  ),
)

pub Office-sync : (a : NamedLft) (R : RattleType) → IsSync R → IsSync (Office.the_row a R)
Office-sync a R r = recorded_sync (Office.the_field a R).row _ _ (Office.the_type a R).to_one (Office-fields a R r)

-- all of these, as one set for `search`
pub ruleset mails = (Letter-send, Letter-sync, Mail-send, Mail-sync, Diary-send, Feeder-send, Office-fields, Office-sync, outlet.the_send, inlet.the_send, mailbox.the_sync)
