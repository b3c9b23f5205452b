-- Spies may cross threads.
use denote.Struct.Declared.{shape}
use denote.Param.Send.{IsSend, IsSync, plain_send, struct_send, recorded_send, view_send}
use Rattle.left_right.proofs.reader.Reader.TheSendSync as reader
use Rattle.lasp_crossing.proofs.Values.{owned}
use Rattle.lasp_crossing.proofs.Graphs.{States-send, States-sync}
use Rattle.lasp_snap.proofs.front.Front.TheSendSync as front
use Rattle.lasp_snap.specs.contracts.shown.Shown as Shown
use Rattle.lasp_snap.specs.contracts.spy.Spy as Spy
use Rattle.lasp_snap.specs.contracts.spy.Spy.TheInside as inside
use Rattle.lasp_snap.specs.contracts.version.Version as Version

pub Version-send : IsSend Version.the_row
Version-send = search (States-send, States-sync, owned) depth 40 fits 4000

pub Version-sync : IsSync Version.the_row
Version-sync = search (States-send, States-sync, owned) depth 40 fits 4000

pub Shown-sync : IsSync (Shown.the_field).row
Shown-sync = search (Version-sync, front.the_sync, owned) depth 40 fits 4000

pub Spy-send : IsSend Spy.the_row
Spy-send = view_send inside.the_row _ _ _ _ (recorded_send (inside.the_field).row _ _ (inside.the_type).to_one
    (struct_send (shape inside.the_type) (search (reader.the_field_send, Shown-sync, owned) depth 40 fits 4000, (Version-send, (plain_send _ _ _ _ _, (front.the_send, (plain_send _ _ _ _ _, tt)))))))

pub ruleset spies = (Spy-send, Version-send, Version-sync)
