use Rattle.std.proofs.Common.{List, []}
use Rattle.model_journal.specs.Entry.{Entry, Frame}
use Rattle.model_journal.specs.Journal.{val}
use Rattle.model_core.specs.Core.{Read}
use Rattle.model_core.specs.Known.{HasLeast}
use Rattle.lasp_state.specs.Threshold.{threshold_of}
use Rattle.lasp_core.specs.Core.{IsOpen}
use Rattle.lasp_store.specs.Turn.{frame_of}
use Rattle.lasp_store.proofs.KnownLaws.{least-later}
use Rattle.lasp_store.proofs.TurnLaws.{had_turn, begun-at, turn-at, read-open}
use Rattle.lasp_store.proofs.store.Store.open_read_with.Goals as goal

pub end_open-requires-clause-open : goal.end_open-requires-clause-open
end_open-requires-clause-open g c =
    let h = c.args.h.now in
    let r : Read = record { number = 0; var = c.args.var; threshold = threshold_of c.args.threshold } in
    begun-at (λ (X : Frame) (L : List Entry). IsOpen X L r) c.args.self.now h c.begin-core.new.h c.begin-core.result.value c.begin-core.ensures
    (λ more. c.reads_stay_open.ensures (frame_of h) h.seen more r c.requires.open)

pub end_open-requires-clause-known : goal.end_open-requires-clause-known
end_open-requires-clause-known g c is_known =
    let h = c.args.h.now in
    let t = threshold_of c.args.threshold in
    begun-at (λ (X : Frame) (L : List Entry). HasLeast t (val X L c.args.var)) c.args.self.now h c.begin-core.new.h c.begin-core.result.value c.begin-core.ensures
    (λ more. least-later (frame_of h) h.seen more c.args.var t (c.requires.known is_known))

pub returns-clause-open : goal.returns-clause-open
returns-clause-open g c =
    let h = c.args.h.now in
    let new = c.end_open.new.h in
    let r : Read = record { number = 0; var = c.args.var; threshold = threshold_of c.args.threshold } in
    read-open c.end_open.result (frame_of new) new.seen c.args.var (threshold_of c.args.threshold)
    (turn-at (λ (X : Frame) (L : List Entry). IsOpen X L r) [] h new
    (had_turn c.args.self.now h c.begin-core.new.h new c.begin-core.result.value [] c.begin-core.ensures c.end_open.ensures.turn)
    (λ more. c.reads_stay_open.ensures (frame_of h) h.seen more r c.requires.open))
    c.end_open.ensures.read
