use Rattle.std.proofs.Common.{ℕ, List, [], IsTrue, sym, ap, subst, ◌∙◌}
use Rattle.model_states.specs.Threshold.{Shape, suits}
use Rattle.model_journal.specs.Entry.{Entry, Frame}
use Rattle.lasp_graph.specs.States.{Held}
use Rattle.lasp_core.specs.Core.{IsOpen, state_after}
use Rattle.lasp_core.specs.Reads.{read_of}
use Rattle.lasp_store.specs.Turn.{frame_of}
use Rattle.lasp_store.proofs.TurnLaws.{turn-at}
use Rattle.lasp_store.proofs.store.Store.try_poll_read.Goals as goal

pub reached-requires : goal.reached-requires
reached-requires c =
    let h = c.args.h.now in
    let new = c.try_look.new.h in
    let may : IsOpen (frame_of new) new.seen (read_of c.args.r.now) =
    turn-at (λ (X : Frame) (L : List Entry). IsOpen X L (read_of c.args.r.now)) [] h new c.in-Ok.ensures.ok.turn (λ more. c.reads_stay_open.ensures (frame_of h) h.seen more (read_of c.args.r.now) c.requires.open) in
    subst (λ (s : Shape). IsTrue (suits (read_of c.args.r.now).threshold s))
    (sym (ap (λ (k : Held). k.shape) (c.in-Ok.ensures.state ∙ ap (λ (x : ℕ). state_after (frame_of new) new.seen x) c.var.ensures))) may.suits_it
