use Rattle.std.proofs.Common.{◌≡◌, ◌+◌, Bool, true, List, length, sym, ap, subst, ◌∙◌, arith}
use Rattle.std.specs.Arc.{arc_value}
use Rattle.model_journal.specs.Entry.{Entry, Frame}
use Rattle.model_journal.specs.Legal.{IsLegal}
use Rattle.model_live.specs.Story.{shown_after}
use Rattle.model_states.specs.Threshold.{meets}
use Rattle.lasp_script.specs.Command.{until_of}
use Rattle.lasp_state.specs.Threshold.{threshold_of}
use Rattle.lasp_live.specs.Fed.{Setting, Hears, IsAt, has_ended}
use Rattle.lasp_live.specs.Own.{total_in}
use Rattle.lasp_live.specs.Steady.{setting}
use Rattle.lasp_live.proofs.AtLaws.{at-hears, at-learned, at-met, at-unmet}
use Rattle.lasp_live.proofs.FeedLaws.{may-heard}
use Rattle.lasp_live.proofs.RefusalLaws.{small-known}
use Rattle.lasp_live.proofs.commands.wait.Goals as goal
use Rattle.lasp_live.proofs.commands.wait.Goals.{then-is_new+in_ok-is_at+else-branch+else-have_all_ended, else-is_new}

pub is_at-requires-clause-small : goal.is_at-requires-clause-small
is_at-requires-clause-small g c =
    small-known (arc_value c.args.graph.now) (arc_value c.args.script.now) c.args.me c.loop.log.own.updates (total_in c.loop.log.own) (g.F.Feeder.frame c.loop.f) (g.F.Feeder.seen c.loop.f) (c.loop.invariant.frame ∙ c.requires.frame)
    c.loop.invariant.may.small c.loop.invariant.at.hears.knows

pub returns-then-branch-clause-waited : goal.returns-then-branch-clause-waited
returns-then-branch-clause-waited g c =
    let s : Setting = setting (arc_value c.args.graph.now) (arc_value c.args.script.now) c.args.me in
    let new = g.F.Feeder.seen c.is_at.new.f in
    let same = c.loop.invariant.frame ∙ c.requires.frame in
    let met = c.in_ok-is_at.ensures.met in
    let asked = subst (λ (X : Frame). c.in_ok-is_at.field-0 ≡ meets (threshold_of c.args.threshold.now) (shown_after X new (length new) c.args.x)) same met.1 in
    let legal = subst (λ (X : Frame). IsLegal X new) (c.is_at.ensures.frame ∙ same) c.in_ok-is_at.ensures.legal in
    at-met s c.args.i (c.args.i + 1) c.args.x (until_of c.args.until.now) (threshold_of c.args.threshold.now) c.in_ok-is_at.field-0 (g.F.Feeder.seen c.loop.f) new c.loop.log c.args.outs.now c.loop.ins.items
    c.loop.invariant.at met.0 legal c.in_ok-is_at.ensures.made c.requires.step c.requires.threshold asked c.if-branch.true

pub returns-then-have_all_ended-clause-waited : goal.returns-then-have_all_ended-clause-waited
returns-then-have_all_ended-clause-waited g c =
    let s : Setting = setting (arc_value c.args.graph.now) (arc_value c.args.script.now) c.args.me in
    let new = g.F.Feeder.seen c.is_at.new.f in
    let same = c.loop.invariant.frame ∙ c.requires.frame in
    let met = c.in_ok-is_at.ensures.met in
    let asked = subst (λ (X : Frame). c.in_ok-is_at.field-0 ≡ meets (threshold_of c.args.threshold.now) (shown_after X new (length new) c.args.x)) same met.1 in
    let legal = subst (λ (X : Frame). IsLegal X new) (c.is_at.ensures.frame ∙ same) c.in_ok-is_at.ensures.legal in (
      at-learned s c.args.i (g.F.Feeder.seen c.loop.f) new c.loop.log c.args.outs.now c.loop.ins.items c.loop.invariant.at met.0 legal c.in_ok-is_at.ensures.made,
      at-unmet s c.args.x (until_of c.args.until.now) (threshold_of c.args.threshold.now) c.in_ok-is_at.field-0 new c.requires.threshold asked c.if-branch.false,
      λ q low. subst (λ (l : List Bool). has_ended l q ≡ true) c.deref.ensures.value
          (c.have_all_ended.ensures.all c.if-have_all_ended.true q (omega (arith, low, ap (λ (l : List Bool). length l) c.deref.ensures.value, c.loop.invariant.at.hears.many))),
    )

pub take_round-requires-clause-hears : goal.take_round-requires-clause-hears
take_round-requires-clause-hears g c =
    let s : Setting = setting (arc_value c.args.graph.now) (arc_value c.args.script.now) c.args.me in
    elim c.if-is_new.branch [
      | then-is_new+in_ok-is_at+else-branch+else-have_all_ended w ↦
          let new = g.F.Feeder.seen w.is_at.new.f in
          let legal = subst (λ (X : Frame). IsLegal X new) (w.is_at.ensures.frame ∙ c.loop.invariant.frame ∙ c.requires.frame) w.in_ok-is_at.ensures.legal in
          subst (λ (h : List Entry). Hears s h c.loop.log.own c.loop.log.ended.items c.loop.ins.items) (ap g.F.Feeder.seen (sym w.f-is))
          (at-learned s c.args.i (g.F.Feeder.seen c.loop.f) new c.loop.log c.args.outs.now c.loop.ins.items c.loop.invariant.at w.in_ok-is_at.ensures.met.0 legal w.in_ok-is_at.ensures.made).hears
      | else-is_new w ↦ subst (λ (h : List Entry). Hears s h c.loop.log.own c.loop.log.ended.items c.loop.ins.items) (ap g.F.Feeder.seen (sym w.f-is)) c.loop.invariant.at.hears
    ]

-- something came
pub loop-preserved-in-Ok-true : goal.loop-preserved-in-Ok-true
loop-preserved-in-Ok-true g c =
    let s : Setting = setting (arc_value c.args.graph.now) (arc_value c.args.script.now) c.args.me in
    let place : g.F.Feeder.place c.if-is_new.f ≡ g.F.Feeder.place c.args.f.now = elim c.if-is_new.branch [
      | then-is_new+in_ok-is_at+else-branch+else-have_all_ended w ↦ ap g.F.Feeder.place w.f-is ∙ w.is_at.ensures.place ∙ c.loop.invariant.place
      | else-is_new w ↦ ap g.F.Feeder.place w.f-is ∙ c.loop.invariant.place
    ] in
    let frame : g.F.Feeder.frame c.if-is_new.f ≡ g.F.Feeder.frame c.args.f.now = elim c.if-is_new.branch [
      | then-is_new+in_ok-is_at+else-branch+else-have_all_ended w ↦ ap g.F.Feeder.frame w.f-is ∙ w.is_at.ensures.frame ∙ c.loop.invariant.frame
      | else-is_new w ↦ ap g.F.Feeder.frame w.f-is ∙ c.loop.invariant.frame
    ] in
    let at : IsAt s c.args.i (g.F.Feeder.seen c.if-is_new.f) c.loop.log c.args.outs.now c.loop.ins.items = elim c.if-is_new.branch [
      | then-is_new+in_ok-is_at+else-branch+else-have_all_ended w ↦
          let new = g.F.Feeder.seen w.is_at.new.f in
          let legal = subst (λ (X : Frame). IsLegal X new) (w.is_at.ensures.frame ∙ c.loop.invariant.frame ∙ c.requires.frame) w.in_ok-is_at.ensures.legal in
          subst (λ (h : List Entry). IsAt s c.args.i h c.loop.log c.args.outs.now c.loop.ins.items) (ap g.F.Feeder.seen (sym w.f-is))
          (at-learned s c.args.i (g.F.Feeder.seen c.loop.f) new c.loop.log c.args.outs.now c.loop.ins.items c.loop.invariant.at w.in_ok-is_at.ensures.met.0 legal w.in_ok-is_at.ensures.made)
      | else-is_new w ↦ subst (λ (h : List Entry). IsAt s c.args.i h c.loop.log c.args.outs.now c.loop.ins.items) (ap g.F.Feeder.seen (sym w.f-is)) c.loop.invariant.at
    ] in
    record {
      place = c.take_round.ensures.place ∙ place;
      frame = c.take_round.ensures.frame ∙ frame;
      may = may-heard s c.args.boxes.now c.args.outs.now c.loop.ins.items c.take_round.new.ins.items c.loop.invariant.may c.take_round.ensures.may;
      at = at-hears s c.args.i (g.F.Feeder.seen c.if-is_new.f) (g.F.Feeder.seen c.take_round.new.f) c.loop.log c.take_round.new.ended c.args.outs.now c.loop.ins.items c.take_round.new.ins.items at c.in-Ok-true.ensures.more c.in-Ok-true.ensures.hears;
    }

-- nothing came
pub loop-preserved : goal.loop-preserved
loop-preserved g c =
    let s : Setting = setting (arc_value c.args.graph.now) (arc_value c.args.script.now) c.args.me in
    let place : g.F.Feeder.place c.if-is_new.f ≡ g.F.Feeder.place c.args.f.now = elim c.if-is_new.branch [
      | then-is_new+in_ok-is_at+else-branch+else-have_all_ended w ↦ ap g.F.Feeder.place w.f-is ∙ w.is_at.ensures.place ∙ c.loop.invariant.place
      | else-is_new w ↦ ap g.F.Feeder.place w.f-is ∙ c.loop.invariant.place
    ] in
    let frame : g.F.Feeder.frame c.if-is_new.f ≡ g.F.Feeder.frame c.args.f.now = elim c.if-is_new.branch [
      | then-is_new+in_ok-is_at+else-branch+else-have_all_ended w ↦ ap g.F.Feeder.frame w.f-is ∙ w.is_at.ensures.frame ∙ c.loop.invariant.frame
      | else-is_new w ↦ ap g.F.Feeder.frame w.f-is ∙ c.loop.invariant.frame
    ] in
    let at : IsAt s c.args.i (g.F.Feeder.seen c.if-is_new.f) c.loop.log c.args.outs.now c.loop.ins.items = elim c.if-is_new.branch [
      | then-is_new+in_ok-is_at+else-branch+else-have_all_ended w ↦
          let new = g.F.Feeder.seen w.is_at.new.f in
          let legal = subst (λ (X : Frame). IsLegal X new) (w.is_at.ensures.frame ∙ c.loop.invariant.frame ∙ c.requires.frame) w.in_ok-is_at.ensures.legal in
          subst (λ (h : List Entry). IsAt s c.args.i h c.loop.log c.args.outs.now c.loop.ins.items) (ap g.F.Feeder.seen (sym w.f-is))
          (at-learned s c.args.i (g.F.Feeder.seen c.loop.f) new c.loop.log c.args.outs.now c.loop.ins.items c.loop.invariant.at w.in_ok-is_at.ensures.met.0 legal w.in_ok-is_at.ensures.made)
      | else-is_new w ↦ subst (λ (h : List Entry). IsAt s c.args.i h c.loop.log c.args.outs.now c.loop.ins.items) (ap g.F.Feeder.seen (sym w.f-is)) c.loop.invariant.at
    ] in
    record {
      place = c.take_round.ensures.place ∙ place;
      frame = c.take_round.ensures.frame ∙ frame;
      may = may-heard s c.args.boxes.now c.args.outs.now c.loop.ins.items c.take_round.new.ins.items c.loop.invariant.may c.take_round.ensures.may;
      at = at-hears s c.args.i (g.F.Feeder.seen c.if-is_new.f) (g.F.Feeder.seen c.take_round.new.f) c.loop.log c.take_round.new.ended c.args.outs.now c.loop.ins.items c.take_round.new.ins.items at c.in-Ok-false.ensures.more c.in-Ok-false.ensures.hears;
    }
