use Rattle.std.proofs.Common.{◌+◌, sym, subst, ◌∙◌, arith}
use Rattle.std.specs.Arc.{arc_value}
use Rattle.model_journal.specs.Entry.{Frame}
use Rattle.model_journal.specs.Legal.{IsLegal}
use Rattle.model_live.specs.Steps.{Does, Updates}
use Rattle.lasp_replica.specs.Replica.{IsSmall}
use Rattle.lasp_state.specs.State.{op_of}
use Rattle.lasp_live.specs.Did.{HasDone}
use Rattle.lasp_live.specs.Fed.{IsAt, Setting}
use Rattle.lasp_live.specs.Steady.{setting}
use Rattle.lasp_live.proofs.AtLaws.{at-updated, own-room, update-var}
use Rattle.lasp_live.proofs.CommandLaws.{command-may, small-op}
use Rattle.lasp_live.proofs.commands.update.Goals as goal
use Rattle.lasp_live.proofs.commands.update.Goals.{in-Ok, in-Err}

pub update-requires : goal.update-requires
update-requires g c = record {
  small = subst (λ (X : Frame). IsSmall X.nodes c.args.op.now) (sym c.requires.frame)
      (small-op (arc_value c.args.script.now).nodes c.args.op.now
      (command-may (arc_value c.args.graph.now) (arc_value c.args.script.now) c.args.me (c.args.i + 1) c.args.i c.requires.step.command (Does (Updates c.args.x (op_of c.args.op.now)))
      c.requires.may.lawful c.requires.may.live c.requires.step.at c.requires.step.step));
}

pub count-requires-clause-var : goal.count-requires-clause-var
count-requires-clause-var g c =
    let s : Setting = setting (arc_value c.args.graph.now) (arc_value c.args.script.now) c.args.me in
    let fed = c.in-Ok.ensures.answer in
    let legal = subst (λ (X : Frame). IsLegal X (g.F.Feeder.seen c.update.new.self)) (c.update.ensures.frame ∙ c.requires.frame) c.recall.ensures.legal in
    let low = update-var s c.args.i (g.F.Feeder.seen c.args.f.now) fed.0 (g.F.Feeder.seen c.update.new.self) c.args.log.now c.args.outs.now c.args.ins.now c.args.x (op_of c.args.op.now) c.requires.at fed.1 legal c.recall.ensures.made in
    omega (arith, low, c.requires.at.own.size)

pub count-requires-clause-few : goal.count-requires-clause-few
count-requires-clause-few g c =
    let s : Setting = setting (arc_value c.args.graph.now) (arc_value c.args.script.now) c.args.me in
    (own-room s c.args.i (g.F.Feeder.seen c.args.f.now) c.args.log.now c.args.outs.now c.args.ins.now (Does (Updates c.args.x (op_of c.args.op.now))) c.requires.may.limits c.requires.step c.requires.at).0

pub count-requires-clause-little : goal.count-requires-clause-little
count-requires-clause-little g c =
    let s : Setting = setting (arc_value c.args.graph.now) (arc_value c.args.script.now) c.args.me in
    (own-room s c.args.i (g.F.Feeder.seen c.args.f.now) c.args.log.now c.args.outs.now c.args.ins.now (Does (Updates c.args.x (op_of c.args.op.now))) c.requires.may.limits c.requires.step c.requires.at).1 c.args.x

pub returns-clause-done : goal.returns-clause-done
returns-clause-done g c =
    let s : Setting = setting (arc_value c.args.graph.now) (arc_value c.args.script.now) c.args.me in
    elim c.match-update.branch [
      | in-Ok w ↦
          let fed = w.in-Ok.ensures.answer in
          let legal = subst (λ (X : Frame). IsLegal X (g.F.Feeder.seen c.update.new.self)) (c.update.ensures.frame ∙ c.requires.frame) w.recall.ensures.legal in
          let done = at-updated s c.args.i (g.F.Feeder.seen c.args.f.now) fed.0 (g.F.Feeder.seen c.update.new.self) c.args.log.now w.count.new.self c.args.outs.now c.args.ins.now c.args.x (op_of c.args.op.now)
          c.requires.may.lawful c.requires.may.limits c.requires.may.member c.requires.at c.requires.step fed.1 legal w.recall.ensures.made w.count.ensures in
          subst (λ r. HasDone s c.args.i r (g.F.Feeder.seen c.update.new.self) c.match-update.log c.args.outs.now c.args.ins.now) (sym w.result-is)
          (subst (λ l. IsAt s (c.args.i + 1) (g.F.Feeder.seen c.update.new.self) l c.args.outs.now c.args.ins.now) (sym w.log-is) done)
      | in-Err w ↦ subst (λ r. HasDone s c.args.i r (g.F.Feeder.seen c.update.new.self) c.match-update.log c.args.outs.now c.args.ins.now) (sym w.result-is) tt
    ]
