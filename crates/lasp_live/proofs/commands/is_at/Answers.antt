use Rattle.std.proofs.Common.{◌≡◌, ◌<◌, IsTrue, length, sym, ap, subst, ◌∙◌}
use Rattle.std.specs.Arc.{arc_value}
use Rattle.model_journal.specs.Entry.{Frame}
use Rattle.model_journal.specs.Journal.{graph}
use Rattle.model_journal.specs.Legal.{IsLegal}
use Rattle.model_states.specs.Threshold.{meets, suits}
use Rattle.lasp_core.specs.Core.{state_after}
use Rattle.lasp_graph.specs.States.{held_of}
use Rattle.lasp_state.specs.State.{content_of, shape_of}
use Rattle.lasp_state.specs.Threshold.{threshold_of}
use Rattle.lasp_state.specs.declared.state.State.{State}
use Rattle.lasp_live.proofs.LearnLaws.{asked, learns-twice, opened-var, suited}
use Rattle.lasp_live.proofs.commands.is_at.Goals as goal

pub look-requires : goal.look-requires
look-requires g c = record {
  var = subst (λ (X : Frame). c.args.x < length (graph X (g.F.Feeder.seen c.settle.new.f))) (sym c.settle.ensures.frame)
      (opened-var (g.F.Feeder.frame c.args.f.now) (g.F.Feeder.seen c.args.f.now) (g.F.Feeder.seen c.settle.new.f) c.args.x c.requires.undeclared c.in_ok-settle.ensures.settled.0 c.requires.var);
}

pub meets-requires : goal.meets-requires
meets-requires g c =
    let same = c.look.ensures.frame ∙ c.settle.ensures.frame in
    let held = subst (λ (X : Frame). held_of (arc_value c.in_ok-state.state) ≡ state_after X (g.F.Feeder.seen c.look.new.self) c.args.x) same c.in_ok-state.ensures.state in
    subst (λ (s : State). IsTrue (suits (threshold_of c.args.threshold.now) (shape_of s))) (sym c.deref.ensures)
    (suited (g.F.Feeder.frame c.args.f.now) (threshold_of c.args.threshold.now) c.args.x (g.F.Feeder.seen c.args.f.now) (g.F.Feeder.seen c.settle.new.f) (g.F.Feeder.seen c.look.new.self) c.in_ok-state.state
    c.requires.undeclared c.in_ok-settle.ensures.settled.0 c.look.ensures.learns c.requires.suits held)

pub returns-clause-met : goal.returns-clause-met
returns-clause-met g c =
    let same = c.look.ensures.frame ∙ c.settle.ensures.frame in
    let held = subst (λ (X : Frame). held_of (arc_value c.in_ok-state.state) ≡ state_after X (g.F.Feeder.seen c.look.new.self) c.args.x) same c.in_ok-state.ensures.state in
    let legal = subst (λ (X : Frame). IsLegal X (g.F.Feeder.seen c.look.new.self)) same c.recall.ensures.legal in (
      learns-twice (g.F.Feeder.seen c.args.f.now) (g.F.Feeder.seen c.settle.new.f) (g.F.Feeder.seen c.look.new.self) c.in_ok-settle.ensures.settled.0 c.look.ensures.learns,
      c.meets.ensures ∙ ap (λ (s : State). meets (threshold_of c.args.threshold.now) (content_of s)) c.deref.ensures
          ∙ asked (g.F.Feeder.frame c.args.f.now) (threshold_of c.args.threshold.now) c.args.x (g.F.Feeder.seen c.args.f.now) (g.F.Feeder.seen c.settle.new.f) (g.F.Feeder.seen c.look.new.self) c.in_ok-state.state
          c.requires.undeclared c.in_ok-settle.ensures.settled.1 c.in_ok-settle.ensures.settled.0 c.look.ensures.learns legal c.requires.var held,
    )
