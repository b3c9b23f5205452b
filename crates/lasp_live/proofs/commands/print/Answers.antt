use Rattle.std.proofs.Common.{◌<◌, length, sym, subst, ◌∙◌}
use Rattle.std.specs.Arc.{arc_value}
use Rattle.model_journal.specs.Entry.{Frame}
use Rattle.model_journal.specs.Journal.{graph}
use Rattle.lasp_live.specs.Own.{total_in}
use Rattle.lasp_live.specs.Steady.{setting}
use Rattle.lasp_live.proofs.LearnLaws.{done-printed, opened-var}
use Rattle.lasp_live.proofs.RefusalLaws.{small-known}
use Rattle.lasp_live.proofs.commands.print.Goals as goal

pub settle-requires : goal.settle-requires
settle-requires g c = record {
  small = small-known (arc_value c.args.graph.now) (arc_value c.args.script.now) c.args.me c.args.log.now.own.updates (total_in c.args.log.now.own) (g.F.Feeder.frame c.args.f.now) (g.F.Feeder.seen c.args.f.now) c.requires.frame
      c.requires.may.small c.requires.at.hears.knows;
}

pub look-requires : goal.look-requires
look-requires g c =
    let low = subst (λ (X : Frame). c.args.x < length X.opening) (sym c.requires.frame) c.requires.var in
    record {
      var = subst (λ (X : Frame). c.args.x < length (graph X (g.F.Feeder.seen c.settle.new.f))) (sym c.settle.ensures.frame)
          (opened-var (g.F.Feeder.frame c.args.f.now) (g.F.Feeder.seen c.args.f.now) (g.F.Feeder.seen c.settle.new.f) c.args.x c.requires.at.hears.knows.undeclared c.in_ok-settle.ensures.settled.0 low);
    }

pub returns-clause-done : goal.returns-clause-done
returns-clause-done g c =
    let looked = c.look.ensures.frame ∙ c.settle.ensures.frame ∙ c.requires.frame in
    done-printed c.note.result (setting (arc_value c.args.graph.now) (arc_value c.args.script.now) c.args.me) c.args.i
    (g.F.Feeder.frame c.args.f.now) (g.F.Feeder.frame c.look.new.self) (g.F.Feeder.frame c.length-place.new.self)
    (g.F.Feeder.seen c.args.f.now) (g.F.Feeder.seen c.settle.new.f) (g.F.Feeder.seen c.look.new.self) (g.F.Feeder.seen c.length-place.new.self)
    c.args.log.now c.args.outs.now c.args.ins.now c.args.x c.in_ok-state.state c.length-place.result c.note.new.self
    c.requires.frame looked (c.length-place.ensures.frame ∙ looked) c.requires.at c.requires.var c.requires.step c.in_ok-settle.ensures.settled.0 c.in_ok-settle.ensures.settled.1 c.look.ensures.learns c.in_ok-state.ensures.state
    c.length-place.ensures.learns c.length-place.ensures.length c.recall.ensures.legal c.recall.ensures.made c.note.ensures.ok c.note.ensures.failed
