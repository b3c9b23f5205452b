use Rattle.std.proofs.Common.{◌≡◌, length, refl, ◌∙◌, arith}
use Rattle.std.specs.Arc.{arc_value}
use Rattle.std.specs.declared.alloc.AllocError.{AllocError}
use Rattle.lasp_live.specs.Steady.{setting}
use Rattle.lasp_live.proofs.FeedLaws.{passed-not, passed-on, played-all}
use Rattle.lasp_live.proofs.node.play.Goals as goal

pub loop-i-init : goal.loop-i-init
loop-i-init g c = record { within = omega arith; place = refl; frame = refl; may = c.requires.may; at = c.requires.at }

pub do_command-requires-clause-frame : goal.do_command-requires-clause-frame
do_command-requires-clause-frame g c = c.loop-i.invariant.frame ∙ c.requires.frame

pub do_command-requires-clause-command : goal.do_command-requires-clause-command
do_command-requires-clause-command g c =
    let many : c.len-i-end.result ≡ length (arc_value c.args.script.now).commands = cc in
    omega (arith, many, c.loop-i-test.true)

pub loop-i-preserved : goal.loop-i-preserved
loop-i-preserved g c =
    let s = setting (arc_value c.args.graph.now) (arc_value c.args.script.now) c.args.me in
    let many : c.len-i-end.result ≡ length (arc_value c.args.script.now).commands = cc in
    record {
      within = omega (arith, many, c.loop-i-test.true);
      place = c.do_command.ensures.place ∙ c.loop-i.invariant.place;
      frame = c.do_command.ensures.frame ∙ c.loop-i.invariant.frame;
      may = c.do_command.ensures.may;
      at = passed-on AllocError s c.loop-i.i c.in_ok-passed.passed (g.F.Feeder.seen c.do_command.new.f) c.do_command.new.log c.do_command.new.outs.items c.do_command.new.ins.items c.if-not-passed.false c.in_ok-passed.ensures.passed;
    }

pub returns-in_err-passed-clause-place : goal.returns-in_err-passed-clause-place
returns-in_err-passed-clause-place g c = c.do_command.ensures.place ∙ c.loop-i.invariant.place

pub returns-in_err-passed-clause-frame : goal.returns-in_err-passed-clause-frame
returns-in_err-passed-clause-frame g c = c.do_command.ensures.frame ∙ c.loop-i.invariant.frame

pub returns-then-not-passed-clause-place : goal.returns-then-not-passed-clause-place
returns-then-not-passed-clause-place g c = c.do_command.ensures.place ∙ c.loop-i.invariant.place

pub returns-then-not-passed-clause-frame : goal.returns-then-not-passed-clause-frame
returns-then-not-passed-clause-frame g c = c.do_command.ensures.frame ∙ c.loop-i.invariant.frame

pub returns-then-not-passed-clause-played : goal.returns-then-not-passed-clause-played
returns-then-not-passed-clause-played g c =
    let s = setting (arc_value c.args.graph.now) (arc_value c.args.script.now) c.args.me in
    (c.loop-i.i, refl, passed-not AllocError s c.loop-i.i c.in_ok-passed.passed (g.F.Feeder.seen c.do_command.new.f) c.do_command.new.log c.do_command.new.outs.items c.do_command.new.ins.items c.if-not-passed.true c.in_ok-passed.ensures.passed)

pub returns-clause-played : goal.returns-clause-played
returns-clause-played g c =
    let s = setting (arc_value c.args.graph.now) (arc_value c.args.script.now) c.args.me in
    let many : c.len-i-end.result ≡ length (arc_value c.args.script.now).commands = cc in
    played-all s c.loop-i.i (g.F.Feeder.seen c.loop-i.f) c.loop-i.log c.loop-i.outs.items c.loop-i.ins.items (omega (arith, many, c.loop-i-test.false, c.loop-i.invariant.within)) c.loop-i.invariant.at
