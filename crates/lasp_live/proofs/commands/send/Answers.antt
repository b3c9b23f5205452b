use Rattle.std.proofs.Common.{sym, subst, ◌∙◌, ◌+◌, ◌*◌, arith}
use Rattle.std.specs.Arc.{arc_value}
use Rattle.model_journal.specs.Entry.{Frame}
use Rattle.model_journal.specs.Legal.{IsLegal}
use Rattle.model_live.specs.Steps.{Does, Sends}
use Rattle.lasp_live.specs.Steady.{setting}
use Rattle.lasp_live.proofs.AtLaws.{may-posted, put-many}
use Rattle.lasp_live.proofs.LearnLaws.{done-sent, letter-made, sent-few}
use Rattle.lasp_live.proofs.commands.send.Goals as goal

pub post-requires-clause-may : goal.post-requires-clause-may
post-requires-clause-may g c =
    let same = c.message.ensures.frame ∙ c.requires.frame in
    let legal = subst (λ (X : Frame). IsLegal X (g.F.Feeder.seen c.length-place.new.self)) (c.length-place.ensures.frame ∙ same) c.recall.ensures.legal in
    letter-made (setting (arc_value c.args.graph.now) (arc_value c.args.script.now) c.args.me) c.args.i (g.F.Feeder.seen c.args.f.now) (g.F.Feeder.seen c.message.new.self) (g.F.Feeder.seen c.length-place.new.self)
    c.args.log.now c.args.outs.now.items c.args.ins.now (g.F.Feeder.frame c.message.new.self) (arc_value c.in_ok-message-2.message) same c.requires.at c.message.ensures.learns c.length-place.ensures.learns legal c.recall.ensures.made
    (c.in_ok-message-2.ensures.ok ∙ c.in_ok-message.ensures.message)

pub post-requires-clause-plan : goal.post-requires-clause-plan
post-requires-clause-plan g c p o there = c.requires.may.ends.planned (c.args.me * (arc_value c.args.script.now).nodes + p) o.of (c.requires.may.ends.outs_of p o there)

pub post-requires-clause-number : goal.post-requires-clause-number
post-requires-clause-number g c p o there other =
    put-many (setting (arc_value c.args.graph.now) (arc_value c.args.script.now) c.args.me) c.args.i (g.F.Feeder.seen c.args.f.now) c.args.log.now c.args.outs.now.items c.args.ins.now c.requires.at p o there other
    ∙ sym c.requires.sent

pub post-requires-clause-small : goal.post-requires-clause-small
post-requires-clause-small g c =
    let few = sent-few (setting (arc_value c.args.graph.now) (arc_value c.args.script.now) c.args.me) c.args.i (g.F.Feeder.seen c.args.f.now) c.args.log.now c.args.outs.now.items c.args.ins.now (Does Sends) c.requires.may.limits c.requires.step c.requires.at in
    omega (arith, few, c.requires.sent)

pub returns-in_err-post-clause-may : goal.returns-in_err-post-clause-may
returns-in_err-post-clause-may g c =
    may-posted (setting (arc_value c.args.graph.now) (arc_value c.args.script.now) c.args.me) c.args.boxes.now c.args.outs.now.items c.post.new.outs.items c.args.ins.now c.requires.may c.post.ensures.of

pub overflow_add-log : goal.overflow_add-log
overflow_add-log g c =
    let few = sent-few (setting (arc_value c.args.graph.now) (arc_value c.args.script.now) c.args.me) c.args.i (g.F.Feeder.seen c.args.f.now) c.args.log.now c.args.outs.now.items c.args.ins.now (Does Sends) c.requires.may.limits c.requires.step c.requires.at in
    omega (arith, few, c.requires.sent)

pub returns-clause-may : goal.returns-clause-may
returns-clause-may g c =
    may-posted (setting (arc_value c.args.graph.now) (arc_value c.args.script.now) c.args.me) c.args.boxes.now c.args.outs.now.items c.post.new.outs.items c.args.ins.now c.requires.may c.post.ensures.of

pub returns-clause-done : goal.returns-clause-done
returns-clause-done g c =
    let same = c.message.ensures.frame ∙ c.requires.frame in
    done-sent c.note.result (setting (arc_value c.args.graph.now) (arc_value c.args.script.now) c.args.me) c.args.i (g.F.Feeder.frame c.message.new.self) (g.F.Feeder.frame c.length-place.new.self)
    (g.F.Feeder.seen c.args.f.now) (g.F.Feeder.seen c.message.new.self) (g.F.Feeder.seen c.length-place.new.self) c.args.log.now c.args.outs.now.items c.post.new.outs.items c.args.ins.now
    c.in_ok-message-2.message c.in_ok-kept.kept c.length-place.result c.args.sent c.note.new.self same (c.length-place.ensures.frame ∙ same) c.requires.at c.requires.step c.message.ensures.learns
    (c.in_ok-message-2.ensures.ok ∙ c.in_ok-message.ensures.message) c.length-place.ensures.learns c.length-place.ensures.length c.recall.ensures.legal c.recall.ensures.made c.in_ok-kept.ensures c.post.ensures.of c.in_ok-post.ensures.put
    c.requires.sent c.note.ensures.ok c.note.ensures.failed
