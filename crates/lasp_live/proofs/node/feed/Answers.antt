use Rattle.std.proofs.Common.{ℕ, ◌≡◌, ◌+◌, ◌*◌, List, refl, sym, ap, subst, ◌∙◌, arith}
use Rattle.std.specs.Prelude.{Some, slice_get}
use Rattle.std.specs.Arc.{arc_value}
use Rattle.std.specs.declared.alloc.AllocError.{AllocError}
use Rattle.model_graph.specs.Graph.{Decl}
use Rattle.model_journal.specs.Entry.{Frame}
use Rattle.model_journal.specs.Legal.{IsLegal}
use Rattle.model_world.specs.Command.{Script}
use Rattle.lasp_live.specs.Ends.{Out}
use Rattle.lasp_live.specs.Fed.{IsFresh}
use Rattle.lasp_live.specs.Steady.{setting}
use Rattle.lasp_live.proofs.AtLaws.{may-posted, put-many}
use Rattle.lasp_live.proofs.FeedLaws.{at-begins, fed-all, may-hear, may-heard, played-at}
use Rattle.lasp_live.proofs.node.feed.Goals as goal

pub play-requires-clause-at : goal.play-requires-clause-at
play-requires-clause-at g c =
    let s = setting (arc_value c.args.graph.now) (arc_value c.args.script.now) c.args.me in
    let nodes : c.nodes.result ≡ (arc_value c.args.script.now).nodes = c.nodes.ensures ∙ ap (λ (k : Script). k.nodes) c.deref-2.ensures in
    let fresh : IsFresh (arc_value c.args.graph.now) (arc_value c.args.script.now).nodes c.args.me c.in_ok-log.log =
    subst (λ (z : List Decl × ℕ). IsFresh z.0 z.1 c.args.me c.in_ok-log.log) (λ i. (c.deref.ensures i, nodes i)) c.in_ok-log.ensures in
    at-begins s (g.F.Feeder.seen c.args.f.now) c.in_ok-log.log c.args.outs.now.items c.args.ins.now.items
    (subst (λ (X : Frame). IsLegal X (g.F.Feeder.seen c.args.f.now)) c.requires.frame c.recall.ensures.legal) c.recall.ensures.made c.requires.fresh c.requires.may.member c.requires.may.ends.ins_many fresh c.requires.unused

pub post-requires-clause-few : goal.post-requires-clause-few
post-requires-clause-few g c = omega (arith, c.play.ensures.may.ends.outs_many, c.play.ensures.may.limits.nodes)

pub post-requires-clause-member : goal.post-requires-clause-member
post-requires-clause-member g c = omega (arith, c.play.ensures.may.ends.outs_many, c.play.ensures.may.member)

pub post-requires-clause-of : goal.post-requires-clause-of
post-requires-clause-of g c =
    subst (λ (n : ℕ). (p : ℕ) (o : Out) → slice_get c.play.new.outs.items p ≡ Some o → slice_get c.args.boxes.now (c.args.me * n + p) ≡ Some o.of) (sym c.play.ensures.may.ends.outs_many) c.play.ensures.may.ends.outs_of

pub post-requires-clause-plan : goal.post-requires-clause-plan
post-requires-clause-plan g c p o at = c.play.ensures.may.ends.planned (c.args.me * (arc_value c.args.script.now).nodes + p) o.of (c.play.ensures.may.ends.outs_of p o at)

pub post-requires-clause-number : goal.post-requires-clause-number
post-requires-clause-number g c =
    let s = setting (arc_value c.args.graph.now) (arc_value c.args.script.now) c.args.me in
    let at = played-at AllocError s c.in-Ok.failed (g.F.Feeder.seen c.play.new.f) c.play.new.log c.play.new.outs.items c.play.new.ins.items c.in-Ok.ensures.played in
    put-many s at.0 (g.F.Feeder.seen c.play.new.f) c.play.new.log c.play.new.outs.items c.play.new.ins.items at.2

pub post-requires-clause-small : goal.post-requires-clause-small
post-requires-clause-small g c =
    let s = setting (arc_value c.args.graph.now) (arc_value c.args.script.now) c.args.me in
    let at = played-at AllocError s c.in-Ok.failed (g.F.Feeder.seen c.play.new.f) c.play.new.log c.play.new.outs.items c.play.new.ins.items c.in-Ok.ensures.played in
    omega (arith, at.1, at.2.few, c.play.ensures.may.limits.few)

pub take_all-requires-clause-may : goal.take_all-requires-clause-may
take_all-requires-clause-may g c = may-hear (setting (arc_value c.args.graph.now) (arc_value c.args.script.now) c.args.me) c.args.boxes.now c.play.new.outs.items c.play.new.ins.items c.play.ensures.may

pub take_all-requires-clause-frame : goal.take_all-requires-clause-frame
take_all-requires-clause-frame g c = c.play.ensures.frame ∙ c.requires.frame

pub take_all-requires-clause-size : goal.take_all-requires-clause-size
take_all-requires-clause-size g c =
    let s = setting (arc_value c.args.graph.now) (arc_value c.args.script.now) c.args.me in
    (played-at AllocError s c.in-Ok.failed (g.F.Feeder.seen c.play.new.f) c.play.new.log c.play.new.outs.items c.play.new.ins.items c.in-Ok.ensures.played).2.own.size

pub take_all-requires-clause-hears : goal.take_all-requires-clause-hears
take_all-requires-clause-hears g c =
    let s = setting (arc_value c.args.graph.now) (arc_value c.args.script.now) c.args.me in
    (played-at AllocError s c.in-Ok.failed (g.F.Feeder.seen c.play.new.f) c.play.new.log c.play.new.outs.items c.play.new.ins.items c.in-Ok.ensures.played).2.hears

pub returns-in_err-post-in-Ok-clause-may : goal.returns-in_err-post-in-Ok-clause-may
returns-in_err-post-in-Ok-clause-may g c =
    may-posted (setting (arc_value c.args.graph.now) (arc_value c.args.script.now) c.args.me) c.args.boxes.now c.play.new.outs.items c.post.new.outs.items c.play.new.ins.items c.play.ensures.may c.post.ensures.of

pub returns-in_err-take_all-in-Ok-clause-may : goal.returns-in_err-take_all-in-Ok-clause-may
returns-in_err-take_all-in-Ok-clause-may g c =
    let s = setting (arc_value c.args.graph.now) (arc_value c.args.script.now) c.args.me in
    may-heard s c.args.boxes.now c.post.new.outs.items c.play.new.ins.items c.take_all.new.ins.items
    (may-posted s c.args.boxes.now c.play.new.outs.items c.post.new.outs.items c.play.new.ins.items c.play.ensures.may c.post.ensures.of) c.take_all.ensures.may

pub returns-in_ok-take_all-in-Ok-clause-may : goal.returns-in_ok-take_all-in-Ok-clause-may
returns-in_ok-take_all-in-Ok-clause-may g c =
    let s = setting (arc_value c.args.graph.now) (arc_value c.args.script.now) c.args.me in
    may-heard s c.args.boxes.now c.post.new.outs.items c.play.new.ins.items c.take_all.new.ins.items
    (may-posted s c.args.boxes.now c.play.new.outs.items c.post.new.outs.items c.play.new.ins.items c.play.ensures.may c.post.ensures.of) c.take_all.ensures.may

pub returns-in_ok-take_all-in-Ok-clause-fed : goal.returns-in_ok-take_all-in-Ok-clause-fed
returns-in_ok-take_all-in-Ok-clause-fed g c =
    let s = setting (arc_value c.args.graph.now) (arc_value c.args.script.now) c.args.me in
    let may = may-heard s c.args.boxes.now c.post.new.outs.items c.play.new.ins.items c.take_all.new.ins.items
    (may-posted s c.args.boxes.now c.play.new.outs.items c.post.new.outs.items c.play.new.ins.items c.play.ensures.may c.post.ensures.of) c.take_all.ensures.may in
    fed-all AllocError s c.args.boxes.now (g.F.Feeder.seen c.play.new.f) (g.F.Feeder.seen c.take_all.new.f) c.play.new.log c.in-Ok.failed (record c.play.new.log.diary { failed = c.in-Ok.failed }) c.take_all.new.ended
    c.play.new.outs.items c.post.new.outs.items c.play.new.ins.items c.take_all.new.ins.items may c.in-Ok.ensures.played c.post.ensures.of c.in_ok-post-in-Ok.ensures.put c.in_ok-take_all-in-Ok.ensures.more c.in_ok-take_all-in-Ok.ensures.hears
    c.in_ok-take_all-in-Ok.ensures.all c.take_all.ensures.still refl refl
