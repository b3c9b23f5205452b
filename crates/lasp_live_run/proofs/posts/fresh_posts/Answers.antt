use Rattle.std.proofs.Common.{ℕ, ◌≡◌, List, [], sym, ap, subst, ◌∙◌, arith}
use Rattle.std.specs.Arc.{arc_value}
use Rattle.model_world.specs.Command.{Script}
use Rattle.lasp_live.specs.Ends.{Box}
use Rattle.lasp_live.specs.Sealed.{Plan}
use Rattle.lasp_live_run.specs.Posts.{AreFreshEnds, AreMade, AreRowsMade, Outs}
use Rattle.lasp_live_run.proofs.PostLaws.{rows-begin, rows-end, rows-next}
use Rattle.lasp_live_run.proofs.posts.fresh_posts.Goals as goal

pub loop-q-init : goal.loop-q-init
loop-q-init c =
    let plan : Plan = (arc_value c.args.graph.now, arc_value c.args.script.now) in
    record {
      like = λ i. (c.in_ok-try_clone.ensures i, c.in_ok-try_clone-2.ensures i);
      rows = subst (λ (z : List Box × Outs). AreRowsMade plan c.nodes-nodes.result 0 z.0 z.1 c.in_ok-ins.ins.items) (λ i. (sym c.new-boxes.ensures.items i, sym c.new-outs.ensures.items i))
          (rows-begin plan c.nodes-nodes.result c.in_ok-ins.ins.items c.in_ok-ins.ensures.size c.in_ok-ins.ensures.empty);
    }

pub push_row-requires : goal.push_row-requires
push_row-requires c = subst (λ (plan : Plan). AreMade plan c.nodes-nodes.result c.loop-q.q 0 c.loop-q.boxes.items [] c.loop-q.ins.items) (sym c.loop-q.invariant.like) c.loop-q.invariant.rows.made

pub loop-q-preserved : goal.loop-q-preserved
loop-q-preserved c =
    let plan : Plan = (arc_value c.args.graph.now, arc_value c.args.script.now) in
    record {
      like = c.loop-q.invariant.like;
      rows = rows-next plan c.nodes-nodes.result c.loop-q.q c.loop-q.boxes.items c.push_row.new.boxes.items c.loop-q.outs.items c.push.new.self.items c.in_ok-row.row c.loop-q.ins.items c.push_row.new.ins.items c.loop-q.invariant.rows c.in_ok-row.ensures.rows
          c.in_ok-push.ensures.items (subst (λ (p : Plan). AreMade p c.nodes-nodes.result c.loop-q.q c.nodes-nodes.result c.push_row.new.boxes.items c.in_ok-row.row.items c.push_row.new.ins.items) c.loop-q.invariant.like c.in_ok-row.ensures.made);
    }

pub returns : goal.returns
returns c =
    let plan : Plan = (arc_value c.args.graph.now, arc_value c.args.script.now) in
    let nodes : c.nodes-nodes.result ≡ (arc_value c.args.script.now).nodes = c.nodes-nodes.ensures ∙ ap (λ (k : Script). k.nodes) c.deref.ensures in
    subst (λ (n : ℕ). AreFreshEnds plan n c.loop-q.boxes.items c.loop-q.outs.items c.loop-q.ins.items) nodes
    (rows-end plan c.nodes-nodes.result c.loop-q.q c.loop-q.boxes.items c.loop-q.outs.items c.loop-q.ins.items c.loop-q.invariant.rows (omega (arith, c.loop-q-test.false, c.loop-q.auto.q-end)))
