use Rattle.std.proofs.Common.{ℕ, ◌≡◌, sym, subst, arith}
use Rattle.lasp_live.specs.Mail.{plan_of}
use Rattle.lasp_live_run.specs.Posts.{AreMade, IsBehind, IsPushedTo}
use Rattle.lasp_live_run.proofs.PostLaws.{behind-next, made-next}
use Rattle.lasp_live_run.proofs.posts.push_row.Goals as goal

pub push_to-requires : goal.push_to-requires
push_to-requires c = omega (arith, c.loop-p.invariant.made.columns, c.loop-p-test.true, c.from.ensures)

pub loop-p-preserved : goal.loop-p-preserved
loop-p-preserved c =
    let pushed = subst (λ (n : ℕ). IsPushedTo n c.in_ok-mailbox.inlet c.loop-p.ins.items c.push_to.new.ins.items) c.from.ensures c.in_ok-push_to.ensures in
    record {
      made = made-next (plan_of c.args.like.now) c.args.nodes c.args.q c.loop-p.p c.loop-p.boxes.items c.push.new.self.items c.in_ok-mailbox.mailbox c.loop-p.row.items c.push-in-loop-p.new.self.items c.in_ok-mailbox.outlet c.loop-p.ins.items
          c.push_to.new.ins.items c.in_ok-mailbox.inlet c.loop-p.invariant.made c.in_ok-mailbox.ensures.frame c.in_ok-push.ensures.items c.in_ok-mailbox.ensures.outlet c.in_ok-push-2.ensures.items c.in_ok-mailbox.ensures.inlet pushed;
      behind = subst (IsBehind c.args.boxes.now.items) (sym c.in_ok-push.ensures.items) (behind-next c.args.boxes.now.items c.loop-p.boxes.items c.in_ok-mailbox.mailbox c.loop-p.invariant.behind);
    }

pub returns-clause-made : goal.returns-clause-made
returns-clause-made c =
    let end : c.loop-p.p ≡ c.args.nodes = omega (arith, c.loop-p-test.false, c.loop-p.auto.p-end) in
    subst (λ (n : ℕ). AreMade (plan_of c.args.like.now) c.args.nodes c.args.q n c.loop-p.boxes.items c.loop-p.row.items c.loop-p.ins.items) end c.loop-p.invariant.made
