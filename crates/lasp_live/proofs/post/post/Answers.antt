use Rattle.std.proofs.Common.{◌+◌, Option, sym, subst, ap, arith}
use Rattle.std.specs.Arc.{arc_value}
use Rattle.std.specs.Option.{option_map}
use Rattle.std.proofs.lemmas.Bool.Decides.{nat_tests}
use Rattle.model_graph.specs.Message.{Message}
use Rattle.lasp_live.specs.Posted.{IsPutTo, ArePutBefore}
use Rattle.lasp_live.proofs.PostLaws.{same-then, posted-past, posted-next, posted-ends}
use Rattle.lasp_live.proofs.post.post.Goals as goal
use Rattle.lasp_live.proofs.post.post.Goals.{then-p-from+in_ok-body+in_ok-put_to, else-p-from}

pub returns-in_err-put_to-clause-of : goal.returns-in_err-put_to-clause-of
returns-in_err-put_to-clause-of g c = same-then c.args.outs.now.items c.loop-p.outs.items c.put_to.new.outs.items c.loop-p.invariant.same c.put_to.ensures.of

pub loop-p-preserved : goal.loop-p-preserved
loop-p-preserved g c =
    let message = option_map arc_value c.args.message.now in
    elim c.if-p-from.branch [
      | then-p-from+in_ok-body+in_ok-put_to w ↦
          let put = subst (λ (o : Option Message). IsPutTo c.loop-p.p o c.loop-p.outs.items w.put_to.new.outs.items) w.in_ok-body.ensures.message_is w.in_ok-put_to.ensures.put in
          subst (ArePutBefore c.args.me (c.loop-p.p + 1) message c.args.outs.now.items) (ap (λ v. v.items) (sym w.outs-is))
          (posted-next c.args.me c.loop-p.p message c.args.outs.now.items c.loop-p.outs.items w.put_to.new.outs.items c.loop-p.invariant (grind (arith, nat_tests, w.if-p-from.true, c.from.ensures)) put)
      | else-p-from w ↦
          subst (ArePutBefore c.args.me (c.loop-p.p + 1) message c.args.outs.now.items) (ap (λ v. v.items) (sym w.outs-is))
          (posted-past c.args.me c.loop-p.p message c.args.outs.now.items c.loop-p.outs.items c.loop-p.invariant (grind (arith, nat_tests, w.if-p-from.false, c.from.ensures)))
    ]

pub returns-clause-put : goal.returns-clause-put
returns-clause-put g c =
    posted-ends c.args.me c.loop-p.p (option_map arc_value c.args.message.now) c.args.outs.now.items c.loop-p.outs.items c.loop-p.invariant
    (omega (arith, c.loop-p-test.false, c.len-p-end.ensures))
