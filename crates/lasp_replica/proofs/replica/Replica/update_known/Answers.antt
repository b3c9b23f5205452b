use Rattle.std.proofs.Common.{ℕ, ◌≡◌, Some, Option, slice_get, length, false, refl, sym, ap, subst, ◌∙◌, arith}
use Rattle.lasp_replica.specs.Replica.{or_too_many}
use Rattle.lasp_replica.specs.declared.refused.UpdateRefused.{UpdateRefused}
use Rattle.lasp_replica.proofs.ExtendLaws.{written}
use Rattle.lasp_replica.proofs.UpdateLaws.{checked, pushed, counted, count-found, stays, on-err}
use Rattle.lasp_replica.proofs.StillLaws.{refusal-known, updated-known}
use Rattle.lasp_replica.proofs.replica.Replica.update_known.Goals as goal

pub overflow_add-k : goal.overflow_add-k
overflow_add-k c =
    let few = (checked c.args.self.now c.args.var c.args.op.now c.in_ok-check_update.ensures).few in
    let at = count-found c.args.self.now c.at-k.result (subst (λ (i : ℕ). slice_get c.args.self.now.counts i ≡ Some c.at-k.result) c.from-me.ensures c.at-k.ensures) in
    omega (arith, few, at)

pub returns-in_err-reserve-clause-err : goal.returns-in_err-reserve-clause-err
returns-in_err-reserve-clause-err c =
    on-err c.from_residual-in_err-reserve.result (stays c.args.self.now _ c.requires.replica refl refl refl refl refl refl refl refl c.reserve.ensures.items)

pub returns-clause-ok : goal.returns-clause-ok
returns-clause-ok c =
    let old = c.args.self.now in
    let done = c.push.ensures.succeeds (omega (arith, c.in_ok-reserve.ensures.ok)) in
    updated-known old c.args.var c.args.op.now c.requires.replica c.requires.known _ c.args.by c.requires.small c.recall_op.ensures (checked old c.args.var c.args.op.now c.in_ok-check_update.ensures)
    refl refl refl (counted old old c.from-me.result c.at-k.result c.set.new.self refl refl c.from-me.ensures c.at-k.ensures c.set.ensures) refl refl refl
    (pushed c.push.result old.journal.items c.reserve.new.self.items c.push.new.self.items c.args.by c.args.var c.args.op.now c.in_ok-own.own c.reserve.ensures.items done c.push.ensures.items c.in_ok-own.ensures.op)
    c.in_ok-own.own (written c.push.result c.push.new.self.items c.reserve.new.self.items old.journal.items _ done c.push.ensures.items c.reserve.ensures.items)
    (c.in_ok-own.ensures.shape (length old.counts))

pub returns-clause-answer : goal.returns-clause-answer
returns-clause-answer c =
    refusal-known c.args.self.now c.args.var c.args.op.now c.requires.replica c.requires.known ∙ ap (λ (w : Option UpdateRefused). or_too_many w false) (sym c.in_ok-check_update.ensures)
