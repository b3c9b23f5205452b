use Rattle.std.proofs.Common.{sym, ◌∙◌}
use Rattle.lasp_logset.specs.Whole.{stands}
use Rattle.lasp_logset.proofs.PassLaws.{stands-next, stands-skip}
use Rattle.lasp_logset.proofs.near_grown.next_near.Goals as goal

pub returns-then-stands-clause-some : goal.returns-then-stands-clause-some
returns-then-stands-clause-some c =
    let says = c.stands.ensures ∙ (λ i. stands c.args.known.now (c.name.ensures i, c.is_dead.ensures i)) in
    sym c.loop-row.invariant ∙ stands-next c.args.known.now c.loop-row.near c.next.new.self c.in-Some.row c.stands.result c.in-Some.ensures.some says c.if-stands.true

pub loop-row-preserved : goal.loop-row-preserved
loop-row-preserved c =
    let says = c.stands.ensures ∙ (λ i. stands c.args.known.now (c.name.ensures i, c.is_dead.ensures i)) in
    stands-skip c.args.known.now c.loop-row.near c.next.new.self c.in-Some.row c.stands.result c.in-Some.ensures.some says c.if-stands.false ∙ c.loop-row.invariant
