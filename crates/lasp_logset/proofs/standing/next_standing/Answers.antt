use Rattle.std.proofs.Common.{sym, ◌∙◌}
use Rattle.lasp_logset.specs.Whole.{stands}
use Rattle.lasp_logset.proofs.PassLaws.{stands-next, stands-skip}
use Rattle.lasp_logset.proofs.standing.next_standing.Goals as goal

pub returns-then-stands-clause-some : goal.returns-then-stands-clause-some
returns-then-stands-clause-some c =
    let says = c.stands.ensures ∙ (λ i. stands c.args.known.now (c.name.ensures i, c.is_dead.ensures i)) in
    sym c.loop-entry.invariant ∙ stands-next c.args.known.now c.loop-entry.left c.next.new.self c.in-Some.entry.now c.stands.result c.in-Some.ensures.some says c.if-stands.true

pub loop-entry-preserved : goal.loop-entry-preserved
loop-entry-preserved c =
    let says = c.stands.ensures ∙ (λ i. stands c.args.known.now (c.name.ensures i, c.is_dead.ensures i)) in
    stands-skip c.args.known.now c.loop-entry.left c.next.new.self c.in-Some.entry.now c.stands.result c.in-Some.ensures.some says c.if-stands.false ∙ c.loop-entry.invariant
