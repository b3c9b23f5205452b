use Rattle.std.proofs.Common.{ℕ, ◌≡◌, ◌+◌, ◌-◌, ◌++◌, ◌∷◌, [], ◌∙◌, sym, subst, arith}
use Rattle.std.specs.Arc.{arc_value}
use Rattle.model_core.specs.Core.{Core, entered}
use Rattle.model_journal.specs.Entry.{Deliver, entry}
use Rattle.model_journal.specs.Legal.{IsLegal}
use Rattle.lasp_core.specs.Core.{fresh_core}
use Rattle.lasp_live.specs.Large.{IsTogetherFrom}
use Rattle.lasp_live.proofs.LargeLaws.{together-begins, together-ends, together-next}
use Rattle.lasp_live.proofs.large.together.Goals as goal

pub new-requires-clause-member : goal.new-requires-clause-member
new-requires-clause-member c = omega (arith, c.requires.lawful.some, c.nodes.ensures)

pub new-requires-clause-few : goal.new-requires-clause-few
new-requires-clause-few c = omega (arith, c.requires.limits.nodes, c.nodes.ensures)

pub loop-p-init : goal.loop-p-init
loop-p-init c =
    let g = arc_value c.args.graph.now in
    let script = c.args.script.now in
    let fresh : c.in_ok-all.all ≡ fresh_core g 0 script.nodes = c.in_ok-all.ensures ∙ (λ i. fresh_core (c.in_ok-try_clone.ensures i) 0 (c.nodes.ensures i)) in
    (0, subst (λ (z : ℕ × Core). IsTogetherFrom g script z.0 0 z.1) (λ i. (sym c.nodes-p.ensures i, sym fresh i)) (together-begins g script))

pub loop-p-preserved : goal.loop-p-preserved
loop-p-preserved c =
    let g = arc_value c.args.graph.now in
    let script = c.args.script.now in
    let many = c.loop-p.invariant.0 in
    let before : c.loop-p.p ≡ (c.loop-p.p - 1) + 1 = omega (arith, c.loop-p-test.true) in
    let m = arc_value c.in_ok-message.message in
    let done : c.deliver.new.self ≡ entered (entry 0 (Deliver c.from.result m)) c.loop-p.all = c.in-Ok.ensures.ok in
    let legal : IsLegal c.loop-p.all.frame (c.loop-p.all.entries ++ entry 0 (Deliver c.from.result m) ∷ []) = subst (λ (k : Core). IsLegal k.frame k.entries) done c.recall.ensures.core.legal in (
      many + 1,
      subst (IsTogetherFrom g script (c.loop-p.p - 1) (many + 1)) (sym done)
          (together-next g script (c.loop-p.p - 1) many c.from.result c.loop-p.all c.in_ok-other.other m (subst (λ (n : ℕ). IsTogetherFrom g script n many c.loop-p.all) before c.loop-p.invariant.1) c.in_ok-other.ensures
          (c.in_ok-message.ensures.ok ∙ c.in_ok-message_of.ensures) legal),
    )

pub returns : goal.returns
returns c =
    let g = arc_value c.args.graph.now in
    let script = c.args.script.now in
    let none : c.loop-p.p ≡ 0 = omega (arith, c.loop-p-test.false) in
    together-ends g script c.loop-p.invariant.0 c.loop-p.all (subst (λ (n : ℕ). IsTogetherFrom g script n c.loop-p.invariant.0 c.loop-p.all) none c.loop-p.invariant.1)
