use Rattle.std.proofs.Common.{◌≡◌, ◌<◌, ◌==◌, ◌++◌, ◌∷◌, [], nat_lt, refl, sym, ap, subst, ◌∙◌}
use Rattle.model_values.specs.Row.{Key, Row}
use Rattle.model_sets.specs.Rows.{level, mark}
use Rattle.lasp_logset.proofs.GrownLaws.{along-none, along-push, along-pass, along-done, along-fresh, along-raises, less-so, less-not}
use Rattle.lasp_logset.proofs.grown.past_with.Goals as goal

pub loop-row-init : goal.loop-row-init
loop-row-init c = along-none c.args.set.now c.in_ok-past.past c.args.rows c.in_ok-past.ensures c.requires

pub push-requires-clause-raises : goal.push-requires-clause-raises
push-requires-clause-raises c =
    let says = c.level_near-level.ensures ∙ ap (λ (k : Key). mark c.args.set.now k.0 k.1) c.name.ensures in
    let less = less-so c.level_near-level.result (level c.is_dead.result) c.is_less.result c.is_less.ensures c.if-is_less.true in
    subst (λ (q : Row). mark c.loop-row.past q.0.0 q.0.1 < level q.1) (sym c.in_ok-entry.ensures)
    (along-raises c.args.set.now c.args.rows c.loop-row.past c.loop-row.left c.next.new.self c.in-Some.row c.level_near-level.result c.is_dead.result c.in-Some.ensures.some says c.is_dead.ensures less c.loop-row.invariant)

pub push-requires-clause-fresh : goal.push-requires-clause-fresh
push-requires-clause-fresh c =
    let says = c.level_near-level.ensures ∙ ap (λ (k : Key). mark c.args.set.now k.0 k.1) c.name.ensures in
    subst (λ (q : Row). (c.level_near-level.result == 0) ≡ nat_lt (mark c.loop-row.past q.0.0 q.0.1) 1) (sym c.in_ok-entry.ensures)
    (along-fresh c.args.set.now c.args.rows c.loop-row.past c.loop-row.left c.next.new.self c.in-Some.row c.level_near-level.result (c.level_near-level.result == 0) c.in-Some.ensures.some says refl c.loop-row.invariant)

pub loop-row-preserved-in-Continue-branch-3 : goal.loop-row-preserved-in-Continue-branch-3
loop-row-preserved-in-Continue-branch-3 c =
    let says = c.level_near-level.ensures ∙ ap (λ (k : Key). mark c.args.set.now k.0 k.1) c.name.ensures in
    let less = less-so c.level_near-level.result (level c.is_dead.result) c.is_less.result c.is_less.ensures c.if-is_less.true in
    along-push c.args.set.now c.args.rows c.loop-row.past c.push.new.self c.loop-row.left c.next.new.self c.in-Some.row c.level_near-level.result c.is_dead.result c.in-Some.ensures.some says c.is_dead.ensures less
    (c.in_ok-push.ensures.ok ∙ ap (λ (q : Row). c.loop-row.past ++ q ∷ []) c.in_ok-entry.ensures) c.loop-row.invariant

pub loop-row-preserved : goal.loop-row-preserved
loop-row-preserved c =
    let says = c.level_near-level.ensures ∙ ap (λ (k : Key). mark c.args.set.now k.0 k.1) c.name.ensures in
    let low = less-not c.level_near-level.result (level c.is_dead.result) c.is_less.result c.is_less.ensures c.if-is_less.false in
    along-pass c.args.set.now c.args.rows c.loop-row.past c.loop-row.left c.next.new.self c.in-Some.row c.level_near-level.result c.is_dead.result c.in-Some.ensures.some says c.is_dead.ensures low c.loop-row.invariant

pub returns : goal.returns
returns c = along-done c.args.set.now c.args.rows c.loop-row.past c.loop-row.left c.seal.new.self c.in_default.ensures.none c.seal.ensures c.loop-row.invariant
