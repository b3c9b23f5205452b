use Rattle.std.proofs.Common.{rules, ℕ, ◌≡◌, ◌+◌, ◌-◌, ◌<◌, drop, length, Option, refl, ap, subst, ◌∙◌, arith}
use Rattle.std.specs.Prelude.{Some, slice_get}
use Rattle.std.proofs.lemmas.Option.{slice_get_read}
use Rattle.model_live.specs.Lived.{lesser}
use Rattle.lasp_live_run.specs.Run.{failed_of}
use Rattle.lasp_live_run.proofs.DeskLaws.{failed-next, failed-none}
use Rattle.lasp_live_run.proofs.run.first_failed.Goals as goal

pub loop-k-init : goal.loop-k-init
loop-k-init c = record { within = omega arith; failed = failed-none c.args.diaries.now (length c.args.diaries.now - 0) (omega arith) }

pub loop-k-preserved : goal.loop-k-preserved
loop-k-preserved c =
    let diaries = c.args.diaries.now in
    let many = length diaries in
    let low : c.loop-k.k < many = omega (arith, c.loop-k-test.true) in
    let p : ℕ = many - (c.loop-k.k + 1) in
    let place : many - 1 - c.loop-k.k ≡ p = omega (arith, low) in
    let d = c.index-diaries-p.result in
    let at : slice_get diaries p ≡ Some d = subst (λ (n : ℕ). slice_get diaries n ≡ Some d) place (slice_get_read diaries many (many - 1 - c.loop-k.k) d refl (omega (arith, low)) (search rules)) in
    let before : many - c.loop-k.k ≡ p + 1 = omega (arith, low) in
    record {
      within = omega (arith, low);
      failed = c.lesser-failed.ensures ∙ ap (λ (o : Option ℕ). lesser o c.loop-k.failed) c.failed.ensures
          ∙ failed-next diaries p d c.loop-k.failed at (c.loop-k.invariant.failed ∙ ap (λ (n : ℕ). failed_of (drop n diaries)) before);
    }

pub returns : goal.returns
returns c =
    let diaries = c.args.diaries.now in
    let none : length diaries - c.loop-k.k ≡ 0 = omega (arith, c.loop-k-test.false) in
    c.loop-k.invariant.failed ∙ ap (λ (n : ℕ). failed_of (drop n diaries)) none
