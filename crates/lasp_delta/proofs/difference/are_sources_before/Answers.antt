use Rattle.std.proofs.Common.{◌≡◌, ◌<◌, true, false, length, sym, ◌∙◌, arith}
use Rattle.model_values.proofs.ListLaws.{some-at}
use Rattle.lasp_delta.proofs.PlaceLaws.{before-long, before-first}
use Rattle.lasp_delta.proofs.difference.are_sources_before.Goals as goal

pub returns-then-len : goal.returns-then-len
returns-then-len c = (λ wrong. absurd cc, λ h. absurd (omega (arith, before-long c.args.before.now.sources c.args.after.now.sources h, c.if-len.true, c.len.ensures, c.len-2.ensures)))

pub returns-then-not-is_source_before : goal.returns-then-not-is_source_before
returns-then-not-is_source_before c =
    let here : c.loop-i.i < length c.args.before.now.sources = omega (arith, c.loop-i-test.true, c.len-i-end.ensures) in
    let there : c.loop-i.i < length c.args.after.now.sources = omega (arith, here, c.if-len.false, c.len.ensures, c.len-2.ensures) in
    let s = some-at c.args.before.now.sources c.loop-i.i here in
    let t = some-at c.args.after.now.sources c.loop-i.i there in (
      λ wrong. absurd cc,
      λ h.
          let parts = (before-first c.args.before.now.sources c.args.after.now.sources c.loop-i.i s.0 t.0 s.1 t.1).0 (c.loop-i.invariant.1 h) in
          let both : true ≡ false = sym ((c.is_source_before.ensures s.0 t.0 s.1 t.1).1 (parts.0, parts.1)) ∙ c.if-not-is_source_before.true in
          absurd cc,
    )

pub loop-i-preserved : goal.loop-i-preserved
loop-i-preserved c =
    let here : c.loop-i.i < length c.args.before.now.sources = omega (arith, c.loop-i-test.true, c.len-i-end.ensures) in
    let there : c.loop-i.i < length c.args.after.now.sources = omega (arith, here, c.if-len.false, c.len.ensures, c.len-2.ensures) in
    let s = some-at c.args.before.now.sources c.loop-i.i here in
    let t = some-at c.args.after.now.sources c.loop-i.i there in
    let first = before-first c.args.before.now.sources c.args.after.now.sources c.loop-i.i s.0 t.0 s.1 t.1 in
    let same = (c.is_source_before.ensures s.0 t.0 s.1 t.1).0 c.if-not-is_source_before.false in
    (λ rest. c.loop-i.invariant.0 (first.1 (same.0, same.1, rest)), λ all. (first.0 (c.loop-i.invariant.1 all)).2)
