use Rattle.std.proofs.Common.{◌≡◌, ◌<◌, true, false, length, refl, sym, ◌∙◌, arith}
use Rattle.model_values.proofs.ListLaws.{some-at}
use Rattle.lasp_delta.proofs.PlaceLaws.{past-min, alike-first, alike-past}
use Rattle.lasp_delta.proofs.delta.are_alike.Goals as goal

pub returns-then-not-are_same_source : goal.returns-then-not-are_same_source
returns-then-not-are_same_source c =
    let here : c.loop-i.i < length c.args.base.now.sources = omega (arith, c.loop-i-test.true, c.min-i-end.ensures, c.len.ensures, c.len-2.ensures) in
    let there : c.loop-i.i < length c.args.more.now.sources = omega (arith, c.loop-i-test.true, c.min-i-end.ensures, c.len.ensures, c.len-2.ensures) in
    let s = some-at c.args.base.now.sources c.loop-i.i here in
    let t = some-at c.args.more.now.sources c.loop-i.i there in (
      λ wrong. absurd cc,
      λ h.
          let same = ((alike-first c.args.base.now.sources c.args.more.now.sources c.loop-i.i s.0 t.0 s.1 t.1).0 (c.loop-i.invariant.1 h)).0 in
          let both : true ≡ false = sym ((c.are_same_source.ensures s.0 t.0 s.1 t.1).1 same) ∙ c.if-not-are_same_source.true in
          absurd cc,
    )

pub loop-i-preserved : goal.loop-i-preserved
loop-i-preserved c =
    let here : c.loop-i.i < length c.args.base.now.sources = omega (arith, c.loop-i-test.true, c.min-i-end.ensures, c.len.ensures, c.len-2.ensures) in
    let there : c.loop-i.i < length c.args.more.now.sources = omega (arith, c.loop-i-test.true, c.min-i-end.ensures, c.len.ensures, c.len-2.ensures) in
    let s = some-at c.args.base.now.sources c.loop-i.i here in
    let t = some-at c.args.more.now.sources c.loop-i.i there in
    let first = alike-first c.args.base.now.sources c.args.more.now.sources c.loop-i.i s.0 t.0 s.1 t.1 in
    let same = (c.are_same_source.ensures s.0 t.0 s.1 t.1).0 c.if-not-are_same_source.false in
    (λ rest. c.loop-i.invariant.0 (first.1 (same, rest)), λ all. (first.0 (c.loop-i.invariant.1 all)).1)

pub returns : goal.returns
returns c = (
  λ t. c.loop-i.invariant.0
      (alike-past c.args.base.now.sources c.args.more.now.sources c.loop-i.i
      (past-min c.loop-i.i (length c.args.base.now.sources) (length c.args.more.now.sources) (omega (arith, c.loop-i-test.false, c.min-i-end.ensures, c.len.ensures, c.len-2.ensures)))),
  λ h. refl,
)
