use Rattle.std.proofs.Common.{arith, ◌≡◌, ◌<◌, ◌+◌, max, true, length, ap, ◌∙◌, slice_index_or, slice_set}
use Rattle.lasp_value.proofs.PlacesLaws.{joined_first, joined_first-all}
use Rattle.lasp_state.proofs.RaiseLaws.{raised-more, raised-same, raised-branch}
use Rattle.lasp_state.proofs.raise.raise.Goals.{then-counts-i, else-counts-i}
use Rattle.lasp_state.proofs.raise.raise.Goals as goal

pub loop-i-preserved : goal.loop-i-preserved
loop-i-preserved c =
    let i = c.loop-i.i in
    let old = c.args.counts.now in
    let ts = c.args.others.now in
    let cs = c.loop-i.counts in
    let within : i < length ts = omega (arith, c.loop-i-test.true) in
    elim c.if-counts-i.branch [
      | then-counts-i w ↦ raised-branch (i + 1) old ts c.if-counts-i.counts (slice_set cs i (slice_index_or ts i 0)) c.if-counts-i.grew true w.counts-is w.grew-is
          (raised-more i old ts cs c.loop-i.grew c.requires within w.if-counts-i.true c.loop-i.invariant)
      | else-counts-i w ↦ raised-branch (i + 1) old ts c.if-counts-i.counts cs c.if-counts-i.grew c.loop-i.grew w.counts-is w.grew-is
          (raised-same i old ts cs c.loop-i.grew c.requires within (omega (arith, w.if-counts-i.false)) c.loop-i.invariant)
    ]

pub returns-clause-joined : goal.returns-clause-joined
returns-clause-joined c =
    let all : c.loop-i.i ≡ length c.args.others.now = omega (arith, c.loop-i-test.false) in
    c.loop-i.invariant.0 ∙ ap (λ n. joined_first max n c.args.counts.now c.args.others.now) all ∙ joined_first-all max c.args.counts.now c.args.others.now
