use Rattle.std.proofs.Common.{◌≡◌, sym, ap, subst, ◌∙◌}
use Rattle.model_deltas.specs.Before.{IsDelta}
use Rattle.model_deltas.specs.Spelling.{spelled_delta}
use Rattle.lasp_delta.specs.Letter.{delta_in}
use Rattle.lasp_delta.proofs.MessageLaws.{delta-back}
use Rattle.lasp_delta.proofs.run.letter.Letter.of.Goals as goal

pub invariant_of-result : goal.invariant_of-result
invariant_of-result c =
    let back : delta_in c.in_ok-bytes.bytes.items ≡ c.args.delta.now = delta-back c.in_ok-bytes.bytes.items c.args.delta.now c.recall.ensures c.in_ok-bytes.ensures in (
      subst IsDelta (sym back) c.recall.ensures,
      c.in_ok-bytes.ensures ∙ ap spelled_delta (sym back),
    )

pub returns : goal.returns
returns c = delta-back c.in_ok-bytes.bytes.items c.args.delta.now c.recall.ensures c.in_ok-bytes.ensures
