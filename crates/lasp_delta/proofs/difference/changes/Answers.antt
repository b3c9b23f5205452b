use Rattle.std.proofs.Common.{◌≡◌, ◌+◌, ℕ, List, length, sym, ap, subst, arith}
use Rattle.model_values.proofs.ListLaws.{each-at}
use Rattle.model_wire.specs.Lawful.{IsSent}
use Rattle.model_deltas.specs.Delta.{changed_sources}
use Rattle.model_deltas.proofs.DeltaLaws.{length-changed, sources-lawful}
use Rattle.lasp_wire.specs.Sent.{sent}
use Rattle.lasp_delta.proofs.BegunLaws.{IsBegun, begun-more, begun-whole, begun-lawful}
use Rattle.lasp_delta.proofs.SinceLaws.{earlier-alike}
use Rattle.lasp_delta.proofs.difference.changes.Goals as goal

pub changed_source-requires-clause-alike : goal.changed_source-requires-clause-alike
changed_source-requires-clause-alike c = earlier-alike c.args.before.now c.args.after.now c.requires

pub push-requires : goal.push-requires
push-requires c =
    let all = changed_sources c.args.before.now.sources 0 c.args.after.now.sources in
    let s = sent c.in_ok-name.name.now c.in_ok-name.state in
    let nodes : length c.args.after.now.counts ≡ length c.loop-i.changes.counts = sym (ap (λ (counts : List ℕ). length counts) c.loop-i.invariant.counts_are) in
    begun-lawful c.args.after.now.counts all c.loop-i.i c.loop-i.changes s c.loop-i.invariant c.in_ok-name.ensures
    (omega (arith, length-changed c.args.before.now.sources 0 c.args.after.now.sources, c.recall-2.ensures.few)) c.recall-in-loop-i.ensures
    (subst (λ (n : ℕ). IsSent n s) nodes
    (each-at (IsSent (length c.args.after.now.counts)) all c.loop-i.i s (sources-lawful (length c.args.after.now.counts) c.args.before.now.sources 0 c.args.after.now.sources c.recall-2.ensures.sources) c.in_ok-name.ensures))

pub loop-i-preserved : goal.loop-i-preserved
loop-i-preserved c =
    subst (IsBegun c.args.after.now.counts (changed_sources c.args.before.now.sources 0 c.args.after.now.sources) (c.loop-i.i + 1)) (sym c.in_ok-push.ensures.ok)
    (begun-more c.args.after.now.counts (changed_sources c.args.before.now.sources 0 c.args.after.now.sources) c.loop-i.i c.loop-i.changes (sent c.in_ok-name.name.now c.in_ok-name.state) c.loop-i.invariant c.in_ok-name.ensures)

pub returns : goal.returns
returns c =
    begun-whole c.args.after.now.counts (changed_sources c.args.before.now.sources 0 c.args.after.now.sources) c.loop-i.i c.loop-i.changes c.loop-i.invariant
    (omega (arith, c.loop-i-test.false, c.len-i-end.ensures, length-changed c.args.before.now.sources 0 c.args.after.now.sources))
