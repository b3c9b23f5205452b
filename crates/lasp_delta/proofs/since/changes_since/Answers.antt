use Rattle.std.proofs.Common.{◌≡◌, ◌+◌, ℕ, List, length, sym, ap, subst, arith}
use Rattle.model_values.proofs.ListLaws.{each-at}
use Rattle.model_graph.specs.Message.{Message, Sent}
use Rattle.model_wire.specs.Lawful.{IsSent}
use Rattle.model_deltas.specs.Delta.{changed_sources}
use Rattle.model_deltas.proofs.DeltaLaws.{length-changed, sources-lawful}
use Rattle.lasp_wire.specs.Sent.{sent}
use Rattle.lasp_drive.proofs.SinceLaws.{since-long}
use Rattle.lasp_delta.proofs.BegunLaws.{IsBegun, begun-more, begun-whole, begun-lawful}
use Rattle.lasp_delta.proofs.since.changes_since.Goals as goal

pub push-requires : goal.push-requires
push-requires c =
    let after : Message = c.requires.0 in
    let leads = c.requires.1 in
    let all : List Sent = changed_sources c.args.before.now.sources 0 after.sources in
    let s : Sent = sent c.in_ok-name.name.now c.in_ok-name.state in
    let begun = c.loop-i.invariant after leads in
    let there = c.in_ok-name.ensures after leads in
    let nodes : length after.counts ≡ length c.loop-i.changes.counts = sym (ap (λ (counts : List ℕ). length counts) begun.counts_are) in
    begun-lawful after.counts all c.loop-i.i c.loop-i.changes s begun there (omega (arith, length-changed c.args.before.now.sources 0 after.sources, leads.lawful.few)) c.recall-in-loop-i.ensures
    (subst (λ (n : ℕ). IsSent n s) nodes (each-at (IsSent (length after.counts)) all c.loop-i.i s (sources-lawful (length after.counts) c.args.before.now.sources 0 after.sources leads.lawful.sources) there))

pub loop-i-preserved : goal.loop-i-preserved
loop-i-preserved c = λ after leads.
    subst (IsBegun after.counts (changed_sources c.args.before.now.sources 0 after.sources) (c.loop-i.i + 1)) (sym c.in_ok-push.ensures.ok)
    (begun-more after.counts (changed_sources c.args.before.now.sources 0 after.sources) c.loop-i.i c.loop-i.changes (sent c.in_ok-name.name.now c.in_ok-name.state) (c.loop-i.invariant after leads) (c.in_ok-name.ensures after leads))

pub returns : goal.returns
returns c = λ after leads.
    begun-whole after.counts (changed_sources c.args.before.now.sources 0 after.sources) c.loop-i.i c.loop-i.changes (c.loop-i.invariant after leads)
    (omega (arith, c.loop-i-test.false, c.len-i-end.ensures, length-changed c.args.before.now.sources 0 after.sources, since-long c.args.before.now after c.args.tail.now leads.exact))
