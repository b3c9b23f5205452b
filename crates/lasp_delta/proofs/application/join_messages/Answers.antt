use Rattle.std.proofs.Common.{◌≡◌, ◌+◌, ◌≤◌, ℕ, List, [], Ok, length, sym, ap, subst, ◌∙◌, arith}
use Rattle.std.specs.List.{AllByRecursion}
use Rattle.model_states.specs.Counts.{larger}
use Rattle.model_states.specs.Content.{size_of, row_limit}
use Rattle.model_states.proofs.CountLaws.{length-larger}
use Rattle.model_graph.specs.Message.{Message}
use Rattle.model_wire.specs.Lawful.{IsSent, IsMessage}
use Rattle.model_deltas.specs.Applied.{joined_sources, joined}
use Rattle.model_deltas.proofs.JoinedLaws.{length-joined}
use Rattle.lasp_state.specs.State.{content_of}
use Rattle.lasp_wire.specs.Sent.{message, sent}
use Rattle.lasp_delta.proofs.BegunLaws.{IsBegun, begun-more, begun-whole, begun-lawful}
use Rattle.lasp_delta.proofs.JoinLaws.{larger-message, large-here, large-next, large-end, joined-sent}
use Rattle.lasp_delta.proofs.application.join_messages.Goals as goal

pub new-all-requires : goal.new-all-requires
new-all-requires c =
    let is : c.in_ok-counts.counts ≡ larger c.args.base.now.counts c.args.more.now.counts = c.in_ok-counts.ensures ∙ (λ i. larger (c.counts.ensures i) (c.counts-2.ensures i)) in
    subst (λ (counts : List ℕ). IsMessage (message counts [])) (sym is) (larger-message c.args.base.now c.args.more.now c.recall.ensures c.recall-2.ensures c.requires.nodes)

pub returns-then-size-gt-MOST_ROWS : goal.returns-then-size-gt-MOST_ROWS
returns-then-size-gt-MOST_ROWS c =
    large-here (joined c.args.base.now c.args.more.now) c.loop-i.i (sent c.in_ok-name.name.now c.in_ok-name.state) c.in_ok-name.ensures (omega (arith, c.if-size-gt-MOST_ROWS.true, c.size.ensures)) c.loop-i.invariant.1

pub push-requires : goal.push-requires
push-requires c =
    let s = sent c.in_ok-name.name.now c.in_ok-name.state in
    let counts = larger c.args.base.now.counts c.args.more.now.counts in
    let all = joined_sources c.args.base.now.sources c.args.more.now.sources in
    let small : size_of (content_of c.in_ok-name.state) ≤ row_limit = omega (arith, c.if-size-gt-MOST_ROWS.false, c.size.ensures) in
    let nodes : length c.args.base.now.counts ≡ length c.loop-i.all.counts =
    omega (arith, length-larger c.args.base.now.counts c.args.more.now.counts, c.requires.nodes, ap (λ (l : List ℕ). length l) c.loop-i.invariant.0.counts_are) in
    begun-lawful counts all c.loop-i.i c.loop-i.all s c.loop-i.invariant.0 c.in_ok-name.ensures
    (omega (arith, length-joined c.args.base.now.sources c.args.more.now.sources, c.recall.ensures.few, c.recall-2.ensures.few)) c.recall-in-loop-i.ensures
    (subst (λ (n : ℕ). IsSent n s) nodes
    (joined-sent (length c.args.base.now.counts) c.args.base.now.sources c.args.more.now.sources c.loop-i.i s c.recall.ensures.sources
    (subst (λ (n : ℕ). AllByRecursion (IsSent n) c.args.more.now.sources) (sym c.requires.nodes) c.recall-2.ensures.sources) c.requires.sources c.in_ok-name.ensures small))

pub loop-i-preserved : goal.loop-i-preserved
loop-i-preserved c =
    let s = sent c.in_ok-name.name.now c.in_ok-name.state in
    let counts = larger c.args.base.now.counts c.args.more.now.counts in
    let all = joined_sources c.args.base.now.sources c.args.more.now.sources in (
      subst (IsBegun counts all (c.loop-i.i + 1)) (sym c.in_ok-push.ensures.ok) (begun-more counts all c.loop-i.i c.loop-i.all s c.loop-i.invariant.0 c.in_ok-name.ensures),
      large-next all c.loop-i.i s c.in_ok-name.ensures (omega (arith, c.if-size-gt-MOST_ROWS.false, c.size.ensures)) ∙ c.loop-i.invariant.1,
    )

pub returns : goal.returns
returns c =
    let past : length (joined_sources c.args.base.now.sources c.args.more.now.sources) ≤ c.loop-i.i =
    omega (arith, c.loop-i-test.false, c.max-i-end.ensures, c.len.ensures, c.len-2.ensures, length-joined c.args.base.now.sources c.args.more.now.sources) in
    large-end (joined c.args.base.now c.args.more.now) c.loop-i.i past c.loop-i.invariant.1
    ∙ ap (λ (m : Message). Ok m) (sym (begun-whole (larger c.args.base.now.counts c.args.more.now.counts) (joined_sources c.args.base.now.sources c.args.more.now.sources) c.loop-i.i c.loop-i.all c.loop-i.invariant.0 past))
