use Rattle.std.proofs.Common.{rules, ◌≡◌, ◌+◌, ◌<◌, ◌≤◌, true, false, length, sym, subst, ◌∙◌, arith}
use Rattle.std.specs.Prelude.{ℕ, slice_get, Some, slice_index_or}
use Rattle.std.proofs.lemmas.Bool.Decides.{nat_tests}
use Rattle.std.proofs.lemmas.Option.{get_or_from_slice_get, slice_get-get_or}
use Rattle.model_graph.specs.Graph.{is_source, kind_at}
use Rattle.model_graph.specs.Message.{sent_at}
use Rattle.model_states.specs.Counts.{count_at}
use Rattle.lasp_live.specs.Own.{total_in}
use Rattle.lasp_live.proofs.OwnLaws.{IsNewsAt, news-begins, news-source, news-derived, news-ends}
use Rattle.lasp_live.proofs.own.Own.is_news.Goals as goal
use Rattle.lasp_live.proofs.own.Own.is_news.Goals.{then-is_source+else-not-is_source_within, else-is_source}

pub loop-x-init : goal.loop-x-init
loop-x-init c = news-begins c.args.graph.now c.args.me (total_in c.args.self.now) c.args.m.now

pub loop-x-preserved : goal.loop-x-preserved
loop-x-preserved c =
    let low : c.loop-x.x < length c.args.graph.now = omega (arith, c.loop-x-test.true, c.len-x-end.ensures.count) in
    elim c.if-is_source.branch [
      | then-is_source+else-not-is_source_within w ↦
          let source : is_source (kind_at c.args.graph.now c.loop-x.x) ≡ true = (λ i. is_source (c.at-decl.ensures.kind i)) ∙ sym c.is_source.ensures ∙ w.if-is_source.true in
          let few : count_at (sent_at c.args.m.now.sources c.loop-x.i).counts c.args.me ≤ total_in c.args.self.now c.loop-x.x =
          (let passed : w.is_source_within.result ≡ true = search rules in
          let read : slice_index_or c.args.self.now.totals.items c.loop-x.x w.index.result.now ≡ w.index.result.now = search rules in
          let size : c.loop-x.x < length c.args.self.now.totals.items = omega (arith, low, c.requires.size) in
          let item : w.index.result.now ≡ total_in c.args.self.now c.loop-x.x =
          sym read ∙ sym (get_or_from_slice_get c.args.self.now.totals.items c.loop-x.x (slice_index_or c.args.self.now.totals.items c.loop-x.x w.index.result.now) 0 (slice_get-get_or c.args.self.now.totals.items c.loop-x.x w.index.result.now size)) in
          subst (λ (n : ℕ). count_at (sent_at c.args.m.now.sources c.loop-x.i).counts c.args.me ≤ n) item (w.is_source_within.ensures passed)) in
          subst (IsNewsAt c.args.graph.now c.args.me (total_in c.args.self.now) c.args.m.now (c.loop-x.x + 1)) (sym w.i-is)
          (news-source c.args.graph.now c.args.me (total_in c.args.self.now) c.args.m.now c.loop-x.x c.loop-x.i c.loop-x.invariant low source few)
      | else-is_source w ↦
          let derived : is_source (kind_at c.args.graph.now c.loop-x.x) ≡ false = (λ i. is_source (c.at-decl.ensures.kind i)) ∙ sym c.is_source.ensures ∙ w.if-is_source.false in
          subst (IsNewsAt c.args.graph.now c.args.me (total_in c.args.self.now) c.args.m.now (c.loop-x.x + 1)) (sym w.i-is)
          (news-derived c.args.graph.now c.args.me (total_in c.args.self.now) c.args.m.now c.loop-x.x c.loop-x.i c.loop-x.invariant low derived)
    ]

pub returns : goal.returns
returns c =
    let there : slice_get c.args.m.now.counts c.args.me ≡ Some c.at.result = search rules in
    let item : count_at c.args.m.now.counts c.args.me ≡ c.at.result = get_or_from_slice_get c.args.m.now.counts c.args.me c.at.result 0 there in
    let low : c.at.result ≤ c.args.self.now.updates = grind (arith, nat_tests, c.if-self-at.false) in
    let few : count_at c.args.m.now.counts c.args.me ≤ c.args.self.now.updates = omega (arith, item, low) in
    λ t. news-ends c.args.graph.now c.args.me c.args.self.now.updates (total_in c.args.self.now) c.args.m.now c.loop-x.x c.loop-x.i few c.loop-x.invariant (omega (arith, c.loop-x-test.false, c.len-x-end.ensures.count))
