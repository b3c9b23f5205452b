use Rattle.std.proofs.Common.{List, map, sym, ap, subst, ◌∙◌}
use Rattle.std.specs.Arc.{arc_value}
use Rattle.model_graph.specs.Graph.{Decl}
use Rattle.lasp_drive.specs.Node.{NodeView, AreFresh}
use Rattle.lasp_store.specs.Turn.{Knows}
use Rattle.lasp_store_node.specs.View.{Seen, node_seen}
use Rattle.lasp_threads.specs.Ran.{HaveEnded, HaveBegun}
use Rattle.lasp_threads.specs.Spots.{nodes_seen}
use Rattle.lasp_threads.proofs.NodesLaws.{unsent-seen, given-places, given-ended, given-begun}
use Rattle.lasp_threads.proofs.RanLaws.{fresh-begun, ok-then, err-then}
use Rattle.lasp_threads.proofs.StoreLaws.{placed-feeds}
use Rattle.lasp_threads.proofs.run.report_beside.Goals as goal

pub report_on-workers-requires-clause-fresh : goal.report_on-workers-requires-clause-fresh
report_on-workers-requires-clause-fresh g c κs within =
    subst (λ (z : List Decl × List NodeView). AreFresh z.0 c.args.script.now.nodes c.args.script.now.nodes z.1)
    (λ i. (sym c.in-Ok.ensures.graph i, (sym (unsent-seen c.args.feeds.now.items) ∙ ap (λ (l : List Seen). map node_seen l) (sym c.in-Ok.ensures.nodes)) i)) c.requires.fresh

pub returns-in-Ok-clause-ran : goal.returns-in-Ok-clause-ran
returns-in-Ok-clause-ran g c =
    let nodes = c.report_on-workers.result.1.items in
    ok-then c.report_on-workers.result.2 c.report_on-workers.ensures.ran (λ ran.
    subst (λ (z : List Decl × List Knows). HaveEnded z.0 c.args.script.now (nodes_seen z.1)) (λ i. (c.in-Ok.ensures.graph i, sym c.give_feeds.ensures.feeds i))
    (given-ended nodes _ c.args.script.now ran))

pub returns-in-Ok-clause-in_place : goal.returns-in-Ok-clause-in_place
returns-in-Ok-clause-in_place g c =
    given-places c.args.feeds.now.items _ c.report_on-workers.result.1.items c.give_feeds.new.feeds.items c.in-Ok.ensures.nodes c.report_on-workers.ensures.in_place c.give_feeds.ensures.feeds

pub returns-in-Ok-clause-stopped : goal.returns-in-Ok-clause-stopped
returns-in-Ok-clause-stopped g c =
    let nodes = c.report_on-workers.result.1.items in
    err-then c.report_on-workers.result.2 c.report_on-workers.ensures.stopped (λ begun.
    subst (λ (z : List Decl × List Knows). HaveBegun z.0 c.args.script.now (nodes_seen z.1)) (λ i. (c.in-Ok.ensures.graph i, sym c.give_feeds.ensures.feeds i))
    (given-begun nodes _ c.args.script.now begun))

pub returns-in-Ok-clause-feeds : goal.returns-in-Ok-clause-feeds
returns-in-Ok-clause-feeds g c =
    placed-feeds c.args.stores.now c.args.feeds.now.items c.give_feeds.new.feeds.items c.requires.feeds
    (given-places c.args.feeds.now.items _ c.report_on-workers.result.1.items c.give_feeds.new.feeds.items c.in-Ok.ensures.nodes c.report_on-workers.ensures.in_place c.give_feeds.ensures.feeds) c.give_feeds.ensures.are

pub returns-in-Err-clause-stopped : goal.returns-in-Err-clause-stopped
returns-in-Err-clause-stopped g c =
    subst (λ (l : List Knows). HaveBegun (arc_value c.args.graph.now) c.args.script.now (nodes_seen l)) (λ i. (sym c.in-Err.ensures.err i).items)
    (fresh-begun (arc_value c.args.graph.now) c.args.script.now (nodes_seen c.args.feeds.now.items) c.requires.fresh)
