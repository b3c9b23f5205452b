use Rattle.std.proofs.Common.{◌≡◌, List, length, map, sym, ap, subst, ◌∙◌, arith}
use Rattle.std.specs.Arc.{arc_value}
use Rattle.lasp_crossing.proofs.Crossing.{crosses}
use Rattle.lasp_drive.proofs.PlayLaws.{fits-so-far, graph-so-far}
use Rattle.lasp_graph.specs.Library.{library_of}
use Rattle.lasp_histlock.specs.Names.{LockId}
use Rattle.lasp_live.specs.Ends.{Box}
use Rattle.model_world.specs.Command.{Script}
use Rattle.lasp_live_run.specs.Posts.{AreAllEnds, AreFreshEnds}
use Rattle.lasp_live_run.proofs.RunLaws.{lived}
use Rattle.lasp_live_run.proofs.SeatLaws.{closable, kept-fits, served-ended, served-ends, served-feeds, served-placed, square-of, unfed-kept}
use Rattle.lasp_live_run.proofs.run.run_nodes.Goals as goal
use Rattle.lasp_threads.specs.Spots.{AreAt, AreFeeds, AreKept, HaveOut, Spot, all_spots, spots_of}
use Rattle.lasp_threads.specs.Stores.{AreBack}
use Rattle.lasp_store_node.specs.View.{place_of}
use Rattle.lasp_threads.proofs.StoreLaws.{all-back, first-feeds, first-made, first-out, placed-out}

pub fresh_stores-requires : goal.fresh_stores-requires
fresh_stores-requires g c =
    let nodes : c.nodes.result ≡ (arc_value c.args.script.now).nodes = c.nodes.ensures ∙ ap (λ (k : Script). k.nodes) c.deref.ensures in
    omega (arith, nodes, c.requires.runnable.limits.nodes)

pub crew_of-crew-requires-clause-few : goal.crew_of-crew-requires-clause-few
crew_of-crew-requires-clause-few g c =
    let nodes : c.nodes.result ≡ (arc_value c.args.script.now).nodes = c.nodes.ensures ∙ ap (λ (k : Script). k.nodes) c.deref.ensures in
    omega (arith, ap (λ (l : List LockId). length l) c.as_slice-all.ensures.value, c.in_ok-stores.ensures.stores, nodes, c.requires.runnable.limits.nodes)

pub crew_of-crew-requires-clause-feeds : goal.crew_of-crew-requires-clause-feeds
crew_of-crew-requires-clause-feeds g c =
    let graph = arc_value c.args.graph.now in
    subst (λ (l : List LockId). AreFeeds l c.in_ok-stores.feeds.items) (sym c.as_slice-all.ensures.value)
    (first-feeds graph c.in_ok-stores.stores.items c.in_ok-stores.feeds.items (graph-so-far graph (arc_value c.args.script.now).commands c.requires.runnable.graph) c.in_ok-stores.ensures.feeds)

pub crew_of-crew-requires-clause-made : goal.crew_of-crew-requires-clause-made
crew_of-crew-requires-clause-made g c = first-made (arc_value c.args.graph.now) c.in_ok-stores.stores.items c.in_ok-stores.feeds.items c.in_ok-stores.ensures.feeds

pub crew_of-crew-requires-clause-out : goal.crew_of-crew-requires-clause-out
crew_of-crew-requires-clause-out g c = first-out (arc_value c.args.graph.now) c.in_ok-stores.stores.items c.in_ok-stores.feeds.items c.in_ok-stores.ensures.feeds

pub serve_nodes-requires-send-W : goal.serve_nodes-requires-send-W
serve_nodes-requires-send-W g c κs within = search (c.type_bounds.sync-R, c.type_bounds.sync-G, crosses) depth 40 fits 4000

pub serve_nodes-requires-clause-feeds : goal.serve_nodes-requires-clause-feeds
serve_nodes-requires-clause-feeds g c κs within = c.crew_of-crew.ensures.kept.feeds

pub serve_nodes-requires-clause-unfed : goal.serve_nodes-requires-clause-unfed
serve_nodes-requires-clause-unfed g c κs within =
    let script = arc_value c.args.script.now in
    let locks = c.in_ok-stores.stores.items in
    let many : length locks ≡ script.nodes = c.in_ok-stores.ensures.stores ∙ c.nodes.ensures ∙ ap (λ (k : Script). k.nodes) c.deref.ensures in
    let kept = subst (λ (l : List LockId). AreKept l c.in_ok-stores.feeds.items c.crew_of-crew.new.feeds.items) c.as_slice-all.ensures.value c.crew_of-crew.ensures.kept in
    unfed-kept (arc_value c.args.graph.now) script locks c.in_ok-stores.feeds.items c.crew_of-crew.new.feeds.items many c.in_ok-stores.ensures.feeds kept

pub serve_nodes-requires-clause-fits : goal.serve_nodes-requires-clause-fits
serve_nodes-requires-clause-fits g c κs within =
    let graph = arc_value c.args.graph.now in
    let script = arc_value c.args.script.now in
    let locks = c.in_ok-stores.stores.items in
    let many : length locks ≡ script.nodes = c.in_ok-stores.ensures.stores ∙ c.nodes.ensures ∙ ap (λ (k : Script). k.nodes) c.deref.ensures in
    let kept = subst (λ (l : List LockId). AreKept l c.in_ok-stores.feeds.items c.crew_of-crew.new.feeds.items) c.as_slice-all.ensures.value c.crew_of-crew.ensures.kept in
    kept-fits (library_of c.args.lib.now) graph script locks c.in_ok-stores.feeds.items c.crew_of-crew.new.feeds.items (fits-so-far (library_of c.args.lib.now) graph script.commands c.requires.runnable.fits) many c.in_ok-stores.ensures.feeds kept

pub serve_nodes-requires-clause-ends : goal.serve_nodes-requires-clause-ends
serve_nodes-requires-clause-ends g c κs within =
    let graph = arc_value c.args.graph.now in
    let script = arc_value c.args.script.now in
    subst (λ (bs : List Box). AreFreshEnds (graph, script) script.nodes bs c.in_ok-boxes.field-0.outs.items c.in_ok-boxes.field-0.ins.items) (sym c.as_slice.ensures.value) c.in_ok-boxes.ensures

-- what the desks give back
pub take_back-requires-clause-feeds : goal.take_back-requires-clause-feeds
take_back-requires-clause-feeds g c =
    served-feeds (arc_value c.args.graph.now) (arc_value c.args.script.now) c.as_slice.result.now c.crew_of-crew.new.feeds.items c.in_ok-boxes.field-0.outs.items c.in_ok-boxes.field-0.ins.items c.in_ok-crew.back c.in_ok-crew.ensures.served
    c.as_slice-all.result.now c.crew_of-crew.ensures.kept.feeds

pub take_back-requires-clause-at : goal.take_back-requires-clause-at
take_back-requires-clause-at g c =
    let all : all_spots (map (λ w. spots_of w.replicas) c.crew_of-crew.result.items) ≡ all_spots (map (λ w. spots_of w.replicas) c.in_ok-crew.crew.items) = sym (ap all_spots c.in_ok-crew.ensures.workers) in
    subst (λ (l : List Spot). AreAt c.as_slice-all.result.now l) all c.crew_of-crew.ensures.at

pub close_posts-requires : goal.close_posts-requires
close_posts-requires g c =
    let graph = arc_value c.args.graph.now in
    let script = arc_value c.args.script.now in
    let b = c.in_ok-crew.back in
    let nodes : length c.crew_of-crew.new.feeds.items ≡ script.nodes =
    c.crew_of-crew.ensures.kept.feeds.size ∙ ap (λ (l : List LockId). length l) c.as_slice-all.ensures.value ∙ c.in_ok-stores.ensures.stores ∙ c.nodes.ensures ∙ ap (λ (k : Script). k.nodes) c.deref.ensures in
    let square = square-of graph script c.in_ok-boxes.field-0.boxes.items c.in_ok-boxes.field-0.outs.items c.in_ok-boxes.field-0.ins.items c.requires.runnable.lawful c.in_ok-boxes.ensures in
    subst (λ (bs : List Box). AreAllEnds (length b.outs.items) bs b.outs.items b.ins.items) c.as_slice.ensures.value
    (served-ends graph script c.as_slice.result.now c.crew_of-crew.new.feeds.items c.in_ok-boxes.field-0.outs.items c.in_ok-boxes.field-0.ins.items b c.in_ok-crew.ensures.served nodes (ap (λ (l : List Box). length l) c.as_slice.ensures.value ∙ square))

pub close_stores-requires : goal.close_stores-requires
close_stores-requires g c =
    let graph = arc_value c.args.graph.now in
    let script = arc_value c.args.script.now in
    let locks = c.in_ok-stores.stores.items in
    let first = c.in_ok-stores.feeds.items in
    let seated = c.crew_of-crew.new.feeds.items in
    let last = c.take_back.new.feeds.items in
    let b = c.in_ok-crew.back in
    let kept = subst (λ (l : List LockId). AreKept l first seated) c.as_slice-all.ensures.value c.crew_of-crew.ensures.kept in
    let behind = subst (λ (l : List LockId). AreKept l b.feeds.items last) c.as_slice-all.ensures.value c.take_back.ensures.kept in
    let placed : map place_of b.feeds.items ≡ map place_of seated = served-placed graph script c.as_slice.result.now seated c.in_ok-boxes.field-0.outs.items c.in_ok-boxes.field-0.ins.items b c.in_ok-crew.ensures.served in
    let all : all_spots (map (λ w. spots_of w.replicas) c.crew_of-crew.result.items) ≡ all_spots (map (λ w. spots_of w.replicas) c.in_ok-crew.crew.items) = sym (ap all_spots c.in_ok-crew.ensures.workers) in
    let out : HaveOut (all_spots (map (λ w. spots_of w.replicas) c.in_ok-crew.crew.items)) seated = subst (λ (l : List Spot). HaveOut l seated) all c.crew_of-crew.ensures.out in
    closable graph locks last
    (all-back graph locks first seated b.feeds.items last c.in_ok-stores.ensures.feeds kept placed behind
    (c.take_back.ensures.out (placed-out (all_spots (map (λ w. spots_of w.replicas) c.in_ok-crew.crew.items)) seated b.feeds.items out placed)))

pub returns : goal.returns
returns g c =
    let graph = arc_value c.args.graph.now in
    let script = arc_value c.args.script.now in
    let locks = c.in_ok-stores.stores.items in
    let first = c.in_ok-stores.feeds.items in
    let seated = c.crew_of-crew.new.feeds.items in
    let last = c.take_back.new.feeds.items in
    let b = c.in_ok-crew.back in
    let many : length locks ≡ script.nodes = c.in_ok-stores.ensures.stores ∙ c.nodes.ensures ∙ ap (λ (k : Script). k.nodes) c.deref.ensures in
    let kept = subst (λ (l : List LockId). AreKept l first seated) c.as_slice-all.ensures.value c.crew_of-crew.ensures.kept in
    let behind = subst (λ (l : List LockId). AreKept l b.feeds.items last) c.as_slice-all.ensures.value c.take_back.ensures.kept in
    let placed : map place_of b.feeds.items ≡ map place_of seated = served-placed graph script c.as_slice.result.now seated c.in_ok-boxes.field-0.outs.items c.in_ok-boxes.field-0.ins.items b c.in_ok-crew.ensures.served in
    let all : all_spots (map (λ w. spots_of w.replicas) c.crew_of-crew.result.items) ≡ all_spots (map (λ w. spots_of w.replicas) c.in_ok-crew.crew.items) = sym (ap all_spots c.in_ok-crew.ensures.workers) in
    let out : HaveOut (all_spots (map (λ w. spots_of w.replicas) c.in_ok-crew.crew.items)) seated = subst (λ (l : List Spot). HaveOut l seated) all c.crew_of-crew.ensures.out in
    let whole : AreBack graph locks last =
    all-back graph locks first seated b.feeds.items last c.in_ok-stores.ensures.feeds kept placed behind
    (c.take_back.ensures.out (placed-out (all_spots (map (λ w. spots_of w.replicas) c.in_ok-crew.crew.items)) seated b.feeds.items out placed)) in
    let nodes : length seated ≡ script.nodes = kept.feeds.size ∙ many in
    lived graph script c.in_ok-close_stores.field-0.items b.diaries.items b.outs.items b.ins.items
    (served-ended graph script c.as_slice.result.now seated c.in_ok-boxes.field-0.outs.items c.in_ok-boxes.field-0.ins.items b c.in_ok-crew.ensures.served nodes locks last c.in_ok-close_stores.field-0.items many behind whole c.in_ok-close_stores.ensures) c.close_posts.ensures
