use Rattle.std.proofs.Common.{◌≡◌, ◌++◌, [], List, length, map, take, drop, sym, ap, subst, ◌∙◌, arith}
use Rattle.std.specs.Arc.{arc_value}
use Rattle.lasp_drive.specs.Node.{AreFresh}
use Rattle.lasp_drive.proofs.PlayLaws.{graph-so-far}
use Rattle.lasp_store.specs.Turn.{Knows}
use Rattle.lasp_store_node.specs.View.{place_of}
use Rattle.lasp_threads.specs.Stores.{AreBack, HaveRun, HaveStopped}
use Rattle.lasp_threads.specs.Spots.{Spot, spots_of, all_spots, AreAt, AreFeeds, HaveMade, HaveOut, nodes_seen, AreKept}
use Rattle.lasp_crossing.proofs.Crossing.{crosses}
use Rattle.lasp_threads.proofs.ListLaws.{written}
use Rattle.lasp_threads.proofs.RanLaws.{fresh-learned, ended-learned, begun-learned, ok-then, err-then}
use Rattle.lasp_threads.proofs.StoreLaws.{first-feeds, first-made, first-out, first-fresh, feeds-unread, placed-out, all-back, ended-run, begun-stopped}
use Rattle.lasp_threads.proofs.run.drive.Goals as goal

pub seat_all-crew-requires-clause-few : goal.seat_all-crew-requires-clause-few
seat_all-crew-requires-clause-few g c = omega (arith, c.requires.stores, c.requires.runnable.limits.nodes)

pub seat_all-crew-requires-clause-feeds : goal.seat_all-crew-requires-clause-feeds
seat_all-crew-requires-clause-feeds g c =
    let graph = arc_value c.args.graph.now in
    subst (λ (l : List Knows). AreFeeds c.args.stores.now l) (sym c.as_mut_slice.ensures.value)
    (first-feeds graph c.args.stores.now c.args.feeds.now.items (graph-so-far graph c.args.script.now.commands c.requires.runnable.graph) c.requires.feeds)

pub seat_all-crew-requires-clause-made : goal.seat_all-crew-requires-clause-made
seat_all-crew-requires-clause-made g c = subst (λ (l : List Knows). HaveMade 1 l) (sym c.as_mut_slice.ensures.value) (first-made (arc_value c.args.graph.now) c.args.stores.now c.args.feeds.now.items c.requires.feeds)

pub seat_all-crew-requires-clause-out : goal.seat_all-crew-requires-clause-out
seat_all-crew-requires-clause-out g c = subst (λ (l : List Knows). HaveOut [] l) (sym c.as_mut_slice.ensures.value) (first-out (arc_value c.args.graph.now) c.args.stores.now c.args.feeds.now.items c.requires.feeds)

pub report_beside-crew-requires-send-W : goal.report_beside-crew-requires-send-W
report_beside-crew-requires-send-W g c κs within = search (c.type_bounds.sync-R, c.type_bounds.sync-G, crosses) depth 40 fits 4000

pub report_beside-crew-requires-clause-fresh : goal.report_beside-crew-requires-clause-fresh
report_beside-crew-requires-clause-fresh g c κs within =
    let graph = arc_value c.args.graph.now in
    let stores = c.args.stores.now in
    let first = c.args.feeds.now.items in
    let seated = c.seat_all-crew.new.feeds in
    let kept : AreKept stores first seated = subst (λ (l : List Knows). AreKept stores l seated) c.as_mut_slice.ensures.value c.seat_all-crew.ensures.kept in
    let whole : length first ≡ c.args.feeds.now.len = sym (ap length c.as_mut_slice.ensures.value) ∙ c.as_mut_slice.ensures.len in
    let back : take c.args.feeds.now.len (seated ++ drop (length seated) first) ≡ seated = written c.args.feeds.now.len seated first (kept.feeds.size ∙ sym c.requires.feeds.size) whole in
    let nodes = c.args.script.now.nodes in
    subst (λ (l : List Knows). AreFresh graph nodes nodes (nodes_seen l)) (sym back)
    (fresh-learned graph nodes (nodes_seen first) (nodes_seen seated) (first-fresh graph nodes stores first c.requires.stores c.requires.feeds) kept.learn (feeds-unread seated))

pub rejoin_all-requires-clause-at : goal.rejoin_all-requires-clause-at
rejoin_all-requires-clause-at g c =
    let all : all_spots (map (λ w. spots_of w.replicas) c.seat_all-crew.result.items) ≡ all_spots (map (λ w. spots_of w.replicas) c.report_beside-crew.result.0.items) = sym (ap all_spots c.report_beside-crew.ensures.workers) in
    subst (λ (l : List Spot). AreAt c.args.stores.now l) all c.seat_all-crew.ensures.at

pub returns-clause-back : goal.returns-clause-back
returns-clause-back g c =
    let graph = arc_value c.args.graph.now in
    let stores = c.args.stores.now in
    let first = c.args.feeds.now.items in
    let seated = c.seat_all-crew.new.feeds in
    let kept : AreKept stores first seated = subst (λ (l : List Knows). AreKept stores l seated) c.as_mut_slice.ensures.value c.seat_all-crew.ensures.kept in
    let whole : length first ≡ c.args.feeds.now.len = sym (ap length c.as_mut_slice.ensures.value) ∙ c.as_mut_slice.ensures.len in
    let back : take c.args.feeds.now.len (seated ++ drop (length seated) first) ≡ seated = written c.args.feeds.now.len seated first (kept.feeds.size ∙ sym c.requires.feeds.size) whole in
    let ran = c.report_beside-crew.new.feeds.items in
    let last = c.rejoin_all.new.feeds in
    let placed : map place_of ran ≡ map place_of seated = c.report_beside-crew.ensures.in_place ∙ ap (λ (l : List Knows). map place_of l) back in
    let behind : AreKept stores ran last = subst (λ (l : List Knows). AreKept stores l last) c.as_mut_slice-2.ensures.value c.rejoin_all.ensures.kept in
    let filled : length ran ≡ c.report_beside-crew.new.feeds.len = sym (ap length c.as_mut_slice-2.ensures.value) ∙ c.as_mut_slice-2.ensures.len in
    let whole-last : take c.report_beside-crew.new.feeds.len (last ++ drop (length last) ran) ≡ last = written c.report_beside-crew.new.feeds.len last ran (behind.feeds.size ∙ sym c.report_beside-crew.ensures.feeds.size) filled in
    let all : all_spots (map (λ w. spots_of w.replicas) c.seat_all-crew.result.items) ≡ all_spots (map (λ w. spots_of w.replicas) c.report_beside-crew.result.0.items) = sym (ap all_spots c.report_beside-crew.ensures.workers) in
    let out : HaveOut (all_spots (map (λ w. spots_of w.replicas) c.report_beside-crew.result.0.items)) seated =
    subst (λ (l : List Spot). HaveOut l seated) all c.seat_all-crew.ensures.out in
    subst (λ (l : List Knows). AreBack graph stores l) (sym whole-last)
    (all-back graph stores first seated ran last c.requires.feeds kept placed behind (c.rejoin_all.ensures.out
    (subst (λ (l : List Knows). HaveOut (all_spots (map (λ w. spots_of w.replicas) c.report_beside-crew.result.0.items)) l) (sym c.as_mut_slice-2.ensures.value)
    (placed-out (all_spots (map (λ w. spots_of w.replicas) c.report_beside-crew.result.0.items)) seated ran out placed))))

pub returns-clause-ran : goal.returns-clause-ran
returns-clause-ran g c =
    let graph = arc_value c.args.graph.now in
    let stores = c.args.stores.now in
    let first = c.args.feeds.now.items in
    let seated = c.seat_all-crew.new.feeds in
    let kept : AreKept stores first seated = subst (λ (l : List Knows). AreKept stores l seated) c.as_mut_slice.ensures.value c.seat_all-crew.ensures.kept in
    let whole : length first ≡ c.args.feeds.now.len = sym (ap length c.as_mut_slice.ensures.value) ∙ c.as_mut_slice.ensures.len in
    let back : take c.args.feeds.now.len (seated ++ drop (length seated) first) ≡ seated = written c.args.feeds.now.len seated first (kept.feeds.size ∙ sym c.requires.feeds.size) whole in
    let ran = c.report_beside-crew.new.feeds.items in
    let last = c.rejoin_all.new.feeds in
    let placed : map place_of ran ≡ map place_of seated = c.report_beside-crew.ensures.in_place ∙ ap (λ (l : List Knows). map place_of l) back in
    let behind : AreKept stores ran last = subst (λ (l : List Knows). AreKept stores l last) c.as_mut_slice-2.ensures.value c.rejoin_all.ensures.kept in
    let filled : length ran ≡ c.report_beside-crew.new.feeds.len = sym (ap length c.as_mut_slice-2.ensures.value) ∙ c.as_mut_slice-2.ensures.len in
    let whole-last : take c.report_beside-crew.new.feeds.len (last ++ drop (length last) ran) ≡ last = written c.report_beside-crew.new.feeds.len last ran (behind.feeds.size ∙ sym c.report_beside-crew.ensures.feeds.size) filled in
    let script = c.args.script.now in
    ok-then c.report_beside-crew.result.1 c.report_beside-crew.ensures.ran (λ ended.
    subst (λ (l : List Knows). HaveRun graph script l) (sym whole-last)
    (ended-run graph script last (behind.feeds.size ∙ c.requires.stores) (ended-learned graph script (nodes_seen ran) (nodes_seen last) ended behind.learn)))

pub returns-clause-stopped : goal.returns-clause-stopped
returns-clause-stopped g c =
    let graph = arc_value c.args.graph.now in
    let stores = c.args.stores.now in
    let first = c.args.feeds.now.items in
    let seated = c.seat_all-crew.new.feeds in
    let kept : AreKept stores first seated = subst (λ (l : List Knows). AreKept stores l seated) c.as_mut_slice.ensures.value c.seat_all-crew.ensures.kept in
    let whole : length first ≡ c.args.feeds.now.len = sym (ap length c.as_mut_slice.ensures.value) ∙ c.as_mut_slice.ensures.len in
    let back : take c.args.feeds.now.len (seated ++ drop (length seated) first) ≡ seated = written c.args.feeds.now.len seated first (kept.feeds.size ∙ sym c.requires.feeds.size) whole in
    let ran = c.report_beside-crew.new.feeds.items in
    let last = c.rejoin_all.new.feeds in
    let placed : map place_of ran ≡ map place_of seated = c.report_beside-crew.ensures.in_place ∙ ap (λ (l : List Knows). map place_of l) back in
    let behind : AreKept stores ran last = subst (λ (l : List Knows). AreKept stores l last) c.as_mut_slice-2.ensures.value c.rejoin_all.ensures.kept in
    let filled : length ran ≡ c.report_beside-crew.new.feeds.len = sym (ap length c.as_mut_slice-2.ensures.value) ∙ c.as_mut_slice-2.ensures.len in
    let whole-last : take c.report_beside-crew.new.feeds.len (last ++ drop (length last) ran) ≡ last = written c.report_beside-crew.new.feeds.len last ran (behind.feeds.size ∙ sym c.report_beside-crew.ensures.feeds.size) filled in
    let script = c.args.script.now in
    err-then c.report_beside-crew.result.1 c.report_beside-crew.ensures.stopped (λ begun.
    subst (λ (l : List Knows). HaveStopped graph script l) (sym whole-last)
    (begun-stopped graph script last (behind.feeds.size ∙ c.requires.stores) (begun-learned graph script (nodes_seen ran) (nodes_seen last) begun behind.learn)))
