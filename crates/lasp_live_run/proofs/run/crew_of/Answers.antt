use Rattle.std.proofs.Common.{◌≡◌, ◌++◌, [], List, length, map, take, drop, sym, ap, subst, ◌∙◌}
use Rattle.lasp_live_run.proofs.run.crew_of.Goals as goal
use Rattle.lasp_store.specs.Turn.{Knows}
use Rattle.lasp_threads.specs.Spots.{AreFeeds, AreKept, HaveMade, HaveOut, all_spots, spots_of}
use Rattle.lasp_threads.proofs.ListLaws.{written}

pub seat_all-requires-clause-feeds : goal.seat_all-requires-clause-feeds
seat_all-requires-clause-feeds g c = subst (λ (l : List Knows). AreFeeds c.args.stores.now l) (sym c.as_mut_slice.ensures.value) c.requires.feeds

pub seat_all-requires-clause-made : goal.seat_all-requires-clause-made
seat_all-requires-clause-made g c = subst (λ (l : List Knows). HaveMade 1 l) (sym c.as_mut_slice.ensures.value) c.requires.made

pub seat_all-requires-clause-out : goal.seat_all-requires-clause-out
seat_all-requires-clause-out g c = subst (λ (l : List Knows). HaveOut [] l) (sym c.as_mut_slice.ensures.value) c.requires.out

pub returns-clause-kept : goal.returns-clause-kept
returns-clause-kept g c =
    let stores = c.args.stores.now in
    let first = c.args.feeds.now.items in
    let seated = c.seat_all.new.feeds in
    let kept : AreKept stores first seated = subst (λ (l : List Knows). AreKept stores l seated) c.as_mut_slice.ensures.value c.seat_all.ensures.kept in
    let whole : length first ≡ c.args.feeds.now.len = sym (ap length c.as_mut_slice.ensures.value) ∙ c.as_mut_slice.ensures.len in
    let back : take c.args.feeds.now.len (seated ++ drop (length seated) first) ≡ seated = written c.args.feeds.now.len seated first (kept.feeds.size ∙ sym c.requires.feeds.size) whole in
    subst (λ (l : List Knows). AreKept stores first l) (sym back) kept

pub returns-clause-out : goal.returns-clause-out
returns-clause-out g c =
    let stores = c.args.stores.now in
    let first = c.args.feeds.now.items in
    let seated = c.seat_all.new.feeds in
    let kept : AreKept stores first seated = subst (λ (l : List Knows). AreKept stores l seated) c.as_mut_slice.ensures.value c.seat_all.ensures.kept in
    let whole : length first ≡ c.args.feeds.now.len = sym (ap length c.as_mut_slice.ensures.value) ∙ c.as_mut_slice.ensures.len in
    let back : take c.args.feeds.now.len (seated ++ drop (length seated) first) ≡ seated = written c.args.feeds.now.len seated first (kept.feeds.size ∙ sym c.requires.feeds.size) whole in
    subst (λ (l : List Knows). HaveOut (all_spots (map (λ w. spots_of w.replicas) c.seat_all.result.items)) l) (sym back) c.seat_all.ensures.out
