use Rattle.std.proofs.Common.{◌≡◌, ◌++◌, [], List, length, map, take, drop, sym, ap, subst, ◌∙◌}
use Rattle.lasp_live_run.proofs.run.take_back.Goals as goal
use Rattle.lasp_store.specs.Turn.{Knows}
use Rattle.lasp_threads.specs.Spots.{AreFeeds, AreKept, HaveOut, all_spots, spots_of}
use Rattle.lasp_threads.proofs.ListLaws.{written}

pub rejoin_all-requires-clause-feeds : goal.rejoin_all-requires-clause-feeds
rejoin_all-requires-clause-feeds g c = subst (λ (l : List Knows). AreFeeds c.args.stores.now l) (sym c.as_mut_slice.ensures.value) c.requires.feeds

pub returns-clause-kept : goal.returns-clause-kept
returns-clause-kept g c =
    let stores = c.args.stores.now in
    let old = c.args.feeds.now.items in
    let last = c.rejoin_all.new.feeds in
    let kept : AreKept stores old last = subst (λ (l : List Knows). AreKept stores l last) c.as_mut_slice.ensures.value c.rejoin_all.ensures.kept in
    let whole : length old ≡ c.args.feeds.now.len = sym (ap length c.as_mut_slice.ensures.value) ∙ c.as_mut_slice.ensures.len in
    let back : take c.args.feeds.now.len (last ++ drop (length last) old) ≡ last = written c.args.feeds.now.len last old (kept.feeds.size ∙ sym c.requires.feeds.size) whole in
    subst (λ (l : List Knows). AreKept stores old l) (sym back) kept

pub returns-clause-out : goal.returns-clause-out
returns-clause-out g c out =
    let stores = c.args.stores.now in
    let old = c.args.feeds.now.items in
    let last = c.rejoin_all.new.feeds in
    let kept : AreKept stores old last = subst (λ (l : List Knows). AreKept stores l last) c.as_mut_slice.ensures.value c.rejoin_all.ensures.kept in
    let whole : length old ≡ c.args.feeds.now.len = sym (ap length c.as_mut_slice.ensures.value) ∙ c.as_mut_slice.ensures.len in
    let back : take c.args.feeds.now.len (last ++ drop (length last) old) ≡ last = written c.args.feeds.now.len last old (kept.feeds.size ∙ sym c.requires.feeds.size) whole in
    subst (λ (l : List Knows). HaveOut [] l) (sym back)
    (c.rejoin_all.ensures.out (subst (λ (l : List Knows). HaveOut (all_spots (map (λ w. spots_of w.replicas) c.args.crew.items)) l) (sym c.as_mut_slice.ensures.value) out))
