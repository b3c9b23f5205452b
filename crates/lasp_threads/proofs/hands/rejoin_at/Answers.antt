use Rattle.std.proofs.Common.{rules, ◌≡◌, ℕ, ◌<◌, ◌++◌, ◌∷◌, [], length, refl, sym, ap, subst, ◌∙◌, arith}
use Rattle.std.specs.Prelude.{Some, slice_get, slice_index_or}
use Rattle.std.proofs.lemmas.Option.{slice_get_read, slice_get-get_or, slice_get_within, same_Some}
use Rattle.lasp_histlock.specs.Names.{LockId}
use Rattle.lasp_store.specs.Turn.{Knows, IsSeated}
use Rattle.lasp_threads.specs.Spots.{HaveOut}
use Rattle.lasp_threads.proofs.KeptLaws.{kept-begins, kept-next}
use Rattle.lasp_threads.proofs.SpotLaws.{rejoin-out, made-same}
use Rattle.lasp_threads.proofs.hands.rejoin_at.Goals as goal

pub rejoin-requires-clause-feed : goal.rejoin-requires-clause-feed
rejoin-requires-clause-feed c =
    let stores = c.args.stores.now in
    let feeds = c.args.feeds.now in
    let p = c.from-p.result in
    let same : p ≡ c.args.node = omega (arith, c.from-p.ensures) in
    let low : p < length stores = omega (arith, slice_get_within c.args.stores.now c.args.node c.args.hand.lock c.requires.at, c.from-p.ensures) in
    let S = c.index-stores-p.result in
    let F : Knows = slice_index_or feeds p c.index-feeds-p.result in
    let store : slice_get stores p ≡ Some S = slice_get_read stores (length stores) p S refl low (search rules) in
    let feed : slice_get feeds p ≡ Some F = slice_get-get_or feeds p c.index-feeds-p.result (omega (arith, low, c.requires.feeds.size)) in
    c.requires.feeds.each p S F store feed

pub rejoin-requires-clause-hand : goal.rejoin-requires-clause-hand
rejoin-requires-clause-hand c =
    let stores = c.args.stores.now in
    let feeds = c.args.feeds.now in
    let p = c.from-p.result in
    let same : p ≡ c.args.node = omega (arith, c.from-p.ensures) in
    let low : p < length stores = omega (arith, slice_get_within c.args.stores.now c.args.node c.args.hand.lock c.requires.at, c.from-p.ensures) in
    let S = c.index-stores-p.result in
    let F : Knows = slice_index_or feeds p c.index-feeds-p.result in
    let store : slice_get stores p ≡ Some S = slice_get_read stores (length stores) p S refl low (search rules) in
    let feed : slice_get feeds p ≡ Some F = slice_get-get_or feeds p c.index-feeds-p.result (omega (arith, low, c.requires.feeds.size)) in
    subst (λ (l : LockId). IsSeated l c.args.hand) (sym (same_Some S c.args.hand.lock (sym store ∙ ap (slice_get stores) same ∙ c.requires.at))) c.requires.hand

pub returns-clause-kept : goal.returns-clause-kept
returns-clause-kept c =
    let stores = c.args.stores.now in
    let feeds = c.args.feeds.now in
    let p = c.from-p.result in
    let same : p ≡ c.args.node = omega (arith, c.from-p.ensures) in
    let low : p < length stores = omega (arith, slice_get_within c.args.stores.now c.args.node c.args.hand.lock c.requires.at, c.from-p.ensures) in
    let S = c.index-stores-p.result in
    let F : Knows = slice_index_or feeds p c.index-feeds-p.result in
    let store : slice_get stores p ≡ Some S = slice_get_read stores (length stores) p S refl low (search rules) in
    let feed : slice_get feeds p ≡ Some F = slice_get-get_or feeds p c.index-feeds-p.result (omega (arith, low, c.requires.feeds.size)) in
    kept-next stores feeds feeds p S F c.rejoin.new.feed (kept-begins stores feeds c.requires.feeds) store feed c.rejoin.ensures.kept

pub returns-clause-out : goal.returns-clause-out
returns-clause-out c =
    let stores = c.args.stores.now in
    let feeds = c.args.feeds.now in
    let p = c.from-p.result in
    let same : p ≡ c.args.node = omega (arith, c.from-p.ensures) in
    let low : p < length stores = omega (arith, slice_get_within c.args.stores.now c.args.node c.args.hand.lock c.requires.at, c.from-p.ensures) in
    let S = c.index-stores-p.result in
    let F : Knows = slice_index_or feeds p c.index-feeds-p.result in
    let store : slice_get stores p ≡ Some S = slice_get_read stores (length stores) p S refl low (search rules) in
    let feed : slice_get feeds p ≡ Some F = slice_get-get_or feeds p c.index-feeds-p.result (omega (arith, low, c.requires.feeds.size)) in
    λ spots out. rejoin-out spots feeds (p, c.args.hand.lock, c.args.hand.number) F c.rejoin.new.feed feed c.rejoin.ensures.made c.rejoin.ensures.back
    (subst (λ (n : ℕ). HaveOut (spots ++ (n, c.args.hand.lock, c.args.hand.number) ∷ []) feeds) (sym same) out)

pub returns-clause-made : goal.returns-clause-made
returns-clause-made c =
    let stores = c.args.stores.now in
    let feeds = c.args.feeds.now in
    let p = c.from-p.result in
    let same : p ≡ c.args.node = omega (arith, c.from-p.ensures) in
    let low : p < length stores = omega (arith, slice_get_within c.args.stores.now c.args.node c.args.hand.lock c.requires.at, c.from-p.ensures) in
    let S = c.index-stores-p.result in
    let F : Knows = slice_index_or feeds p c.index-feeds-p.result in
    let store : slice_get stores p ≡ Some S = slice_get_read stores (length stores) p S refl low (search rules) in
    let feed : slice_get feeds p ≡ Some F = slice_get-get_or feeds p c.index-feeds-p.result (omega (arith, low, c.requires.feeds.size)) in
    λ most made. made-same most p feeds F c.rejoin.new.feed made feed c.rejoin.ensures.made
