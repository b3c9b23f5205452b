use Rattle.std.proofs.Common.{rules, ◌≡◌, ℕ, ◌+◌, ◌<◌, ◌++◌, ◌∷◌, [], length, refl, sym, subst, arith}
use Rattle.std.specs.Prelude.{Some, slice_get, slice_set, slice_index_or}
use Rattle.std.proofs.lemmas.Option.{slice_get_read, slice_get-get_or}
use Rattle.lasp_histlock.specs.Names.{LockId}
use Rattle.lasp_store.specs.Turn.{Knows}
use Rattle.lasp_threads.specs.Spots.{HaveOut, AreMaking}
use Rattle.lasp_threads.proofs.KeptLaws.{kept-begins, kept-next}
use Rattle.lasp_threads.proofs.SpotLaws.{split-out, making-next}
use Rattle.lasp_threads.proofs.hands.split_at.Goals as goal

pub split-requires-clause-feed : goal.split-requires-clause-feed
split-requires-clause-feed c =
    let stores = c.args.stores.now in
    let feeds = c.args.feeds.now in
    let p = c.from-p.result in
    let same : p ≡ c.args.node = omega (arith, c.from-p.ensures) in
    let low : p < length stores = omega (arith, c.requires.node, c.from-p.ensures) in
    let S = c.index-stores-p.result in
    let F : Knows = slice_index_or feeds p c.index-feeds-p.result in
    let store : slice_get stores p ≡ Some S = slice_get_read stores (length stores) p S refl low (search rules) in
    let feed : slice_get feeds p ≡ Some F = slice_get-get_or feeds p c.index-feeds-p.result (omega (arith, low, c.requires.feeds.size)) in
    c.requires.feeds.each p S F store feed

pub split-requires-clause-room : goal.split-requires-clause-room
split-requires-clause-room c =
    let stores = c.args.stores.now in
    let feeds = c.args.feeds.now in
    let p = c.from-p.result in
    let same : p ≡ c.args.node = omega (arith, c.from-p.ensures) in
    let low : p < length stores = omega (arith, c.requires.node, c.from-p.ensures) in
    let S = c.index-stores-p.result in
    let F : Knows = slice_index_or feeds p c.index-feeds-p.result in
    let store : slice_get stores p ≡ Some S = slice_get_read stores (length stores) p S refl low (search rules) in
    let feed : slice_get feeds p ≡ Some F = slice_get-get_or feeds p c.index-feeds-p.result (omega (arith, low, c.requires.feeds.size)) in
    c.requires.room F (subst (λ (n : ℕ). slice_get feeds n ≡ Some F) same feed)

pub returns-clause-at : goal.returns-clause-at
returns-clause-at c =
    let stores = c.args.stores.now in
    let feeds = c.args.feeds.now in
    let p = c.from-p.result in
    let same : p ≡ c.args.node = omega (arith, c.from-p.ensures) in
    let low : p < length stores = omega (arith, c.requires.node, c.from-p.ensures) in
    let S = c.index-stores-p.result in
    let F : Knows = slice_index_or feeds p c.index-feeds-p.result in
    let store : slice_get stores p ≡ Some S = slice_get_read stores (length stores) p S refl low (search rules) in
    let feed : slice_get feeds p ≡ Some F = slice_get-get_or feeds p c.index-feeds-p.result (omega (arith, low, c.requires.feeds.size)) in
    subst (λ (l : LockId). slice_get stores c.args.node ≡ Some l) (sym c.split.ensures.hand.lock) (subst (λ (n : ℕ). slice_get stores n ≡ Some S) same store)

pub returns-clause-kept : goal.returns-clause-kept
returns-clause-kept c =
    let stores = c.args.stores.now in
    let feeds = c.args.feeds.now in
    let p = c.from-p.result in
    let same : p ≡ c.args.node = omega (arith, c.from-p.ensures) in
    let low : p < length stores = omega (arith, c.requires.node, c.from-p.ensures) in
    let S = c.index-stores-p.result in
    let F : Knows = slice_index_or feeds p c.index-feeds-p.result in
    let store : slice_get stores p ≡ Some S = slice_get_read stores (length stores) p S refl low (search rules) in
    let feed : slice_get feeds p ≡ Some F = slice_get-get_or feeds p c.index-feeds-p.result (omega (arith, low, c.requires.feeds.size)) in
    kept-next stores feeds feeds p S F c.split.new.feed (kept-begins stores feeds c.requires.feeds) store feed c.split.ensures.kept

pub returns-clause-out : goal.returns-clause-out
returns-clause-out c =
    let stores = c.args.stores.now in
    let feeds = c.args.feeds.now in
    let p = c.from-p.result in
    let same : p ≡ c.args.node = omega (arith, c.from-p.ensures) in
    let low : p < length stores = omega (arith, c.requires.node, c.from-p.ensures) in
    let S = c.index-stores-p.result in
    let F : Knows = slice_index_or feeds p c.index-feeds-p.result in
    let store : slice_get stores p ≡ Some S = slice_get_read stores (length stores) p S refl low (search rules) in
    let feed : slice_get feeds p ≡ Some F = slice_get-get_or feeds p c.index-feeds-p.result (omega (arith, low, c.requires.feeds.size)) in
    λ spots out. subst (λ (n : ℕ). HaveOut (spots ++ (n, c.split.result.lock, c.split.result.number) ∷ []) (slice_set feeds p c.split.new.feed)) same
    (split-out spots feeds (p, c.split.result.lock, c.split.result.number) F c.split.new.feed feed c.split.ensures.number c.split.ensures.made c.split.ensures.back out)

pub returns-clause-making : goal.returns-clause-making
returns-clause-making c =
    let stores = c.args.stores.now in
    let feeds = c.args.feeds.now in
    let p = c.from-p.result in
    let same : p ≡ c.args.node = omega (arith, c.from-p.ensures) in
    let low : p < length stores = omega (arith, c.requires.node, c.from-p.ensures) in
    let S = c.index-stores-p.result in
    let F : Knows = slice_index_or feeds p c.index-feeds-p.result in
    let store : slice_get stores p ≡ Some S = slice_get_read stores (length stores) p S refl low (search rules) in
    let feed : slice_get feeds p ≡ Some F = slice_get-get_or feeds p c.index-feeds-p.result (omega (arith, low, c.requires.feeds.size)) in
    λ most making. subst (λ (n : ℕ). AreMaking most (n + 1) (slice_set feeds p c.split.new.feed)) same
    (making-next most p feeds F c.split.new.feed (subst (λ (n : ℕ). AreMaking most n feeds) (sym same) making) feed c.split.ensures.made)
