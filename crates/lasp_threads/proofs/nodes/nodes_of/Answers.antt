use Rattle.std.proofs.Common.{rules, ◌≡◌, ◌<◌, ◌++◌, ◌∷◌, [], length, refl, sym, ap, subst, ◌∙◌, List, arith, vec_len}
use Rattle.std.specs.Prelude.{Some, None, slice_get}
use Rattle.std.proofs.lemmas.Option.{slice_get_read}
use Rattle.lasp_store.specs.Turn.{Knows}
use Rattle.lasp_drive.proofs.NodeLaws.{mapped-at}
use Rattle.lasp_store_node.specs.View.{Seen, seen}
use Rattle.lasp_threads.specs.Spots.{unsent}
use Rattle.lasp_threads.proofs.ListLaws.{at-seam, mapped-from, moved-mapped}
use Rattle.lasp_threads.proofs.nodes.nodes_of.Goals as goal

pub new-requires : goal.new-requires
new-requires g c =
    let stores = c.args.stores.now in
    let p = c.loop-p.p in
    let left = c.loop-p.feeds.items in
    let F : Knows = c.remove-feed.result in
    let made : length c.loop-p.nodes.items ≡ vec_len c.loop-p.nodes = search rules in
    let size : length left ≡ vec_len c.loop-p.feeds = search rules in
    let all : length c.args.feeds.now.items ≡ vec_len c.args.feeds.now = search rules in
    let low : p < length stores = omega (arith, c.loop-p-test.true, c.loop-p.invariant.end) in
    let S = c.index-stores-p.result in
    let first : slice_get left 0 ≡ Some F = slice_get_read left (length left) 0 F refl (omega (arith, size, all, c.loop-p.invariant.left, low, c.requires.size)) c.remove-feed.ensures.value in
    let there = mapped-from (λ (f : Knows). seen f None) c.args.feeds.now.items p (seen F None)
    (subst (λ (l : List Seen). slice_get l p ≡ Some (seen F None)) c.loop-p.invariant.items
    (at-seam c.loop-p.nodes.items (unsent left) p (seen F None) (omega (arith, made, c.loop-p.invariant.size)) (mapped-at (λ (f : Knows). seen f None) left 0 F first))) in
    c.requires.each p S F (slice_get_read stores (length stores) p S refl low (search rules)) (there.1 ∙ ap (λ (n : Seen). Some n.feed) (sym there.2))

pub loop-p-preserved : goal.loop-p-preserved
loop-p-preserved g c =
    let left = c.loop-p.feeds.items in
    let F : Knows = c.remove-feed.result in
    let size : length left ≡ vec_len c.loop-p.feeds = search rules in
    let all : length c.args.feeds.now.items ≡ vec_len c.args.feeds.now = search rules in
    let low : c.loop-p.p < length c.args.stores.now = omega (arith, c.loop-p-test.true, c.loop-p.invariant.end) in
    let first : slice_get left 0 ≡ Some F = slice_get_read left (length left) 0 F refl (omega (arith, size, all, c.loop-p.invariant.left, low, c.requires.size)) c.remove-feed.ensures.value in
    record {
      end = c.loop-p.invariant.end;
      items = moved-mapped (λ (f : Knows). seen f None) c.push.new.self.items c.loop-p.nodes.items left c.remove-feed.new.self.items c.args.feeds.now.items F first c.remove-feed.ensures.items
          (c.in-Ok.ensures.items ∙ ap (λ (n : Seen). c.loop-p.nodes.items ++ n ∷ []) c.new.ensures.feed) c.loop-p.invariant.items;
      size = omega (arith, c.in-Ok.ensures.len, c.loop-p.invariant.size);
      left = omega (arith, c.remove-feed.ensures.len, c.loop-p.invariant.left);
      room = omega (arith, c.in-Ok.ensures.capacity, c.loop-p.invariant.room);
      kept = c.remove-feed.ensures.capacity ∙ c.loop-p.invariant.kept;
    }
