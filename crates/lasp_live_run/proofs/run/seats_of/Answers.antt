use Rattle.std.proofs.Common.{rules, ℕ, ◌≡◌, ◌<◌, ◌++◌, ◌∷◌, [], List, length, map, refl, sym, ap, subst, ◌∙◌, arith}
use Rattle.std.specs.Prelude.{None, Some, slice_get}
use Rattle.std.specs.Vec.Iter.{into_iter_items}
use Rattle.std.proofs.lemmas.List.{length-append, length-map}
use Rattle.std.proofs.lemmas.Option.{slice_get_read}
use Rattle.model_readings.specs.Lawful.{FitsAll}
use Rattle.lasp_live_run.specs.declared.seat.Seat.{Seat}
use Rattle.lasp_live_run.proofs.DeskLaws.{all-at, desk-next, desks-taken, head-taken, moved-on}
use Rattle.lasp_live_run.proofs.run.seats_of.Goals as goal
use Rattle.lasp_store.specs.Turn.{Knows, graph_seen}
use Rattle.lasp_threads.proofs.ListLaws.{at-seam}

pub new-requires-clause-feed : goal.new-requires-clause-feed
new-requires-clause-feed g c =
    let stores = c.args.stores.now in
    let p = c.loop-p.p in
    let left = c.loop-p.feeds.items in
    let F : Knows = c.remove-feed.result in
    let low : p < length stores = omega (arith, c.loop-p-test.true, c.loop-p.invariant.end) in
    let S = c.index-stores-p.result in
    let sizes = ap (λ (l : List Knows). length l) c.loop-p.invariant.feeders in
    let mapped = length-map c.loop-p.seats.items (λ (s : Seat Knows). s.feeder) in
    let joined = length-append (map (λ (s : Seat Knows). s.feeder) c.loop-p.seats.items) left in
    c.requires.feeds.each p S F (slice_get_read stores (length stores) p S refl low (search rules))
    (subst (λ (l : List Knows). slice_get l p ≡ Some F) c.loop-p.invariant.feeders
    (at-seam (map (λ (s : Seat Knows). s.feeder) c.loop-p.seats.items) left p F (omega (arith, mapped, c.loop-p.invariant.size))
    (slice_get_read left (length left) 0 F refl (omega (arith, sizes, mapped, joined, c.loop-p.invariant.size, low, c.requires.feeds.size)) c.remove-feed.ensures.value)))

pub new-requires-clause-fits : goal.new-requires-clause-fits
new-requires-clause-fits g c =
    let stores = c.args.stores.now in
    let p = c.loop-p.p in
    let left = c.loop-p.feeds.items in
    let F : Knows = c.remove-feed.result in
    let low : p < length stores = omega (arith, c.loop-p-test.true, c.loop-p.invariant.end) in
    let sizes = ap (λ (l : List Knows). length l) c.loop-p.invariant.feeders in
    let mapped = length-map c.loop-p.seats.items (λ (s : Seat Knows). s.feeder) in
    let joined = length-append (map (λ (s : Seat Knows). s.feeder) c.loop-p.seats.items) left in
    all-at (λ (f : Knows). FitsAll (g.S.Settles.library c.args.lib.now) (graph_seen f)) c.args.feeds.now.items p F c.requires.fits
    (subst (λ (l : List Knows). slice_get l p ≡ Some F) c.loop-p.invariant.feeders
    (at-seam (map (λ (s : Seat Knows). s.feeder) c.loop-p.seats.items) left p F (omega (arith, mapped, c.loop-p.invariant.size))
    (slice_get_read left (length left) 0 F refl (omega (arith, sizes, mapped, joined, c.loop-p.invariant.size, low, c.requires.feeds.size)) c.remove-feed.ensures.value)))

pub loop-p-preserved : goal.loop-p-preserved
loop-p-preserved g c =
    let seats = c.loop-p.seats.items in
    let left = c.loop-p.feeds.items in
    let F : Knows = c.remove-feed.result in
    let s : Seat Knows = record { me = c.loop-p.p; feeder = c.new.result; outs = c.in-Some.outs; ins = c.in-Some-next.ins; diary = None } in
    let low : c.loop-p.p < length c.args.stores.now = omega (arith, c.loop-p-test.true, c.loop-p.invariant.end) in
    let sizes = ap (λ (l : List Knows). length l) c.loop-p.invariant.feeders in
    let mapped = length-map seats (λ (t : Seat Knows). t.feeder) in
    let joined = length-append (map (λ (t : Seat Knows). t.feeder) seats) left in
    let head : left ≡ F ∷ c.remove-feed.new.self.items = head-taken left c.remove-feed.new.self.items F (omega (arith, sizes, mapped, joined, c.loop-p.invariant.size, low, c.requires.feeds.size)) c.remove-feed.ensures.value c.remove-feed.ensures.by_index.2 in
    let pushed : c.push.new.self.items ≡ seats ++ s ∷ [] = c.in_ok-push.ensures.items in
    record {
      end = c.loop-p.invariant.end;
      size = omega (arith, ap (λ (l : List (Seat Knows)). length l) pushed, length-append seats (s ∷ []), c.loop-p.invariant.size);
      each = subst (λ (l : List (Seat Knows)). (p : ℕ) (t : Seat Knows) → slice_get l p ≡ Some t → (t.me ≡ p) × (t.diary ≡ None)) (sym pushed) (desk-next seats s c.loop-p.invariant.each (sym c.loop-p.invariant.size) refl);
      feeders = subst (λ (l : List (Seat Knows)). map (λ (t : Seat Knows). t.feeder) l ++ c.remove-feed.new.self.items ≡ c.args.feeds.now.items) (sym pushed)
          (moved-on (λ (t : Seat Knows). t.feeder) seats s left c.remove-feed.new.self.items c.args.feeds.now.items (head ∙ ap (λ (f : Knows). f ∷ c.remove-feed.new.self.items) (sym c.new.ensures)) c.loop-p.invariant.feeders);
      outlets = subst (λ (l : List (Seat Knows)). map (λ (t : Seat Knows). t.outs) l ++ into_iter_items c.next.new.self ≡ c.args.outs.items) (sym pushed)
          (moved-on (λ (t : Seat Knows). t.outs) seats s (into_iter_items c.loop-p.outs_left) (into_iter_items c.next.new.self) c.args.outs.items c.in-Some.ensures.items c.loop-p.invariant.outlets);
      inlets = subst (λ (l : List (Seat Knows)). map (λ (t : Seat Knows). t.ins) l ++ into_iter_items c.next-in-loop-p.new.self ≡ c.args.ins.items) (sym pushed)
          (moved-on (λ (t : Seat Knows). t.ins) seats s (into_iter_items c.loop-p.ins_left) (into_iter_items c.next-in-loop-p.new.self) c.args.ins.items c.in-Some-next.ensures.items c.loop-p.invariant.inlets);
    }

pub returns : goal.returns
returns g c =
    let stores = c.args.stores.now in
    let all : c.loop-p.p ≡ length stores = omega (arith, c.loop-p-test.false, c.loop-p.invariant.end, c.loop-p.auto.p-end) in
    desks-taken c.loop-p.seats.items c.args.feeds.now.items c.loop-p.feeds.items c.args.outs.items (into_iter_items c.loop-p.outs_left) c.args.ins.items (into_iter_items c.loop-p.ins_left) c.loop-p.invariant.each
    c.loop-p.invariant.feeders c.loop-p.invariant.outlets c.loop-p.invariant.inlets (omega (arith, all, c.loop-p.invariant.size, c.requires.feeds.size)) (omega (arith, all, c.loop-p.invariant.size, c.requires.ends.0)) (omega (arith, all, c.loop-p.invariant.size, c.requires.ends.1))
