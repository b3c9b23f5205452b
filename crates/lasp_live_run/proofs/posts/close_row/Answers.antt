use Rattle.std.proofs.Common.{rules, ℕ, ◌≡◌, ◌+◌, ◌<◌, List, [], ◌∷◌, length, sym, ap, subst, ◌∙◌, length-append, arith}
use Rattle.std.specs.Prelude.{vec_len}
use Rattle.lasp_live.specs.Ends.{Out}
use Rattle.lasp_live_run.specs.Posts.{AreLeft, IsPoppedFrom}
use Rattle.lasp_live_run.proofs.PlaceLaws.{found-at, nothing}
use Rattle.lasp_live_run.proofs.PostLaws.{closing-begins, closing-ends, closing-next, last-ends}
use Rattle.lasp_live_run.proofs.posts.close_row.Goals as goal

pub loop-outlet-init : goal.loop-outlet-init
loop-outlet-init c = closing-begins c.args.nodes c.args.q c.args.row.items c.args.ins.now.items c.args.boxes.now.items c.requires

pub pop_from-requires : goal.pop_from-requires
pop_from-requires c =
    let whole : length c.pop.new.self.items ≡ vec_len c.pop.new.self = search rules in
    let left = ap (λ (l : List Out). length l) c.in-Some.ensures.items in
    omega (arith, whole, left, length-append c.pop.new.self.items (c.in-Some.outlet ∷ []), c.len.ensures, c.loop-outlet.invariant.left.within, c.loop-outlet.invariant.left.columns)

pub unreachable-requires : goal.unreachable-requires
unreachable-requires c =
    let ins = c.loop-outlet.ins.items in
    let whole : length c.pop.new.self.items ≡ vec_len c.pop.new.self = search rules in
    let left = ap (λ (l : List Out). length l) c.in-Some.ensures.items in
    let low : c.len.result < length c.loop-outlet.row.items = omega (arith, whole, left, length-append c.pop.new.self.items (c.in-Some.outlet ∷ []), c.len.ensures) in
    let column = found-at ins c.len.result (omega (arith, low, c.loop-outlet.invariant.left.within, c.loop-outlet.invariant.left.columns)) in
    let some = c.loop-outlet.invariant.left.here c.len.result column.0 column.1 low in
    omega (arith, some, c.in-None-pop_from.ensures.none column.0 column.1)

pub close-requires : goal.close-requires
close-requires c =
    let whole : length c.pop.new.self.items ≡ vec_len c.pop.new.self = search rules in
    let left = ap (λ (l : List Out). length l) c.in-Some.ensures.items in
    let long : length c.loop-outlet.row.items ≡ c.len.result + 1 = omega (arith, whole, left, length-append c.pop.new.self.items (c.in-Some.outlet ∷ []), c.len.ensures) in
    record {
      of = last-ends c.args.nodes c.args.q c.len.result c.loop-outlet.boxes.items c.pop-in-Some.new.self.items c.in-Some-pop.mailbox c.loop-outlet.row.items c.pop.new.self.items c.in-Some.outlet c.loop-outlet.ins.items c.pop_from.new.ins.items
          c.in-Some-pop_from.inlet (subst (λ (n : ℕ). AreLeft c.args.nodes c.args.q n c.loop-outlet.boxes.items c.loop-outlet.row.items c.loop-outlet.ins.items) long c.loop-outlet.invariant.left) c.in-Some-pop.ensures.items c.in-Some.ensures.items
          c.in-Some-pop_from.ensures.some;
    }

pub loop-outlet-smaller : goal.loop-outlet-smaller
loop-outlet-smaller c = (let left = ap (λ (l : List Out). length l) c.in-Some.ensures.items in omega (arith, left, length-append c.pop.new.self.items (c.in-Some.outlet ∷ [])))

pub loop-outlet-preserved : goal.loop-outlet-preserved
loop-outlet-preserved c =
    let whole : length c.pop.new.self.items ≡ vec_len c.pop.new.self = search rules in
    let popped = subst (λ (n : ℕ). IsPoppedFrom n c.in-Some-pop_from.inlet c.loop-outlet.ins.items c.pop_from.new.ins.items) (c.len.ensures ∙ sym whole) c.in-Some-pop_from.ensures.some in
    closing-next c.args.nodes c.args.q c.args.row.items c.args.ins.now.items c.args.boxes.now.items c.loop-outlet.boxes.items c.pop-in-Some.new.self.items c.in-Some-pop.mailbox c.loop-outlet.row.items c.pop.new.self.items c.in-Some.outlet c.loop-outlet.ins.items
    c.pop_from.new.ins.items c.in-Some-pop_from.inlet c.loop-outlet.invariant c.in-Some-pop.ensures.items c.in-Some.ensures.items popped c.close.ensures.prefix

pub returns : goal.returns
returns c =
    let whole : length c.loop-outlet.row.items ≡ vec_len c.loop-outlet.row = search rules in
    let end = closing-ends c.args.nodes c.args.q c.args.row.items c.args.ins.now.items c.args.boxes.now.items c.loop-outlet.boxes.items c.loop-outlet.row.items c.loop-outlet.ins.items c.loop-outlet.invariant
    (nothing c.loop-outlet.row.items (whole ∙ c.in_default.ensures.cases.0)) in
    record { left = end.1; begun = end.0; fewer = end.2 }
