use Rattle.std.proofs.Common.{◌≡◌, ◌++◌, ◌∷◌, [], List, sym, ap, subst, ◌∙◌, append-nil, append_assoc}
use Rattle.std.specs.Vec.Iter.{into_iter_items}
use Rattle.lasp_live_run.specs.Run.{IsBack}
use Rattle.lasp_live_run.specs.declared.seat.Seat.{Seat}
use Rattle.lasp_live_run.proofs.DeskLaws.{back-next}
use Rattle.lasp_live_run.proofs.PlaceLaws.{nothing}
use Rattle.lasp_live_run.proofs.run.back_of.Goals as goal
use Rattle.lasp_store.specs.Turn.{Knows}

pub loop-seat-preserved : goal.loop-seat-preserved
loop-seat-preserved g c =
    let done = c.loop-seat.invariant.0 in
    let s = c.in-Some.seat in (
      done ++ s ∷ [],
      append_assoc done (s ∷ []) (into_iter_items c.next.new.self) ∙ ap (λ (l : List (Seat Knows)). done ++ l) (sym c.in-Some.ensures.items) ∙ c.loop-seat.invariant.1,
      back-next done s c.into_feed.result c.in-Some-diary.diary c.loop-seat.back (record { feeds = c.push-in-Some.new.self; outs = c.push-in-Some-2.new.self; ins = c.push-in-Some-3.new.self; diaries = c.push.new.self }) c.loop-seat.invariant.2
          c.in-Some-diary.is c.into_feed.ensures.feed c.into_feed.ensures.is_feed c.in_ok-push-in-Some-diary.ensures.items c.in_ok-push.ensures.items c.in_ok-push-2.ensures.items c.in_ok-push-3.ensures.items,
    )

pub returns : goal.returns
returns g c =
    let at = c.loop-seat.invariant in
    let empty : into_iter_items c.loop-seat.left ≡ [] = nothing (into_iter_items c.loop-seat.left) (sym c.loop-seat.left.rest.ok.0 ∙ c.in_default.ensures.cases.0) in
    subst (λ (l : List (Seat Knows)). IsBack l c.loop-seat.back) (sym (append-nil at.0) ∙ ap (λ (l : List (Seat Knows)). at.0 ++ l) (sym empty) ∙ at.1) at.2
