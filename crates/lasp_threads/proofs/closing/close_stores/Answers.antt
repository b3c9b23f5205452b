use Rattle.std.proofs.Common.{◌++◌, ◌∷◌, [], List, refl, sym, ap, subst, ◌∙◌, append_assoc}
use Rattle.std.specs.Vec.Iter.{into_iter_items}
use Rattle.model_core.specs.Core.{Core}
use Rattle.lasp_store.specs.Turn.{Knows}
use Rattle.lasp_threads.specs.Closed.{AreClosed}
use Rattle.lasp_threads.proofs.ClosedLaws.{both-closable, tail-closable, closed-next}
use Rattle.lasp_threads.proofs.closing.close_stores.Goals as goal

pub close_store-requires : goal.close_store-requires
close_store-requires c =
    (both-closable (into_iter_items c.loop-store.stores_left) (into_iter_items c.loop-store.feeds_left) c.in-Some.store (into_iter_items c.next.new.self) c.in-Some-next.feed (into_iter_items c.next-in-Some.new.self)
    c.in-Some.ensures.items c.in-Some-next.ensures.items c.loop-store.invariant.closable).each 0 c.in-Some.store c.in-Some-next.feed refl refl

pub loop-store-preserved : goal.loop-store-preserved
loop-store-preserved c =
    let feed : Knows = c.in-Some-next.feed in
    let rest : List Knows = into_iter_items c.next-in-Some.new.self in
    let done : List Knows = c.loop-store.invariant.closed.0 in
    let closable =
    both-closable (into_iter_items c.loop-store.stores_left) (into_iter_items c.loop-store.feeds_left) c.in-Some.store (into_iter_items c.next.new.self) feed rest c.in-Some.ensures.items c.in-Some-next.ensures.items c.loop-store.invariant.closable in
    record {
      closable = tail-closable c.in-Some.store (into_iter_items c.next.new.self) feed rest closable;
      closed = (
        done ++ feed ∷ [],
        append_assoc done (feed ∷ []) rest ∙ ap (λ (l : List Knows). done ++ l) (sym c.in-Some-next.ensures.items) ∙ c.loop-store.invariant.closed.1,
        subst (λ (l : List Core). AreClosed (done ++ feed ∷ []) l) (sym c.in_ok-push-in-Some-next.ensures.items) (closed-next done c.loop-store.cores.items feed c.close_store.result c.loop-store.invariant.closed.2 c.close_store.ensures),
      );
    }
