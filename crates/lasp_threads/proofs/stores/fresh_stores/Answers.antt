use Rattle.std.proofs.Common.{◌≡◌, ◌+◌, ◌++◌, ◌∷◌, [], List, sym, subst}
use Rattle.std.specs.Arc.{arc_value}
use Rattle.model_graph.specs.Graph.{Decl}
use Rattle.lasp_histlock.specs.Names.{LockId}
use Rattle.lasp_histlock.specs.Passes.{first_pass}
use Rattle.lasp_store.specs.Turn.{Knows}
use Rattle.lasp_threads.specs.Stores.{frame_at}
use Rattle.lasp_threads.proofs.StoreLaws.{AreMade, made-next}
use Rattle.lasp_threads.proofs.stores.fresh_stores.Goals as goal

pub loop-p-preserved : goal.loop-p-preserved
loop-p-preserved c =
    let g = arc_value c.args.graph.now in
    let fresh = subst (λ (h : List Decl). c.in_ok-store.feed ≡ first_pass c.in_ok-store.store (frame_at h c.args.nodes c.loop-p.p)) c.in_ok-try_clone.ensures c.in_ok-store.ensures.feed in
    let next = made-next g c.args.nodes c.loop-p.p c.loop-p.stores.items c.loop-p.feeds.items c.in_ok-store.store c.in_ok-store.feed c.loop-p.invariant fresh in
    subst (λ (l : List LockId). AreMade g c.args.nodes (c.loop-p.p + 1) l c.push-in-loop-p.new.self.items) (sym c.in_ok-push.ensures.items)
    (subst (λ (l : List Knows). AreMade g c.args.nodes (c.loop-p.p + 1) (c.loop-p.stores.items ++ c.in_ok-store.store ∷ []) l) (sym c.in_ok-push-2.ensures.items) next)
