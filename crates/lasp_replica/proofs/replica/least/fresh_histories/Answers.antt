use Rattle.std.proofs.Common.{◌≡◌, ◌∙◌, ℕ, [], ◌∷◌, length, map, replicate, sym, ap, arith}
use Rattle.std.proofs.lemmas.List.{map-append}
use Rattle.lasp_replica.specs.History.{no_history}
use Rattle.lasp_replica.specs.Replica.{told}
use Rattle.lasp_replica.proofs.LeastLaws.{push-replicate, map-same}
use Rattle.lasp_replica.proofs.replica.least.fresh_histories.Goals as goal

pub loop-preserved : goal.loop-preserved
loop-preserved c =
    ap (map told) c.in_ok-push.ensures.items ∙ map-append told c.loop.histories.items (c.new.result ∷ [])
    ∙ push-replicate (map told c.loop.histories.items) c.loop.counter no_history (told c.new.result) c.loop.invariant c.new.ensures.history

pub returns : goal.returns
returns c =
    let all : c.loop.counter ≡ length c.args.graph.now = omega (arith, c.loop-test.false, c.loop.auto, c.len-end.ensures.count) in
    c.loop.invariant ∙ ap (λ (n : ℕ). replicate n no_history) all ∙ sym (map-same c.args.graph.now no_history)
