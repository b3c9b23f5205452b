use Rattle.std.proofs.Common.{◌≡◌, ◌++◌, ◌∷◌, [], ◌+◌, List, ℕ, length, drop, ap, arith}
use Rattle.std.specs.Int.{w64}
use Rattle.std.proofs.lemmas.Result.{err_from_is_err_and}
use Rattle.model_graph.proofs.PlaceLaws.{length-push}
use Rattle.model_wire.specs.Reader.{ranged_at}
use Rattle.model_wire.specs.Message.{update_limit, limited_at, nothing_more, numbers_at}
use Rattle.lasp_wire.proofs.Loop.{goes_on}
use Rattle.lasp_delta.proofs.ReadLaws.{refuses-whole, all_counts, numbers-end, numbers-done}
use Rattle.lasp_delta.proofs.decoder.counts_at.Goals as goal

pub returns-in_err-count-clause-exact : goal.returns-in_err-count-clause-exact
returns-in_err-count-clause-exact c =
    let p = err_from_is_err_and c.from_residual.result c.from_residual.ensures.1 in
    rw (p.1, p.2) (refuses-whole ℕ (List ℕ) c.args.bytes.now c.in_err-count.field-0.0 (ranged_at w64 0 update_limit (drop c.loop.behind c.args.bytes.now)) (numbers_at update_limit c.args.nodes (drop c.args.place c.args.bytes.now))
    (numbers-end c.loop.counts c.args.nodes c.loop.counter (drop c.loop.behind c.args.bytes.now) (drop c.args.place c.args.bytes.now) c.loop-test.true c.loop.invariant.0) c.in_err-count.ensures.exact)

pub loop-preserved : goal.loop-preserved
loop-preserved c =
    let e : c.push.new.self ≡ c.loop.counts ++ c.in_ok-count.count ∷ [] = c.in_ok-push.ensures.ok in (
      rw e
          (goes_on _ ℕ (limited_at update_limit) nothing_more c.loop.counts c.args.nodes c.loop.counter tt (drop c.loop.behind c.args.bytes.now) c.in_ok-count.count (drop (c.loop.behind + 8) c.args.bytes.now) (all_counts c.args.nodes (drop c.args.place c.args.bytes.now))
          c.loop-test.true c.in_ok-count.ensures.exact.0 c.loop.invariant.0),
      c.in_ok-count.ensures.exact.1,
      omega (arith, ap (λ (l : List ℕ). length l) e, length-push c.loop.counts c.in_ok-count.count, c.loop.invariant.2),
    )

pub returns-clause-exact : goal.returns-clause-exact
returns-clause-exact c =
    (numbers-done c.loop.counts c.args.nodes c.loop.counter (drop c.loop.behind c.args.bytes.now) (drop c.args.place c.args.bytes.now) (omega (arith, c.loop-test.false)) c.loop.invariant.0, c.loop.invariant.1)
