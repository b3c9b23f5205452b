use Rattle.std.proofs.Common.{◌≡◌, ◌++◌, ◌∷◌, [], ◌+◌, ◌<◌, List, ℕ, Ok, length, drop, sym, subst, arith}
use Rattle.std.specs.Int.{w64}
use Rattle.std.proofs.lemmas.Result.{err_from_is_err_and}
use Rattle.model_wire.specs.Reader.{ranged_at}
use Rattle.model_wire.specs.Message.{update_limit}
use Rattle.model_deltas.specs.Reader.{later_count_at, next_replica, later_counts_at}
use Rattle.lasp_wire.specs.Placed.{RefusesAt}
use Rattle.lasp_wire.proofs.Loop.{goes_on}
use Rattle.lasp_delta.proofs.PlaceLaws.{count-is}
use Rattle.lasp_delta.proofs.ReadLaws.{refuses-whole, all_later, later-end, later-done}
use Rattle.lasp_delta.proofs.decoder.later_counts_at.Goals as goal

pub returns-in_err-count : goal.returns-in_err-count
returns-in_err-count c =
    let p = err_from_is_err_and c.from_residual.result c.from_residual.ensures.1 in
    let low : c.loop-q.q < length c.args.from.now = omega (arith, c.loop-q-test.true, c.len-q-end.ensures) in
    rw (p.1, p.2) (refuses-whole ℕ (List ℕ) c.args.bytes.now c.in_err-count.field-0.0 (later_count_at c.args.from.now c.loop-q.q (drop c.loop-q.behind c.args.bytes.now)) (later_counts_at c.args.from.now (drop c.args.place c.args.bytes.now))
    (later-end c.args.from.now c.loop-q.counts c.loop-q.q (drop c.loop-q.behind c.args.bytes.now) (drop c.args.place c.args.bytes.now) low c.loop-q.invariant.0)
    (subst (λ (n : ℕ). RefusesAt c.args.bytes.now c.in_err-count.field-0.0 (ranged_at w64 n update_limit (drop c.loop-q.behind c.args.bytes.now))) (sym (count-is c.args.from.now c.loop-q.q c.at.result c.at.ensures)) c.in_err-count.ensures))

pub loop-q-preserved : goal.loop-q-preserved
loop-q-preserved c =
    let e : c.push.new.self ≡ c.loop-q.counts ++ c.in_ok-count.count ∷ [] = c.in_ok-push.ensures.ok in
    let low : c.loop-q.q < length c.args.from.now = omega (arith, c.loop-q-test.true, c.len-q-end.ensures) in (
      rw e
          (goes_on ℕ ℕ (later_count_at c.args.from.now) next_replica c.loop-q.counts (length c.args.from.now) c.loop-q.q c.loop-q.q (drop c.loop-q.behind c.args.bytes.now) c.in_ok-count.count (drop (c.loop-q.behind + 8) c.args.bytes.now)
          (all_later c.args.from.now (drop c.args.place c.args.bytes.now)) low
          (subst (λ (n : ℕ). ranged_at w64 n update_limit (drop c.loop-q.behind c.args.bytes.now) ≡ Ok (c.in_ok-count.count, drop (c.loop-q.behind + 8) c.args.bytes.now)) (sym (count-is c.args.from.now c.loop-q.q c.at.result c.at.ensures)) c.in_ok-count.ensures.0)
          c.loop-q.invariant.0),
      c.in_ok-count.ensures.1,
    )

pub returns : goal.returns
returns c =
    (later-done c.args.from.now c.loop-q.counts c.loop-q.q (drop c.loop-q.behind c.args.bytes.now) (drop c.args.place c.args.bytes.now) (omega (arith, c.loop-q-test.false, c.len-q-end.ensures)) c.loop-q.invariant.0, c.loop-q.invariant.1)
