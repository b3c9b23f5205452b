use Rattle.std.proofs.Common.{◌≡◌, ◌<◌, ◌≤◌, ℕ, true, length}
use Rattle.lasp_live.specs.Prelude.{has_ended}
use Rattle.lasp_live.proofs.log.have_all_ended.Given as goal

abbrev pub invariant-loop-q : goal.invariant-loop-q
invariant-loop-q l = record {
  within : l.q ≤ length l.ended;
  so_far : (q : ℕ) → q < l.q → has_ended l.ended q ≡ true;
}
