use Rattle.std.proofs.Common.{◌≡◌, ◌<◌, ◌==◌, ℕ, true, length}
use Rattle.std.specs.Prelude.{slice_index_or}
use Rattle.lasp_live.proofs.node.others_to_come.Given as goal

abbrev pub invariant-loop-q : goal.invariant-loop-q
invariant-loop-q l = record {
  size : length l.ended.items ≡ l.q;
  items : (q : ℕ) → q < l.q → slice_index_or l.ended.items q true ≡ (q == l.me);
}
