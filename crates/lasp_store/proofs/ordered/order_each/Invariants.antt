use Rattle.std.proofs.Common.{◌≡◌}
use Rattle.lasp_store.proofs.ordered.order_each.Given as goal

abbrev pub invariant-loop-is_asked : goal.invariant-loop-is_asked
invariant-loop-is_asked l = l.core ≡ l.fn.core
