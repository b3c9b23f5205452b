use Rattle.std.proofs.Common.{◌≡◌, ◌≤◌, length}
use Rattle.model_journal.specs.Journal as journal
use Rattle.model_core.specs.Core.{IsCore}
use Rattle.lasp_fns.specs.Steps as counted
use Rattle.lasp_core.specs.Core.{IsSettled}
use Rattle.lasp_node.proofs.SettleLaws.{IsBoundBelow, HasCost}
use Rattle.lasp_node.proofs.settling.settle.Given as goal

abbrev pub invariant-loop-x : goal.invariant-loop-x
invariant-loop-x g l = record {
  within : l.x ≤ length (journal.graph l.fn.core.frame l.fn.core.entries);
  core : IsCore l.core;
  below : IsBoundBelow l.x l.fn.core l.core;
  cost : HasCost l.fn.core l.core (counted.ticks_of l.fn.lib) (counted.ticks_of l.lib);
  left : IsSettled l.fn.core → l.core ≡ l.fn.core;
  unticked : IsSettled l.fn.core → counted.ticks_of l.lib ≡ counted.ticks_of l.fn.lib;
  library : counted.library_of l.lib ≡ counted.library_of l.fn.lib;
}
