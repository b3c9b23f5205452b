use Rattle.std.proofs.Common.{◌≡◌, ◌+◌, ◌≤◌, ◌++◌, length, take}
use Rattle.lasp_log.specs.Log.{joined}
use Rattle.lasp_log.proofs.log.Log.since.Given as goal

abbrev pub invariant-loop-begin : goal.invariant-loop-begin
invariant-loop-begin g l = record {
  whole : joined (take l.before l.self-inside.sealed.items) ++ (l.items ++ (joined l.chunks ++ l.newest)) ≡ l.self.items;
  begin : l.begin ≡ length (joined (take l.before l.self-inside.sealed.items));
  before : l.before ≤ length l.self-inside.sealed.items;
  place : l.place ≤ l.begin + length l.items;
}

abbrev pub decreases-loop-begin : goal.decreases-loop-begin
decreases-loop-begin g l = l.before
