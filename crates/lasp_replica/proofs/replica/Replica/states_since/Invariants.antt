use Rattle.std.proofs.Common.{take}
use Rattle.std.specs.Arc.{arc_value}
use Rattle.model_journal.specs.Journal.{vals}
use Rattle.lasp_replica.specs.Replica.{frame_of, entries_of}
use Rattle.lasp_replica.specs.Since.{AreSince}
use Rattle.lasp_replica.proofs.replica.Replica.states_since.Given as goal

abbrev pub invariant-loop-x : goal.invariant-loop-x
invariant-loop-x l = AreSince (arc_value l.self.graph) (vals (frame_of l.self) (take l.n (entries_of l.self))) l.self.states l.x l.all
