-- The words that the contracts of a node are written in.
pub use Rattle.std.specs.Arc.{arc_value}
pub use Rattle.model_graph.specs.Graph.{Decl, is_source, kind_at}
pub use Rattle.model_states.specs.Counts.{AreCountsAtMost}
pub use Rattle.model_states.specs.Threshold.{meets}
pub use Rattle.model_graph.specs.Evaluation.{content_at, first_large}
pub use Rattle.model_world.specs.World.{updated, delivered, shown_at, message_at}
pub use Rattle.model_readings.specs.Lawful.{FitsAll}
pub use Rattle.model_core.specs.Core.{Read}
pub use Rattle.model_core.specs.Known.{HasLeast}
pub use Rattle.model_runs.specs.Held.{IsSentTo}
pub use Rattle.model_runs.specs.Part.{BringsAsMuch}
pub use Rattle.model_wire.specs.Lawful.{IsMessage}
pub use Rattle.lasp_state.specs.State.{op_of}
pub use Rattle.lasp_state.specs.Threshold.{threshold_of}
pub use Rattle.lasp_graph.specs.Library.{library_of}
pub use Rattle.lasp_drive.specs.Node.{NodeView, IsFresh, ShowsNoMore, HoldsLittle, IsSettled, MayUpdate, IsIdleUpdate, MayRead, Updates, Delivers, Settles, Learns, LearnsAnd, OnlyLearns, TakesIn, Extends, OnlyGrew, Sends, IsTailOf, Holds, Shows, Polls}
pub use Rattle.lasp_drive.specs.Reads.{IsNextRead, opens_next, closes_one, looks_once}
