-- The words that the contracts of this library are written in.
pub use Rattle.model_graph.specs.Evaluation.{eval, first_large}
pub use Rattle.model_world.specs.World.{message_at}
pub use Rattle.model_journal.specs.Entry.{Bind, entry}
pub use Rattle.model_readings.specs.Lawful.{FitsAll}
pub use Rattle.model_core.specs.Peer.{peer_of}
pub use Rattle.lasp_graph.specs.Library.{library_of}
pub use Rattle.lasp_replica.specs.Jobs.{IsUnclean, counted_up, greatest_count, unread_rows}
pub use Rattle.lasp_core.specs.Core.{IsSettled}
pub use Rattle.lasp_drive.specs.Node.{IsTailOf, Settles}
pub use Rattle.lasp_node.specs.Settling.{AreCleanBelow, HasBound, HasBoundIn, IsIdle, TellsFirst, rows_since}
pub use Rattle.lasp_node.specs.View.{entries_sent, node_of}
pub use Rattle.model_graph.specs.Lawful.{IsDerived}
pub use Rattle.lasp_replica.specs.Unread.{IsUnread}
