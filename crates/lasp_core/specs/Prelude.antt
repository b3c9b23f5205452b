-- The words that the contracts of this library are written in.
pub use Rattle.std.specs.Arc.{arc_value}
pub use Rattle.std.specs.List.{AllByRecursion}
pub use Rattle.model_states.specs.Content.{IsContentAtMost, row_limit, size_of}
pub use Rattle.model_states.specs.Counts.{count_at}
pub use Rattle.model_states.specs.Threshold.{meets, suits}
pub use Rattle.model_graph.specs.Evaluation.{equation, eval}
pub use Rattle.model_graph.specs.Graph.{kind_at}
pub use Rattle.model_graph.specs.Lawful.{IsDerived, variable_limit}
pub use Rattle.model_graph.specs.Order.{ContentsAtMost}
pub use Rattle.model_world.specs.World.{message_at}
pub use Rattle.model_journal.specs.Clean.{IsClean, base}
pub use Rattle.model_journal.specs.Entry.{Entry, Frame, entry}
pub use Rattle.model_journal.specs.Journal.{graph, vals}
pub use Rattle.model_readings.specs.Lawful.{FitsAll}
pub use Rattle.model_core.specs.Core.{Core, Read, entered, is_met}
pub use Rattle.model_core.specs.Known.{BringsNothing, HasLeast}
pub use Rattle.model_core.specs.Peer.{peer_of}
pub use Rattle.lasp_state.specs.State.{content_of, op_of}
pub use Rattle.lasp_state.specs.Threshold.{threshold_of}
pub use Rattle.lasp_state.specs.declared.state.State.{State}
pub use Rattle.lasp_graph.specs.Decl.{decl_of}
pub use Rattle.lasp_graph.specs.Evaluated.{number_by}
pub use Rattle.lasp_graph.specs.States.{contents_of, held_at, held_of}
pub use Rattle.model_runs.specs.Part.{BringsAsMuch}
pub use Rattle.lasp_replica.specs.Entries.{entry_of}
pub use Rattle.lasp_replica.specs.Jobs.{IsFirst, IsJobNow, IsJobOf, IsNext, IsResultOf, IsUnclean, Lacks, unread_rows}
pub use Rattle.lasp_replica.specs.Replica.{IsAnswered, IsDelivered, IsReplica, IsSmall, IsSuited, entries_of, frame_of, update_refusal}
pub use Rattle.lasp_replica.specs.declared.job.Job.{Job}
pub use Rattle.lasp_core.specs.Core.{AreAscending, AreInOrder, AreOfKind, IsOpen, IsSettled, IsStateOf, IsWatched, closed, declared, fresh_core, looked, opened, opened_read, owing, returned, rows_of, state_after, taken}
pub use Rattle.lasp_replica.specs.Unread.{IsUnread, rows_in}
pub use Rattle.lasp_graph.specs.Library.{library_of}
pub use Rattle.lasp_core.specs.Evaluated.{IsEvaluated, IsSameJob, evaluated}
pub use Rattle.lasp_core.specs.Reads.{read_of}
pub use Rattle.lasp_core.specs.Since.{AreStatesSince, IsTailSince}
