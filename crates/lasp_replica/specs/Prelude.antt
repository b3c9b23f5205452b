-- The words that the contracts of this library are written in.
pub use Rattle.std.specs.Arc.{arc_value}
pub use Rattle.model_values.specs.Row.{Row}
pub use Rattle.model_sets.specs.Equations.{changed}
pub use Rattle.model_sets.specs.Rows.{IsAscending, IsAtMost, join, of_rows}
pub use Rattle.model_states.specs.Content.{Content, IsContentAtMost, IsOrdered, join_contents, of_set, row_limit, size_of}
pub use Rattle.model_states.specs.Counts.{count_at, zeros}
pub use Rattle.model_states.specs.Threshold.{is_shape, set}
pub use Rattle.model_states.specs.Update.{Op, delta}
pub use Rattle.model_graph.specs.Evaluation.{content_at, equation}
pub use Rattle.model_graph.specs.Graph.{Decl, decl_at, is_set, is_source, kind_at}
pub use Rattle.model_graph.specs.Lawful.{IsDerived, IsGraph, variable_limit}
pub use Rattle.model_graph.specs.Message.{Message, Sent, brought, gained, sent_at}
pub use Rattle.model_journal.specs.Clean.{IsClean, applied, base, version}
pub use Rattle.model_journal.specs.Entry.{Bind, Deliver, Entry, Extend, Frame, Update, entry}
pub use Rattle.model_journal.specs.Journal.{counts, graph, val, vals}
pub use Rattle.model_journal.specs.Legal.{IsLegal}
pub use Rattle.model_runs.specs.Held.{IsSentTo}
pub use Rattle.model_runs.specs.Part.{BringsAsMuch}
pub use Rattle.model_core.specs.Known.{BringsNothing}
pub use Rattle.model_readings.specs.Lawful.{IsNext}
pub use Rattle.lasp_replica.specs.History.{AreBelow, grown, no_history, rows_before, version_before, History, IsHistory}
pub use Rattle.lasp_state.specs.State.{content_of, op_of}
pub use Rattle.lasp_graph.specs.Decl.{decl_of}
pub use Rattle.lasp_graph.specs.Evaluated.{number_by, second_of}
pub use Rattle.lasp_graph.specs.Kind.{kind_of}
pub use Rattle.lasp_graph.specs.States.{AreJoinable, AreSourcesOfKind, HasRows, Held, contents_of, extended, held_at, held_of}
pub use Rattle.lasp_replica.specs.Delivery.{AreJoined, AreRecordable, AreRecordedTo, AreSmall, IsLike, IsRefused, IsRefusedAt}
pub use Rattle.lasp_replica.specs.Finish.{AreNewsOf, HasRoom, IsAlike}
pub use Rattle.lasp_replica.specs.Jobs.{AreShared, HasBound, HasStarted, HasStopped, IsFirstFree, IsFirstUnclean, IsFreeAt, IsJobOf, IsLacking, IsNextVar, IsReadAt, IsResultOf, IsSetAt, IsSetVar, IsUncleanAt}
pub use Rattle.lasp_replica.specs.Parts.{AreRowsOf, Base, IsBase, IsKept, IsRead, Parts, Read, base_at, first_input, fresh_base, fresh_state, history_at, news_of, second_input}
pub use Rattle.lasp_replica.specs.Reading.{HasChanged, IsOfItsKind, IsSmallSet, IsStill, rows_since}
pub use Rattle.lasp_replica.specs.Replica.{Goes, Grows, IsAnswered, IsBeginning, IsDelivered, IsOfGraph, IsReplica, IsSmall, Stays, base_on, busy_of, entries_of, frame_of, growths_at, is_for, jobs_of, kept_at, log_at, read_of, refused, seen_process, shape_for, told, update_check, update_refusal}
pub use Rattle.lasp_replica.specs.Since.{AreSince, IsSince}
pub use Rattle.lasp_replica.specs.TakenIn.{IsInOrder, IsTakenIn}
pub use Rattle.lasp_replica.specs.Update.{IsGain, IsInFormat, IsPrepared, recorded}
pub use Rattle.lasp_replica.specs.Asked.{has_two}
pub use Rattle.model_sets.specs.Rises.{AreApart, AreRises}
pub use Rattle.lasp_replica.specs.Kept.{growth}
pub use Rattle.lasp_replica.specs.Unread.{AreGiven, AreInputsNow, AreNew, IsTakenOn, IsUnread, IsUpToDate, rows_with}
