-- The words that the contracts of this library are written in.
pub use Rattle.std.specs.Arc.{arc_value}
pub use Rattle.model_journal.specs.Entry.{Entry, Frame}
pub use Rattle.model_journal.specs.Journal.{graph, vals}
pub use Rattle.model_journal.specs.Legal.{IsLegal}
pub use Rattle.model_journal.specs.Callers.{AreMadeByTheirCallers, made_by}
pub use Rattle.model_world.specs.Lawful.{IsLawful}
pub use Rattle.model_world.specs.World.{message_at}
pub use Rattle.model_core.specs.Peer.{peer_of}
pub use Rattle.model_runs.specs.Calls.{frame_of}
pub use Rattle.model_live.specs.Letter.{IsLetter, IsNews}
pub use Rattle.model_live.specs.Lived.{live_text, story_lines}
pub use Rattle.model_live.specs.Story.{message_after, shown_after, is_met}
pub use Rattle.model_live.specs.Together.{too_large}
pub use Rattle.model_live.specs.Words.{AreLive, IsLiveAt, first_other}
pub use Rattle.lasp_core.specs.Core.{AreAscending, state_after}
pub use Rattle.lasp_graph.specs.States.{held_of}
pub use Rattle.lasp_replica.specs.Replica.{IsSmall}
pub use Rattle.lasp_script.specs.Command.{command_of, until_of}
pub use Rattle.lasp_state.specs.State.{content_of, op_of}
pub use Rattle.lasp_state.specs.Threshold.{threshold_of}
pub use Rattle.lasp_live.specs.Diary.{IsTold, AreTold, notes_of, story_of}
pub use Rattle.lasp_live.specs.Ends.{AreEnds, Box, In, Out}
pub use Rattle.lasp_live.specs.Fed.{HasFed, HasHeard, HaveEnded, Hears, HearsMore, IsAt, IsFresh, Setting, frame_in, has_ended}
pub use Rattle.lasp_live.specs.Mail.{mails, message_in, plan_of, letters_and_end, letters_so_far}
pub use Rattle.lasp_live.specs.Own.{CountsOwn, steps_before, total_in}
pub use Rattle.lasp_live.specs.Taken.{IsTakenFrom}
pub use Rattle.lasp_live.specs.Sealed.{IsSealed, Plan, Sealed, coded_sealed}
pub use Rattle.lasp_live.specs.Turns.{Adds, AreEvaluated, AreSmall, Delivers, Feeds, IsFoundBehind, Learns, PassesOnce, Settles, Updates}
