-- The words that the contracts of this library are written in.
pub use Rattle.std.specs.Arc.{arc_value}
pub use Rattle.std.specs.List.{AllByRecursion}
pub use Rattle.model_states.specs.Threshold.{meets, suits}
pub use Rattle.model_graph.specs.Evaluation.{content_at, first_large}
pub use Rattle.model_graph.specs.Graph.{is_source, kind_at}
pub use Rattle.model_graph.specs.Lawful.{IsDerived, variable_limit}
pub use Rattle.model_world.specs.World.{message_at}
pub use Rattle.model_journal.specs.Callers.{MayMake, made_by}
pub use Rattle.model_journal.specs.Entry.{Bind, Entry, entry}
pub use Rattle.model_journal.specs.Journal.{counts, declared, graph, val, vals}
pub use Rattle.model_readings.specs.Lawful.{FitsAll}
pub use Rattle.model_core.specs.Core.{is_met}
pub use Rattle.model_core.specs.Known.{BringsNothing, HasLeast}
pub use Rattle.model_core.specs.Peer.{peer_of}
pub use Rattle.model_runs.specs.Part.{BringsAsMuch}
pub use Rattle.lasp_histlock.specs.History.{added}
pub use Rattle.lasp_histlock.specs.Names.{LockId}
pub use Rattle.lasp_histlock.specs.Passes.{after_look, after_miss, after_rejoin, after_split, first_pass, new_pass}
pub use Rattle.lasp_histlock.specs.Steps.{SomeOut}
pub use Rattle.lasp_state.specs.State.{op_of}
pub use Rattle.lasp_state.specs.Threshold.{threshold_of}
pub use Rattle.lasp_graph.specs.Decl.{decl_of}
pub use Rattle.lasp_graph.specs.Library.{library_of}
pub use Rattle.lasp_graph.specs.States.{held_of}
pub use Rattle.lasp_replica.specs.Jobs.{IsFirst, IsJobNow, IsJobOf, IsResultOf, IsUnclean, Lacks}
pub use Rattle.lasp_replica.specs.Replica.{IsAnswered, IsDelivered, IsSmall, update_refusal}
pub use Rattle.lasp_core.specs.Core.{AreAscending, IsOpen, state_after}
pub use Rattle.lasp_core.specs.Listed.{AreClean, GoesOn}
pub use Rattle.lasp_core.specs.Reads.{read_of}
pub use Rattle.lasp_core.specs.Watched.{IsBusy}
pub use Rattle.lasp_store.specs.Letter.{IsSent, IsTailFrom}
pub use Rattle.lasp_store.specs.Passed.{HasPassed}
pub use Rattle.lasp_store.specs.Settled.{AreEvaluatedBelow, HasBound, HasSettled, IsDone, KnowsOwn, Settles, TellsFirst, evaluation}
pub use Rattle.lasp_store.specs.Tried.{IfRefused, Tried}
pub use Rattle.lasp_store.specs.Turn.{HadTurn, HasBegun, HasEnded, HasGiven, HasTried, IsInTurn, IsSeated, IsStill, Knows, MayEnd, TriedTurn, counts_at, frame_of, graph_at, graph_seen, looked_at, vals_at}
