-- The words that the contracts of acts, commands and reports are written in.
pub use Rattle.std.specs.List.{range_with_len}
pub use Rattle.std.specs.Arc.{arc_value}
pub use Rattle.model_states.specs.Threshold.{meets}
pub use Rattle.model_graph.specs.Graph.{kind_at}
pub use Rattle.model_graph.specs.Evaluation.{content_at}
pub use Rattle.model_graph.specs.Lawful.{shape_of, variable_limit}
pub use Rattle.model_readings.specs.Lawful.{IsGraph, IsNext, FitsAll}
pub use Rattle.model_scripts.specs.Progress.{grown}
pub use Rattle.model_world.specs.World.{Update, Keep, Post, Take, Point, Show, Open, Reach, Extend, takes, sync_acts, ended, peer_at, sent_number, shown_content_at}
pub use Rattle.model_world.specs.Report.{known_lines, read_lines, report_of}
pub use Rattle.model_runs.specs.Calls.{fed}
pub use Rattle.model_runs.specs.Part.{BringsAsMuch}
pub use Rattle.lasp_value.specs.Value.{val_of}
pub use Rattle.lasp_state.specs.State.{op_of, IsOpOf}
pub use Rattle.lasp_graph.specs.Decl.{decl_of}
pub use Rattle.lasp_graph.specs.Library.{library_of}
pub use Rattle.lasp_script.specs.Command.{until_of, command_of}
pub use Rattle.lasp_drive.specs.Node.{NodeView, AreSettled, AreNodes, IsIdleUpdate}
pub use Rattle.lasp_drive.specs.Nodes.{peers_of, MaySettle, AllLearn, SettlesAll, AllExtend}
pub use Rattle.lasp_drive.specs.Waiting.{OpensAt, LooksAt}
pub use Rattle.lasp_drive.specs.Calls.{GoesOnWithin}
pub use Rattle.lasp_drive.specs.Marks.{marked_of}
pub use Rattle.lasp_drive.specs.Driver.{read_seen, seen, opened_of, run_of, IsReady}
pub use Rattle.lasp_drive.specs.Acts.{Acts, Passes, Steps, MayAct, MayStep, HasOpened, Reaches, UnlessMemory}
pub use Rattle.lasp_drive.specs.Play.{IsUntilWithin, IsLeastHeld, MayPlay, Plays}
pub use Rattle.lasp_drive.specs.Stretch.{is_point, MayGoOn, Advances, Crosses, PassesOn}
pub use Rattle.lasp_drive.specs.Report.{OnlyAsked, MayPoll, AreOpened, OfTheirRun, exported}
pub use Rattle.lasp_drive.specs.Run.{IsRunnable, RunsTo, Reports}
