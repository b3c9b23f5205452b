-- The words that the contracts of this library are written in.
pub use Rattle.std.specs.Arc.{arc_value}
pub use Rattle.std.specs.Fmt.{decimal}
pub use Rattle.model_values.specs.Faults.{Rose}
pub use Rattle.model_values.specs.Told.{Appends, AppendsPrefix}
pub use Rattle.model_graph.specs.Chain.{refusing}
pub use Rattle.model_graph.specs.Graph.{name_at}
pub use Rattle.model_world.specs.Line.{line, line_rest}
pub use Rattle.model_world.specs.World.{Peer}
pub use Rattle.model_wire.specs.Lawful.{IsMessage}
pub use Rattle.model_wire.specs.Message.{decoded}
pub use Rattle.model_readings.specs.Graph.{graph_of}
pub use Rattle.model_readings.specs.Lawful.{FitsAll, IsGraph}
pub use Rattle.model_scripts.specs.Script.{script_of}
pub use Rattle.model_program.specs.Call.{AreLater, AreUnchanged, seen, writing_of}
pub use Rattle.model_program.specs.Ends.{Ends, Tells}
pub use Rattle.model_program.specs.Follows.{Gives}
pub use Rattle.model_program.specs.Line.{graph_why_text, line_of, refusal_status, refusal_words, script_why_text, state_why_text, status_of, wire_why_text}
pub use Rattle.model_program.specs.Merge.{may_take}
pub use Rattle.model_program.specs.Plan.{word_at}
pub use Rattle.model_program.specs.Program.{graph_refused, node_word, number_in, script_refused, spelled_in}
pub use Rattle.lasp_graph.specs.Library.{library_of}
pub use Rattle.lasp_drive.specs.Node.{OnlyLearns}
pub use Rattle.lasp_drive.specs.Run.{IsRunnable}
pub use Rattle.lasp_call.specs.Ends.{EndsWithText}
pub use Rattle.lasp_call.specs.Failure.{IsRefusal}
pub use Rattle.lasp_call.specs.Message.{message_refused}
pub use Rattle.lasp_call.specs.Opens.{Opens}
pub use Rattle.lasp_call.specs.Words.{answered, words_of}
