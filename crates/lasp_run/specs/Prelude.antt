-- The words that the contracts of this library are written in.
pub use Rattle.std.specs.Arc.{arc_value}
pub use Rattle.std.specs.Fmt.{decimal}
pub use Rattle.model_values.specs.Faults.{Rose}
pub use Rattle.model_values.specs.Told.{Appends, AppendsPrefix}
pub use Rattle.model_graph.specs.Chain.{refusing}
pub use Rattle.model_graph.specs.Graph.{name_at}
pub use Rattle.model_graph.specs.Lawful.{width_at, widths}
pub use Rattle.model_world.specs.Lawful.{IsLawful}
pub use Rattle.model_world.specs.Line.{line, line_rest}
pub use Rattle.model_world.specs.Report.{report_of}
pub use Rattle.model_world.specs.World.{Peer, ended, shown_at}
pub use Rattle.model_dots.specs.DotWorld.{one_set}
pub use Rattle.model_wire.specs.Lawful.{IsMessage}
pub use Rattle.model_wire.specs.Message.{decoded}
pub use Rattle.model_readings.specs.Graph.{graph_of}
pub use Rattle.model_readings.specs.Lawful.{FitsAll}
pub use Rattle.model_program.specs.Call.{AreLater, AreUnchanged, IsAnswered, reading_of, seen, writing_of}
pub use Rattle.model_program.specs.Check.{check_line, check_text, kind_word}
pub use Rattle.model_program.specs.Dots.{dots_answer}
pub use Rattle.model_program.specs.Ends.{Ends, Tells}
pub use Rattle.model_program.specs.Follows.{Follows, Gives, Performs}
pub use Rattle.model_program.specs.Line.{graph_why_text, line_of, refusal_status, refusal_words, script_why_text, state_why_text, status_of, wire_why_text}
pub use Rattle.model_program.specs.Merge.{counts_line, file_joined, may_take, merge_answer, merge_text, merging_file, merging_files, merging_more, message_joined, state_refused, value_lines}
pub use Rattle.model_program.specs.Plan.{Says, exactly, reading, word_at}
pub use Rattle.model_program.specs.Program.{IsUsageForm, checking, delta_answer, dots_scripting, export_answer, export_form, exporting, form, graph_refused, load_form, merging, node_word, number_in, opening, plan, run_answer, running, running_deltas, running_dots, script_refused, scripting, spelled_in, threaded_form, with_workers, workers_word}
pub use Rattle.model_program.specs.declared.threaded.Threaded.TheVariants.{Live, Load, Run, Trace}
pub use Rattle.model_scripts.specs.Progress.{grown, grown_by}
pub use Rattle.model_scripts.specs.Script.{script_of}
pub use Rattle.lasp_state.specs.State.{shown_state}
pub use Rattle.lasp_graph.specs.Decl.{decl_of}
pub use Rattle.lasp_graph.specs.Kind.{kind_of}
pub use Rattle.lasp_graph.specs.Library.{library_of}
pub use Rattle.lasp_drive.specs.Node.{IsSettled}
pub use Rattle.lasp_drive.specs.Acts.{Halts}
pub use Rattle.lasp_drive.specs.Run.{IsRunnable}
pub use Rattle.lasp_script.specs.Command.{command_of}
pub use Rattle.lasp_call.specs.Failure.{IsRefusal}
pub use Rattle.lasp_call.specs.Message.{peer_by}
pub use Rattle.lasp_call.specs.Words.{answered, words_of}
pub use Rattle.lasp_run.specs.Merge.{ComesTo, IsReplica}
pub use Rattle.lasp_run.specs.Run.{IsStop, opened_of, opening_run}
