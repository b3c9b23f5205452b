-- The words that the contracts of this library are written in.
pub use Rattle.std.specs.List.{list_all, list_any, range_with_len}
pub use Rattle.std.specs.Option.{option_map}
pub use Rattle.model_values.specs.Row.{key_cmp}
pub use Rattle.model_values.specs.Value.{val_cmp}
pub use Rattle.model_sets.specs.Loops.{is_last}
pub use Rattle.model_sets.specs.Rows.{IsAscending, is_of, mark, put}
pub use Rattle.model_sets.specs.Values.{IsHeld, visible}
pub use Rattle.model_states.specs.Counts.{AreCountsAtMost, count_at, larger}
pub use Rattle.model_dots.specs.Dots.{HaveSameNodes, IsAtMost, IsState, add_dot, count_limit, is_counted, join_dots, no_dots, outlives, remove_dots}
pub use Rattle.model_dots.specs.Loops.{uncounted, weave}
pub use Rattle.lasp_value.specs.Token.{tok_of}
pub use Rattle.lasp_value.specs.Value.{val_of}
pub use Rattle.lasp_dots.specs.Places.{is_before, is_below, is_within}
pub use Rattle.lasp_dots.specs.declared.refused.DotRefused.TheVariants.{CountFull, Memory}
pub use Rattle.std.specs.Fmt.{decimal}
pub use Rattle.model_values.specs.Text.{shown_values}
pub use Rattle.model_states.specs.Update.{Add, Remove}
pub use Rattle.model_world.specs.Lawful.{AreLawful, IsLawful, IsWithinLimits}
pub use Rattle.model_world.specs.Line.{known_line, line, line_rest}
pub use Rattle.model_world.specs.Report.{report_of}
pub use Rattle.model_world.specs.World.{Post, Run, Take, Update, ended, peer_at, sync_acts, takes}
pub use Rattle.model_dots.specs.DotReport.{dot_known, dot_output, dot_print, dot_sizes, dot_text, live_lines}
pub use Rattle.model_dots.specs.DotWorld.{AreDotCommands, LacksTheRemoved, StandsFor, dot_act, dot_acts, dot_each, dot_play, dot_start, dots_at, one_set}
pub use Rattle.model_dots.specs.Sizes.{CountAtMost}
pub use Rattle.model_dots.specs.Unlimited.{IsUnlimited}
pub use Rattle.model_dots.specs.Words.{first_other, is_dot_command}
pub use Rattle.lasp_script.specs.Command.{command_of}
pub use Rattle.lasp_dots.specs.Commands.{CanDo, stage_at}
pub use Rattle.lasp_dots.specs.Replicas.{AreWide}
