-- The words that the contracts of this library are written in.
pub use Rattle.model_values.specs.Name.{is_name}
pub use Rattle.model_values.specs.Size.{IsSized}
pub use Rattle.model_functions.specs.Lift.{lifted}
pub use Rattle.model_functions.specs.Predicate.{passes}
pub use Rattle.lasp_value.specs.Value.{val_of}
pub use Rattle.model_program.specs.Call.{AreTexts, IsUsage, reading_of, writing_of}
pub use Rattle.model_program.specs.Top.{IsTopAnswered}
pub use Rattle.lasp_fns.specs.Answers.{Answers}
pub use Rattle.lasp_fns.specs.Library.{lifts_of, maps_of, predicates_of}
pub use Rattle.lasp_fns.specs.Lift.{lift_op_of}
pub use Rattle.lasp_fns.specs.Map.{map_op_of}
pub use Rattle.lasp_fns.specs.Named.{is_named}
pub use Rattle.lasp_fns.specs.Predicate.{pred_op_of}
pub use Rattle.lasp_call.specs.Words.{words_of}
pub use Rattle.lasp_program.specs.Call.{TextsOrNone, bytes_of}
pub use Rattle.lasp_program.specs.Functions.{program_library, program_lifts, program_maps, program_predicates}
pub use Rattle.lasp_program.specs.Tables.{condition_view, lift_entry, map_entry, predicate_entry}
