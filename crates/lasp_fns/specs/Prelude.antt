-- The words that the contracts of this library are written in.
pub use Rattle.std.specs.Option.{option_map}
pub use Rattle.model_values.specs.Name.{is_name}
pub use Rattle.model_values.specs.Size.{IsSized}
pub use Rattle.model_values.specs.Value.{int}
pub use Rattle.model_functions.specs.Lift.{first_of, length_of, lifted, number_of}
pub use Rattle.model_functions.specs.Map.{mapped, mapped_number, mapped_once, mapped_pair, mapped_text}
pub use Rattle.model_functions.specs.Predicate.{begins_with, passes, passes_number, passes_once, passes_pair, passes_text}
pub use Rattle.lasp_value.specs.Value.{val_of}
pub use Rattle.lasp_fns.specs.Answers.{Answers}
pub use Rattle.lasp_fns.specs.Kept.{named_of}
pub use Rattle.lasp_fns.specs.Library.{lift_op_at, lifts_of, map_ops_at, maps_of, pred_ops_at, predicates_of}
pub use Rattle.lasp_fns.specs.Lift.{lift_op_of}
pub use Rattle.lasp_fns.specs.Map.{map_op_of}
pub use Rattle.lasp_fns.specs.Named.{is_named, item_at, place_named}
pub use Rattle.lasp_fns.specs.Predicate.{pred_op_of}
pub use Rattle.lasp_fns.specs.Steps.{library_of, one_more, ticks_of}
pub use Rattle.lasp_fns.specs.Stored.{conditions_of, lift_of, ops_of}
