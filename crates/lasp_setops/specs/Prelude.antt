-- The words that the contracts of this library are written in.
pub use Rattle.model_values.specs.Row.{Row}
pub use Rattle.model_values.specs.Value.{Val}
pub use Rattle.model_sets.specs.Equations.{changed, filter_set, intersect_set, map_set, met, paired, product_set, union_set}
pub use Rattle.model_sets.specs.Rises.{AreApart}
pub use Rattle.model_sets.specs.Rows.{IsAscending, IsAtMost, join, of_rows, put}
pub use Rattle.model_functions.specs.Map.{MapOp, mapped}
pub use Rattle.model_functions.specs.Predicate.{passes}
pub use Rattle.model_states.specs.Content.{row_limit}
pub use Rattle.lasp_value.specs.Token.{tok_of}
pub use Rattle.lasp_value.specs.Value.{val_of}
pub use Rattle.lasp_fns.specs.Library.{map_ops_at, maps_of, pred_ops_at, predicates_of, lift_op_at, lifts_of}
pub use Rattle.lasp_fns.specs.Steps.{library_of, ticks_of}
pub use Rattle.lasp_fns.specs.Stored.{conditions_of, ops_of, lift_of}
pub use Rattle.lasp_setops.specs.Grown.{IsGrown}
pub use Rattle.lasp_setops.specs.Pairs.{gives, gives_from, pair_set, pair_set_from, partners}
pub use Rattle.lasp_setops.specs.Width.{IsSetOfWidth}
pub use Rattle.std.specs.Option.{option_map}
pub use Rattle.model_values.specs.Size.{IsSized}
pub use Rattle.model_sets.specs.Folds.{fold_set}
pub use Rattle.model_sets.specs.Loops.{is_last}
pub use Rattle.model_sets.specs.Values.{IsHeld, row_values, visible}
pub use Rattle.model_graph.specs.Fold.{combined, inverse, is_member, taken}
pub use Rattle.model_graph.specs.Increment.{IsChange}
pub use Rattle.lasp_setops.specs.Fold.{AreSized, IsWithinLimits, taken_lift}
pub use Rattle.lasp_setops.specs.Group.{magnitude}
pub use Rattle.lasp_setops.specs.Turns.{turned, turns, values_left}
