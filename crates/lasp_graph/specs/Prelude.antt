-- The words that the contracts of this library are written in.
pub use Rattle.std.specs.Arc.{arc_value}
pub use Rattle.serde_json.specs.View.{number_view, view}
pub use Rattle.model_sets.specs.Equations.{changed, filter_set, intersect_set, map_set, product_set}
pub use Rattle.model_sets.specs.Rows.{IsAtMost, join, of_rows}
pub use Rattle.model_functions.specs.Library.{operations_at}
pub use Rattle.model_functions.specs.Map.{mapped}
pub use Rattle.model_functions.specs.Predicate.{passes}
pub use Rattle.model_states.specs.Content.{Content, IsContentAtMost, of_set, row_limit, size_of}
pub use Rattle.model_states.specs.Threshold.{fold, set}
pub use Rattle.model_graph.specs.Evaluation.{content_at, equation, eval, evaluated, least_of}
pub use Rattle.model_graph.specs.Fold.{fold_rows}
pub use Rattle.model_graph.specs.Graph.{Decl, is_set, is_source, kind_at}
pub use Rattle.model_graph.specs.Increment.{IsChange}
pub use Rattle.model_graph.specs.Lawful.{IsFoldOp, IsKind, sources_among, variable_limit, width_at, width_of, widths}
pub use Rattle.model_graph.specs.Width.{HasWidth}
pub use Rattle.model_readings.specs.Graph.{decl_read, decls_read, fold_form, form_of, function_read, graph_of, input_read, inputs_read, kind_read, known, modulo_by, modulo_of, names_of, next_read, place_of, set_checked, source_form, tree_read, written_of}
pub use Rattle.model_readings.specs.Lawful.{AreInputs, Fits, FitsAll, IsGraph, IsNext}
pub use Rattle.model_readings.specs.Tree.{has_items, is_word_at, number_at, text_at, two}
pub use Rattle.lasp_fns.specs.Library.{lift_op_at, lifts_of, maps_of, predicates_of}
pub use Rattle.lasp_fns.specs.Lift.{lift_op_of}
pub use Rattle.lasp_fns.specs.Stored.{lift_of}
pub use Rattle.lasp_setops.specs.Fold.{IsWithinLimits}
pub use Rattle.lasp_setops.specs.Width.{IsSetOfWidth}
pub use Rattle.lasp_state.specs.State.{content_of, number_of}
pub use Rattle.lasp_graph.specs.Answers.{Answers, Gives, GivesAt, refused_at, why_of}
pub use Rattle.lasp_graph.specs.Decl.{decl_of}
pub use Rattle.lasp_graph.specs.Delta.{IsForMemory, IsSetBefore, IsStateBefore, IsStateOf, gained}
pub use Rattle.lasp_graph.specs.Evaluated.{AreNarrow, AreSets, AreSmall, Becomes, Evaluates, KeepNumbers, KeepShapes, derived_shape, inputs_of, number_by, process, second_of, seen, shape_after, stopped_at}
pub use Rattle.lasp_graph.specs.Kind.{kind_of}
pub use Rattle.lasp_graph.specs.Library.{library_of}
pub use Rattle.lasp_graph.specs.Sources.{by_variable, sources_of}
pub use Rattle.lasp_graph.specs.States.{AreJoinable, HasRows, Held, contents_of, extended, grown, held_at, held_of}
pub use Rattle.lasp_graph.specs.Written.{form_view, written_view}
