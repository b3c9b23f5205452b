-- The words that the contracts of this library are written in.
pub use Rattle.model_values.specs.Text.{shown_values}
pub use Rattle.model_sets.specs.Values.{AreAscending, IsHeld, IsWithin, unite}
pub use Rattle.model_states.specs.Counts.{count_at, count_max, inc_delta, zeros}
pub use Rattle.model_states.specs.Register.{IsNotLater, later}
pub use Rattle.lasp_value.specs.Value.{val_of}
pub use Rattle.lasp_logset.specs.Weights.{IsBounded, values_weight}
pub use Rattle.lasp_state.specs.Counts.{AreAtMost, AreCounts, HaveSameNodes, larger}
