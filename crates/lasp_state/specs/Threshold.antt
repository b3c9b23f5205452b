-- The thresholds of reads as plain data.
use Rattle.std.specs.Prelude.{Bool, true, false}
use Rattle.std.specs.Arc.{arc_value}
use Rattle.model_values.specs.Value.{Val}
use Rattle.model_states.specs.Content.{Content}
use Rattle.model_states.specs.Threshold as plain
use Rattle.lasp_state.specs.State.{content_of, shape_of}
use Rattle.lasp_state.specs.declared.threshold.Threshold.{Threshold}
use Rattle.lasp_state.specs.declared.threshold.Threshold.TheVariants.{AtLeast, Above, Count, Added, Removed}

-- a threshold, its state as shape and content
abbrev pub threshold_of : Threshold → plain.Threshold
threshold_of (AtLeast s) = plain.AtLeast (shape_of (arc_value s)) (content_of (arc_value s))
threshold_of (Above s) = plain.Above (shape_of (arc_value s)) (content_of (arc_value s))
threshold_of (Count k) = plain.Count k
threshold_of (Added values) = plain.Added values
threshold_of (Removed values) = plain.Removed values

-- the value was added; it was removed, where that is asked
abbrev pub is_in : Bool → Content → Val → Bool
is_in false s v = plain.is_added s v
is_in true s v = plain.is_removed s v
