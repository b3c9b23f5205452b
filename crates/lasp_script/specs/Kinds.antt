-- Which kinds of variables words and thresholds work on.
use Rattle.std.specs.Prelude.{Bool}
use Rattle.model_states.specs.Threshold.{is_counted, has_values, has_rows}
use Rattle.model_graph.specs.Graph.{Kind, is_source}
use Rattle.model_graph.specs.Lawful.{shape_of}
use Rattle.model_scripts.specs.Check.{is_orset, is_gset, is_counter, is_maxreg}
use Rattle.lasp_script.specs.declared.kinds.Kinds.{Kinds}
use Rattle.lasp_script.specs.declared.kinds.Kinds.TheVariants.{Source, OrSet, GSet, Counter, MaxReg, Counted, Valued, Rowed}

-- whether a variable is of one of the kinds; what shape it has but for the number of nodes is told by its kind
abbrev pub is_among : Kinds → Kind → Bool
is_among Source kind = is_source kind
is_among OrSet kind = is_orset kind
is_among GSet kind = is_gset kind
is_among Counter kind = is_counter kind
is_among MaxReg kind = is_maxreg kind
is_among Counted kind = is_counted (shape_of 1 kind)
is_among Valued kind = has_values (shape_of 1 kind)
is_among Rowed kind = has_rows (shape_of 1 kind)
