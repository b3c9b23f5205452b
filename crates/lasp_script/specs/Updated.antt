-- What an update comes to, by what it brings.
use Rattle.std.specs.Prelude.{ℕ, List, Result}
use Rattle.serde_json.specs.View.{view, number_view}
use Rattle.model_graph.specs.Chain.{◌>>=◌}
use Rattle.model_graph.specs.Graph.{Decl}
use Rattle.model_world.specs.Command as command
use Rattle.model_world.specs.Command.{Command}
use Rattle.model_scripts.specs.declared.script_why.ScriptWhy.{ScriptWhy}
use Rattle.model_scripts.specs.Word.{Target}
use Rattle.model_scripts.specs.Check.{is_orset, is_gset, is_counter, is_maxreg}
use Rattle.lasp_script.specs.declared.word.Update.{Update}
use Rattle.lasp_script.specs.declared.word.Update.TheVariants.{Add, Remove, Insert, Inc, Max}
use Rattle.lasp_script.specs.Made.{value_read, step_read, top_read, change_read, change}

abbrev pub updated : List Decl → ℕ → Target → Update → Result Command ScriptWhy
updated g nodes t (Add v) = change_read is_orset g nodes t (value_read (view v.now)) >>= change command.Add
updated g nodes t (Remove v) = change_read is_orset g nodes t (value_read (view v.now)) >>= change command.Remove
updated g nodes t (Insert v) = change_read is_gset g nodes t (value_read (view v.now)) >>= change command.Insert
updated g nodes t (Inc n) = change_read is_counter g nodes t (step_read (number_view n.now)) >>= change command.Inc
updated g nodes t (Max n) = change_read is_maxreg g nodes t (top_read (number_view n.now)) >>= change command.Max
