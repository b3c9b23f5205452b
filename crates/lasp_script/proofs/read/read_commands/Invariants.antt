use Rattle.std.proofs.Common.{◌≡◌, map, drop}
use Rattle.serde_json.specs.View.{view}
use Rattle.model_scripts.specs.Progress.{opening}
use Rattle.model_scripts.specs.Script.{commands_read}
use Rattle.lasp_graph.specs.Library.{library_of}
use Rattle.lasp_script.specs.Progress.{progress_over}
use Rattle.lasp_script.proofs.read.read_commands.Given as goal

abbrev pub invariant-loop-j : goal.invariant-loop-j
invariant-loop-j g l =
    commands_read (library_of l.lib) l.nodes (progress_over l.g l.progress) (map view (drop l.j-index l.items)) ≡ commands_read (library_of l.lib) l.nodes (opening l.g) (map view l.items)
