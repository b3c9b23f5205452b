use Rattle.std.proofs.Common.{◌∙◌, sym, ap, option_map}
use Rattle.serde_json.specs.View.{view}
use Rattle.lasp_graph.specs.Library.{library_of}
use Rattle.lasp_script.specs.Word.{word_view}
use Rattle.lasp_script.specs.Progress.{progress_over}
use Rattle.lasp_script.proofs.Table.{next-formless}
use Rattle.lasp_script.proofs.read.read_next.Goals as goal

pub returns-in_default : goal.returns-in_default
returns-in_default g c =
    next-formless (library_of c.args.lib.now) c.args.nodes (progress_over c.args.g.now c.args.before) (view c.args.j.now) (sym c.word_of.ensures ∙ ap (option_map word_view) c.in_default.is)
