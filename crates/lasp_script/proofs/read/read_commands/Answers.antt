use Rattle.std.proofs.Common.{◌∙◌, sym, ap, ◌+◌, map, drop, arith}
use Rattle.serde_json.specs.View.{view}
use Rattle.model_scripts.specs.Progress.{Progress}
use Rattle.model_scripts.specs.Script.{commands_read}
use Rattle.lasp_graph.specs.Library.{library_of}
use Rattle.lasp_graph.proofs.Items.{next_item, no_item}
use Rattle.lasp_script.specs.Progress.{progress_over}
use Rattle.lasp_script.proofs.Steps.{commands_read-next, commands_read-stop, commands_read-end}
use Rattle.lasp_script.proofs.read.read_commands.Goals as goal

pub returns-in-Err : goal.returns-in-Err
returns-in-Err g c =
    let p : Progress = progress_over c.args.g.now c.loop-j.progress in
    let whole = ap (commands_read (library_of c.args.lib.now) c.args.nodes p) (sym (next_item c.args.items.now c.loop-j.j-index c.j-item.result c.loop-j-test.true c.j-item.is)) ∙ c.loop-j.invariant in
    rw (c.at.ensures, ← whole)
    (commands_read-stop (library_of c.args.lib.now) c.args.nodes p (view c.j-item.result) (map view (drop (c.loop-j.j-index + 1) c.args.items.now)) c.number-number.result c.in-Err.refused c.number-number.ensures c.in-Err.ensures)

pub loop-j-preserved : goal.loop-j-preserved
loop-j-preserved g c =
    let p : Progress = progress_over c.args.g.now c.loop-j.progress in
    sym (commands_read-next (library_of c.args.lib.now) c.args.nodes p (progress_over c.args.g.now c.in-Ok.next) (view c.j-item.result) (map view (drop (c.loop-j.j-index + 1) c.args.items.now)) c.in-Ok.ensures)
    ∙ ap (commands_read (library_of c.args.lib.now) c.args.nodes p) (sym (next_item c.args.items.now c.loop-j.j-index c.j-item.result c.loop-j-test.true c.j-item.is))
    ∙ c.loop-j.invariant

pub returns : goal.returns
returns g c =
    let p : Progress = progress_over c.args.g.now c.loop-j.progress in
    sym c.loop-j.invariant ∙ ap (commands_read (library_of c.args.lib.now) c.args.nodes p) (no_item c.args.items.now c.loop-j.j-index (omega arith)) ∙ commands_read-end (library_of c.args.lib.now) c.args.nodes p
