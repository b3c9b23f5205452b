use Rattle.std.proofs.Common.{◌∙◌, sym, ap, List, Ok}
use Rattle.model_world.specs.Command.{Command}
use Rattle.model_scripts.specs.Script.{script_from}
use Rattle.lasp_graph.specs.Library.{library_of}
use Rattle.lasp_script.specs.Progress.{progress_over}
use Rattle.lasp_script.proofs.UsualLaws.{read_to-end}
use Rattle.lasp_script.proofs.usual.usual_parts.Goals as goal

pub returns-then-is_over : goal.returns-then-is_over
returns-then-is_over g c =
    read_to-end (library_of c.args.lib.now) c.args.g.now c.args.bytes.now c.in_ok-nodes.nodes (progress_over c.args.g.now c.in_ok-nodes.progress) c.in_ok-nodes.rest.now c.in_ok-end.end.now c.requires c.in_ok-nodes.ensures
    c.in_ok-end.ensures (c.is_over.ensures c.if-is_over.true)
    ∙ ap (λ (ks : List Command). Ok (script_from c.in_ok-nodes.nodes ks)) (sym c.into_commands.ensures.commands)
    ∙ ap Ok (sym c.of.ensures)
