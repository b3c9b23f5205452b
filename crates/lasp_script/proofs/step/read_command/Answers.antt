use Rattle.std.proofs.Common.{◌∙◌, sym}
use Rattle.lasp_graph.specs.Library.{library_of}
use Rattle.lasp_script.specs.Command.{command_of}
use Rattle.lasp_script.specs.Word.{word_view}
use Rattle.lasp_script.proofs.May.{made-may}
use Rattle.lasp_script.proofs.step.read_command.Goals as goal

pub returns-then-has_room-clause-mark : goal.returns-then-has_room-clause-mark
returns-then-has_room-clause-mark g c =
    (made-may (library_of c.args.lib.now) c.args.nodes c.args.g.now c.args.before.now c.has_room.ensures.marks (word_view c.args.word.now) (command_of c.in_ok-command.command)
    (sym c.has_room.ensures.exact ∙ c.if-has_room.true) c.in_ok-command.ensures).0

pub returns-then-has_room-clause-grow : goal.returns-then-has_room-clause-grow
returns-then-has_room-clause-grow g c =
    (made-may (library_of c.args.lib.now) c.args.nodes c.args.g.now c.args.before.now c.has_room.ensures.marks (word_view c.args.word.now) (command_of c.in_ok-command.command)
    (sym c.has_room.ensures.exact ∙ c.if-has_room.true) c.in_ok-command.ensures).1
