use Rattle.std.proofs.Common.{◌∷◌, [], sym, subst, ◌∙◌}
use Rattle.std.specs.Prelude.{length}
use Rattle.std.proofs.lemmas.List.{length-map}
use Rattle.model_world.specs.World.{Post, Take}
use Rattle.lasp_script.specs.Command.{command_of}
use Rattle.lasp_script.specs.declared.command.Command.{Command}
use Rattle.lasp_drive.specs.Driver.{seen}
use Rattle.lasp_delta.specs.Acts.{GoesBy}
use Rattle.lasp_delta.specs.Seen.{delta_seen}
use Rattle.lasp_delta.proofs.PlayLaws.{goes-quiet, goes-later, goes-sync-by, quiet-command}
use Rattle.lasp_delta.proofs.run.deltas.DeltaRun.step.Goals as goal

pub returns-then-is_quiet : goal.returns-then-is_quiet
returns-then-is_quiet g c =
    goes-quiet c.args.c (delta_seen g.N.Node.view g.N.Node.read c.args.self.now) (command_of c.args.command.now) c.step.result (seen g.N.Node.view g.N.Node.read c.step.new.self)
    (quiet-command (command_of c.args.command.now) (sym c.is_quiet.ensures ∙ c.if-is_quiet.true)) c.requires.may c.step.ensures.acts

pub returns-in-Send : goal.returns-in-Send
returns-in-Send g c =
    subst (λ (k : Command). GoesBy c.args.c (delta_seen g.N.Node.view g.N.Node.read c.args.self.now) (command_of k) c.post.result (delta_seen g.N.Node.view g.N.Node.read c.post.new.self)) (sym c.in-Send.is)
    (goes-later c.args.c (delta_seen g.N.Node.view g.N.Node.read c.args.self.now) (delta_seen g.N.Node.view g.N.Node.read c.post.new.self) (Post c.in-Send.p ∷ []) c.post.result c.post.ensures)

pub returns-in-Deliver : goal.returns-in-Deliver
returns-in-Deliver g c =
    subst (λ (k : Command). GoesBy c.args.c (delta_seen g.N.Node.view g.N.Node.read c.args.self.now) (command_of k) c.take.result (delta_seen g.N.Node.view g.N.Node.read c.take.new.self)) (sym c.in-Deliver.is)
    (goes-later c.args.c (delta_seen g.N.Node.view g.N.Node.read c.args.self.now) (delta_seen g.N.Node.view g.N.Node.read c.take.new.self) (Take c.in-Deliver.p c.in-Deliver.i ∷ []) c.take.result c.take.ensures)

pub returns-in-Sync : goal.returns-in-Sync
returns-in-Sync g c =
    subst (λ (k : Command). GoesBy c.args.c (delta_seen g.N.Node.view g.N.Node.read c.args.self.now) (command_of k) c.sync.result (delta_seen g.N.Node.view g.N.Node.read c.sync.new.self)) (sym c.in-Sync.is)
    (goes-sync-by c.args.c (length c.args.self.now.driver.nodes.items) (delta_seen g.N.Node.view g.N.Node.read c.args.self.now) (delta_seen g.N.Node.view g.N.Node.read c.sync.new.self) c.sync.result
    (length-map c.args.self.now.driver.nodes.items g.N.Node.view) c.sync.ensures)
