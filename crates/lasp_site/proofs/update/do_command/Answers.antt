use Rattle.std.proofs.Common.{ℕ, Option, subst}
use Rattle.lasp_script.specs.Command.{command_of}
use Rattle.lasp_state.specs.declared.op.Op.{Op}
use Rattle.lasp_site.specs.Site.{IsOperationOf}
use Rattle.lasp_site.proofs.UpdateLaws.{told-may}
use Rattle.lasp_site.proofs.update.do_command.Goals as goal

pub update-requires-clause-may : goal.update-requires-clause-may
update-requires-clause-may g c =
    told-may (g.N.Node.view c.args.node).among c.args.me c.args.graph.now (command_of c.args.command.now) (c.in-Ok-Some.var, c.in-Ok-Some.op)
    (subst (λ (o : Option (ℕ × Op)). IsOperationOf (command_of c.args.command.now) o) c.in-Ok-Some.field-0-is c.in-Ok-Some.ensures) c.requires.own c.requires.may
