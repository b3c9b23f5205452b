use Rattle.std.proofs.Common.{rules}
use Rattle.lasp_setops.proofs.ModuloLaws.{remainders-fit}
use Rattle.lasp_setops.proofs.fold.modulo.ModuloFoldGroup.op.Goals as goal

pub overflow_add-a : goal.overflow_add-a
overflow_add-a c =
    let fits = remainders-fit c.args.self.now c.args.a c.args.b c.modulus-modulus.ensures.small c.requires.left c.requires.right in
    search rules

pub returns : goal.returns
returns c =
    let fits = remainders-fit c.args.self.now c.args.a c.args.b c.modulus-modulus.ensures.small c.requires.left c.requires.right in
    search rules
