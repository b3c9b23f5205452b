use Rattle.std.proofs.Common.{refl}
use Rattle.std.proofs.lemmas.Result.{err_from_is_err_and}
use Rattle.model_world.specs.Command as plain
use Rattle.lasp_drive.specs.Driver.{seen, run_of}
use Rattle.lasp_drive.proofs.ActLaws.{stops-early}
use Rattle.model_world.specs.World.{acts}
use Rattle.lasp_value.specs.Value.{val_of}
use Rattle.lasp_drive.proofs.driver.Driver.add.Goals as goal

pub returns-in_err-try_clone : goal.returns-in_err-try_clone
returns-in_err-try_clone g c =
    let p = err_from_is_err_and c.from_residual.result c.from_residual.ensures.1 in
    rw (p.1, p.2) (record { acts = stops-early c.args.c (seen g.N.Node.view g.N.Node.read c.args.self.now) (acts (run_of (seen g.N.Node.view g.N.Node.read c.args.self.now)) (plain.Add c.args.p c.args.x (val_of c.args.value.now))); in_place = refl })
