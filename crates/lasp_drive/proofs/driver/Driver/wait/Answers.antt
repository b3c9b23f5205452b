use Rattle.std.proofs.Common.{◌+◌, ◌∷◌, [], map, ◌∙◌}
use Rattle.model_world.specs.World.{Point, Reach}
use Rattle.lasp_script.specs.Command.{until_of}
use Rattle.lasp_drive.specs.Driver.{seen}
use Rattle.lasp_drive.proofs.ActLaws.{acts-then, stops-before}
use Rattle.lasp_drive.proofs.StepLaws.{place-stays, asked-stays}
use Rattle.lasp_drive.proofs.driver.Driver.wait.Goals as goal

pub reach-requires : goal.reach-requires
reach-requires g c =
    let old = seen g.N.Node.view g.N.Node.read c.args.self.now in
    let now = seen g.N.Node.view g.N.Node.read c.point.new.self in
    record {
      ready = c.in-Ok.ensures.passes.acts.ready;
      lawful = (place-stays c.args.c c.args.p c.args.x old now c.in-Ok.ensures.passes.acts c.requires.may.lawful.0, asked-stays c.args.c c.args.x (until_of c.args.until.now) old now c.in-Ok.ensures.passes.acts c.requires.may.lawful.1, c.in-Ok.ensures.settled);
    }

pub returns-in-Ok : goal.returns-in-Ok
returns-in-Ok g c =
    record {
      acts = acts-then c.args.c c.args.c (c.args.c + 1) (seen g.N.Node.view g.N.Node.read c.args.self.now) (seen g.N.Node.view g.N.Node.read c.point.new.self) (seen g.N.Node.view g.N.Node.read c.reach.new.self)
          (Point ∷ []) (Reach c.args.p c.args.x (until_of c.args.until.now) ∷ []) c.reach.result c.in-Ok.ensures.passes.acts c.reach.ensures.acts.acts;
      in_place = c.reach.ensures.acts.in_place ∙ c.in-Ok.ensures.passes.in_place;
    }

pub returns-in-Err : goal.returns-in-Err
returns-in-Err g c = record {
  acts = stops-before c.args.c (seen g.N.Node.view g.N.Node.read c.args.self.now) (Point ∷ []) (Reach c.args.p c.args.x (until_of c.args.until.now) ∷ []) c.in-Err.halt (map g.N.Node.view c.point.new.self.nodes.items) c.in-Err.ensures.passes.acts;
  in_place = c.in-Err.ensures.passes.in_place;
}
