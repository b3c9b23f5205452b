use Rattle.std.proofs.Common.{◌+◌, ◌∷◌, [], map, ◌∙◌}
use Rattle.model_world.specs.World.{Point, Show}
use Rattle.lasp_drive.specs.Driver.{seen}
use Rattle.lasp_drive.proofs.ActLaws.{acts-later, acts-then, stops-before}
use Rattle.lasp_drive.proofs.StepLaws.{place-stays}
use Rattle.lasp_drive.proofs.driver.Driver.print.Goals as goal

pub show-requires : goal.show-requires
show-requires g c =
    let old = seen g.N.Node.view g.N.Node.read c.args.self.now in
    let now = seen g.N.Node.view g.N.Node.read c.point.new.self in
    record { ready = c.in-Ok.ensures.passes.acts.ready; lawful = (place-stays c.args.c c.args.p c.args.x old now c.in-Ok.ensures.passes.acts c.requires.may.lawful, c.in-Ok.ensures.settled) }

pub returns-in-Ok : goal.returns-in-Ok
returns-in-Ok g c =
    let old = seen g.N.Node.view g.N.Node.read c.args.self.now in
    let now = seen g.N.Node.view g.N.Node.read c.point.new.self in
    let new = seen g.N.Node.view g.N.Node.read c.show.new.self in
    record {
      acts = acts-then c.args.c c.args.c (c.args.c + 1) old now new (Point ∷ []) (Show c.args.p c.args.x ∷ []) c.show.result c.in-Ok.ensures.passes.acts
          (acts-later c.args.c now new (Show c.args.p c.args.x ∷ []) c.show.result c.show.ensures.acts);
      in_place = c.show.ensures.in_place ∙ c.in-Ok.ensures.passes.in_place;
    }

pub returns-in-Err : goal.returns-in-Err
returns-in-Err g c = record {
  acts = stops-before c.args.c (seen g.N.Node.view g.N.Node.read c.args.self.now) (Point ∷ []) (Show c.args.p c.args.x ∷ []) c.in-Err.halt (map g.N.Node.view c.point.new.self.nodes.items) c.in-Err.ensures.passes.acts;
  in_place = c.in-Err.ensures.passes.in_place;
}
