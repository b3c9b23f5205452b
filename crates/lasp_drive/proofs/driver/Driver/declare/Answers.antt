use Rattle.std.proofs.Common.{◌+◌, ◌∷◌, [], length, subst, sym, ap, map, ◌∙◌}
use Rattle.std.specs.Prelude.{List, ◌<◌}
use Rattle.model_graph.specs.Graph.{Decl}
use Rattle.model_graph.specs.Lawful.{variable_limit}
use Rattle.model_readings.specs.Lawful.{IsNext}
use Rattle.model_world.specs.Lawful.{Stage}
use Rattle.model_world.specs.World.{Point, Extend}
use Rattle.lasp_graph.specs.Decl.{decl_of}
use Rattle.lasp_drive.specs.Driver.{seen}
use Rattle.lasp_drive.proofs.ActLaws.{acts-later, acts-then, stops-before}
use Rattle.lasp_drive.proofs.driver.Driver.declare.Goals as goal

pub extend-requires : goal.extend-requires
extend-requires g c =
    let same = sym (ap (λ (s : Stage). s.graph) c.in-Ok.ensures.passes.acts.stage) in
    record {
      ready = c.in-Ok.ensures.passes.acts.ready;
      lawful = (subst (λ (h : List Decl). length h < variable_limit) same c.requires.room, subst (λ (h : List Decl). IsNext h (decl_of c.args.decl.now)) same c.requires.next);
    }

pub returns-in-Ok : goal.returns-in-Ok
returns-in-Ok g c =
    let now = seen g.N.Node.view g.N.Node.read c.point.new.self in
    let new = seen g.N.Node.view g.N.Node.read c.extend.new.self in
    record {
      acts = acts-then c.args.c c.args.c (c.args.c + 1) (seen g.N.Node.view g.N.Node.read c.args.self.now) now new (Point ∷ []) (Extend (decl_of c.args.decl.now) ∷ []) c.extend.result c.in-Ok.ensures.passes.acts
          (acts-later c.args.c now new (Extend (decl_of c.args.decl.now) ∷ []) c.extend.result c.extend.ensures.acts);
      in_place = c.extend.ensures.in_place ∙ c.in-Ok.ensures.passes.in_place;
    }

pub returns-in-Err : goal.returns-in-Err
returns-in-Err g c = record {
  acts = stops-before c.args.c (seen g.N.Node.view g.N.Node.read c.args.self.now) (Point ∷ []) (Extend (decl_of c.args.decl.now) ∷ []) c.in-Err.halt (map g.N.Node.view c.point.new.self.nodes.items) c.in-Err.ensures.passes.acts;
  in_place = c.in-Err.ensures.passes.in_place;
}
