use Rattle.std.proofs.Common.{rules, ◌≡◌, ◌++◌, ◌∷◌, [], length, map, subst, sym, refl}
use Rattle.std.specs.Prelude.{List}
use Rattle.std.specs.Arc.{arc_value}
use Rattle.model_graph.specs.Graph.{Decl}
use Rattle.model_world.specs.World.{Extend}
use Rattle.lasp_graph.specs.Decl.{decl_of}
use Rattle.lasp_drive.specs.Node.{AreNodes}
use Rattle.lasp_drive.specs.Nodes.{AllExtend}
use Rattle.lasp_drive.specs.Driver.{seen}
use Rattle.lasp_drive.specs.Acts.{Acted}
use Rattle.lasp_drive.proofs.StepLaws.{with_graph, acted-extend}
use Rattle.std.proofs.lemmas.Result.{err_from_is_err_and}
use Rattle.lasp_drive.proofs.ActLaws.{stops-early}
use Rattle.lasp_drive.proofs.driver.Driver.extend.Goals as goal

pub extend_all-requires-clause-nodes : goal.extend_all-requires-clause-nodes
extend_all-requires-clause-nodes g c =
    let nodes = map g.N.Node.view c.args.self.now.nodes.items in
    subst (λ (h : List Decl). AreNodes h (length nodes) nodes) (sym c.deref-2.ensures) c.requires.ready.nodes

pub returns : goal.returns
returns g c =
    let d = seen g.N.Node.view g.N.Node.read c.args.self.now in
    let decl = decl_of c.args.decl.now in
    let nodes = map g.N.Node.view c.extend_all.new.nodes.items in
    let graph : arc_value c.in_ok-grown.grown ≡ d.graph ++ decl ∷ [] = search rules in
    record {
      acts = subst (λ (h : List Decl). Acted c.args.c c.args.c d (Extend decl ∷ []) (with_graph d h nodes)) (sym graph)
          (acted-extend c.args.c decl d nodes c.requires.ready (subst (λ (h : List Decl). AllExtend h decl d.nodes nodes) graph c.in_ok-extend_all.ensures.all));
      reads = refl;
      in_place = c.extend_all.ensures.place;
    }

pub returns-in_err-with : goal.returns-in_err-with
returns-in_err-with g c =
    let p = err_from_is_err_and c.from_residual.result c.from_residual.ensures.1 in
    rw (p.1, p.2) (record { acts = stops-early c.args.c (seen g.N.Node.view g.N.Node.read c.args.self.now) (Extend (decl_of c.args.decl.now) ∷ []); reads = tt; in_place = refl })

pub returns-in_err-grown : goal.returns-in_err-grown
returns-in_err-grown g c =
    let p = err_from_is_err_and c.from_residual-in_err-grown.result c.from_residual-in_err-grown.ensures.1 in
    rw (p.1, p.2) (record { acts = stops-early c.args.c (seen g.N.Node.view g.N.Node.read c.args.self.now) (Extend (decl_of c.args.decl.now) ∷ []); reads = tt; in_place = refl })

pub returns-in_err-extend_all : goal.returns-in_err-extend_all
returns-in_err-extend_all g c =
    let p = err_from_is_err_and c.from_residual-in_err-extend_all.result c.from_residual-in_err-extend_all.ensures.1 in
    rw (p.1, p.2) (record {
      acts = record { halts = tt; calls = c.in_err-extend_all.ensures.calls };
      reads = tt;
      in_place = c.extend_all.ensures.place;
    })
