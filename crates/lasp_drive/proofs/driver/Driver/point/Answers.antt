use Rattle.std.proofs.Common.{rules, map, subst, sym}
use Rattle.std.specs.Prelude.{List}
use Rattle.model_graph.specs.Graph.{Decl}
use Rattle.lasp_graph.specs.Library.{library_of}
use Rattle.lasp_drive.specs.Nodes.{MaySettle, SettlesAll}
use Rattle.lasp_drive.specs.Driver.{seen}
use Rattle.lasp_drive.proofs.StepLaws.{may-settle, acts-point, settled-point}
use Rattle.lasp_drive.proofs.driver.Driver.point.Goals as goal

pub settle_all-requires : goal.settle_all-requires
settle_all-requires g c =
    subst (λ (h : List Decl). MaySettle (library_of c.args.lib.now) h (map g.N.Node.view c.args.self.now.nodes.items)) (sym c.deref.ensures)
    (may-settle c.args.c (library_of c.args.lib.now) (seen g.N.Node.view g.N.Node.read c.args.self.now) c.requires.ready c.requires.fits)

pub returns-clause-passes : goal.returns-clause-passes
returns-clause-passes g c =
    let d = seen g.N.Node.view g.N.Node.read c.args.self.now in
    record {
      acts = acts-point c.args.c d (map g.N.Node.view c.settle_all.new.nodes.items) c.settle_all.result c.requires.ready
          (subst (λ (h : List Decl). SettlesAll c.args.c h d.nodes c.settle_all.result (map g.N.Node.view c.settle_all.new.nodes.items)) c.deref.ensures c.settle_all.ensures.settles);
      reads = search rules;
      in_place = c.settle_all.ensures.place;
    }

pub returns-clause-settled : goal.returns-clause-settled
returns-clause-settled g c = settled-point c.args.c c.deref.result.now (map g.N.Node.view c.args.self.now.nodes.items) (map g.N.Node.view c.settle_all.new.nodes.items) c.settle_all.result c.settle_all.ensures.settles
