use Rattle.std.proofs.Common.{◌+◌, map, ap, ◌∙◌, subst, sym, arith}
use Rattle.std.specs.Prelude.{List}
use Rattle.std.specs.Arc.{arc_value}
use Rattle.std.proofs.lemmas.List.{map-append}
use Rattle.lasp_drive.specs.Node.{NodeView, AreFresh}
use Rattle.lasp_drive.proofs.PointLaws.{fresh-next}
use Rattle.lasp_drive.proofs.driver.fresh_nodes.Goals as goal

pub loop-p-preserved : goal.loop-p-preserved
loop-p-preserved g c = record {
  within = omega (arith, c.loop-p-test.true);
  fresh = subst (λ (ns : List NodeView). AreFresh (arc_value c.args.graph.now) c.args.nodes (c.loop-p.p + 1) ns) (sym (ap (map g.N.Node.view) c.in_ok-push.ensures.items ∙ map-append g.N.Node.view c.loop-p.all.items _))
      (fresh-next (arc_value c.args.graph.now) c.args.nodes c.loop-p.p (map g.N.Node.view c.loop-p.all.items) _ c.loop-p.invariant.fresh c.in_ok-new.ensures);
}
