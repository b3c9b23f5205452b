use Rattle.std.proofs.Common.{subst, sym}
use Rattle.std.specs.Prelude.{ℕ, List}
use Rattle.std.specs.Arc.{arc_value}
use Rattle.model_graph.specs.Graph.{Decl}
use Rattle.lasp_delta.specs.Seen.{delta_seen, gossip_of}
use Rattle.lasp_delta.specs.Play.{Begins}
use Rattle.lasp_delta.proofs.PlayLaws.{goes-whole}
use Rattle.lasp_delta.proofs.run.play.deltas_on.Goals as goal

pub play-requires-clause-begins : goal.play-requires-clause-begins
play-requires-clause-begins g c =
    let old = delta_seen g.N.Node.view g.N.Node.read c.in_ok-run.run' in
    subst (λ (h : List Decl). Begins h c.args.script.now.nodes old) (sym c.deref.ensures) (subst (λ (k : ℕ). Begins (arc_value c.args.graph.now) k old) c.nodes.ensures c.in_ok-run.ensures)

pub returns-in-Ok : goal.returns-in-Ok
returns-in-Ok g c =
    let graph = arc_value c.args.graph.now in
    let old = delta_seen g.N.Node.view g.N.Node.read c.in_ok-run.run' in
    let new = delta_seen g.N.Node.view g.N.Node.read c.play.new.self in
    (gossip_of new, goes-whole graph c.args.script.now old new (subst (λ (k : ℕ). Begins graph k old) c.nodes.ensures c.in_ok-run.ensures) c.in-Ok.ensures, c.in_ok-report-in-Ok.ensures)
