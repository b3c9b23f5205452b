use Rattle.std.proofs.Common.{rules, ◌≡◌, map, sym, ◌∙◌, subst, length, arith}
use Rattle.std.specs.Prelude.{ℕ, List}
use Rattle.std.specs.Arc.{arc_value}
use Rattle.std.proofs.lemmas.List.{length-map}
use Rattle.model_graph.specs.Graph.{Decl}
use Rattle.lasp_drive.specs.Node.{AreFresh}
use Rattle.lasp_drive.specs.Driver.{seen, Starts}
use Rattle.lasp_drive.proofs.driver.Driver.new.Goals as goal

pub of-requires-clause-some : goal.of-requires-clause-some
of-requires-clause-some g c = omega (arith, c.requires.some, c.in_ok-fresh_nodes.ensures.size, length-map c.in_ok-fresh_nodes.field-0.items g.N.Node.view)

pub of-requires-clause-few : goal.of-requires-clause-few
of-requires-clause-few g c = omega (arith, c.requires.few, c.in_ok-fresh_nodes.ensures.size, length-map c.in_ok-fresh_nodes.field-0.items g.N.Node.view)

pub of-requires-clause-fresh : goal.of-requires-clause-fresh
of-requires-clause-fresh g c =
    let nodes = c.in_ok-fresh_nodes.field-0 in
    let size : c.args.nodes ≡ length nodes.items = sym c.in_ok-fresh_nodes.ensures.size ∙ length-map nodes.items g.N.Node.view in
    let graph : arc_value c.in_ok-share.share ≡ arc_value c.args.graph.now = search rules in
    subst (λ (h : List Decl). AreFresh h (length nodes.items) (length nodes.items) (map g.N.Node.view nodes.items)) (sym graph)
    (subst (λ (k : ℕ). AreFresh (arc_value c.args.graph.now) k k (map g.N.Node.view nodes.items)) size c.in_ok-fresh_nodes.ensures)

pub returns : goal.returns
returns g c =
    let nodes = c.in_ok-fresh_nodes.field-0 in
    let size : c.args.nodes ≡ length nodes.items = sym c.in_ok-fresh_nodes.ensures.size ∙ length-map nodes.items g.N.Node.view in
    let graph : arc_value c.in_ok-share.share ≡ arc_value c.args.graph.now = search rules in
    subst (λ (h : List Decl). Starts h c.args.nodes (seen g.N.Node.view g.N.Node.read c.of.result)) graph
    (subst (λ (k : ℕ). Starts (arc_value c.in_ok-share.share) k (seen g.N.Node.view g.N.Node.read c.of.result)) (sym size) c.of.ensures.starts)
