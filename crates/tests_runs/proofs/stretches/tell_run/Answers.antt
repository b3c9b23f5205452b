use Rattle.std.proofs.Common.{rules, ◌≡◌, map, sym, ◌∙◌, subst, length, arith}
use Rattle.std.specs.Prelude.{ℕ, List}
use Rattle.std.specs.Arc.{arc_value}
use Rattle.std.proofs.lemmas.List.{length-map}
use Rattle.model_graph.specs.Graph.{Decl}
use Rattle.lasp_graph.specs.Library.{library_of}
use Rattle.lasp_drive.specs.Node.{AreFresh}
use Rattle.lasp_drive.specs.Driver.{seen, Starts}
use Rattle.lasp_drive.proofs.PlayLaws.{may-play}
use Rattle.tests_runs.proofs.stretches.tell_run.Goals as goal

pub of-fresh-requires-clause-some : goal.of-fresh-requires-clause-some
of-fresh-requires-clause-some g c = omega (arith, c.in_ok-nodes.ensures.size, length-map c.in_ok-nodes.nodes.items g.N.Node.view)

pub of-fresh-requires-clause-few : goal.of-fresh-requires-clause-few
of-fresh-requires-clause-few g c = omega (arith, c.in_ok-nodes.ensures.size, length-map c.in_ok-nodes.nodes.items g.N.Node.view)

pub of-fresh-requires-clause-fresh : goal.of-fresh-requires-clause-fresh
of-fresh-requires-clause-fresh g c =
    let nodes = c.in_ok-nodes.nodes in
    let size : 1 ≡ length nodes.items = sym c.in_ok-nodes.ensures.size ∙ length-map nodes.items g.N.Node.view in
    let graph : arc_value c.in_ok-share.share ≡ arc_value c.args.graph.now = search rules in
    subst (λ (h : List Decl). AreFresh h (length nodes.items) (length nodes.items) (map g.N.Node.view nodes.items)) (sym graph)
    (subst (λ (k : ℕ). AreFresh (arc_value c.args.graph.now) k k (map g.N.Node.view nodes.items)) size c.in_ok-nodes.ensures)

pub run_through-driver-requires : goal.run_through-driver-requires
run_through-driver-requires g c =
    let nodes = c.in_ok-nodes.nodes in
    let d = seen g.N.Node.view g.N.Node.read c.of-fresh.result in
    let size : length nodes.items ≡ c.args.script.now.nodes = sym (length-map nodes.items g.N.Node.view) ∙ c.in_ok-nodes.ensures.size ∙ sym c.requires.one in
    let graph : arc_value c.in_ok-share.share ≡ arc_value c.args.graph.now = search rules in
    may-play (library_of c.args.lib.now) (arc_value c.args.graph.now) c.args.script.now d c.requires.runnable
    (subst (λ (h : List Decl). Starts h c.args.script.now.nodes d) graph (subst (λ (k : ℕ). Starts (arc_value c.in_ok-share.share) k d) size c.of-fresh.ensures.starts))
