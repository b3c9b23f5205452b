use Rattle.std.proofs.Common.{rules, ◌≡◌, map, ap, ◌∙◌}
use Rattle.std.specs.Prelude.{List, is_some}
use Rattle.model_states.specs.Threshold.{meets}
use Rattle.model_graph.specs.Evaluation.{content_at}
use Rattle.model_world.specs.World.{Peer, peer_at, shown_at}
use Rattle.lasp_drive.specs.Nodes.{AllLearn}
use Rattle.lasp_drive.proofs.NodeLaws.{seen-at, seen-low, seen-set, same-place}
use Rattle.lasp_drive.proofs.PointLaws.{learning-begins, learning-next}
use Rattle.lasp_drive.proofs.StepLaws.{shown-here}
use Rattle.lasp_drive.proofs.report.is_met.Goals as goal

pub poll_read-requires-clause-settled : goal.poll_read-requires-clause-settled
poll_read-requires-clause-settled g c =
    let nodes = c.args.nodes.now.items in
    c.requires.settled c.args.read.now.node (g.N.Node.view c.index_mut.result.now) (seen-at g.N.Node.view nodes c.args.read.now.node c.index_mut.result.now (seen-low g.N.Node.view nodes c.args.read.now.node c.requires.node) c.index_mut.ensures.value)

pub poll_read-requires-clause-may : goal.poll_read-requires-clause-may
poll_read-requires-clause-may g c =
    let nodes = c.args.nodes.now.items in
    c.requires.may (g.N.Node.view c.index_mut.result.now) (seen-at g.N.Node.view nodes c.args.read.now.node c.index_mut.result.now (seen-low g.N.Node.view nodes c.args.read.now.node c.requires.node) c.index_mut.ensures.value)

pub returns-clause-met : goal.returns-clause-met
returns-clause-met g c run peers each =
    let nodes = map g.N.Node.view c.args.nodes.now.items in
    let n = g.N.Node.view c.index_mut.result.now in
    let p = c.args.read.now.node in
    let r = g.N.Node.read c.args.read.now.read in
    let at = seen-at g.N.Node.view c.args.nodes.now.items p c.index_mut.result.now (seen-low g.N.Node.view c.args.nodes.now.items p c.requires.node) c.index_mut.ensures.value in
    let some : c.is_some.result ≡ is_some c.in_ok-poll_read.field-0 = search rules in
    some ∙ c.in_ok-poll_read.ensures.polls.met
    ∙ ap (meets r.threshold) (shown-here run.graph nodes p r.var n c.requires.settled at (each p n at).graph ∙ ap (λ (ps : List Peer). content_at (shown_at run.graph (peer_at ps p)) r.var) peers)

pub returns-clause-learn : goal.returns-clause-learn
returns-clause-learn g c =
    let nodes = c.args.nodes.now.items in
    let p = c.args.read.now.node in
    let at = seen-at g.N.Node.view nodes p c.index_mut.result.now (seen-low g.N.Node.view nodes p c.requires.node) c.index_mut.ensures.value in
    seen-set g.N.Node.view nodes p c.poll_read.new.self (AllLearn (map g.N.Node.view nodes))
    (learning-next p (map g.N.Node.view nodes) (map g.N.Node.view nodes) (g.N.Node.view c.index_mut.result.now) (g.N.Node.view c.poll_read.new.self) (learning-begins (map g.N.Node.view nodes)) at c.poll_read.ensures.learns)

pub returns-clause-place : goal.returns-clause-place
returns-clause-place g c =
    let nodes = c.args.nodes.now.items in
    let p = c.args.read.now.node in
    same-place g.N.Node.place nodes p c.index_mut.result.now c.poll_read.new.self (seen-low g.N.Node.view nodes p c.requires.node) c.index_mut.ensures.value c.poll_read.ensures.place

pub returns-in_err-poll_read-clause-learn : goal.returns-in_err-poll_read-clause-learn
returns-in_err-poll_read-clause-learn g c =
    let nodes = c.args.nodes.now.items in
    let p = c.args.read.now.node in
    let at = seen-at g.N.Node.view nodes p c.index_mut.result.now (seen-low g.N.Node.view nodes p c.requires.node) c.index_mut.ensures.value in
    seen-set g.N.Node.view nodes p c.poll_read.new.self (AllLearn (map g.N.Node.view nodes))
    (learning-next p (map g.N.Node.view nodes) (map g.N.Node.view nodes) (g.N.Node.view c.index_mut.result.now) (g.N.Node.view c.poll_read.new.self) (learning-begins (map g.N.Node.view nodes)) at c.poll_read.ensures.learns)

pub returns-in_err-poll_read-clause-place : goal.returns-in_err-poll_read-clause-place
returns-in_err-poll_read-clause-place g c =
    let nodes = c.args.nodes.now.items in
    let p = c.args.read.now.node in
    same-place g.N.Node.place nodes p c.index_mut.result.now c.poll_read.new.self (seen-low g.N.Node.view nodes p c.requires.node) c.index_mut.ensures.value c.poll_read.ensures.place
