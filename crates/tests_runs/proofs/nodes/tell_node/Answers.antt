use Rattle.std.proofs.Common.{rules, ◌<◌, length, sym, subst, ◌∙◌}
use Rattle.std.specs.Prelude.{List}
use Rattle.model_graph.specs.Graph.{Decl}
use Rattle.lasp_drive.proofs.NodeLaws.{learns-then, learned-settled}
use Rattle.tests_runs.proofs.nodes.tell_node.Goals as goal

pub loop-x-init : goal.loop-x-init
loop-x-init g c = record { learned = c.counts.ensures.learns.learns }

pub tell_state-requires-clause-settled : goal.tell_state-requires-clause-settled
tell_state-requires-clause-settled g c = learned-settled (g.N.Node.view c.args.node.now) (g.N.Node.view c.loop-x.node) c.loop-x.invariant.learned c.requires.settled

pub tell_state-requires-clause-var : goal.tell_state-requires-clause-var
tell_state-requires-clause-var g c = subst (λ (ds : List Decl). c.loop-x.x < length ds) (sym (c.loop-x.invariant.learned.still.graph ∙ c.requires.graph)) (search rules)

pub loop-x-preserved : goal.loop-x-preserved
loop-x-preserved g c = record { learned = learns-then (g.N.Node.view c.args.node.now) (g.N.Node.view c.loop-x.node) (g.N.Node.view c.tell_state.new.node) c.loop-x.invariant.learned c.tell_state.ensures }
