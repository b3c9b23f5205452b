use Rattle.std.proofs.Common.{sym, ap, subst, ◌∙◌}
use Rattle.std.specs.Arc.{arc_value}
use Rattle.model_world.specs.World.{Peer}
use Rattle.model_program.specs.Follows.{Gives}
use Rattle.model_program.specs.Merge.{may_take, message_joined}
use Rattle.lasp_call.specs.Message.{peer_by}
use Rattle.lasp_run.proofs.merge.join.join.Goals as goal

pub take-requires-clause-taken : goal.take-requires-clause-taken
take-requires-clause-taken g c =
    ap (λ (r : Peer). may_take c.args.graph.now r (arc_value c.args.message.now)) c.may_take.ensures.learns.learns.peer ∙ sym (c.in-Ok-true.ensures.taken ∙ ap (may_take c.args.graph.now (g.N.Node.view c.args.node).peer) c.deref.ensures) ∙ c.in-Ok-true.field-0-test

pub returns-in-Ok-true-clause-exact : goal.returns-in-Ok-true-clause-exact
returns-in-Ok-true-clause-exact g c =
    subst (λ (r : Peer). Gives (peer_by g.N.Node.view) (message_joined c.args.graph.now c.args.number r (arc_value c.args.message.now)) c.take.result) c.may_take.ensures.learns.learns.peer c.take.ensures.exact
