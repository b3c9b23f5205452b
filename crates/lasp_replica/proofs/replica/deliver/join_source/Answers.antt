use Rattle.std.proofs.Common.{Bool, IfOk, subst, arith}
use Rattle.std.specs.Arc.{arc_value}
use Rattle.model_states.specs.Content.{Content, join_contents, IsOrdered}
use Rattle.lasp_state.specs.State.{content_of}
use Rattle.lasp_state.specs.declared.state.State.{State}
use Rattle.lasp_graph.specs.States.{held_at}
use Rattle.lasp_replica.specs.Delivery.{IsTaken, IsRefusedAt}
use Rattle.lasp_replica.proofs.TakenLaws.{joinable, content-sent, taken-nothing}
use Rattle.lasp_replica.proofs.replica.deliver.join_source.Goals as goal

pub join_state-requires-clause-joinable : goal.join_state-requires-clause-joinable
join_state-requires-clause-joinable c = joinable c.args.states.now c.args.x c.args.i c.args.message.now c.state_at.result.now c.recall.ensures c.state_at.ensures c.requires.like

pub returns-then-i-len-clause-ok : goal.returns-then-i-len-clause-ok
returns-then-i-len-clause-ok c =
    subst (λ (s : Content). IfOk c.join_state.result (λ (grows : Bool). IsTaken c.args.states.now c.args.x s grows c.join_state.new.states c.join_state.new.history))
    (content-sent c.args.states.now c.args.x c.args.i c.args.message.now c.state_at.result.now c.recall.ensures c.state_at.ensures) c.join_state.ensures.ok

pub returns-then-i-len-clause-refused : goal.returns-then-i-len-clause-refused
returns-then-i-len-clause-refused c =
    subst (λ (s : Content). IsRefusedAt c.args.x (join_contents (held_at c.args.states.now c.args.x).content s) c.join_state.result)
    (content-sent c.args.states.now c.args.x c.args.i c.args.message.now c.state_at.result.now c.recall.ensures c.state_at.ensures) c.join_state.ensures.refused

pub returns-clause-ok : goal.returns-clause-ok
returns-clause-ok c =
    taken-nothing c.args.states.now c.args.x (arc_value c.at.result.now) c.at.ensures c.args.message.now.sources c.args.i c.args.history.now (omega (arith, c.len.ensures, c.if-i-len.false))
    (subst (λ (s : State). IsOrdered (content_of s)) c.deref.ensures c.recall-2.ensures.ordered) c.requires.small
