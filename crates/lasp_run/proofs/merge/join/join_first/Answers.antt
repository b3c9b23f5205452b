use Rattle.std.proofs.Common.{◌≡◌, ℕ, ap, subst, ◌∙◌}
use Rattle.std.specs.Prelude.{List, None, length}
use Rattle.std.specs.Arc.{arc_value}
use Rattle.std.specs.declared.sync.Arc.{Arc}
use Rattle.std.specs.declared.alloc.Global.{Global}
use Rattle.model_graph.specs.Message.{Message}
use Rattle.model_graph.specs.Graph.{Decl}
use Rattle.model_world.specs.World.{Peer, fresh_peer}
use Rattle.model_program.specs.Follows.{Gives}
use Rattle.model_program.specs.Merge.{message_joined}
use Rattle.lasp_call.specs.Message.{peer_by}
use Rattle.lasp_run.proofs.JoinLaws.{file-given, file-refused}
use Rattle.lasp_run.proofs.merge.join.join_first.Goals as goal

pub returns-in-Ok-new-clause-exact : goal.returns-in-Ok-new-clause-exact
returns-in-Ok-new-clause-exact g c =
    let same : (peer_by g.N.Node.view) c.in-Ok-new.node ≡ fresh_peer (arc_value c.args.graph.now) (length (arc_value c.in-Ok.message).counts) =
    c.in-Ok-new.ensures.peer ∙ ap (λ (n : ℕ). fresh_peer (arc_value c.args.graph.now) n) (c.len.ensures ∙ ap (λ (counts : List ℕ). length counts) c.counts.ensures ∙ ap (λ (m : Message). length m.counts) c.deref.ensures) in
    file-given (peer_by g.N.Node.view) (arc_value c.args.graph.now) c.place_of.result 0 None c.args.bytes.now (arc_value c.in-Ok.message) c.join.result c.place_of.ensures c.in-Ok.ensures.exact
    (subst (λ (r : Peer). Gives (peer_by g.N.Node.view) (message_joined (arc_value c.args.graph.now) 0 r (arc_value c.in-Ok.message)) c.join.result) same
    (subst (λ (graph : List Decl). Gives (peer_by g.N.Node.view) (message_joined graph 0 (g.N.Node.view c.in-Ok-new.node).peer (arc_value c.in-Ok.message)) c.join.result) c.deref-in-Ok-new.ensures c.join.ensures.exact))

pub returns-clause-exact : goal.returns-clause-exact
returns-clause-exact g c = file-refused (peer_by g.N.Node.view) (λ (m : Arc Message Global). arc_value m) (arc_value c.args.graph.now) c.place_of.result 0 None c.args.bytes.now c.in-Err.failure c.place_of.ensures c.in-Err.ensures.exact
