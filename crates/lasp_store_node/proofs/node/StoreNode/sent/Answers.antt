use Rattle.std.proofs.Common.{[], ◌≡◌, ◌∙◌}
use Rattle.model_world.specs.World.{message_at}
use Rattle.lasp_drive.specs.Node.{OnlyLearns}
use Rattle.lasp_drive.specs.Reads.{as_they_are}
use Rattle.lasp_node.proofs.NodeLaws.{if-ok}
use Rattle.lasp_store_node.specs.View.{node_of, node_seen}
use Rattle.lasp_store_node.proofs.FeedLaws.{turn-learns}
use Rattle.lasp_store_node.proofs.CountedLaws.{turned-own}
use Rattle.lasp_store_node.proofs.node.StoreNode.sent.Goals as goal

pub returns-clause-learns : goal.returns-clause-learns
returns-clause-learns g c =
    turn-learns as_they_are _ c.self.inside.feed c.self.inside.last c.args.self.now c.message-message.new.f c.self.view_is c.self.invariant.early c.self.invariant.feed
    (record { own = c.known.ensures.own; allowed = c.known.ensures.allowed }) (record { own = c.known-2.ensures.own; allowed = c.known-2.ensures.allowed }) c.message-message.ensures.turn

pub returns-clause-message : goal.returns-clause-message
returns-clause-message g c =
    let new = c.message-message.new.f in
    let old = node_seen c.args.self.now in
    let now = node_of new c.self.inside.last in
    let learned : OnlyLearns old now = returns-clause-learns g c in
    if-ok (λ m. m ≡ message_at now.decls now.peer) (λ m. m ≡ message_at old.decls old.peer) c.message-message.result
    (λ m is. is ∙ (λ i. message_at (learned.learns.still.graph i) (learned.learns.peer i))) c.message-message.ensures.message

pub invariant_of-self : goal.invariant_of-self
invariant_of-self g c = turned-own c.self.inside.store.now c.self.inside.last c.self.inside.window c.self.inside.known [] c.self.inside.feed c.message-message.new.f c.message-message.ensures.turn c.self.invariant
