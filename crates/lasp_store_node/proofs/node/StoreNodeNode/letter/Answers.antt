use Rattle.std.proofs.Common.{Some, length, sym, ap, subst, arith}
use Rattle.model_journal.specs.Legal.{IsLegal}
use Rattle.lasp_drive.specs.Node.{Sends}
use Rattle.lasp_store.specs.Turn.{frame_of}
use Rattle.lasp_store_node.specs.View.{Seen, IsBehind, node_of, node_seen}
use Rattle.lasp_store_node.proofs.TailLaws.{whole-is, behind-is, sends-now}
use Rattle.lasp_store_node.proofs.node.StoreNodeNode.letter.Goals as goal

pub returns-clause-whole : goal.returns-clause-whole
returns-clause-whole g c = whole-is c.args.self.now c.sent_since.new.self c.in_ok-whole.field-0 c.sent_since.ensures.learns c.in_ok-whole.ensures.sent

pub returns-clause-tail : goal.returns-clause-tail
returns-clause-tail g c =
    behind-is c.args.self.now c.sent_since.new.self c.in_ok-whole.field-0 c.sent_since.ensures.learns c.in_ok-whole.ensures.sent
    (subst (λ (n : Seen). IsLegal (frame_of n.feed) n.feed.seen) c.self.view_is c.self.invariant.feed.seated.legal) c.in_ok-tail.tail c.sent_since.ensures.last
    (subst (λ (n : Seen). IsBehind n.last c.in_ok-whole.field-0.tail c.in_ok-tail.tail) c.self.view_is c.in_ok-tail.ensures)

pub returns-clause-sends : goal.returns-clause-sends
returns-clause-sends g c =
    subst (λ (n : Seen). Sends c.args.i (node_seen c.args.self.now) (node_of n.feed (Some (record { number = c.args.i; entries = c.in_ok-whole.field-0.entries })))) (sym c.self.view_is)
    (sends-now c.args.self.now c.sent_since.new.self c.in_ok-whole.field-0 c.sent_since.ensures.learns c.in_ok-whole.ensures.sent c.args.i)

pub invariant_of-self : goal.invariant_of-self
invariant_of-self g c = record {
  feed = c.self.invariant.feed;
  early = omega (arith, c.in_ok-whole.ensures.sent.count, ap (λ (n : Seen). length n.feed.seen) c.self.view_is);
  shelf = c.self.invariant.shelf;
  counted = c.self.invariant.counted;
}
