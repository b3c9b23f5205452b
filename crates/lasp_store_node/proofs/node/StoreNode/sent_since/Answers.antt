use Rattle.std.proofs.Common.{[], ℕ, ◌≤◌, Option, length, sym, ap, subst, ◌∙◌}
use Rattle.std.specs.Prelude.{IfOk, IfSome}
use Rattle.lasp_drive.specs.Reads.{as_they_are}
use Rattle.lasp_store.specs.Letter.{IsSent}
use Rattle.lasp_store.specs.Turn.{frame_of}
use Rattle.lasp_store_node.specs.View.{Seen, since}
use Rattle.lasp_store_node.proofs.FeedLaws.{turn-learns}
use Rattle.lasp_store_node.proofs.CountedLaws.{turned-own}
use Rattle.lasp_store_node.proofs.TailLaws.{since-early}
use Rattle.lasp_store_node.proofs.node.StoreNode.sent_since.Goals as goal

pub letter-sent-requires-clause-early : goal.letter-sent-requires-clause-early
letter-sent-requires-clause-early g c =
    subst (λ (o : Option ℕ). IfSome o (λ n. n ≤ length c.self.inside.feed.seen)) (sym c.entries_then-then.ensures) (since-early c.self.inside.last c.self.inside.feed c.self.invariant.early)

pub returns-clause-learns : goal.returns-clause-learns
returns-clause-learns g c =
    turn-learns as_they_are _ c.self.inside.feed c.self.inside.last c.args.self.now c.letter-sent.new.f c.self.view_is c.self.invariant.early c.self.invariant.feed
    (record { own = c.known.ensures.own; allowed = c.known.ensures.allowed }) (record { own = c.known-2.ensures.own; allowed = c.known-2.ensures.allowed }) c.letter-sent.ensures.turn

pub returns-clause-sent : goal.returns-clause-sent
returns-clause-sent g c =
    let new = c.letter-sent.new.f in
    subst (λ (o : Option ℕ). IfOk c.letter-sent.result (IsSent (frame_of new) new.seen o)) (c.entries_then-then.ensures ∙ ap (λ (n : Seen). since n.last) c.self.view_is) c.letter-sent.ensures.sent

pub invariant_of-self : goal.invariant_of-self
invariant_of-self g c = turned-own c.self.inside.store.now c.self.inside.last c.self.inside.window c.self.inside.known [] c.self.inside.feed c.letter-sent.new.f c.letter-sent.ensures.turn c.self.invariant
