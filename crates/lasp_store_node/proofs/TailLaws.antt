-- What a store tells beside its message is a tail of what its node last sent.
use Rattle.std.proofs.Common.{◌≡◌, ◌≤◌, ℕ, List, length, Option, Some, None, refl, sym, ap, subst, ◌∙◌}
use Rattle.std.specs.Prelude.{IfSome}
use Rattle.std.specs.Option.{option_map}
use Rattle.std.specs.Arc.{arc_value}
use Rattle.model_graph.specs.Graph.{Decl}
use Rattle.model_journal.specs.Legal.{IsLegal}
use Rattle.model_graph.specs.Message.{Message}
use Rattle.model_runs.specs.Part.{IsTail}
use Rattle.model_world.specs.World.{Peer, message_at}
use Rattle.lasp_core.specs.Since.{IsTailSince}
use Rattle.lasp_core.proofs.ExactLaws.{tail-has}
use Rattle.lasp_store.specs.Letter.{IsSent, IsTailFrom}
use Rattle.lasp_store.specs.Turn.{Knows, frame_of}
use Rattle.lasp_store.specs.declared.letter.Sent.{Sent}
use Rattle.lasp_drive.specs.Since.{HasSince}
use Rattle.lasp_drive.specs.Node.{OnlyLearns, Sends, IsTailOf}
use Rattle.lasp_drive.specs.declared.node.Tail.{Tail}
use Rattle.lasp_node.specs.declared.node.LastSent.{LastSent}
use Rattle.lasp_node.proofs.CallLaws.{posted-now}
use Rattle.lasp_store_node.specs.View.{Seen, core_at, posted_at, since, IsEarly, IsBehind, node_of, node_seen}
use Rattle.lasp_store_node.proofs.FeedLaws.{learns-whatever}

-- as many entries as a node had when it last sent it has seen
pub since-early : (last : Option LastSent) (p : Knows) → IsEarly last p → IfSome (since last) (λ n. n ≤ length p.seen)
since-early None p early = tt
since-early (Some s) p early = early

-- a node was asked what it sends
module _ (old mid : Seen) (s : Sent) (learned : OnlyLearns (node_seen old) (node_seen mid)) (is : IsSent (frame_of mid.feed) mid.feed.seen (since old.last) s) where
  -- that is the message of what it held
  pub whole-is : s.whole ≡ message_at (node_seen old).decls (node_seen old).peer
  whole-is = is.whole ∙ (λ i. message_at (learned.learns.still.graph i) (learned.learns.peer i))

  -- what came since it last sent is a tail of what it sent then
  pub behind-is : IsLegal (frame_of mid.feed) mid.feed.seen → (told : Option Tail) → mid.last ≡ old.last → IsBehind mid.last s.tail told → IfSome told (IsTailOf (node_seen old))
  behind-is legal None same behind = tt
  behind-is legal (Some t) same behind = record {
    posted = posted_at mid.feed behind.0;
    sent = sym learned.sent ∙ ap (option_map (posted_at mid.feed)) behind.1;
    number = behind.2;
    rows = subst (λ (z : List Decl × Peer). IsTail z.0 (posted_at mid.feed behind.0).contents z.1.contents (message_at z.0 z.1) (arc_value t.rows)) (λ i. (learned.learns.still.graph i, learned.learns.peer i)) rows.tail;
    exact = subst (λ (z : List Decl × Peer). HasSince z.0 (posted_at mid.feed behind.0).contents z.1.contents (arc_value t.rows)) (λ i. (learned.learns.still.graph i, learned.learns.peer i))
        (λ x low source. tail-has (frame_of mid.feed) mid.feed.seen legal behind.0.entries (arc_value t.rows) rows x low source);
  } where
    rows : IsTailSince (frame_of mid.feed) mid.feed.seen behind.0.entries (arc_value t.rows)
    rows = subst (λ (z : Option LastSent × Option Message). IsTailFrom (frame_of mid.feed) mid.feed.seen (since z.0) z.1) (λ i. ((sym same ∙ behind.1) i, behind.3 i)) is.tail

  -- the node that keeps that it sent
  pub sends-now : (number : ℕ) → Sends number (node_seen old) (node_of mid.feed (Some (record { number = number; entries = s.entries })))
  sends-now number = record {
    learns = learns-whatever old.last mid.last old.last (Some (record { number = number; entries = s.entries })) old.feed mid.feed learned.learns;
    reads = refl;
    sent = posted-now (record { number = number; entries = s.entries }) (core_at (frame_of mid.feed) mid.feed.seen) is.count ∙ ap (λ (p : Peer). record { number = number; contents = p.contents }) learned.learns.peer;
  }
