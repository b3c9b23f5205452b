-- What messages of the format bring is in order.
use Rattle.std.proofs.Common.{◌≡◌, ℕ, zero, suc, Bool, true, false, if◌then◌else◌, List, [], ◌∷◌, length, Some, None, subst}
use Rattle.model_states.specs.Content.{Content, IsOrdered}
use Rattle.model_states.proofs.ContentLaws.{ordered-least}
use Rattle.model_graph.specs.Graph.{is_source, kind_at}
use Rattle.model_graph.specs.Message.{Message, Sent, sent_at, source_number}
use Rattle.model_wire.specs.Lawful.{IsMessage}
use Rattle.model_journal.specs.Legal.{AreValidSources}
use Rattle.model_core.proofs.ValidLaws.{sent-valid}
use Rattle.lasp_replica.specs.Parts.{Parts}
use Rattle.lasp_replica.specs.TakenIn.{IsInOrder}

ordered-at : (nodes : ℕ) (sent : List Sent) → AreValidSources nodes sent → (i : ℕ) → IsOrdered (sent_at sent i)
ordered-at nodes [] valid i = ordered-least
ordered-at nodes (s ∷ sent) valid zero = valid.0.ordered
ordered-at nodes (s ∷ sent) valid (suc i) = ordered-at nodes sent valid.1 i

pub sent-ordered : (m : Message) → IsMessage m → (i : ℕ) → IsOrdered (sent_at m.sources i)
sent-ordered m message i = ordered-at (length m.counts) m.sources (sent-valid (length m.counts) m.sources message.sources) i

-- what a message of the format brings is in order
pub message-in-order : (m : Message) (p : Parts) → IsMessage m → IsInOrder m p
message-in-order m p message x low c brings = choose (is_source (kind_at p.graph x)) brings where
  sent : Content
  sent = sent_at m.sources (source_number p.graph x)

  choose : (b : Bool) → (if b then Some sent else None) ≡ Some c → IsOrdered c
  choose true is = subst IsOrdered (let same : sent ≡ c = cc in same) (sent-ordered m message (source_number p.graph x))
  choose false is = absurd cc
