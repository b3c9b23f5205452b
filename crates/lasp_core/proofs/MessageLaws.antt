-- That what a core sends is a message of the format.
use Rattle.std.proofs.Common.{ℕ, ◌≡◌, sym, ap, ◌∙◌, arith}
use Rattle.std.specs.Prelude.{List, length}
use Rattle.model_states.specs.Content.{Content}
use Rattle.model_graph.specs.Graph.{Decl}
use Rattle.model_graph.specs.Message.{Sent, message_of}
use Rattle.model_readings.specs.Lawful.{IsGraph}
use Rattle.model_wire.specs.Lawful.{IsMessage}
use Rattle.model_world.specs.World.{message_at}
use Rattle.model_runs.proofs.HeldLaws.{held-message}
use Rattle.model_journal.specs.Entry as model
use Rattle.model_journal.specs.Entry.{Frame}
use Rattle.model_journal.specs.Journal.{graph, vals, counts}
use Rattle.model_journal.specs.Legal.{IsLegal}
use Rattle.model_journal.proofs.CleanLaws.{vals-length}
use Rattle.model_core.specs.Core.{Core, IsCore}
use Rattle.model_core.specs.Peer.{peer_of}
use Rattle.model_core.proofs.SourceLaws.{sources-sent}
use Rattle.lasp_graph.specs.States.{Held, contents_of}
use Rattle.lasp_graph.proofs.Evaluation.{length-contents}
use Rattle.lasp_core.proofs.TailLaws.{counts-below}

pub message-same : (X : Frame) (h : List model.Entry) (g : List Decl) (states : List Held) (cs : List ℕ) → g ≡ graph X h → contents_of states ≡ vals X h → cs ≡ counts X h → message_of g (contents_of states) cs ≡ message_at (graph X h) (peer_of X h)
message-same X h g states cs decls contents known =
    (λ i. message_of (decls i) (contents i) (known i))
    ∙ ap (λ (sent : List Sent). record { counts = counts X h; sources = sent }) (sym (sources-sent (graph X h) (vals X h)))

pub states-long : (X : Frame) (h : List model.Entry) → IsLegal X h → (g : List Decl) (states : List Held) → g ≡ graph X h → contents_of states ≡ vals X h → length states ≡ length g
states-long X h legal g states decls contents =
    sym (length-contents states) ∙ ap (λ (cs : List Content). length cs) contents ∙ vals-length X h legal ∙ sym (ap (λ (ds : List Decl). length ds) decls)

pub message-lawful : (c : Core) → IsCore c → IsGraph (graph c.frame c.entries) → IsMessage (message_at (graph c.frame c.entries) (peer_of c.frame c.entries))
message-lawful c core lawful =
    held-message c.frame.nodes (graph c.frame c.entries) (peer_of c.frame c.entries) lawful (omega (arith, core.legal.member)) core.few core.held (counts-below c core)
