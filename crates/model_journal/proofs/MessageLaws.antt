-- What a replica's message has, and that it may be delivered where the graph begins as the sender's.
use Rattle.std.proofs.Common.{◌≡◌, ℕ, suc, ◌<◌, Bool, true, false, if◌then◌else◌, IsTrue, List, [], ◌∷◌, ◌++◌, length, refl, sym, ap, subst, ◌∙◌, arith}
use Rattle.model_states.specs.Content.{Content}
use Rattle.model_graph.specs.Graph.{Decl, is_source, kind_at}
use Rattle.model_graph.specs.Evaluation.{content_at}
use Rattle.model_graph.specs.Lawful.{width_at, widths, sources_among}
use Rattle.model_graph.proofs.WidthLaws.{width-source}
use Rattle.model_graph.specs.Message.{sent_at, source_number, sent_from}
use Rattle.model_graph.proofs.MessageLaws.{sent-is, sent-among, among-append}
use Rattle.model_journal.specs.Entry.{Deliver, Entry, Frame}
use Rattle.model_journal.specs.Journal.{journal, graph, vals, val}
use Rattle.model_journal.specs.Message.{message}
use Rattle.model_journal.specs.Legal.{IsValid, IsLawful, AreValidSources, BringsValid, IsLegal}
use Rattle.model_journal.proofs.JournalLaws.{journal-good, counts-length}
use Rattle.model_journal.proofs.WidthLaws.{widths-at}
use Rattle.model_journal.proofs.StandLaws.{journal-valid}

pub message-source : (X : Frame) (h : List Entry) → IsLegal X h → (x : ℕ) → x < length (graph X h) → IsTrue (is_source (kind_at (graph X h) x)) → sent_at (message X h).sources (source_number (graph X h) x) ≡ val X h x
message-source X h legal x low source = sent-is (graph X h) (vals X h) x low (journal-good X h legal).shape source

sent-all : (nodes : ℕ) (g : List Decl) (ss : List Content) → ((x : ℕ) → x < length g → IsTrue (is_source (kind_at g x)) → IsValid nodes (kind_at g x) 1 (content_at ss x)) → AreValidSources nodes (sent_from g ss)
sent-all nodes [] ss valid = tt
sent-all nodes (d ∷ g) [] valid = tt
sent-all nodes (d ∷ g) (s ∷ ss) valid = choose (is_source d.kind) refl (sent-all nodes g ss (λ x low e. valid (suc x) (omega (arith, low)) e)) where
  choose : (b : Bool) → is_source d.kind ≡ b → AreValidSources nodes (sent_from g ss) → AreValidSources nodes (if b then record { decl = d; content = s } ∷ sent_from g ss else sent_from g ss)
  choose true e rest = (valid 0 (omega arith) e, rest)
  choose false e rest = rest

-- what a message brings is valid
pub message-valid : (X : Frame) (h : List Entry) (i : ℕ) → IsLegal X h → BringsValid X.nodes (Deliver i (message X h))
message-valid X h i legal = sent-all X.nodes (graph X h) (vals X h) (λ x low e.
    let one : width_at (widths (graph X h)) x ≡ 1 = widths-at (graph X h) (journal-good X h legal).graph x low ∙ width-source (kind_at (graph X h) x) (widths (graph X h)) e in
    subst (λ (w : ℕ). IsValid X.nodes (kind_at (graph X h) x) w (val X h x)) one ((journal-valid X h legal).contents x low))

-- a replica may take in what another one knows, where its graph goes on from the other's
pub message-lawful : (X Z : Frame) (h k : List Entry) (more : List Decl) (i : ℕ) → IsLegal X h → X.nodes ≡ Z.nodes → graph X h ++ more ≡ graph Z k → IsLawful Z (journal Z k) (Deliver i (message X h))
message-lawful X Z h k more i legal nodes grown = (
  counts-length X h legal ∙ nodes,
  (
    sources_among more,
    ap (λ (ds : List Decl). ds ++ sources_among more) (sent-among (graph X h) (vals X h) (journal-good X h legal).shape)
        ∙ sym (among-append (graph X h) more)
        ∙ ap sources_among grown,
  ),
)

pub ruleset messages = (message-source)
