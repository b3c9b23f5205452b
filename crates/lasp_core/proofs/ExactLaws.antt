-- The message of what came to a core since its first entries has of each source what came, and no more.
use Rattle.std.proofs.Common.{◌≡◌, ℕ, ◌<◌, IsTrue, List, length, take, sym, ap, ◌∙◌}
use Rattle.model_graph.specs.Graph.{Decl, is_source, kind_at}
use Rattle.model_graph.specs.Evaluation.{content_at}
use Rattle.model_graph.specs.Message.{Message, source_number, sent_at, content_since}
use Rattle.model_graph.proofs.MessageLaws.{sent-is}
use Rattle.model_journal.specs.Entry.{Entry, Frame}
use Rattle.model_journal.specs.Journal.{graph, vals, sources}
use Rattle.model_journal.specs.Legal.{IsLegal}
use Rattle.model_core.proofs.SourceLaws.{sources-source}
use Rattle.lasp_graph.specs.States.{contents_of}
use Rattle.lasp_core.specs.Since.{IsTailSince}
use Rattle.lasp_core.proofs.TailLaws.{earlier-source, contents-long, told}

module _ (X : Frame) (h : List Entry) (legal : IsLegal X h) (n : ℕ) (m : Message) (tail : IsTailSince X h n m) where
  abbrev g : List Decl
  g = graph X h

  pub tail-has : (x : ℕ) → x < length g → IsTrue (is_source (kind_at g x))
      → sent_at m.sources (source_number g x) ≡ content_since (kind_at g x) (content_at (sources X (take n h)) x) (content_at (sources X h) x)
  tail-has x low source =
      ap (λ (k : Message). sent_at k.sources (source_number g x)) tail.message
      ∙ sent-is g (contents_of tail.states) x low (contents-long X h n tail.states tail.since) source
      ∙ told X h n tail.states tail.since x low
      ∙ (λ i. content_since (kind_at g x) (sym (earlier-source X h legal n x source) i) (sym (sources-source g (vals X h) x low source) i))
