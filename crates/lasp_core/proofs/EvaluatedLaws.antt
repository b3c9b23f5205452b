-- That a core's sources may be evaluated.
use Rattle.std.proofs.Common.{◌≡◌, ℕ, ◌<◌, length, List, IsTrue, sym, ap, subst, ◌∙◌}
use Rattle.model_states.specs.Content.{Content}
use Rattle.model_graph.specs.Graph.{Kind, Decl, is_source, kind_at}
use Rattle.model_graph.specs.Evaluation.{content_at}
use Rattle.model_graph.specs.Width.{HasWidth}
use Rattle.model_wire.specs.Lawful.{IsSource}
use Rattle.model_journal.specs.Journal.{graph, vals}
use Rattle.model_core.specs.Core.{Core, IsCore}
use Rattle.model_core.proofs.SourceLaws.{sources-source}
use Rattle.lasp_graph.specs.States.{Held, contents_of}
use Rattle.lasp_graph.specs.Evaluated.{AreNarrow}
use Rattle.lasp_core.proofs.MessageLaws.{states-long}

-- what a source may hold in a message is narrow
abbrev pub IsNarrow : Type 0
IsNarrow = (nodes : ℕ) (k : Kind) (s : Content) → IsSource nodes k s → HasWidth 1 s

module _ (c : Core) (core : IsCore c) (g : List Decl) (states : List Held) (is : g ≡ graph c.frame c.entries) (contents : contents_of states ≡ vals c.frame c.entries) where
  pub long-of : length states ≡ length g
  long-of = states-long c.frame c.entries core.legal g states is contents

  pub narrow-of : IsNarrow → AreNarrow g states
  narrow-of narrow x low source = subst (λ (s : Content). HasWidth 1 s)
      (sources-source (graph c.frame c.entries) (vals c.frame c.entries) x (declared low) (marked source) ∙ ap (λ (ss : List Content). content_at ss x) (sym contents))
      (narrow c.frame.nodes (kind_at (graph c.frame c.entries) x) _ (core.held.sources x (declared low) (marked source))) where
        declared : x < length g → x < length (graph c.frame c.entries)
        declared h = subst (λ (ds : List Decl). x < length ds) is h

        marked : IsTrue (is_source (kind_at g x)) → IsTrue (is_source (kind_at (graph c.frame c.entries) x))
        marked h = subst (λ (ds : List Decl). IsTrue (is_source (kind_at ds x))) is h
