-- What stands for a message that a node needn't look at.
use Rattle.std.proofs.Common.{◌≡◌, ℕ, ◌<◌, List, [], length, refl, sym, ap, subst, ◌∙◌}
use Rattle.model_states.specs.Counts.{AreCountsAtMost}
use Rattle.model_states.specs.Content.{join_contents, IsOrdered}
use Rattle.model_states.proofs.ContentLaws.{join-nothing}
use Rattle.model_graph.specs.Evaluation.{content_at}
use Rattle.model_graph.specs.Lawful.{sources_among}
use Rattle.model_graph.specs.Message.{Message, Sent, source_number, sent_at}
use Rattle.model_world.specs.Lawful.{Stage}
use Rattle.model_world.specs.World.{Run, peer_at, sent_number}
use Rattle.model_world.proofs.VariableLaws.{known-ordered}
use Rattle.model_world.proofs.KnowsLaws.{known-covered}
use Rattle.model_runs.specs.Sound.{IsSound}
use Rattle.model_runs.specs.Part.{IsBeginning, BringsAsMuch}
use Rattle.lasp_drive.specs.Driver.{IsRunKnown}

-- a message without sources, where all counts of the message are counted
pub brings-nothing : (many : ℕ) (run : Run) → IsRunKnown many run → (p i : ℕ) → p < many → AreCountsAtMost (sent_number run.sent i).counts (peer_at run.peers p).counts
    → (nothing : Message) → nothing.sources ≡ [] → length nothing.counts ≡ length (sent_number run.sent i).counts → BringsAsMuch run.graph (peer_at run.peers p).contents (sent_number run.sent i) nothing
brings-nothing many run k p i member counted nothing none wide = record {
  wide = wide;
  begins = λ b. subst (λ (sources : List Sent). IsBeginning (record { counts = nothing.counts; sources = sources }) run.graph) (sym none) (sources_among run.graph, refl);
  brings = λ x low source.
      ap (λ (sources : List Sent). join_contents (content_at (peer_at run.peers p).contents x) (sent_at sources (source_number run.graph x))) none
      ∙ join-nothing (content_at (peer_at run.peers p).contents x) (subst IsOrdered (sym ((k.1.holds p member).knows x low)) (known-ordered run.graph many k.0 (peer_at run.peers p).counts x))
      ∙ sym (known-covered many run.graph run.peers run.sent k.0 k.1 p i x member low source counted);
}

-- a message of a run has a count for each node
pub counted-wide : (many c i p : ℕ) (s : Stage) (run : Run) → IsSound many c s run → i < length run.sent → p < many → length (sent_number run.sent i).counts ≡ length (peer_at run.peers p).counts
counted-wide many c i p s run sound low member = (sound.sent i low).wide ∙ sym (sound.held p member).wide
