-- What a delta carries brings as much as its message to a node that counts all that the delta goes on from.
use Rattle.std.proofs.Common.{◌≡◌, ℕ, ◌≤◌, ◌<◌, ◌⊎◌, inl, inr, IsTrue, List, ◌++◌, length, None, refl, sym, ap, subst, ◌∙◌, arith}
use Rattle.model_states.specs.Content.{Content, least, join_contents, IsContentAtMost}
use Rattle.model_graph.specs.Graph.{Decl, is_source, kind_at}
use Rattle.model_graph.specs.Evaluation.{content_at}
use Rattle.model_graph.proofs.PlaceLaws.{below-or-not}
use Rattle.model_graph.specs.Message.{Message, source_number, sent_at}
use Rattle.model_graph.proofs.MessageLaws.{sent-is, sent-past}
use Rattle.model_world.specs.World.{Peer, message_at}
use Rattle.model_world.specs.Delta as known
use Rattle.model_world.specs.Holds.{Carries}
use Rattle.model_runs.specs.Part.{BringsAsMuch}
use Rattle.model_deltas.specs.Delta.{delta_of, carried}
use Rattle.model_deltas.specs.Applied.{first_gap}
use Rattle.model_deltas.specs.Before.{IsBefore, IsInOrder}
use Rattle.model_deltas.proofs.AppliedLaws.{no-gap}
use Rattle.model_deltas.proofs.ChangeLaws.{changed-onto}
use Rattle.model_deltas.proofs.DeltaLaws.{delta-source, delta-length}
use Rattle.model_deltas.proofs.WorldLaws.{later-sources, holds-more}
use Rattle.model_deltas.proofs.SourceLaws.{decls-changed}

pub delta-brings : (g : List Decl) (nodes : ℕ) (all : List (List known.Delta)) (before after : Message) (r : Peer) → Carries g nodes all before → Carries g nodes all (message_at g r) → length r.contents ≡ length g → length r.counts ≡ length after.counts
    → IsInOrder after → IsBefore before after → first_gap 0 r.counts before.counts ≡ None → BringsAsMuch g r.contents after (carried (delta_of before after))
delta-brings g nodes all before after r cb cr full wide up step none = record {
  wide = refl;
  begins = λ b. (b.0, ap (λ (ds : List Decl). ds ++ b.0) (decls-changed before.sources 0 after.sources) ∙ b.1);
  brings = λ x low source. choose x low source (below-or-not (source_number g x) (length after.sources));
} where
  long : length before.counts ≤ length r.counts
  long = let e = step.nodes in omega (arith, e, wide)

  known : (x : ℕ) → x < length g → IsTrue (is_source (kind_at g x)) → IsContentAtMost (sent_at before.sources (source_number g x)) (content_at r.contents x)
  known x low source =
      subst (λ (c : Content). IsContentAtMost (sent_at before.sources (source_number g x)) c) (sent-is g r.contents x low full source)
      (holds-more g nodes all before (message_at g r) cb cr long ((no-gap r.counts before.counts).0 none) (source_number g x))

  choose : (x : ℕ) → x < length g → IsTrue (is_source (kind_at g x)) → (source_number g x < length after.sources) ⊎ (length after.sources ≤ source_number g x)
      → join_contents (content_at r.contents x) (sent_at (delta_of before after).sources (source_number g x)) ≡ join_contents (content_at r.contents x) (sent_at after.sources (source_number g x))
  choose x low source (inl there) =
      let j = source_number g x in
      ap (join_contents (content_at r.contents x)) (delta-source before after j there)
      ∙ changed-onto (content_at r.contents x) (sent_at before.sources j) (sent_at after.sources j) (up j) (later-sources before.sources after.sources step.sources j) (known x low source)
  choose x low source (inr past) =
      let j = source_number g x in
      let none_here : sent_at (delta_of before after).sources j ≡ least = sent-past (delta_of before after).sources j (let e = delta-length before after in omega (arith, e, past)) in
      ap (join_contents (content_at r.contents x)) (none_here ∙ sym (sent-past after.sources j past))
