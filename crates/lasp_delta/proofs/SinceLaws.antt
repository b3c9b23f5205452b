-- What came since a message has what changed.
use Rattle.std.proofs.Common.{◌≡◌, ℕ, zero, suc, ◌+◌, List, [], ◌∷◌, length, Some, refl, sym, ap, subst, ◌∙◌}
use Rattle.std.specs.Prelude.{slice_get}
use Rattle.std.specs.List.{AllByRecursion}
use Rattle.model_states.specs.Content.{Content}
use Rattle.model_graph.specs.Graph.{Decl, Kind, OrSet, GSet, Counter, MaxReg, Union, Product, Intersection, Map, Filter, Fold}
use Rattle.model_graph.specs.Message.{Message, Sent, sent_at, content_since}
use Rattle.model_wire.specs.Lawful.{IsSource, IsSent}
use Rattle.model_deltas.specs.Delta.{changed_content, changed_source, changed_sources}
use Rattle.model_deltas.specs.Before.{AreSourcesBefore, IsBefore, AreSourcesAlike, AreAlike}
use Rattle.model_deltas.proofs.DeltaLaws.{changed-lawful}
use Rattle.lasp_drive.specs.Since.{sources_since}
use Rattle.lasp_delta.specs.Since.{LeadTo}

-- ---- one source

set-changed : (nodes : ℕ) (s t : Content) (k : Kind) → k ≡ OrSet → IsSource nodes k t → changed_content s t ≡ content_since k s t
set-changed nodes s t k is = subst (λ (k : Kind). IsSource nodes k t → changed_content s t ≡ content_since k s t) (sym is) (λ lawful. (changed-lawful nodes OrSet s t lawful).1)

other-whole : (s t : Content) (k : Kind) → (k ≡ OrSet → ⊥) → content_since k s t ≡ t
other-whole s t OrSet other = absurd (other refl)
other-whole s t GSet other = refl
other-whole s t Counter other = refl
other-whole s t MaxReg other = refl
other-whole s t (Union x y) other = refl
other-whole s t (Product x y) other = refl
other-whole s t (Intersection x y) other = refl
other-whole s t (Map x place ops) other = refl
other-whole s t (Filter x place ops) other = refl
other-whole s t (Fold x op place lift) other = refl

-- ---- the source at a place

-- of an observed-remove set what came since is what changed
pub set-since : (nodes : ℕ) (before : List Sent) (k : ℕ) (after : List Sent) (i : ℕ) (u : Sent) → AllByRecursion (IsSent nodes) after → slice_get (sources_since before k after) i ≡ Some u → u.decl.kind ≡ OrSet
    → slice_get (changed_sources before k after) i ≡ Some u
set-since nodes before k [] i u lawful at kind = absurd cc
set-since nodes before k (t ∷ after) zero u lawful at kind =
    let same : t.decl ≡ u.decl = cc in
    let changed = set-changed nodes (sent_at before k) t.content t.decl.kind (ap (λ (d : Decl). d.kind) same ∙ kind) lawful.0.1 in
    subst (λ (c : Content). Some (record { decl = t.decl; content = c }) ≡ Some u) (sym changed) at
set-since nodes before k (t ∷ after) (suc i) u lawful at kind = set-since nodes before (k + 1) after i u lawful.1 at kind

-- of another source it is all, of which the same changed
pub other-since : (before : List Sent) (k : ℕ) (after : List Sent) (i : ℕ) (u : Sent) → slice_get (sources_since before k after) i ≡ Some u → (u.decl.kind ≡ OrSet → ⊥)
    → slice_get (changed_sources before k (sources_since before k after)) i ≡ slice_get (changed_sources before k after) i
other-since before k [] i u at other = refl
other-since before k (t ∷ after) zero u at other =
    let same : t.decl ≡ u.decl = cc in
    ap (λ (c : Content). Some (changed_source (sent_at before k) (record { decl = t.decl; content = c }))) (other-whole (sent_at before k) t.content t.decl.kind (λ is. other (sym (ap (λ (d : Decl). d.kind) same) ∙ is)))
other-since before k (t ∷ after) (suc i) u at other = other-since before (k + 1) after i u at other

-- ---- the messages

alike-since : (sources before after : List Sent) (k : ℕ) → AreSourcesBefore sources after → AreSourcesAlike sources (sources_since before k after)
alike-since [] before after k h = tt
alike-since (s ∷ sources) before [] k h = absurd h
alike-since (s ∷ sources) before (t ∷ after) k h = (h.0, alike-since sources before after (k + 1) h.2)

module _ (before tail after : Message) (leads : LeadTo before tail after) where
  since-sources : tail.sources ≡ sources_since before.sources 0 after.sources
  since-sources = ap (λ (m : Message). m.sources) leads.exact

  -- what came since is of the message's graph
  pub since-alike : AreAlike before tail
  since-alike = record {
    nodes = leads.earlier.nodes ∙ ap (λ (m : Message). length m.counts) (sym leads.exact);
    sources = subst (AreSourcesAlike before.sources) (sym since-sources) (alike-since before.sources before.sources after.sources 0 leads.earlier.sources);
  }

  pub set-here : (i : ℕ) (u : Sent) → slice_get tail.sources i ≡ Some u → u.decl.kind ≡ OrSet → slice_get (changed_sources before.sources 0 after.sources) i ≡ Some u
  set-here i u at kind =
      set-since (length after.counts) before.sources 0 after.sources i u leads.lawful.sources (ap (λ (sources : List Sent). slice_get sources i) (sym since-sources) ∙ at) kind

  pub other-here : (i : ℕ) (u : Sent) → slice_get tail.sources i ≡ Some u → (u.decl.kind ≡ OrSet → ⊥) → slice_get (changed_sources before.sources 0 tail.sources) i ≡ slice_get (changed_sources before.sources 0 after.sources) i
  other-here i u at other =
      ap (λ (sources : List Sent). slice_get (changed_sources before.sources 0 sources) i) since-sources
      ∙ other-since before.sources 0 after.sources i u (ap (λ (sources : List Sent). slice_get sources i) (sym since-sources) ∙ at) other

-- an earlier message is of the later one's graph
before-alike : (before after : List Sent) → AreSourcesBefore before after → AreSourcesAlike before after
before-alike [] after h = tt
before-alike (s ∷ before) [] h = absurd h
before-alike (s ∷ before) (t ∷ after) h = (h.0, before-alike before after h.2)

pub earlier-alike : (before after : Message) → IsBefore before after → AreAlike before after
earlier-alike before after h = record { nodes = h.nodes; sources = before-alike before.sources after.sources h.sources }
