-- Deltas between messages that carry what is known by their counts.
use Rattle.std.proofs.Common.{◌≡◌, ℕ, zero, suc, ◌+◌, ◌≤◌, ◌<◌, ◌⊎◌, inl, inr, Bool, true, false, if◌then◌else◌, IsTrue, List, [], ◌∷◌, length, Option, Some, None, refl, sym, ap, subst, ◌∙◌, arith, add-zero}
use Rattle.model_states.specs.Counts.{larger, AreCountsAtMost}
use Rattle.model_states.specs.Content.{Content, least, join_contents, Key, at_row, at_value, at_count, at_top, content_mark, IsContentAtMost, IsOrdered}
use Rattle.model_states.proofs.CountLaws.{count_at-zeros, larger-at_most}
use Rattle.model_states.proofs.ContentLaws.{content_mark-join, content_mark-least, ordered-least, at_most-least}
use Rattle.model_graph.specs.Graph.{Kind, OrSet, GSet, Counter, MaxReg, Union, Product, Intersection, Map, Filter, Fold, Decl, is_source, kind_at}
use Rattle.model_graph.specs.Evaluation.{content_at, least_of}
use Rattle.model_graph.proofs.PlaceLaws.{below-or-not}
use Rattle.model_graph.specs.Message.{Sent, Message, source_number, sent_at}
use Rattle.model_graph.proofs.MessageLaws.{sent-is, sent-past, sent-length}
use Rattle.model_world.specs.World.{Peer, message_at}
use Rattle.model_world.specs.Delta as known
use Rattle.model_world.specs.Holds.{Carries}
use Rattle.model_world.proofs.KnownLaws.{known-larger}
use Rattle.model_deltas.specs.Delta.{changed_content, changed_sources, delta_of, carried}
use Rattle.model_deltas.specs.Applied.{Cause, first_gap, joined_sources, joined, limited, unless, applied}
use Rattle.model_deltas.specs.Before.{AreSourcesBefore, IsBefore, AreAlike, IsInOrder}
use Rattle.model_deltas.proofs.ChangeLaws.{changed-onto, changed-from_nothing}
use Rattle.model_deltas.proofs.AppliedLaws.{no-gap}
use Rattle.model_world.proofs.StopLaws.{shifted}

-- ---- sources of three messages at one place: what it was, what it is at the third, what it became

pub record IsStep (s m t : Content) : Type 0 where
  pub ordered : IsOrdered t
  pub later : IsContentAtMost s t
  pub known : IsContentAtMost s m

abbrev pub AreSteps : List Sent → ℕ → List Sent → List Sent → Type 0
AreSteps before i ss ts = (j : ℕ) → IsStep (sent_at before (i + j)) (sent_at ss j) (sent_at ts j)

pub joined-changed : (before : List Sent) (i : ℕ) (ss ts : List Sent) → AreSteps before i ss ts → joined_sources ss (changed_sources before i ts) ≡ joined_sources ss ts
joined-changed before i ss [] steps = refl
joined-changed before i [] (t ∷ ts) steps =
    let first : IsStep (sent_at before i) least t.content = subst (λ (n : ℕ). IsStep (sent_at before n) least t.content) (add-zero i) (steps 0) in
    let same : changed_content (sent_at before i) t.content ≡ t.content = changed-from_nothing (sent_at before i) t.content first.ordered first.later first.known in
    let rest : changed_sources before (i + 1) ts ≡ ts = joined-changed before (i + 1) [] ts (λ j. subst (λ (n : ℕ). IsStep (sent_at before n) least (sent_at ts j)) ((sym (shifted i j))) (steps (suc j))) in
    λ k. record { decl = t.decl; content = same k } ∷ rest k
joined-changed before i (s ∷ ss) (t ∷ ts) steps =
    let first : IsStep (sent_at before i) s.content t.content = subst (λ (n : ℕ). IsStep (sent_at before n) s.content t.content) (add-zero i) (steps 0) in
    let same : join_contents s.content (changed_content (sent_at before i) t.content) ≡ join_contents s.content t.content =
    changed-onto s.content (sent_at before i) t.content first.ordered first.later first.known in
    let rest : joined_sources ss (changed_sources before (i + 1) ts) ≡ joined_sources ss ts =
    joined-changed before (i + 1) ss ts (λ j. subst (λ (n : ℕ). IsStep (sent_at before n) (sent_at ss j) (sent_at ts j)) ((sym (shifted i j))) (steps (suc j))) in
    λ k. record { decl = s.decl; content = same k } ∷ rest k

-- ---- from an earlier message to a later one

pub later-sources : (bs ts : List Sent) → AreSourcesBefore bs ts → (j : ℕ) → IsContentAtMost (sent_at bs j) (sent_at ts j)
later-sources [] ts before j = at_most-least (sent_at ts j)
later-sources (b ∷ bs) [] before j = absurd before
later-sources (b ∷ bs) (t ∷ ts) before zero = before.1
later-sources (b ∷ bs) (t ∷ ts) before (suc j) = later-sources bs ts before.2 j

-- ---- counts tell what is held

nothing-counted : (nodes : ℕ) (k : Key) → content_mark (least_of nodes Counter) k ≡ 0
nothing-counted nodes (at_row v t) = refl
nothing-counted nodes (at_value v) = refl
nothing-counted nodes (at_count node) = count_at-zeros nodes node
nothing-counted nodes (at_top n) = refl

nothing-held : (nodes : ℕ) (kind : Kind) (k : Key) → content_mark (least_of nodes kind) k ≡ 0
nothing-held nodes OrSet k = content_mark-least k
nothing-held nodes GSet k = content_mark-least k
nothing-held nodes Counter k = nothing-counted nodes k
nothing-held nodes MaxReg k = content_mark-least k
nothing-held nodes (Union x y) k = content_mark-least k
nothing-held nodes (Product x y) k = content_mark-least k
nothing-held nodes (Intersection x y) k = content_mark-least k
nothing-held nodes (Map x place ops) k = content_mark-least k
nothing-held nodes (Filter x place ops) k = content_mark-least k
nothing-held nodes (Fold x op place lift) k = content_mark-least k

-- each place of a message is that of a source of the graph
pub record HasSource (g : List Decl) (j : ℕ) : Type 0 where
  pub var : ℕ
  pub declared : var < length g
  pub source : IsTrue (is_source (kind_at g var))
  pub place : source_number g var ≡ j

source-there : (g : List Decl) (j : ℕ) → j < source_number g (length g) → HasSource g j
source-there [] j low = absurd (omega (arith, low))
source-there (d ∷ g) j low = choose (source-there g) (is_source d.kind) refl j low where
  choose : ((j : ℕ) → j < source_number g (length g) → HasSource g j) → (b : Bool) → is_source d.kind ≡ b → (j : ℕ) → j < (if b then source_number g (length g) + 1 else source_number g (length g)) → HasSource (d ∷ g) j
  choose later true e zero low = record { var = 0; declared = omega arith; source = e; place = refl }
  choose later true e (suc j) low =
      let rest = later j (omega (arith, low)) in
      record {
        var = suc rest.var;
        declared = (let d = rest.declared in omega (arith, d));
        source = rest.source;
        place = ap (λ (b : Bool). if b then source_number g rest.var + 1 else source_number g rest.var) e ∙ (let p = rest.place in omega (arith, p));
      }
  choose later false e j low =
      let rest = later j low in
      record {
        var = suc rest.var;
        declared = (let d = rest.declared in omega (arith, d));
        source = rest.source;
        place = ap (λ (b : Bool). if b then source_number g rest.var + 1 else source_number g rest.var) e ∙ rest.place;
      }

-- what a node tells is in order where what its sources hold is
pub tells-ordered : (g : List Decl) (r : Peer) → length r.contents ≡ length g → ((x : ℕ) → x < length g → IsTrue (is_source (kind_at g x)) → IsOrdered (content_at r.contents x)) → IsInOrder (message_at g r)
tells-ordered g r long up j = choose (below-or-not j (length (message_at g r).sources)) where
  here : HasSource g j → IsOrdered (sent_at (message_at g r).sources j)
  here x =
      let is : sent_at (message_at g r).sources j ≡ content_at r.contents x.var = ap (sent_at (message_at g r).sources) (sym x.place) ∙ sent-is g r.contents x.var x.declared long x.source in
      subst IsOrdered (sym is) (up x.var x.declared x.source)

  choose : (j < length (message_at g r).sources) ⊎ (length (message_at g r).sources ≤ j) → IsOrdered (sent_at (message_at g r).sources j)
  choose (inl low) = here (source-there g j (omega (arith, low, sent-length g r.contents long)))
  choose (inr past) = subst IsOrdered (sym (sent-past (message_at g r).sources j past)) ordered-least

module _ (g : List Decl) (nodes : ℕ) (all : List (List known.Delta)) where
  -- who counts as much holds as much
  pub holds-more : (b m : Message) → Carries g nodes all b → Carries g nodes all m → length b.counts ≤ length m.counts → AreCountsAtMost b.counts m.counts → (j : ℕ) → IsContentAtMost (sent_at b.sources j) (sent_at m.sources j)
  holds-more b m cb cm long counts j k = choose (below-or-not j (length b.sources)) where
    knows : HasSource g j → content_mark (sent_at b.sources j) k ≤ content_mark (sent_at m.sources j) k
    knows h =
        let x = h.var in
        let l = least_of nodes (kind_at g x) in
        let joined : join_contents l (sent_at b.sources j) ≡ known.known g nodes all b.counts x = ap (λ (i : ℕ). join_contents l (sent_at b.sources i)) (sym h.place) ∙ cb.knows x h.declared h.source in
        let other : join_contents l (sent_at m.sources j) ≡ known.known g nodes all m.counts x = ap (λ (i : ℕ). join_contents l (sent_at m.sources i)) (sym h.place) ∙ cm.knows x h.declared h.source in
        let both : known.known g nodes all m.counts x ≡ join_contents (known.known g nodes all b.counts x) (known.known g nodes all m.counts x) =
        ap (λ (cs : List ℕ). known.known g nodes all cs x) (sym (larger-at_most b.counts m.counts long counts)) ∙ known-larger g nodes all b.counts m.counts x in
        omega (
          arith,
          content_mark-join l (sent_at b.sources j) k,
          content_mark-join l (sent_at m.sources j) k,
          content_mark-join (known.known g nodes all b.counts x) (known.known g nodes all m.counts x) k,
          nothing-held nodes (kind_at g x) k,
          ap (λ (c : Content). content_mark c k) joined,
          ap (λ (c : Content). content_mark c k) other,
          ap (λ (c : Content). content_mark c k) both,
        )

    choose : (j < length b.sources) ⊎ (length b.sources ≤ j) → content_mark (sent_at b.sources j) k ≤ content_mark (sent_at m.sources j) k
    choose (inl low) = knows (source-there g j (let few = cb.few in omega (arith, low, few)))
    choose (inr past) = omega (arith, ap (λ (c : Content). content_mark c k) (sent-past b.sources j past), content_mark-least k)

  pub known-delta : (before after m : Message) → Carries g nodes all before → Carries g nodes all m → IsInOrder after → IsBefore before after → AreAlike m after
      → applied m (delta_of before after) ≡ unless (first_gap 0 m.counts before.counts) (limited (joined m after))
  known-delta before after m cb cm up step alike = choose (first_gap 0 m.counts before.counts) refl where
    steps : AreCountsAtMost before.counts m.counts → AreSteps before.sources 0 m.sources after.sources
    steps counts j =
        let long : length before.counts ≤ length m.counts = (let e = step.nodes in let f = alike.nodes in omega (arith, e, f)) in
        subst (λ (n : ℕ). IsStep (sent_at before.sources n) (sent_at m.sources j) (sent_at after.sources j)) (let start : j ≡ 0 + j = omega arith in start)
        (record { ordered = up j; later = later-sources before.sources after.sources step.sources j; known = holds-more before m cb cm long counts j })

    same : AreCountsAtMost before.counts m.counts → joined m (carried (delta_of before after)) ≡ joined m after
    same counts = λ i. record { counts = larger m.counts after.counts; sources = joined-changed before.sources 0 m.sources after.sources (steps counts) i }

    choose : (o : Option Cause) → first_gap 0 m.counts before.counts ≡ o → unless o (limited (joined m (carried (delta_of before after)))) ≡ unless o (limited (joined m after))
    choose (Some cause) e = refl
    choose None e = ap limited (same ((no-gap m.counts before.counts).0 e))

pub delta-known : (g : List Decl) (nodes : ℕ) (all : List (List known.Delta)) (before after m : Message) → Carries g nodes all before → Carries g nodes all m
    → IsInOrder after → IsBefore before after → AreAlike m after → applied m (delta_of before after) ≡ unless (first_gap 0 m.counts before.counts) (limited (joined m after))
delta-known g nodes all = known-delta g nodes all
