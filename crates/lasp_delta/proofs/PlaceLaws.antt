-- Sources by their places, and relations of sources that go place by place.
use Rattle.std.proofs.Common.{◌≡◌, ◌↔◌, ℕ, zero, suc, ◌+◌, ◌≤◌, ◌<◌, ◌⊎◌, inl, inr, min, List, [], ◌∷◌, length, drop, Option, Some, None, sym, ap, subst, ◌∙◌, arith}
use Rattle.std.specs.Prelude.{slice_get}
use Rattle.std.specs.Option.{option_map}
use Rattle.std.proofs.lemmas.Option.{get_or_from_slice_get}
use Rattle.std.proofs.lemmas.List.{drop_all}
use Rattle.model_values.proofs.ListLaws.{drop-at}
use Rattle.model_states.specs.Counts.{count_at}
use Rattle.model_states.specs.Content.{IsContentAtMost}
use Rattle.model_graph.proofs.PlaceLaws.{below-or-not}
use Rattle.model_graph.specs.Message.{Sent, sent_at}
use Rattle.model_wire.specs.Message as wire
use Rattle.model_deltas.specs.Delta.{changed_source, changed_sources}
use Rattle.model_deltas.specs.Applied.{joined_source, joined_sources}
use Rattle.model_deltas.specs.Before.{AreSourcesBefore, AreSourcesAlike}
use Rattle.lasp_state.specs.declared.state.State.{State}
use Rattle.lasp_wire.specs.Sent.{held_of, held_in, sent}

-- what stands at a place of counts
pub count-is : (counts : List ℕ) (i n : ℕ) → slice_get counts i ≡ Some n → count_at counts i ≡ n
count-is counts i n e = get_or_from_slice_get counts i n 0 e

-- past the shorter of two lengths one of them is past
pub past-min : (i m n : ℕ) → min m n ≤ i → (m ≤ i) ⊎ (n ≤ i)
past-min i m n h = choose (below-or-not i m) where
  choose : (i < m) ⊎ (m ≤ i) → (m ≤ i) ⊎ (n ≤ i)
  choose (inl low) = inr (omega (arith, h, low))
  choose (inr past) = inl past

-- a source of a name and a state
pub source-is : (o : Option Sent) (name : List ℕ) (state : State) → option_map (λ (s : Sent). s.decl.name) o ≡ Some name → option_map held_in o ≡ Some (held_of state) → o ≡ Some (sent name state)
source-is None name state named held = absurd cc
source-is (Some s) name state named held =
    let name-is : s.decl.name ≡ name = cc in
    let held-is : held_in s ≡ held_of state = cc in
    λ i. Some (record { decl = record { name = name-is i; kind = (ap (λ (h : wire.Held). h.0) held-is) i }; content = (ap (λ (h : wire.Held). h.1) held-is) i })

-- ---- what changed, by places

pub changed-at : (before : List Sent) (i : ℕ) (after : List Sent) (j : ℕ) (t : Sent) → slice_get after j ≡ Some t → slice_get (changed_sources before i after) j ≡ Some (changed_source (sent_at before (i + j)) t)
changed-at before i [] j t e = absurd cc
changed-at before i (s ∷ after) zero t e =
    let same : s ≡ t = cc in
    (λ k. Some (changed_source (sent_at before ((let here : i ≡ i + 0 = omega arith in here) k)) (same k)))
changed-at before i (s ∷ after) (suc j) t e =
    changed-at before (i + 1) after j t e ∙ ap (λ (n : ℕ). Some (changed_source (sent_at before n) t)) (let there : (i + 1) + j ≡ i + suc j = omega arith in there)

-- ---- what two messages have together, by places

pub joined-both : (ss ts : List Sent) (i : ℕ) (s t : Sent) → slice_get ss i ≡ Some s → slice_get ts i ≡ Some t → slice_get (joined_sources ss ts) i ≡ Some (joined_source s t)
joined-both [] ts i s t e f = absurd cc
joined-both (r ∷ ss) [] i s t e f = absurd cc
joined-both (r ∷ ss) (q ∷ ts) zero s t e f =
    let a : r ≡ s = cc in
    let b : q ≡ t = cc in
    (λ k. Some (joined_source (a k) (b k)))
joined-both (r ∷ ss) (q ∷ ts) (suc i) s t e f = joined-both ss ts i s t e f

pub joined-first : (ss ts : List Sent) (i : ℕ) (s : Sent) → slice_get ss i ≡ Some s → length ts ≤ i → slice_get (joined_sources ss ts) i ≡ Some s
joined-first [] ts i s e past = absurd cc
joined-first (r ∷ ss) [] i s e past = e
joined-first (r ∷ ss) (q ∷ ts) zero s e past = absurd (omega (arith, past))
joined-first (r ∷ ss) (q ∷ ts) (suc i) s e past = joined-first ss ts i s e (omega (arith, past))

pub joined-second : (ss ts : List Sent) (i : ℕ) (t : Sent) → slice_get ts i ≡ Some t → length ss ≤ i → slice_get (joined_sources ss ts) i ≡ Some t
joined-second [] ts i t e past = e
joined-second (r ∷ ss) [] i t e past = absurd cc
joined-second (r ∷ ss) (q ∷ ts) zero t e past = absurd (omega (arith, past))
joined-second (r ∷ ss) (q ∷ ts) (suc i) t e past = joined-second ss ts i t e (omega (arith, past))

-- ---- sources of one graph

pub alike-at : (ss ts : List Sent) (i : ℕ) (s t : Sent) → AreSourcesAlike ss ts → slice_get ss i ≡ Some s → slice_get ts i ≡ Some t → s.decl ≡ t.decl
alike-at [] ts i s t h e f = absurd cc
alike-at (r ∷ ss) [] i s t h e f = absurd cc
alike-at (r ∷ ss) (q ∷ ts) zero s t h e f =
    let a : r ≡ s = cc in
    let b : q ≡ t = cc in
    sym (ap (λ (x : Sent). x.decl) a) ∙ h.0 ∙ ap (λ (x : Sent). x.decl) b
alike-at (r ∷ ss) (q ∷ ts) (suc i) s t h e f = alike-at ss ts i s t h.1 e f

pub alike-first : (ss ts : List Sent) (i : ℕ) (s t : Sent) → slice_get ss i ≡ Some s → slice_get ts i ≡ Some t → AreSourcesAlike (drop i ss) (drop i ts) ↔ ((s.decl ≡ t.decl) × AreSourcesAlike (drop (i + 1) ss) (drop (i + 1) ts))
alike-first ss ts i s t e f =
    let P = (s.decl ≡ t.decl) × AreSourcesAlike (drop (i + 1) ss) (drop (i + 1) ts) in
    let one : AreSourcesAlike (drop i ss) (drop i ts) ≡ AreSourcesAlike (s ∷ drop (i + 1) ss) (t ∷ drop (i + 1) ts) = (λ k. AreSourcesAlike (drop-at ss i s e k) (drop-at ts i t f k)) in
    (λ h. subst (λ (T : Type 0). T) one h, λ h. subst (λ (T : Type 0). T) (sym one) h)

-- nothing is left of one of them
pub alike-past : (ss ts : List Sent) (i : ℕ) → (length ss ≤ i) ⊎ (length ts ≤ i) → AreSourcesAlike (drop i ss) (drop i ts)
alike-past ss ts i (inl h) = subst (λ (l : List Sent). AreSourcesAlike l (drop i ts)) (sym (drop_all i ss h)) tt
alike-past ss ts i (inr h) = subst (λ (l : List Sent). AreSourcesAlike (drop i ss) l) (sym (drop_all i ts h)) (none (drop i ss)) where
  none : (l : List Sent) → AreSourcesAlike l []
  none [] = tt
  none (s ∷ l) = tt

-- ---- sources of an earlier message

pub before-at : (ss ts : List Sent) (i : ℕ) (s t : Sent) → AreSourcesBefore ss ts → slice_get ss i ≡ Some s → slice_get ts i ≡ Some t → (s.decl ≡ t.decl) × IsContentAtMost s.content t.content
before-at [] ts i s t h e f = absurd cc
before-at (r ∷ ss) [] i s t h e f = absurd h
before-at (r ∷ ss) (q ∷ ts) zero s t h e f =
    let a : r ≡ s = cc in
    let b : q ≡ t = cc in
    subst (λ (x : Sent). (x.decl ≡ t.decl) × IsContentAtMost x.content t.content) a (subst (λ (y : Sent). (r.decl ≡ y.decl) × IsContentAtMost r.content y.content) b (h.0, h.1))
before-at (r ∷ ss) (q ∷ ts) (suc i) s t h e f = before-at ss ts i s t h.2 e f

pub before-long : (ss ts : List Sent) → AreSourcesBefore ss ts → length ss ≤ length ts
before-long [] ts h = omega arith
before-long (s ∷ ss) [] h = absurd h
before-long (s ∷ ss) (t ∷ ts) h = omega (arith, before-long ss ts h.2)

pub before-first : (ss ts : List Sent) (i : ℕ) (s t : Sent) → slice_get ss i ≡ Some s → slice_get ts i ≡ Some t
    → AreSourcesBefore (drop i ss) (drop i ts) ↔ ((s.decl ≡ t.decl) × IsContentAtMost s.content t.content × AreSourcesBefore (drop (i + 1) ss) (drop (i + 1) ts))
before-first ss ts i s t e f =
    let one : AreSourcesBefore (drop i ss) (drop i ts) ≡ AreSourcesBefore (s ∷ drop (i + 1) ss) (t ∷ drop (i + 1) ts) = (λ k. AreSourcesBefore (drop-at ss i s e k) (drop-at ts i t f k)) in
    (λ h. subst (λ (T : Type 0). T) one h, λ h. subst (λ (T : Type 0). T) (sym one) h)
