-- Lists of shared states in which one changed.
use Rattle.std.proofs.Common.{ap, sym, ◌∙◌, get_or}
use Rattle.std.proofs.lemmas.List.{map-set, get_or-map}
use Rattle.std.proofs.Math.Seq.{map-set_same}
use Rattle.std.specs.declared.sync.Arc.{Arc}
use Rattle.std.specs.Arc.{arc_value}
use Rattle.std.specs.Prelude.{◌≡◌, ℕ, ◌<◌, List, length, map, slice_set, Result, Ok, Err, OnOk, OnErr}
use Rattle.lasp_state.specs.declared.state.State.{State}
use Rattle.lasp_graph.specs.States.{Held, held_of, held_at}

-- what a shared state is
abbrev pub shown : {Z : Type 0} → Arc State Z → Held
shown shared = held_of (arc_value shared)

abbrev pub all_shown : {Z : Type 0} → List (Arc State Z) → List Held
all_shown {Z} states = map (λ (s : Arc State Z). shown s) states

-- the state at a place of the list
pub held-found : {Z : Type 0} (states : List (Arc State Z)) (i : ℕ) (old : Arc State Z) → i < length states → old ≡ get_or states i old → shown old ≡ held_at (all_shown states) i
held-found {Z = Z} states i old within found = ap (λ (s : Arc State Z). shown s) found ∙ sym (get_or-map (λ (s : Arc State Z). shown s) states i old _ within)

-- a list of shared states in which one became another one
pub turn-at-ok : {A E Z : Type 0} (r : Result A E) (states : List (Arc State Z)) (i : ℕ) (old new : Arc State Z) (turned : Held → Held) → i < length states → old ≡ get_or states i old
    → OnOk r (shown new ≡ turned (shown old)) → OnOk r (all_shown (slice_set states i new) ≡ slice_set (all_shown states) i (turned (held_at (all_shown states) i)))
turn-at-ok {Z = Z} (Ok done) states i old new turned within found h =
    map-set (λ (s : Arc State Z). shown s) states i new
    ∙ ap (λ (c : Held). slice_set (all_shown states) i c) (h ∙ ap turned (held-found states i old within found))
turn-at-ok (Err e) states i old new turned within found h = tt

-- and one in which none was, or one that stayed what it is
pub same-at : {Z : Type 0} (states : List (Arc State Z)) (i : ℕ) (old new : Arc State Z) → old ≡ get_or states i old → arc_value new ≡ arc_value old → all_shown (slice_set states i new) ≡ all_shown states
same-at {Z = Z} states i old new found h = map-set_same (λ (s : Arc State Z). shown s) states i new old (ap held_of h ∙ ap (λ (s : Arc State Z). shown s) found)

pub turn-at-err : {A E Z : Type 0} (r : Result A E) (states : List (Arc State Z)) (i : ℕ) (old new : Arc State Z) → old ≡ get_or states i old
    → OnErr r (shown new ≡ shown old) → OnErr r (all_shown (slice_set states i new) ≡ all_shown states)
turn-at-err (Ok done) states i old new found h = tt
turn-at-err {Z = Z} (Err e) states i old new found h =
    map-set_same (λ (s : Arc State Z). shown s) states i new old (h ∙ ap (λ (s : Arc State Z). shown s) found)
