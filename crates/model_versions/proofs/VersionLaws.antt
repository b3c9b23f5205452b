-- Lists of versions of which each is later than the one before.
use Rattle.std.proofs.Common.{◌≡◌, ◌≤◌, List, [], ◌∷◌, ◌++◌, length, Some, refl, sym, subst, le_refl, le_trans, zero-le, arith}
use Rattle.model_versions.specs.Versions.{Version, newest, newest_from, states_in, AreAtMost, IsLater, MayFollow, AreLater, AreRising}

module _ {S : Type 0} where
  pub newest-last : (all : List (Version S)) (w : Version S) → newest (all ++ w ∷ []) ≡ Some w
  newest-last [] w = refl
  newest-last (v ∷ []) w = refl
  newest-last (v ∷ u ∷ all) w = newest-last (u ∷ all) w

  pub newest-from : (v : Version S) (all : List (Version S)) → newest (v ∷ all) ≡ Some (newest_from v all)
  newest-from v [] = refl
  newest-from v (w ∷ all) = newest-from w all

module _ {S : Type 0} (AtMost : S → S → Type 0) where
  later_last : (v : Version S) (all : List (Version S)) (w : Version S) → AreLater AtMost v all → IsLater AtMost (newest_from v all) w → AreLater AtMost v (all ++ w ∷ [])
  later_last v [] w h later = (later, tt)
  later_last v (u ∷ all) w h later = (h.0, later_last u all w h.1 later)

  -- with one version more, which may follow the last one
  pub rising_last : (all : List (Version S)) (w : Version S) → AreRising AtMost all → MayFollow AtMost (newest all) w → AreRising AtMost (all ++ w ∷ [])
  rising_last [] w h may = tt
  rising_last (v ∷ all) w h may = later_last v all w h (subst (λ o. MayFollow AtMost o w) (newest-from v all) may)

  later_front : (v : Version S) (xs more : List (Version S)) → AreLater AtMost v (xs ++ more) → AreLater AtMost v xs
  later_front v [] more h = tt
  later_front v (x ∷ xs) more h = (h.0, later_front x xs more h.1)

  -- a beginning of versions that rise
  pub rising_front : (xs more : List (Version S)) → AreRising AtMost (xs ++ more) → AreRising AtMost xs
  rising_front [] more h = tt
  rising_front (x ∷ xs) more h = later_front x xs more h

  states_long : (s t : List S) → AreAtMost AtMost s t → length s ≤ length t
  states_long [] t h = zero-le
  states_long (x ∷ s) [] h = absurd h
  states_long (x ∷ s) (y ∷ t) h = let r = states_long s t h.1 in omega arith

  later_states : (v : Version S) (xs more : List (Version S)) → AreLater AtMost v (xs ++ more) → length (newest_from v xs).states ≤ length (newest_from v (xs ++ more)).states
  later_states v [] [] h = le_refl (length v.states)
  later_states v [] (w ∷ more) h = le_trans (states_long v.states w.states h.0.states) (later_states w [] more h.1)
  later_states v (x ∷ xs) more h = later_states x xs more h.1

  -- the last of more versions has no fewer states
  pub more_states : (xs more : List (Version S)) → AreRising AtMost (xs ++ more) → length (states_in (newest xs)) ≤ length (states_in (newest (xs ++ more)))
  more_states [] more h = zero-le
  more_states (x ∷ xs) more h =
      let long = later_states x xs more h in
      let last : length (newest_from x xs).states ≤ length (states_in (newest (x ∷ (xs ++ more)))) =
      subst (λ o. length (newest_from x xs).states ≤ length (states_in o)) (sym (newest-from x (xs ++ more))) long in
      subst (λ o. length (states_in o) ≤ length (states_in (newest (x ∷ (xs ++ more))))) (sym (newest-from x xs)) last
