-- What these cases come to, by computation.
use Rattle.std.proofs.Common.{◌≡◌, ℕ, zero, suc, pos, [], ◌∷◌, take, refl, sym, subst}
use Rattle.model_values.specs.Value.{int}
use Rattle.model_functions.specs.Map.{mapped}
use Rattle.model_sets.specs.Values.{visible}
use Rattle.model_journal.specs.Journal.{vals, val}
use Rattle.model_journal.specs.Clean.{version, applied, IsClean}
use Rattle.model_examples.specs.Journals.{example_frame, example_entries}
use Rattle.model_examples.specs.Binds.{entries_in_order, contents_with, union_of_one, union_of_both, map_frame, map_entries, mapped_contents}

pub early-vals : vals example_frame (take 3 entries_in_order) ≡ contents_with union_of_one
early-vals = refl

pub ordered-vals : vals example_frame entries_in_order ≡ contents_with union_of_both
ordered-vals = refl

pub first-vals : vals example_frame (take 3 example_entries) ≡ contents_with union_of_both
first-vals = refl

pub late-vals : vals example_frame example_entries ≡ contents_with union_of_both
late-vals = refl

pub map-vals : vals map_frame map_entries ≡ mapped_contents
unfolding mapped
map-vals = refl

pub map-shown : visible (val map_frame map_entries 1).rows ≡ int (pos 1) ∷ []
unfolding mapped
map-shown = refl

pub map-behind : (applied map_frame (take 1 map_entries) 1 0 ≡ 0) × (version map_frame (take 1 map_entries) 0 ≡ 1)
map-behind = (refl, refl)

input-read : (x : ℕ) → x ≡ 0 → applied map_frame map_entries 1 x ≡ version map_frame map_entries x
unfolding mapped
input-read x e = subst (λ (z : ℕ). applied map_frame map_entries 1 z ≡ version map_frame map_entries z) (sym e) refl

pub map-clean : (y : ℕ) → IsClean map_frame map_entries y
map-clean zero x i = absurd i
map-clean (suc zero) x i = input-read x i
map-clean (suc (suc y)) x i = absurd i

pub ruleset binds = (early-vals, ordered-vals, first-vals, late-vals)

pub ruleset map_binds = (map-vals, map-shown, map-behind, map-clean)
