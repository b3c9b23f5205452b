-- What the example comes to, by computation.
use Rattle.std.proofs.Common.{◌≡◌, ℕ, inl, inr, pos, false, [], ◌∷◌, take, refl, sym, subst}
use Rattle.model_values.specs.Value.{int}
use Rattle.model_values.specs.Token.{single}
use Rattle.model_journal.specs.Journal.{val}
use Rattle.model_journal.specs.Clean.{version, applied, base, IsClean}
use Rattle.model_examples.specs.Journals.{example_frame, example_entries}

pub example-rows : (val example_frame example_entries 2).rows ≡ ((int (pos 1), single 0 1), false) ∷ ((int (pos 2), single 0 2), false) ∷ []
example-rows = refl

pub example-late : val example_frame example_entries 2 ≡ val example_frame (take 3 example_entries) 2
example-late = refl

pub example-base : base example_frame example_entries 2 ≡ 2
example-base = refl

pub example-clean : IsClean example_frame example_entries 2
example-clean x (inl e) = subst (λ (z : ℕ). applied example_frame example_entries 2 z ≡ version example_frame example_entries z) (sym e) refl
example-clean x (inr e) = subst (λ (z : ℕ). applied example_frame example_entries 2 z ≡ version example_frame example_entries z) (sym e) refl

pub ruleset example = (example-rows, example-late, example-base, example-clean)
