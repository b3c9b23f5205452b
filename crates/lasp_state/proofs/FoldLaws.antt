-- Of two states of which one is at most the other the greater is taken, with its number.
use Rattle.std.proofs.Common.{◌≡◌, ◌≢◌, ℤ, pos, Bool, IsTrue, IsFalse, true, false, length, refl, sym, subst, ◌∙◌, ◌⊎◌, if◌then◌else◌, Result, Ok, Err, OnOk, OnErr, arith}
use mathlib.Core.Logic.{inl, inr}
use Rattle.model_states.specs.Content.{join_contents, IsContentAtMost, IsOrdered}
use Rattle.model_states.specs.Shape.{HasShape}
use Rattle.model_states.specs.Threshold.{fold}
use Rattle.model_states.proofs.ContentLaws.{join-above, join-below, order-test}
use Rattle.model_states.proofs.DeltaLaws.{shape-counts}
use Rattle.lasp_state.specs.State.{content_of, shape_of, number_of, joined_number}
use Rattle.lasp_state.specs.declared.state.State.{State}
use Rattle.lasp_state.specs.declared.state.State.TheVariants.{Set, Grow, Count, Max, Fold}

-- a state has the part of its shape alone
pub has-shape : (s : State) → HasShape (shape_of s) (content_of s)
has-shape (Set rows) = refl
has-shape (Grow values) = refl
has-shape (Count counts) = (refl, refl)
has-shape (Max m) = refl
has-shape (Fold rows n) = refl

pub folds-have-numbers : (s : State) → number_of s ≢ pos 0 → shape_of s ≡ fold
folds-have-numbers (Set rows) h = absurd (h refl)
folds-have-numbers (Grow values) h = absurd (h refl)
folds-have-numbers (Count counts) h = absurd (h refl)
folds-have-numbers (Max m) h = absurd (h refl)
folds-have-numbers (Fold rows n) h = refl

pub ruleset shapes = (has-shape, folds-have-numbers)

-- ---- what is taken

pub as-many : (s t : State) → shape_of s ≡ shape_of t → length (content_of s).counts ≡ length (content_of t).counts
as-many s t e = shape-counts (shape_of t) (content_of s) (content_of t) (subst (λ shape. HasShape shape (content_of s)) e (has-shape s)) (has-shape t)

pub refuted : (b : Bool) → IsTrue b → IsFalse b → ⊥
refuted b is not = cc

first-covers : (P Q : Type 0) → P ⊎ Q → (Q → ⊥) → P
first-covers P Q (inl p) wrong = p
first-covers P Q (inr q) wrong = absurd (wrong q)

pub kept-join : (mine other : State) → shape_of mine ≡ shape_of other → IsOrdered (content_of mine) → IsContentAtMost (content_of other) (content_of mine)
    → content_of mine ≡ join_contents (content_of mine) (content_of other)
kept-join mine other e up h = sym (join-below (content_of mine) (content_of other) up (omega (arith, as-many mine other e)) h)

pub taken-join : (mine other : State) → shape_of mine ≡ shape_of other → IsOrdered (content_of other) → IsContentAtMost (content_of mine) (content_of other) ⊎ IsContentAtMost (content_of other) (content_of mine)
    → (IsContentAtMost (content_of other) (content_of mine) → ⊥) → content_of other ≡ join_contents (content_of mine) (content_of other)
taken-join mine other e up nested h = sym (join-above (content_of mine) (content_of other) up (omega (arith, as-many mine other e)) (first-covers _ _ nested h))

choice-own : (b : Bool) (own theirs : ℤ) → IsTrue b → own ≡ if b then own else theirs
choice-own true own theirs h = refl
choice-own false own theirs h = absurd cc

choice-theirs : (b : Bool) (own theirs : ℤ) → (IsTrue b → ⊥) → theirs ≡ if b then own else theirs
choice-theirs true own theirs h = absurd (h refl)
choice-theirs false own theirs h = refl

pub kept-number : (mine other : State) → IsContentAtMost (content_of other) (content_of mine) → number_of mine ≡ joined_number mine other
kept-number mine other h = choice-own _ (number_of mine) (number_of other) ((order-test (content_of other) (content_of mine)).1 h)

pub taken-number : (mine other : State) → (IsContentAtMost (content_of other) (content_of mine) → ⊥) → number_of other ≡ joined_number mine other
taken-number mine other h = choice-theirs _ (number_of mine) (number_of other) (λ test. h ((order-test (content_of other) (content_of mine)).0 test))

-- a state that is no fold keeps the number 0
pub no-number : {E : Type 0} (r : Result Bool E) (new old other : State) → number_of new ≡ pos 0 → number_of old ≡ pos 0 → number_of other ≡ pos 0 → OnOk r (number_of new ≡ joined_number old other)
no-number (Ok grew) new old other e f g = e ∙ there _ (number_of old) (number_of other) f g where
  there : (b : Bool) (own theirs : ℤ) → own ≡ pos 0 → theirs ≡ pos 0 → pos 0 ≡ if b then own else theirs
  there true own theirs e f = sym e
  there false own theirs e f = sym f
no-number (Err error) new old other e f g = tt

pub on-err : {E : Type 0} (r s : Result Bool E) (P Q : Type 0) → s ≡ r → (P → Q) → OnErr r P → OnErr s Q
on-err r s P Q e f h = subst (λ (x : Result Bool _). OnErr x Q) (sym e) (there r P Q f h) where
  there : {E : Type 0} (r : Result Bool E) (P Q : Type 0) → (P → Q) → OnErr r P → OnErr r Q
  there (Ok b) P Q f h = tt
  there (Err error) P Q f h = f h
