-- States by their kinds and shapes.
use Rattle.std.proofs.Common.{◌≡◌, ◌≢◌, ℕ, List, refl, sym, ap, ◌∙◌}
use Rattle.model_values.specs.Row.{Row}
use Rattle.model_states.specs.Threshold.{Shape, set, grow, counter, register, fold}
use Rattle.model_graph.specs.Graph.{Kind, OrSet, GSet, Counter, MaxReg, Union}
use Rattle.model_graph.specs.Lawful.{shape_of as shape_of_kind}
use Rattle.model_wire.specs.Lawful.{IsSource}
use Rattle.lasp_state.specs.declared.state.State.{State}
use Rattle.lasp_state.specs.declared.state.State.TheVariants as state
use Rattle.lasp_state.specs.State.{content_of, shape_of, AreJoinable}
use Rattle.lasp_wire.specs.Sent.{kind_of}

-- the kind of a state of a shape
abbrev kind_at_shape : Shape → Kind
kind_at_shape set = OrSet
kind_at_shape grow = GSet
kind_at_shape (counter nodes) = Counter
kind_at_shape register = MaxReg
kind_at_shape fold = Union 0 0

kind-shape : (s : State) → kind_of s ≡ kind_at_shape (shape_of s)
kind-shape (state.Set rows) = refl
kind-shape (state.Grow values) = refl
kind-shape (state.Count counts) = refl
kind-shape (state.Max m) = refl
kind-shape (state.Fold rows n) = refl

-- states of one shape are of one kind
pub same-kind : (s t : State) → shape_of s ≡ shape_of t → kind_of s ≡ kind_of t
same-kind s t e = kind-shape s ∙ ap kind_at_shape e ∙ sym (kind-shape t)

-- a state of a source has the shape of its kind
source-shape : (nodes : ℕ) (s : State) → IsSource nodes (kind_of s) (content_of s) → shape_of s ≡ shape_of_kind nodes (kind_of s)
source-shape nodes (state.Set rows) h = refl
source-shape nodes (state.Grow values) h = refl
source-shape nodes (state.Count counts) h = ap counter h.0.0
source-shape nodes (state.Max m) h = refl
source-shape nodes (state.Fold rows n) h = absurd h

pub source-no-fold : (nodes : ℕ) (s : State) → IsSource nodes (kind_of s) (content_of s) → shape_of s ≢ fold
source-no-fold nodes (state.Set rows) h e = absurd cc
source-no-fold nodes (state.Grow values) h e = absurd cc
source-no-fold nodes (state.Count counts) h e = absurd cc
source-no-fold nodes (state.Max m) h e = absurd cc
source-no-fold nodes (state.Fold rows n) h e = absurd h

-- sources of one kind among as many nodes are of one shape
pub same-shape : (nodes : ℕ) (s t : State) → IsSource nodes (kind_of s) (content_of s) → IsSource nodes (kind_of t) (content_of t) → kind_of s ≡ kind_of t → shape_of s ≡ shape_of t
same-shape nodes s t h g e = source-shape nodes s h ∙ ap (shape_of_kind nodes) e ∙ sym (source-shape nodes t g)

pub joinable : (nodes : ℕ) (s t : State) → IsSource nodes (kind_of s) (content_of s) → IsSource nodes (kind_of t) (content_of t) → kind_of s ≡ kind_of t → AreJoinable s t
joinable nodes s t h g e = record { shape = same-shape nodes s t h g e; nested = λ f. absurd (source-no-fold nodes s h f) }

-- a state that is no observed-remove set is of another kind
pub no-set : (s : State) → ((rows : List Row) → s ≡ state.Set rows → ⊥) → kind_of s ≡ OrSet → ⊥
no-set (state.Set rows) other e = other rows refl
no-set (state.Grow values) other e = absurd cc
no-set (state.Count counts) other e = absurd cc
no-set (state.Max m) other e = absurd cc
no-set (state.Fold rows n) other e = absurd cc
