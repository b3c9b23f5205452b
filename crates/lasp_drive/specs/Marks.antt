-- Which nodes are known to hold what a mark keeps.
use Rattle.std.specs.Prelude.{◌≡◌, ℕ, IsTrue, List, map, slice_get, Some}
use Rattle.std.specs.List.{AllByRecursion, Contains}
use Rattle.std.specs.Arc.{arc_value}
use Rattle.model_states.specs.Content.{is_content_at_most}
use Rattle.model_graph.specs.Evaluation.{content_at}
use Rattle.model_world.specs.World.{Marked}
use Rattle.lasp_state.specs.State.{content_of, shape_of}
use Rattle.lasp_drive.specs.Node.{NodeView}
use Rattle.lasp_drive.specs.Reads.{Grows}
use Rattle.lasp_drive.specs.declared.driver.Mark.{Mark}

-- what a mark keeps
abbrev pub marked_of : Mark → Marked
marked_of m = record { shape = shape_of (arc_value m.state); content = content_of (arc_value m.state) }

-- a node shows at least what a mark keeps
abbrev pub HoldsMark : NodeView → Mark → Type 0
HoldsMark n m = IsTrue (is_content_at_most (content_of (arc_value m.state)) (content_at n.shown m.var))

-- node p does
abbrev pub HoldsMarkAt : List NodeView → Mark → ℕ → Type 0
HoldsMarkAt nodes m p = (n : NodeView) → slice_get nodes p ≡ Some n → HoldsMark n m

-- the nodes that are told with each mark do
abbrev pub HoldMarks : List NodeView → List Mark → Type 0
HoldMarks nodes marks = AllByRecursion (λ (m : Mark). AllByRecursion (HoldsMarkAt nodes m) m.known.items) marks

-- each node shows at least what it showed, and sent nothing
abbrev pub AllGrow : List NodeView → List NodeView → Type 0
AllGrow old new = (p : ℕ) (n : NodeView) → slice_get new p ≡ Some n → (m : NodeView) × (slice_get old p ≡ Some m) × Grows m.shown n.shown × (n.sent ≡ m.sent)

-- the mark at a place, if it is there, is told to be held by node p
abbrev pub IsHeldAt : List Mark → ℕ → ℕ → Type 0
IsHeldAt marks k p = (m : Mark) → slice_get marks k ≡ Some m → Contains m.known.items p

-- these are the marks, and at most it was noted with mark k that node p holds it
pub record IsNoted (old : List Mark) (k p : ℕ) (new : List Mark) : Type 0 where
  pub marked : map marked_of new ≡ map marked_of old
  pub vars : map (λ (m : Mark). m.var) new ≡ map (λ (m : Mark). m.var) old
  pub held : (nodes : List NodeView) → ((m : Mark) → slice_get old k ≡ Some m → HoldsMarkAt nodes m p) → HoldMarks nodes old → HoldMarks nodes new
