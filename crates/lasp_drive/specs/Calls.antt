-- The calls of a run's nodes: the entries of their journals that are no results.
use Rattle.std.specs.Prelude.{◌≡◌, ℕ, ◌<◌, List, [], ◌++◌, map, length, slice_index_or}
use Rattle.model_journal.specs.Entry.{Entry}
use Rattle.lasp_drive.specs.Node.{NodeView}

-- the calls of node p
abbrev pub calls_at : List NodeView → ℕ → List Entry
calls_at nodes p = slice_index_or (map (λ (n : NodeView). n.calls) nodes) p []

-- a node got the first of these calls behind those that it had, and the rest is left
pub record IsPart (old new more rest : List Entry) : Type 0 where
  pub first : List Entry
  pub is : new ≡ old ++ first
  pub part : first ++ rest ≡ more

-- a node got the first of these calls behind those that it had: none of them, some, or all
pub record GotFirst (old new more : List Entry) : Type 0 where
  pub rest : List Entry
  pub part : IsPart old new more rest

-- each node did
abbrev pub GoesOnWithin : List NodeView → List NodeView → (ℕ → List Entry) → Type 0
GoesOnWithin old new more = (p : ℕ) → p < length old → GotFirst (calls_at old p) (calls_at new p) (more p)

-- each node got these calls, behind those that it had
abbrev pub GoOnByCalls : List NodeView → List NodeView → (ℕ → List Entry) → Type 0
GoOnByCalls old new more = (p : ℕ) → p < length old → calls_at new p ≡ calls_at old p ++ more p
