-- The summary as it is read off cores.
use Rattle.std.specs.Prelude.{◌≡◌, ℕ, ◌+◌, List, [], ◌∷◌, ◌++◌, length}
use Rattle.std.specs.Fmt.{decimal}
use Rattle.model_sets.specs.Rows.{visible}
use Rattle.model_core.specs.Core.{Core}
use Rattle.model_journal.specs.Journal.{graph, vals, counts}
use Rattle.model_program.specs.Summary.{load_line, number_lines}
use Rattle.model_world.specs.Line.{known_line}
use Rattle.lasp_state.specs.State.{shown_state}
use Rattle.lasp_state.specs.declared.state.State.{State}
use Rattle.lasp_state.specs.declared.state.State.TheVariants.{Set, Grow, Count, Max, Fold}

-- how many values are visible, how many elements there are, and of all others what is printed of them
abbrev pub state_number : State → List ℕ
state_number (Set rows) = decimal (length (visible rows))
state_number (Grow values) = decimal (length values)
state_number (Count counts) = shown_state (Count counts)
state_number (Max m) = shown_state (Max m)
state_number (Fold rows n) = shown_state (Fold rows n)

-- the lines of a core's variables
abbrev pub core_lines : Core → List ℕ
core_lines core = number_lines 0 (graph core.frame core.entries) (vals core.frame core.entries)

-- what each core knows, the first being that of node p
abbrev pub known_by : ℕ → List Core → List ℕ
known_by p [] = []
known_by p (core ∷ cores) = known_line p (counts core.frame core.entries) ++ known_by (p + 1) cores

-- these bytes are the summary of these cores, whose first is node 0's
abbrev pub IsSummary : ℕ → ℕ → List Core → List ℕ → Type 0
IsSummary seed count [] bytes = ⊥
IsSummary seed count (first ∷ cores) bytes = bytes ≡ load_line seed count ++ core_lines first ++ known_by 0 (first ∷ cores)
