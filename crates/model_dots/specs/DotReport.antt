-- What such replicas print: a line for each print, and at the end what each knows and how many pairs it keeps.
use Rattle.std.specs.Prelude.{ℕ, ◌+◌, not, List, [], ◌∷◌, ◌++◌, length, filter, codes}
use Rattle.std.specs.Fmt.{decimal}
use Rattle.model_values.specs.Text.{shown_values}
use Rattle.model_sets.specs.Values.{visible}
use Rattle.model_graph.specs.Evaluation.{rows_at}
use Rattle.model_world.specs.Command as command
use Rattle.model_world.specs.Command.{Command}
use Rattle.model_world.specs.Line.{line, known_line}
use Rattle.model_world.specs.World.{Peer}
use Rattle.model_dots.specs.Dots.{Dots}
use Rattle.model_dots.specs.DotWorld.{DotWorld, dots_at, dot_start, dot_acts, dot_each, dot_play}

-- what a command prints
abbrev pub dot_print : DotWorld → Command → List ℕ
dot_print w (command.Print p x) = line (decimal p ∷ codes "a" ∷ shown_values (visible (dots_at w.nodes p).rows) ∷ [])
dot_print w _ = []

-- what commands print, in their order
unfoldable pub dot_text : DotWorld → List Command → List ℕ
dot_text w [] = []
dot_text w (k ∷ rest) = dot_print w k ++ dot_text (dot_each w (dot_acts w k)) rest

-- how many updates of each replica each one knows, the first being number p
abbrev pub dot_known : ℕ → List Dots → List ℕ
dot_known p [] = []
dot_known p (d ∷ states) = known_line p d.counts ++ dot_known (p + 1) states

-- `dots NODE PAIRS`, the number of pairs that each replica keeps
abbrev pub dot_sizes : ℕ → List Dots → List ℕ
dot_sizes p [] = []
dot_sizes p (d ∷ states) = line (codes "dots" ∷ decimal p ∷ decimal (length d.rows) ∷ []) ++ dot_sizes (p + 1) states

-- `dots NODE NUMBER` for each replica with tombstones, the first being number p: how many live rows its set has
abbrev pub live_lines : ℕ → List Peer → List ℕ
live_lines p [] = []
live_lines p (r ∷ peers) = line (codes "dots" ∷ decimal p ∷ decimal (length (filter (λ row. not row.1) (rows_at r.contents 0))) ∷ []) ++ live_lines (p + 1) peers

-- the report of commands: what they print, and then what each replica knows
abbrev pub dot_report : ℕ → List Command → List ℕ
dot_report nodes commands = dot_text (dot_start nodes) commands ++ dot_known 0 (dot_play (dot_start nodes) commands).nodes

-- the report, and behind it how many pairs each replica keeps
abbrev pub dot_output : ℕ → List Command → List ℕ
dot_output nodes commands = dot_report nodes commands ++ dot_sizes 0 (dot_play (dot_start nodes) commands).nodes
