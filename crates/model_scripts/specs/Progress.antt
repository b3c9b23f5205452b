-- What the commands that were read so far leave for the next one.
use Rattle.std.specs.Prelude.{ℕ, ◌+◌, List, [], ◌∷◌, ◌++◌, length, Option, slice_index_or, unwrap_or}
use Rattle.std.specs.List.{position}
use Rattle.std.specs.Str.{bytes_eq}
use Rattle.model_graph.specs.Graph.{Kind, Decl, kind_at}
use Rattle.model_readings.specs.Graph.{place_of}
use Rattle.model_world.specs.Command.{Command, Declare}
use Rattle.model_world.specs.Lawful.{Stage, opening_stage, stage_after}
use Rattle.model_scripts.specs.Word.{Target, Word, mark}

-- the commands so far, what stands behind them (the graph, the variable of each mark, how many messages were sent), and the names of the marks, by their numbers
pub record Progress : Type 0 where
  pub commands : List Command
  pub stage : Stage
  pub names : List (List ℕ)

-- before the first command
abbrev pub opening : List Decl → Progress
opening g = record { commands = []; stage = opening_stage g; names = [] }

-- the number of the next command; the first behind the one that tells the nodes has number 1
abbrev pub next_number : Progress → ℕ
next_number p = length p.commands + 1

-- the names of the marks behind a word
abbrev pub names_after : List (List ℕ) → Word → List (List ℕ)
names_after names (mark t m) = names ++ m ∷ []
names_after names _ = names

-- behind a word that was read, with the command that it is
abbrev pub after : ℕ → Progress → Word → Command → Progress
after nodes p w k = record { commands = p.commands ++ k ∷ []; stage = stage_after nodes p.stage k; names = names_after p.names w }

-- the number of the mark with this name
unfoldable pub mark_of : List ℕ → List (List ℕ) → Option ℕ
mark_of m names = position (λ n. bytes_eq m n) names

-- the mark's number; 0 where there is none of the name
abbrev pub mark_at : List (List ℕ) → List ℕ → ℕ
mark_at names m = unwrap_or (mark_of m names) 0

-- the number of the target's variable; 0 where there is none of the name
abbrev pub place_at : List Decl → Target → ℕ
place_at g t = unwrap_or (place_of t.var g) 0

-- the kind of the target's variable
abbrev pub kind_in : List Decl → Target → Kind
kind_in g t = kind_at g (place_at g t)

-- the number of the variable that a mark was made of
abbrev pub marked_at : Progress → List ℕ → ℕ
marked_at p m = slice_index_or p.stage.marked (mark_at p.names m) 0

-- what stands behind commands
abbrev pub stage_behind : ℕ → Stage → List Command → Stage
stage_behind nodes s [] = s
stage_behind nodes s (k ∷ ks) = stage_behind nodes (stage_after nodes s k) ks

-- the graph with what a command declares, if it declares anything
abbrev pub grown_by : List Decl → Command → List Decl
grown_by g (Declare d) = g ++ d ∷ []
grown_by g _ = g

-- the graph with all that commands declare, in order
abbrev pub grown : List Decl → List Command → List Decl
grown g [] = g
grown g (k ∷ ks) = grown (grown_by g k) ks
