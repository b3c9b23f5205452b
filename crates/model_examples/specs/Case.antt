-- What a script comes to: its report, or where it stops; and the words in which cases are written.
use Rattle.std.specs.Prelude.{ℕ, List, [], ◌∷◌, ◌++◌, Result, Ok, Err}
use Rattle.model_graph.specs.Graph.{Kind, Decl}
use Rattle.model_world.specs.Command.{Script}
use Rattle.model_world.specs.World.{Run, ended}
use Rattle.model_world.specs.Report.{report_of}
use Rattle.model_world.specs.declared.stop.Stop.{Stop}

-- the report of a run that came to its end
abbrev pub outcome : Result Run Stop → Result (List ℕ) Stop
outcome (Ok last) = Ok (report_of last)
outcome (Err stop) = Err stop

-- the report of a script, or its first stop
abbrev pub told : List Decl → Script → Result (List ℕ) Stop
told g script = outcome (ended g script)

-- lines of words, each with its end
abbrev pub lines : List (List ℕ) → List ℕ
lines [] = []
lines (words ∷ rest) = words ++ 10 ∷ lines rest

-- a declaration
abbrev pub variable : List ℕ → Kind → Decl
variable name kind = record { name = name; kind = kind }
