-- What the bytes of a script say against a graph and a library: the number of nodes and the commands, or the first refusal, with the number of the command that it is about.
use Rattle.std.specs.Prelude.{ℕ, List, [], ◌∷◌, if◌then◌else◌, nat_le, ◌&&◌, Option, Some, None, option_and_then, Result, Ok, Err, codes}
use Rattle.serde_json.specs.Data.{Data}
use Rattle.serde_json.specs.Find.{as_array, as_u64}
use Rattle.model_functions.specs.Library.{Library}
use Rattle.model_graph.specs.Chain.{◌>>=◌, or_else, refusing}
use Rattle.model_graph.specs.Graph.{Decl}
use Rattle.model_readings.specs.declared.graph_why.GraphWhy.{GraphWhy}
use Rattle.model_readings.specs.declared.graph_why.GraphWhy.TheVariants as graph_why
use Rattle.model_readings.specs.Tree.{json_of, list_of, number_at, is_word_at, has_items}
use Rattle.model_readings.specs.Graph.{decl_read, numbered}
use Rattle.model_world.specs.Command.{Command, Script}
use Rattle.model_world.specs.Lawful.{node_limit}
use Rattle.model_scripts.specs.declared.script_why.ScriptWhy.{ScriptWhy}
use Rattle.model_scripts.specs.declared.script_why.ScriptWhy.TheVariants as why
use Rattle.model_scripts.specs.Word.{Word, declare, word_of}
use Rattle.model_scripts.specs.Progress.{Progress, opening, next_number, after}
use Rattle.model_scripts.specs.Parts.{command_of}
use Rattle.model_scripts.specs.Check.{checks, all_checked}

-- why a declaration is refused, as a script says it
abbrev pub why_declared : GraphWhy → ScriptWhy
why_declared graph_why.NotJson = why.NotJson
why_declared graph_why.Shape = why.Shape
why_declared graph_why.NameShape = why.NameShape
why_declared graph_why.NameTaken = why.NameTaken
why_declared graph_why.UnknownInput = why.UnknownInput
why_declared graph_why.WrongKind = why.WrongKind
why_declared graph_why.UnknownFunction = why.UnknownFunction
why_declared graph_why.TooWide = why.TooWide
why_declared graph_why.TooMany = why.TooMany

-- what is declared may follow the graph so far
abbrev pub declared_checked : Library → List Decl → Word → Result (Unit {0}) ScriptWhy
declared_checked lib g (declare d) = refusing why_declared (decl_read lib g d) >>= λ _. Ok tt
declared_checked lib g _ = Ok tt

-- the word of the next command: its form, what it declares, and the checks of the table
unfoldable pub word_read : Library → ℕ → Progress → Data → Result Word ScriptWhy
word_read lib nodes p d = do
  w ← or_else (word_of d) why.Shape
  _ ← declared_checked lib p.stage.graph w
  _ ← all_checked (checks nodes p w)
  Ok w

-- the next command behind those before it
unfoldable pub next_read : Library → ℕ → Progress → Data → Result Progress ScriptWhy
next_read lib nodes p d = do
  w ← word_read lib nodes p d
  Ok (after nodes p w (command_of lib nodes p w))

-- commands behind those before them
unfoldable pub commands_read : Library → ℕ → Progress → List Data → Result Progress (ℕ × ScriptWhy)
commands_read lib nodes p [] = Ok p
commands_read lib nodes p (d ∷ ds) = do
  next ← numbered (next_number p) (next_read lib nodes p d)
  commands_read lib nodes next ds

abbrev pub in_range : ℕ → Option ℕ
in_range n = if nat_le 1 n && nat_le n node_limit then Some n else None

-- the number of nodes that `["nodes",n]` tells
unfoldable pub nodes_of : Data → Option ℕ
nodes_of d =
    if is_word_at 0 (codes "nodes") d && has_items 2 d then option_and_then in_range (option_and_then as_u64 (number_at 1 d))
    else None

abbrev pub script_from : ℕ → List Command → Script
script_from nodes commands = record { nodes = nodes; commands = commands }

-- the first part tells the nodes, the others are commands
unfoldable pub parts_read : Library → List Decl → List Data → Result Script (ℕ × ScriptWhy)
parts_read lib g [] = Err (0, why.Shape)
parts_read lib g (d ∷ ds) = do
  nodes ← or_else (nodes_of d) (0, why.Shape)
  last ← commands_read lib nodes (opening g) ds
  Ok (script_from nodes last.commands)

-- the script that a tree is
unfoldable pub tree_read : Library → List Decl → Data → Result Script (ℕ × ScriptWhy)
tree_read lib g tree = do
  ds ← or_else (as_array tree) (0, why.Shape)
  parts_read lib g (list_of ds)

-- the script that the bytes are
unfoldable pub script_of : Library → List Decl → List ℕ → Result Script (ℕ × ScriptWhy)
script_of lib g bytes = or_else (json_of bytes) (0, why.NotJson) >>= tree_read lib g
