-- Worked scripts, as trees.
use Rattle.std.specs.Prelude.{ℕ, ℤ, negsuc, List, [], ◌∷◌, codes, replicate, Result}
use Rattle.serde_json.specs.Data.{Data, unsigned, negative, number, string, array, Items, no_items, item}
use Rattle.model_functions.specs.Map.{Abs}
use Rattle.model_functions.specs.Library.{Library}
use Rattle.model_graph.specs.Graph.{OrSet, GSet, Counter, MaxReg, Union, Decl}
use Rattle.model_world.specs.Command.{Command, Script}
use Rattle.model_world.specs.Lawful.{opening_stage}
use Rattle.model_scripts.specs.declared.script_why.ScriptWhy.{ScriptWhy}
use Rattle.model_scripts.specs.Progress.{Progress}
use Rattle.model_scripts.specs.Script.{tree_read}
use Rattle.model_examples.specs.Case.{variable}

-- the array of these parts
abbrev pub parts : List Data → Items
parts [] = no_items
parts (d ∷ ds) = item d (parts ds)

abbrev pub list : List Data → Data
list ds = array (parts ds)

abbrev pub text : List ℕ → Data
text t = string t

abbrev pub whole : ℕ → Data
whole n = number (unsigned n)

abbrev pub below_zero : ℤ → Data
below_zero z = number (negative z)

-- the sets a and b, their union u, the grow-only set g, the counter c and the register m
abbrev pub example_graph : List Decl
example_graph = variable (codes "a") OrSet ∷ variable (codes "b") OrSet ∷ variable (codes "u") (Union 0 1) ∷ variable (codes "g") GSet ∷ variable (codes "c") Counter ∷ variable (codes "m") MaxReg ∷ []

-- a library of one map
abbrev pub example_library : Library
example_library = record { maps = (codes "abs", Abs ∷ []) ∷ []; predicates = []; lifts = [] }

-- `["nodes",n]`
abbrev pub nodes : ℕ → Data
nodes n = list (text (codes "nodes") ∷ whole n ∷ [])

-- a command of a word, a node, a variable and one part more
abbrev pub call : List ℕ → ℕ → List ℕ → Data → Data
call word p x part = list (text word ∷ whole p ∷ text x ∷ part ∷ [])

abbrev pub declaration : List Data → Data
declaration ds = list (text (codes "declare") ∷ list ds ∷ [])

-- what a script of two nodes comes to against the graph
abbrev pub told : List Data → Result Script (ℕ × ScriptWhy)
told ds = tree_read example_library example_graph (list (nodes 2 ∷ ds))

-- each word once, and each threshold
abbrev pub all_words : List Data
all_words =
    call (codes "add") 0 (codes "a") (whole 5)
    ∷ call (codes "remove") 1 (codes "b") (list (whole 5 ∷ text (codes "x") ∷ []))
    ∷ call (codes "insert") 0 (codes "g") (text (codes "x"))
    ∷ call (codes "inc") 1 (codes "c") (whole 3)
    ∷ call (codes "max") 0 (codes "m") (below_zero (negsuc 4))
    ∷ call (codes "mark") 0 (codes "a") (text (codes "k"))
    ∷ call (codes "bind") 1 (codes "a") (text (codes "k"))
    ∷ list (text (codes "send") ∷ whole 0 ∷ [])
    ∷ list (text (codes "sync") ∷ [])
    ∷ list (text (codes "deliver") ∷ whole 1 ∷ whole 2 ∷ [])
    ∷ list (text (codes "settle") ∷ [])
    ∷ declaration (text (codes "n") ∷ text (codes "map") ∷ text (codes "u") ∷ text (codes "abs") ∷ [])
    ∷ list (text (codes "print") ∷ whole 0 ∷ text (codes "n") ∷ [])
    ∷ call (codes "read") 0 (codes "a") (list (text (codes "at_least") ∷ text (codes "k") ∷ []))
    ∷ call (codes "read") 1 (codes "a") (list (text (codes "above") ∷ text (codes "k") ∷ []))
    ∷ call (codes "read") 1 (codes "n") (list (text (codes "added") ∷ list (whole 5 ∷ []) ∷ []))
    ∷ call (codes "await") 0 (codes "c") (list (text (codes "count") ∷ whole 0 ∷ []))
    ∷ call (codes "await") 0 (codes "u") (list (text (codes "removed") ∷ list [] ∷ []))
    ∷ []

-- behind a number of commands, over this graph
abbrev pub behind : ℕ → Command → List Decl → Progress
behind n k g = record { commands = replicate n k; stage = opening_stage g; names = [] }

-- `["read",0,"a",["added",[]]]`
abbrev pub any_read : Data
any_read = call (codes "read") 0 (codes "a") (list (text (codes "added") ∷ list [] ∷ []))

-- `["mark",0,"a","k"]`
abbrev pub any_mark : Data
any_mark = call (codes "mark") 0 (codes "a") (text (codes "k"))

-- a declaration of a set n
abbrev pub any_declaration : Data
any_declaration = declaration (text (codes "n") ∷ text (codes "orset") ∷ [])

-- a script as it stands in a file
abbrev pub example_bytes : List ℕ
example_bytes = codes "[[\"nodes\",2],[\"add\",0,\"a\",5],[\"mark\",0,\"a\",\"k\"],[\"sync\"],[\"deliver\",1,1],[\"declare\",[\"n\",\"map\",\"u\",\"abs\"]],[\"await\",1,\"n\",[\"added\",[-5]]]]"
