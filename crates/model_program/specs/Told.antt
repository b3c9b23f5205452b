-- What the told contents of the files that the words name are read as.
use Rattle.std.specs.Prelude.{◌≡◌, ◌≤◌, ℕ, List, [], ◌∷◌, ◌++◌, length, Option, Some, None, Ok}
use Rattle.model_functions.specs.Library.{Library}
use Rattle.model_graph.specs.Graph.{Decl}
use Rattle.model_graph.specs.Evaluation.{first_large}
use Rattle.model_graph.specs.Message.{Message}
use Rattle.model_wire.specs.Message.{decoded}
use Rattle.model_world.specs.Command.{Script}
use Rattle.model_dots.specs.DotWorld.{one_set}
use Rattle.model_readings.specs.Graph.{graph_of}
use Rattle.model_scripts.specs.Script.{script_of}
use Rattle.model_program.specs.Merge.{declared_in, sources_of, IsPrefixOf, file_at, nodes_in, joined}
use Rattle.model_program.specs.Plan.{word_at, file_limit}
use Rattle.model_program.specs.Program.{form}
use Rattle.model_program.specs.declared.form.Form.TheVariants.{Plain, Delta, Dots}

-- these bytes are told of the file that the word at this place names, and they are not too many
pub record IsFileTold (content : List ℕ → Option (List ℕ)) (words : List (List ℕ)) (f : ℕ) (bytes : List ℕ) : Type 0 where
  pub told : content (word_at words f) ≡ Some bytes
  pub short : length bytes ≤ file_limit

-- the first file is told and not too long, and its bytes are this graph
pub record IsGraphTold (lib : Library) (content : List ℕ → Option (List ℕ)) (words : List (List ℕ)) (g : List Decl) : Type 0 where
  pub bytes : List ℕ
  pub file : IsFileTold content words 1 bytes
  pub read : graph_of lib bytes ≡ Ok g

-- the second file is told and not too long, and its bytes are this script against the graph
pub record IsScriptTold (lib : Library) (content : List ℕ → Option (List ℕ)) (words : List (List ℕ)) (g : List Decl) (s : Script) : Type 0 where
  pub bytes : List ℕ
  pub file : IsFileTold content words 2 bytes
  pub read : script_of lib g bytes ≡ Ok s

-- the first file is told and not too long, and its bytes are this script against the graph of one set
pub record IsDotsTold (lib : Library) (content : List ℕ → Option (List ℕ)) (words : List (List ℕ)) (s : Script) : Type 0 where
  pub bytes : List ℕ
  pub file : IsFileTold content words 1 bytes
  pub read : script_of lib one_set bytes ≡ Ok s

-- the words are `plain GRAPH SCRIPT`, and the files say this graph and this script
pub record TellsRun (lib : Library) (content : List ℕ → Option (List ℕ)) (words : List (List ℕ)) (g : List Decl) (s : Script) : Type 0 where
  pub plain : form words ≡ Plain
  pub graph : IsGraphTold lib content words g
  pub script : IsScriptTold lib content words g s

-- the words are `delta GRAPH SCRIPT`, and the files say this graph and this script
pub record TellsDeltas (lib : Library) (content : List ℕ → Option (List ℕ)) (words : List (List ℕ)) (g : List Decl) (s : Script) : Type 0 where
  pub delta : form words ≡ Delta
  pub graph : IsGraphTold lib content words g
  pub script : IsScriptTold lib content words g s

-- the words are `dots SCRIPT`, and the file says this script
pub record TellsDots (lib : Library) (content : List ℕ → Option (List ℕ)) (words : List (List ℕ)) (s : Script) : Type 0 where
  pub dots : form words ≡ Dots
  pub script : IsDotsTold lib content words s

-- the sources of the message are the first ones of the graph
abbrev pub IsOfGraph : List Decl → Message → Type 0
IsOfGraph g m = IsPrefixOf (declared_in m) (sources_of g)

-- the message is of as many nodes as the first of them all
abbrev pub IsOfNodes : List Message → Message → Type 0
IsOfNodes before m = length m.counts ≡ nodes_in (before ++ m ∷ [])

-- The file behind those of the messages before it is told and not too long, and its bytes are this message. It is of the graph and of as many nodes as the first,
-- and joined with those before it no source is too large.
pub record IsJoined (g : List Decl) (content : List ℕ → Option (List ℕ)) (words : List (List ℕ)) (before : List Message) (m : Message) : Type 0 where
  pub bytes : List ℕ
  pub file : IsFileTold content words (file_at (length before)) bytes
  pub read : decoded bytes ≡ Ok m
  pub graph : IsOfGraph g m
  pub nodes : IsOfNodes before m
  pub small : first_large 0 (joined g (before ++ m ∷ [])).contents ≡ None

-- these are the messages of the first files, each joined with those before it
pub data AreJoined (g : List Decl) (content : List ℕ → Option (List ℕ)) (words : List (List ℕ)) : List Message → Type 0 where
  none : AreJoined g content words []
  more : {before : List Message} {m : Message} → AreJoined g content words before → IsJoined g content words before m → AreJoined g content words (before ++ m ∷ [])
