-- The script of bytes, by what reading them answered.
use Rattle.std.proofs.Common.{◌≡◌, refl, List, ℕ, Some, None, Err}
use Rattle.std.specs.Str.{IsUtf8}
use Rattle.serde_json.specs.Data.{Data}
use Rattle.serde_json.specs.Read.{read}
use Rattle.lasp_graph.proofs.Bytes.{json_of-Some, json_of-None}
use Rattle.model_functions.specs.Library.{Library}
use Rattle.model_graph.specs.Graph.{Decl}
use Rattle.model_scripts.specs.Script.{tree_read, script_of}
use Rattle.model_scripts.specs.declared.script_why.ScriptWhy.TheVariants as why

pub script_of-tree : (lib : Library) (g : List Decl) (bytes : List ℕ) (d : Data) → IsUtf8 bytes → read bytes ≡ Some d → script_of lib g bytes ≡ tree_read lib g d
unfolding script_of
script_of-tree lib g bytes d utf8 e = rw (json_of-Some bytes d utf8 e) refl

pub script_of-none : (lib : Library) (g : List Decl) (bytes : List ℕ) → (IsUtf8 bytes → read bytes ≡ None) → script_of lib g bytes ≡ Err (0, why.NotJson)
unfolding script_of
script_of-none lib g bytes none = rw (json_of-None bytes none) refl

pub ruleset trees = (script_of-tree, script_of-none)
