-- How far the usual spellings of a script's parts are read.
use Rattle.std.specs.Prelude.{◌≡◌, ℕ, List, [], ◌∷◌, Some, Ok, option_map}
use Rattle.std.specs.Option.{option_to_list}
use Rattle.serde_json.specs.Data.{Num, Data, number, string, array}
use Rattle.serde_json.specs.View.{view, number_view, items_of}
use Rattle.model_functions.specs.Library.{Library}
use Rattle.model_graph.specs.Graph.{Decl}
use Rattle.model_scripts.specs.Progress.{Progress, opening}
use Rattle.model_scripts.specs.Script.{nodes_of, next_read, commands_read}
use Rattle.lasp_spelling.specs.Spelling.{Spells, Opens}
use Rattle.lasp_script.specs.declared.placed.Placed.{Placed}

-- how deep a script's parts may nest, one less than JSON may
abbrev pub nesting_limit : ℕ
nesting_limit = 126

-- the first part was read, and tells the nodes
pub record IsBegun (bytes : List ℕ) (nodes : ℕ) (rest : List ℕ) : Type 0 where
  pub first : Data
  pub opens : Opens nesting_limit bytes (first ∷ []) rest
  pub told : nodes_of first ≡ Some nodes

-- the parts up to a place were read, which are the nodes and commands
pub record IsReadTo (lib : Library) (g : List Decl) (bytes : List ℕ) (nodes : ℕ) (p : Progress) (rest : List ℕ) : Type 0 where
  pub first : Data
  pub others : List Data
  pub opens : Opens nesting_limit bytes (first ∷ others) rest
  pub told : nodes_of first ≡ Some nodes
  pub read : commands_read lib nodes (opening g) others ≡ Ok p

-- one command more was read
pub record IsNext (lib : Library) (nodes : ℕ) (before : Progress) (bytes : List ℕ) (behind : Progress) (rest : List ℕ) : Type 0 where
  pub tree : Data
  pub spelled : Spells nesting_limit bytes tree rest
  pub read : next_read lib nodes before tree ≡ Ok behind

-- a command of a word, a node and a variable, and what stands behind these
abbrev pub placed : List ℕ → Num → List ℕ → List Data → Data
placed word node var more = array (items_of (string word ∷ number node ∷ string var ∷ more))

-- the same, as it is kept
abbrev pub placed_view : Placed → Data
placed_view p = placed p.word.now (number_view p.node) p.var.now (option_to_list (option_map view p.last))
