-- The tree of bytes, by what reading them answered.
use Rattle.std.proofs.Common.{◌≡◌, refl, List, ℕ, Bool, true, false, Some, None, Err, if◌then◌else◌}
use Rattle.std.specs.Str.{is_utf8, IsUtf8}
use Rattle.std.proofs.lemmas.Str.{is_utf8-from_IsUtf8, IsUtf8-from_is_utf8}
use Rattle.serde_json.specs.Data.{Data}
use Rattle.serde_json.specs.Read.{read}
use Rattle.model_functions.specs.Library.{Library}
use Rattle.model_readings.specs.Tree.{json_of}
use Rattle.model_readings.specs.Graph.{tree_read, graph_of}
use Rattle.model_readings.specs.declared.graph_why.GraphWhy.TheVariants as why

pub json_of-Some : (bytes : List ℕ) (d : Data) → IsUtf8 bytes → read bytes ≡ Some d → json_of bytes ≡ Some d
unfolding json_of
json_of-Some bytes d utf8 e = rw (is_utf8-from_IsUtf8 bytes utf8) e

unread : (bytes : List ℕ) (b : Bool) → is_utf8 bytes ≡ b → (IsUtf8 bytes → read bytes ≡ None) → (if b then read bytes else None) ≡ None
unread bytes true t none = none (IsUtf8-from_is_utf8 bytes t)
unread bytes false t none = refl

pub json_of-None : (bytes : List ℕ) → (IsUtf8 bytes → read bytes ≡ None) → json_of bytes ≡ None
unfolding json_of
json_of-None bytes none = unread bytes _ refl none

pub graph_of-tree : (lib : Library) (bytes : List ℕ) (d : Data) → IsUtf8 bytes → read bytes ≡ Some d → graph_of lib bytes ≡ tree_read lib d
unfolding graph_of
graph_of-tree lib bytes d utf8 e = rw (json_of-Some bytes d utf8 e) refl

pub graph_of-none : (lib : Library) (bytes : List ℕ) → (IsUtf8 bytes → read bytes ≡ None) → graph_of lib bytes ≡ Err (0, why.NotJson)
unfolding graph_of
graph_of-none lib bytes none = rw (json_of-None bytes none) refl

pub ruleset trees = (graph_of-tree, graph_of-none)
