-- What the parts of a word stand for.
use Rattle.std.specs.Prelude.{ℕ, pos, ◌&&◌, nat_lt, nat_le, List, map, if◌then◌else◌, Option, Some, None, option_and_then, unwrap_or}
use Rattle.std.specs.Result.{result_unwrap_or}
use Rattle.serde_json.specs.Data.{Data, Num}
use Rattle.serde_json.specs.Find.{as_u64, as_i64}
use Rattle.model_values.specs.Value.{Val, int}
use Rattle.model_values.specs.Json.{read_value}
use Rattle.model_functions.specs.Library.{Library}
use Rattle.model_graph.specs.Graph.{Decl, no_decl}
use Rattle.model_readings.specs.Graph.{decl_read}
use Rattle.model_world.specs.Command as command
use Rattle.model_world.specs.Command.{Until, Command}
use Rattle.model_scripts.specs.Word.{Bound, at_least, above, count, added, removed, Word, add, remove, insert, inc, max, print, mark, bind, send, deliver, sync, settle, read, await, declare}
use Rattle.model_scripts.specs.Progress.{Progress, mark_at, place_at}

abbrev pub below : ℕ → ℕ → Option ℕ
below limit n = if nat_lt n limit then Some n else None

-- the number of a node or a message, of which there are so many
unfoldable pub number_below : ℕ → Num → Option ℕ
number_below limit n = option_and_then (below limit) (as_u64 n)

-- the most that one update counts
abbrev pub step_limit : ℕ
step_limit = 4294967295

abbrev pub in_steps : ℕ → Option ℕ
in_steps n = if nat_le 1 n && nat_le n step_limit then Some n else None

-- how many more an update counts
unfoldable pub step_of : Num → Option ℕ
step_of n = option_and_then in_steps (as_u64 n)

-- the number that a word names, or 0
abbrev pub index_below : ℕ → Num → ℕ
index_below limit n = unwrap_or (number_below limit n) 0

-- the value that a tree stands for; 0 where it stands for none
abbrev pub value_of : Data → Val
value_of d = result_unwrap_or (read_value d) (int (pos 0))

-- the threshold, by the number of its mark
abbrev pub until_of : Progress → Bound → Until
until_of p (at_least m) = command.AtLeast (mark_at p.names m)
until_of p (above m) = command.Above (mark_at p.names m)
until_of p (count k) = command.Count (unwrap_or (as_u64 k) 0)
until_of p (added vs) = command.Added (map value_of vs)
until_of p (removed vs) = command.Removed (map value_of vs)

-- the declaration of a tree; past them all where it is none
abbrev pub decl_of : Library → List Decl → Data → Decl
decl_of lib g d = result_unwrap_or (decl_read lib g d) no_decl

-- the command that a word is, where each of its parts stands for something
abbrev pub command_of : Library → ℕ → Progress → Word → Command
command_of lib nodes p (add t v) = command.Add (index_below nodes t.node) (place_at p.stage.graph t) (value_of v)
command_of lib nodes p (remove t v) = command.Remove (index_below nodes t.node) (place_at p.stage.graph t) (value_of v)
command_of lib nodes p (insert t v) = command.Insert (index_below nodes t.node) (place_at p.stage.graph t) (value_of v)
command_of lib nodes p (inc t k) = command.Inc (index_below nodes t.node) (place_at p.stage.graph t) (unwrap_or (step_of k) 0)
command_of lib nodes p (max t k) = command.Max (index_below nodes t.node) (place_at p.stage.graph t) (unwrap_or (as_i64 k) (pos 0))
command_of lib nodes p (print t) = command.Print (index_below nodes t.node) (place_at p.stage.graph t)
command_of lib nodes p (mark t m) = command.Mark (index_below nodes t.node) (place_at p.stage.graph t)
command_of lib nodes p (bind t m) = command.Bind (index_below nodes t.node) (place_at p.stage.graph t) (mark_at p.names m)
command_of lib nodes p (send n) = command.Send (index_below nodes n)
command_of lib nodes p (deliver n i) = command.Deliver (index_below nodes n) (index_below p.stage.sent i)
command_of lib nodes p sync = command.Sync
command_of lib nodes p settle = command.Settle
command_of lib nodes p (read t b) = command.Read (index_below nodes t.node) (place_at p.stage.graph t) (until_of p b)
command_of lib nodes p (await t b) = command.Await (index_below nodes t.node) (place_at p.stage.graph t) (until_of p b)
command_of lib nodes p (declare d) = command.Declare (decl_of lib p.stage.graph d)
