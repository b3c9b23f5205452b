-- What a word comes to, part after part in the order of the checks. Whether there is room for it is asked last, apart.
use Rattle.std.specs.Prelude.{ℕ, ℤ, ◌&&◌, ◌==◌, List, [], ◌∷◌, ◌++◌, Bool, is_none, slice_index_or, Result, Ok}
use Rattle.serde_json.specs.Data.{Data, Num}
use Rattle.serde_json.specs.Find.{as_u64, as_i64}
use Rattle.model_values.specs.Value.{Val}
use Rattle.model_values.specs.Json.{read_value}
use Rattle.model_values.specs.declared.value_why.ValueWhy.{ValueWhy}
use Rattle.model_states.specs.Threshold.{is_counted, has_values, has_rows}
use Rattle.model_functions.specs.Library.{Library}
use Rattle.model_graph.specs.Chain.{◌>>=◌, check, or_else, refusing}
use Rattle.model_graph.specs.Graph.{Kind, Decl, is_source, kind_at}
use Rattle.model_graph.specs.Lawful.{shape_of}
use Rattle.model_readings.specs.Graph.{place_of, decl_read}
use Rattle.model_world.specs.Command as command
use Rattle.model_world.specs.Command.{Until, Command}
use Rattle.model_scripts.specs.declared.script_why.ScriptWhy.{ScriptWhy}
use Rattle.model_scripts.specs.declared.script_why.ScriptWhy.TheVariants as why
use Rattle.model_scripts.specs.Word.{Target, Bound, at_least, above, count, added, removed, Word, add, remove, insert, inc, max, print, mark, bind, send, deliver, sync, settle, read, await, declare}
use Rattle.model_scripts.specs.Progress.{Progress, mark_of}
use Rattle.model_scripts.specs.Parts.{number_below, step_of}
use Rattle.model_scripts.specs.Check.{is_orset, is_gset, is_counter, is_maxreg, has_room}
use Rattle.model_scripts.specs.Script.{why_declared}

-- ---- places

unfoldable pub node_read : ℕ → Num → Result ℕ ScriptWhy
node_read nodes n = or_else (number_below nodes n) why.NoSuchNode

unfoldable pub message_read : ℕ → Num → Result ℕ ScriptWhy
message_read sent n = or_else (number_below sent n) why.NotSent

-- a node and a variable
unfoldable pub place_read : List Decl → ℕ → Target → Result (ℕ × ℕ) ScriptWhy
place_read g nodes t = do
  node ← node_read nodes t.node
  var ← or_else (place_of t.var g) why.UnknownVar
  Ok (node, var)

-- the variable is of a kind that the word works on
abbrev pub kind_checked : (Kind → Bool) → List Decl → ℕ → Result (Unit {0}) ScriptWhy
kind_checked works g x = check (works (kind_at g x)) why.WrongOp

-- ---- what a word brings

abbrev pub why_refused : ValueWhy → ScriptWhy
why_refused e = why.ValueRefused

unfoldable pub value_read : Data → Result Val ScriptWhy
value_read d = refusing why_refused (read_value d)

-- values behind those before them
unfoldable pub values_from : List Val → List Data → Result (List Val) ScriptWhy
values_from before [] = Ok before
values_from before (d ∷ ds) = do
  v ← value_read d
  values_from (before ++ v ∷ []) ds

-- how many more an update counts
unfoldable pub step_read : Num → Result ℕ ScriptWhy
step_read n = or_else (step_of n) why.ValueRefused

-- the number that a register is raised to
unfoldable pub top_read : Num → Result ℤ ScriptWhy
top_read n = or_else (as_i64 n) why.ValueRefused

-- the number that a count has to reach
unfoldable pub count_read : Num → Result ℕ ScriptWhy
count_read n = or_else (as_u64 n) why.ValueRefused

-- a node, a variable of the right kind, and what the update brings
unfoldable pub change_read : {A : Type 0} → (Kind → Bool) → List Decl → ℕ → Target → Result A ScriptWhy → Result (ℕ × ℕ × A) ScriptWhy
change_read works g nodes t payload = do
  place ← place_read g nodes t
  _ ← kind_checked works g place.1
  a ← payload
  Ok (place.0, place.1, a)

abbrev pub change : {A : Type 0} → (ℕ → ℕ → A → Command) → ℕ × ℕ × A → Result Command ScriptWhy
change form c = Ok (form c.0 c.1 c.2)

-- ---- marks

-- a place for a mark of a new name
unfoldable pub mark_read : List Decl → ℕ → List (List ℕ) → Target → List ℕ → Result (ℕ × ℕ) ScriptWhy
mark_read g nodes names t m = do
  place ← place_read g nodes t
  _ ← check (is_none (mark_of m names)) why.MarkTaken
  _ ← kind_checked is_source g place.1
  Ok place

-- a place, and the number of a mark that was made of its variable
unfoldable pub bind_read : List Decl → ℕ → List (List ℕ) → List ℕ → Target → List ℕ → Result (ℕ × ℕ × ℕ) ScriptWhy
bind_read g nodes names marked t m = do
  place ← place_read g nodes t
  number ← or_else (mark_of m names) why.UnknownMark
  _ ← check (is_source (kind_at g place.1) && slice_index_or marked number 0 == place.1) why.WrongOp
  Ok (place.0, place.1, number)

-- the number of a mark that was made of the variable
unfoldable pub marked_read : List (List ℕ) → List ℕ → ℕ → List ℕ → Result ℕ ScriptWhy
marked_read names marked x m = do
  number ← or_else (mark_of m names) why.UnknownMark
  _ ← check (slice_index_or marked number 0 == x) why.WrongOp
  Ok number

-- ---- thresholds

abbrev pub until_read : List Decl → List (List ℕ) → List ℕ → ℕ → Bound → Result Until ScriptWhy
until_read g names marked x (at_least m) = marked_read names marked x m >>= λ number. Ok (command.AtLeast number)
until_read g names marked x (above m) = marked_read names marked x m >>= λ number. Ok (command.Above number)
until_read g names marked x (count k) = kind_checked (λ kind. is_counted (shape_of 1 kind)) g x >>= λ _. count_read k >>= λ n. Ok (command.Count n)
until_read g names marked x (added vs) = kind_checked (λ kind. has_values (shape_of 1 kind)) g x >>= λ _. values_from [] vs >>= λ us. Ok (command.Added us)
until_read g names marked x (removed vs) = kind_checked (λ kind. has_rows (shape_of 1 kind)) g x >>= λ _. values_from [] vs >>= λ us. Ok (command.Removed us)

-- a place, and a threshold that its variable may be asked for
unfoldable pub asked_read : List Decl → ℕ → List (List ℕ) → List ℕ → Target → Bound → Result (ℕ × ℕ × Until) ScriptWhy
asked_read g nodes names marked t b = do
  place ← place_read g nodes t
  until ← until_read g names marked place.1 b
  Ok (place.0, place.1, until)

-- ---- words

-- a declaration against the graph so far
unfoldable pub declared_read : Library → List Decl → Data → Result Decl ScriptWhy
declared_read lib g d = refusing why_declared (decl_read lib g d)

-- the command that a word is
abbrev pub made : Library → ℕ → Progress → Word → Result Command ScriptWhy
made lib nodes p (add t v) = change_read is_orset p.stage.graph nodes t (value_read v) >>= change command.Add
made lib nodes p (remove t v) = change_read is_orset p.stage.graph nodes t (value_read v) >>= change command.Remove
made lib nodes p (insert t v) = change_read is_gset p.stage.graph nodes t (value_read v) >>= change command.Insert
made lib nodes p (inc t k) = change_read is_counter p.stage.graph nodes t (step_read k) >>= change command.Inc
made lib nodes p (max t k) = change_read is_maxreg p.stage.graph nodes t (top_read k) >>= change command.Max
made lib nodes p (print t) = place_read p.stage.graph nodes t >>= λ place. Ok (command.Print place.0 place.1)
made lib nodes p (mark t m) = mark_read p.stage.graph nodes p.names t m >>= λ place. Ok (command.Mark place.0 place.1)
made lib nodes p (bind t m) = bind_read p.stage.graph nodes p.names p.stage.marked t m >>= change command.Bind
made lib nodes p (send n) = node_read nodes n >>= λ node. Ok (command.Send node)
made lib nodes p (deliver n i) = node_read nodes n >>= λ node. message_read p.stage.sent i >>= λ message. Ok (command.Deliver node message)
made lib nodes p sync = Ok command.Sync
made lib nodes p settle = Ok command.Settle
made lib nodes p (read t b) = asked_read p.stage.graph nodes p.names p.stage.marked t b >>= change command.Read
made lib nodes p (await t b) = asked_read p.stage.graph nodes p.names p.stage.marked t b >>= change command.Await
made lib nodes p (declare d) = declared_read lib p.stage.graph d >>= λ decl. Ok (command.Declare decl)

-- the same where there is room for it
abbrev pub roomy : Bool → Result Command ScriptWhy → Result Command ScriptWhy
roomy room made_of = do
  k ← made_of
  _ ← check room why.TooMany
  Ok k

abbrev pub command_read : Library → ℕ → Progress → Word → Result Command ScriptWhy
command_read lib nodes p w = roomy (has_room p w) (made lib nodes p w)
