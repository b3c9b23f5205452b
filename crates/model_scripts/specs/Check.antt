-- The checks of a command, each by itself, and their table.
use Rattle.std.specs.Prelude.{ℕ, ◌&&◌, ◌==◌, nat_lt, List, [], ◌∷◌, length, filter, Bool, true, false, Option, Some, None, is_some, is_none, Result, Ok, is_ok}
use Rattle.std.specs.List.{list_all}
use Rattle.serde_json.specs.Data.{Data, Num}
use Rattle.serde_json.specs.Find.{as_u64, as_i64}
use Rattle.model_values.specs.Json.{read_value}
use Rattle.model_states.specs.Threshold.{is_counted, has_values, has_rows}
use Rattle.model_graph.specs.Chain.{◌>>=◌, check}
use Rattle.model_graph.specs.Graph.{Kind, OrSet, GSet, Counter, MaxReg, Decl, is_source}
use Rattle.model_graph.specs.Lawful.{shape_of, variable_limit}
use Rattle.model_readings.specs.Graph.{place_of}
use Rattle.model_world.specs.Command.{Command}
use Rattle.model_world.specs.Lawful.{mark_limit, read_limit, is_mark, is_read}
use Rattle.model_scripts.specs.declared.script_why.ScriptWhy.{ScriptWhy}
use Rattle.model_scripts.specs.declared.script_why.ScriptWhy.TheVariants as why
use Rattle.model_scripts.specs.Word.{Target, Bound, at_least, above, count, added, removed, Word, add, remove, insert, inc, max, print, mark, bind, send, deliver, sync, settle, read, await, declare}
use Rattle.model_scripts.specs.Progress.{Progress, next_number, mark_of, place_at, kind_in, marked_at}
use Rattle.model_scripts.specs.Parts.{number_below, step_of}

-- how many commands a script may have, with the one that tells the nodes
abbrev pub command_limit : ℕ
command_limit = 100000

abbrev pub is_orset : Kind → Bool
is_orset OrSet = true
is_orset _ = false

abbrev pub is_gset : Kind → Bool
is_gset GSet = true
is_gset _ = false

abbrev pub is_counter : Kind → Bool
is_counter Counter = true
is_counter _ = false

abbrev pub is_maxreg : Kind → Bool
is_maxreg MaxReg = true
is_maxreg _ = false

-- the number that is to be a node's
abbrev pub node_in : Word → Option Num
node_in (add t v) = Some t.node
node_in (remove t v) = Some t.node
node_in (insert t v) = Some t.node
node_in (inc t k) = Some t.node
node_in (max t k) = Some t.node
node_in (print t) = Some t.node
node_in (mark t m) = Some t.node
node_in (bind t m) = Some t.node
node_in (send n) = Some n
node_in (deliver n i) = Some n
node_in sync = None
node_in settle = None
node_in (read t b) = Some t.node
node_in (await t b) = Some t.node
node_in (declare d) = None

-- the name that is to be a variable's
abbrev pub var_in : Word → Option (List ℕ)
var_in (add t v) = Some t.var
var_in (remove t v) = Some t.var
var_in (insert t v) = Some t.var
var_in (inc t k) = Some t.var
var_in (max t k) = Some t.var
var_in (print t) = Some t.var
var_in (mark t m) = Some t.var
var_in (bind t m) = Some t.var
var_in (send n) = None
var_in (deliver n i) = None
var_in sync = None
var_in settle = None
var_in (read t b) = Some t.var
var_in (await t b) = Some t.var
var_in (declare d) = None

abbrev pub mark_in_bound : Bound → Option (List ℕ)
mark_in_bound (at_least m) = Some m
mark_in_bound (above m) = Some m
mark_in_bound (count k) = None
mark_in_bound (added vs) = None
mark_in_bound (removed vs) = None

-- the name that is to be a mark's
abbrev pub mark_in : Word → Option (List ℕ)
mark_in (bind t m) = Some m
mark_in (read t b) = mark_in_bound b
mark_in (await t b) = mark_in_bound b
mark_in _ = None

-- the name that is to be a new mark's
abbrev pub new_mark_in : Word → Option (List ℕ)
new_mark_in (mark t m) = Some m
new_mark_in _ = None

-- the number that is to be a message's
abbrev pub message_in : Word → Option Num
message_in (deliver n i) = Some i
message_in _ = None

-- what is there, if anything, passes the test
abbrev pub holds : {A : Type 0} → (A → Bool) → Option A → Bool
holds test None = true
holds test (Some x) = test x

abbrev pub has_node : ℕ → Word → Bool
has_node nodes w = holds (λ n. is_some (number_below nodes n)) (node_in w)

abbrev pub has_var : List Decl → Word → Bool
has_var g w = holds (λ x. is_some (place_of x g)) (var_in w)

abbrev pub has_mark : List (List ℕ) → Word → Bool
has_mark names w = holds (λ m. is_some (mark_of m names)) (mark_in w)

abbrev pub has_new_mark : List (List ℕ) → Word → Bool
has_new_mark names w = holds (λ m. is_none (mark_of m names)) (new_mark_in w)

abbrev pub was_sent : ℕ → Word → Bool
was_sent sent w = holds (λ i. is_some (number_below sent i)) (message_in w)

-- the mark was made of the target's variable
abbrev pub is_mark_of : Progress → Target → List ℕ → Bool
is_mark_of p t m = marked_at p m == place_at p.stage.graph t

-- the threshold suits the target's variable
abbrev pub suits_bound : ℕ → Progress → Target → Bound → Bool
suits_bound nodes p t (at_least m) = is_mark_of p t m
suits_bound nodes p t (above m) = is_mark_of p t m
suits_bound nodes p t (count k) = is_counted (shape_of nodes (kind_in p.stage.graph t))
suits_bound nodes p t (added vs) = has_values (shape_of nodes (kind_in p.stage.graph t))
suits_bound nodes p t (removed vs) = has_rows (shape_of nodes (kind_in p.stage.graph t))

-- the variable is one that the word works on
abbrev pub is_right : ℕ → Progress → Word → Bool
is_right nodes p (add t v) = is_orset (kind_in p.stage.graph t)
is_right nodes p (remove t v) = is_orset (kind_in p.stage.graph t)
is_right nodes p (insert t v) = is_gset (kind_in p.stage.graph t)
is_right nodes p (inc t k) = is_counter (kind_in p.stage.graph t)
is_right nodes p (max t k) = is_maxreg (kind_in p.stage.graph t)
is_right nodes p (mark t m) = is_source (kind_in p.stage.graph t)
is_right nodes p (bind t m) = is_source (kind_in p.stage.graph t) && is_mark_of p t m
is_right nodes p (read t b) = suits_bound nodes p t b
is_right nodes p (await t b) = suits_bound nodes p t b
is_right nodes p _ = true

abbrev pub is_value : Data → Bool
is_value d = is_ok (read_value d)

abbrev pub is_brought_bound : Bound → Bool
is_brought_bound (at_least m) = true
is_brought_bound (above m) = true
is_brought_bound (count k) = is_some (as_u64 k)
is_brought_bound (added vs) = list_all is_value vs
is_brought_bound (removed vs) = list_all is_value vs

-- the values are some, and the numbers are in their ranges
abbrev pub is_brought : Word → Bool
is_brought (add t v) = is_value v
is_brought (remove t v) = is_value v
is_brought (insert t v) = is_value v
is_brought (inc t k) = is_some (step_of k)
is_brought (max t k) = is_some (as_i64 k)
is_brought (read t b) = is_brought_bound b
is_brought (await t b) = is_brought_bound b
is_brought _ = true

-- how many of the commands pass a test
abbrev pub count_of : (Command → Bool) → Progress → ℕ
count_of test p = length (filter test p.commands)

-- marks, reads and variables are not too many before it
abbrev pub has_room_beside : Progress → Word → Bool
has_room_beside p (mark t m) = nat_lt (count_of is_mark p) mark_limit
has_room_beside p (read t b) = nat_lt (count_of is_read p) read_limit
has_room_beside p (declare d) = nat_lt (length p.stage.graph) variable_limit
has_room_beside p _ = true

abbrev pub has_room : Progress → Word → Bool
has_room p w = nat_lt (next_number p) command_limit && has_room_beside p w

-- the table of the checks, in their order
abbrev pub checks : ℕ → Progress → Word → List (Bool × ScriptWhy)
checks nodes p w =
    (has_node nodes w, why.NoSuchNode)
    ∷ (has_var p.stage.graph w, why.UnknownVar)
    ∷ (has_mark p.names w, why.UnknownMark)
    ∷ (has_new_mark p.names w, why.MarkTaken)
    ∷ (is_right nodes p w, why.WrongOp)
    ∷ (is_brought w, why.ValueRefused)
    ∷ (was_sent p.stage.sent w, why.NotSent)
    ∷ (has_room p w, why.TooMany)
    ∷ []

-- the first check of a table that doesn't pass tells the refusal
abbrev pub all_checked : {E : Type 0} → List (Bool × E) → Result (Unit {0}) E
all_checked [] = Ok tt
all_checked (c ∷ cs) = check c.0 c.1 >>= λ _. all_checked cs
