-- The program: which plan its words stand for.
use Rattle.std.specs.Prelude.{ℕ, ◌+◌, ◌-◌, List, codes, length, if◌then◌else◌, ◌&&◌, ◌==◌, nat_lt, nat_le, Option, Some, None, Result, Ok, Err}
use Rattle.std.specs.Fmt.{decimal}
use Rattle.std.specs.Str.{bytes_eq}
use Rattle.std.specs.Str.Parse.{digits_value}
use Rattle.model_functions.specs.Library.{Library}
use Rattle.model_graph.specs.Graph.{Decl, name_at}
use Rattle.model_graph.specs.Chain.{◌>>=◌, check, refusing}
use Rattle.model_graph.specs.Spelling.{spelled}
use Rattle.model_world.specs.Command.{Script}
use Rattle.model_world.specs.World.{Run, ended, message_at, peer_at}
use Rattle.model_world.specs.Report.{report_of}
use Rattle.model_world.specs.declared.stop.Stop.{Stop}
use Rattle.model_world.specs.declared.stop.Stop.TheVariants as stop
use Rattle.model_readings.specs.Graph.{graph_of}
use Rattle.model_readings.specs.declared.graph_why.GraphWhy.{GraphWhy}
use Rattle.model_scripts.specs.Progress.{grown}
use Rattle.model_scripts.specs.Script.{script_of}
use Rattle.model_scripts.specs.declared.script_why.ScriptWhy.{ScriptWhy}
use Rattle.model_scripts.specs.declared.script_why.ScriptWhy.TheVariants.{NoSuchNode}
use Rattle.model_dots.specs.DotWorld.{one_set}
use Rattle.model_deltas.specs.Gossip.{Gossip, gossiped, gossip_output}
use Rattle.model_program.specs.Check.{check_text}
use Rattle.model_program.specs.Dots.{dots_answer}
use Rattle.model_program.specs.Merge.{merging_files}
use Rattle.model_program.specs.Plan.{Plan, Says, exactly, checked, reading, word_at}
use Rattle.model_program.specs.declared.refusal.Refusal.{Refusal}
use Rattle.model_program.specs.declared.refusal.Refusal.TheVariants as refusal
use Rattle.model_program.specs.declared.form.Form.{Form}
use Rattle.model_program.specs.declared.form.Form.TheVariants.{Plain, Delta, Check, Dots, Export, Merge, Threaded, Wrong}
use Rattle.model_program.specs.declared.threaded.Threaded as threads
use Rattle.model_program.specs.declared.threaded.Threaded.TheVariants as threaded

abbrev pub graph_refused : ℕ × GraphWhy → Refusal
graph_refused e = refusal.Graph e.0 e.1

abbrev pub script_refused : ℕ × ScriptWhy → Refusal
script_refused e = refusal.Script e.0 e.1

-- the number, where it is from these bounds and the word is its spelling
abbrev pub spelled_in : List ℕ → ℕ → ℕ → ℕ → Option ℕ
spelled_in word least most number = if nat_le least number && nat_le number most && bytes_eq word (decimal number) then Some number else None

-- the number from these bounds that the word spells in decimal digits without a leading zero
abbrev pub number_in : List ℕ → ℕ → ℕ → Option ℕ
number_in word least most = spelled_in word least most (digits_value 10 word)

-- a node's number, 0 to 7
abbrev pub node_word : List ℕ → Option ℕ
node_word word = number_in word 0 7

abbrev pub export_form : Option ℕ → Form
export_form (Some node) = Export node
export_form None = Wrong

-- how many workers, 1 to 16
abbrev pub workers_word : List ℕ → Option ℕ
workers_word word = number_in word 1 16

abbrev pub with_workers : (ℕ → threads.Threaded) → Option ℕ → Form
with_workers make (Some workers) = Threaded (make workers)
with_workers make None = Wrong

abbrev pub load_form : Option ℕ → Option ℕ → Option ℕ → Form
load_form (Some seed) (Some count) workers = with_workers (threaded.Load seed count) workers
load_form (Some seed) None workers = Wrong
load_form None count workers = Wrong

-- which of the forms for several threads four words have
unfoldable pub threaded_form : List (List ℕ) → Form
threaded_form words =
    if bytes_eq (word_at words 0) (codes "run") then with_workers threaded.Run (workers_word (word_at words 3)) else
    if bytes_eq (word_at words 0) (codes "trace") then with_workers threaded.Trace (workers_word (word_at words 3)) else
    if bytes_eq (word_at words 0) (codes "live") then with_workers threaded.Live (workers_word (word_at words 3)) else
    if bytes_eq (word_at words 0) (codes "load") then load_form (number_in (word_at words 1) 0 2147483647) (number_in (word_at words 2) 1 20000) (workers_word (word_at words 3)) else
    Wrong

-- which of the listed forms the words have
unfoldable pub form : List (List ℕ) → Form
form words =
    if length words == 3 && bytes_eq (word_at words 0) (codes "plain") then Plain else
    if length words == 2 && bytes_eq (word_at words 0) (codes "check") then Check else
    if length words == 2 && bytes_eq (word_at words 0) (codes "dots") then Dots else
    if length words == 4 && bytes_eq (word_at words 0) (codes "export") then export_form (node_word (word_at words 3)) else
    if nat_lt 2 (length words) && nat_lt (length words) 11 && bytes_eq (word_at words 0) (codes "merge") then Merge else
    if length words == 4 then threaded_form words else
    if length words == 3 && bytes_eq (word_at words 0) (codes "delta") then Delta else
    Wrong

-- the graph is the second word's file
abbrev pub opening : Library → (List Decl → Plan) → Plan
opening lib next = reading 1 (λ bytes. checked graph_refused (graph_of lib bytes) next)

-- the script is the third word's file, read against the graph
abbrev pub scripting : Library → List Decl → (Script → Plan) → Plan
scripting lib g next = reading 2 (λ bytes. checked script_refused (script_of lib g bytes) next)

-- a stop as a refusal, which tells the variable by its name
abbrev pub stopped : List Decl → Stop → Refusal
stopped g (stop.TooLarge command node x) = refusal.TooLarge command node (name_at g x)
stopped g (stop.NetworkFull command) = refusal.NetworkFull command
stopped g (stop.NotReached command) = refusal.NotReached command

-- what is written of a run's last world; a variable where it stops may be one that the script declares
abbrev pub run_answer : (Run → List ℕ) → List Decl → Script → Result (List ℕ) Refusal
run_answer output g script = refusing (stopped (grown g script.commands)) (ended g script) >>= (λ run. Ok (output run))

-- script, run, and then a text of its last world
abbrev pub running_script : Library → (Run → List ℕ) → List Decl → Plan
running_script lib output g = scripting lib g (λ script. Says (exactly (run_answer output g script)))

-- graph, script, run, and then a text of its last world
abbrev pub running : Library → (Run → List ℕ) → Plan
running lib output = opening lib (λ g. running_script lib output g)

-- what is written where a run by deltas comes to its end, or the refusal where it stops
abbrev pub told_deltas : List Decl → Script → Result Gossip Stop → Result (List ℕ) Refusal
told_deltas g script run = refusing (stopped (grown g script.commands)) run >>= (λ s. Ok (gossip_output s))

-- what is written of a run by deltas: the report of the run, and how it travelled
abbrev pub delta_answer : List Decl → Script → Result (List ℕ) Refusal
delta_answer g script = told_deltas g script (gossiped g script)

-- script, run, and then the report and how it travelled
abbrev pub delta_script : Library → List Decl → Plan
delta_script lib g = scripting lib g (λ script. Says (exactly (delta_answer g script)))

-- graph, script, run, and then the report and how it travelled
abbrev pub running_deltas : Library → Plan
running_deltas lib = opening lib (λ g. delta_script lib g)

-- graph, and then what its variables are
abbrev pub checking : Library → Plan
checking lib = opening lib (λ g. Says (exactly (Ok (check_text g))))

-- the script is the second word's file, read against the graph of one set
abbrev pub dots_scripting : Library → (Script → Plan) → Plan
dots_scripting lib next = reading 1 (λ bytes. checked script_refused (script_of lib one_set bytes) next)

-- script, whether replicas without tombstones know its words, and then what they print, know and keep
abbrev pub running_dots : Library → Plan
running_dots lib = dots_scripting lib (λ script. Says (exactly (dots_answer script)))

-- the bytes of a node's message in the last world
abbrev pub exported_bytes : ℕ → Run → List ℕ
exported_bytes node run = spelled (message_at run.graph (peer_at run.peers node))

-- a script without the node is refused behind its last command
abbrev pub export_answer : ℕ → List Decl → Script → Result (List ℕ) Refusal
export_answer node g script = do
  _ ← check (nat_lt node script.nodes) (refusal.Script (length script.commands + 1) NoSuchNode)
  run_answer (exported_bytes node) g script

-- script, whether it has the node, run, and then the node's message
abbrev pub exporting_script : Library → ℕ → List Decl → Plan
exporting_script lib node g = scripting lib g (λ script. Says (exactly (export_answer node g script)))

-- graph, script, whether it has the node, run, and then the node's message
abbrev pub exporting : Library → ℕ → Plan
exporting lib node = opening lib (λ g. exporting_script lib node g)

-- graph, the first file, so many more, and then what the variables show of them
abbrev pub merging : Library → ℕ → Plan
merging lib more = opening lib (λ g. merging_files g more)

abbrev pub plan_of : Library → List (List ℕ) → Form → Plan
plan_of lib words Plain = running lib report_of
plan_of lib words Delta = running_deltas lib
plan_of lib words Check = checking lib
plan_of lib words Dots = running_dots lib
plan_of lib words (Export node) = exporting lib node
plan_of lib words Merge = merging lib (length words - 3)
plan_of lib words (Threaded threads) = Says (Err refusal.Usage)
plan_of lib words Wrong = Says (Err refusal.Usage)

-- one thread answers words of this form with usage: it is for several threads, or none
abbrev pub IsUsageForm : Form → Type 0
IsUsageForm Plain = ⊥
IsUsageForm Delta = ⊥
IsUsageForm Check = ⊥
IsUsageForm Dots = ⊥
IsUsageForm (Export node) = ⊥
IsUsageForm Merge = ⊥
IsUsageForm (Threaded threads) = Unit {0}
IsUsageForm Wrong = Unit {0}

-- what the program does with its words, the library being given
abbrev pub plan : Library → List (List ℕ) → Plan
plan lib words = plan_of lib words (form words)
