-- A site: which plan its words stand for. The words are GRAPH, NODE, STATE, SCRIPT and the names of 0 to 8 files.
use Rattle.std.specs.Prelude.{ℕ, ◌+◌, ◌-◌, zero, suc, ◌&&◌, nat_lt, if◌then◌else◌, List, length, Option, Some, None, Result, Ok, Err}
use Rattle.model_functions.specs.Library.{Library}
use Rattle.model_graph.specs.Chain.{◌>>=◌, check}
use Rattle.model_graph.specs.Graph.{Decl}
use Rattle.model_graph.specs.Spelling.{spelled}
use Rattle.model_readings.specs.Graph.{graph_of}
use Rattle.model_readings.specs.declared.graph_why.GraphWhy.{GraphWhy}
use Rattle.model_scripts.specs.Script.{script_of}
use Rattle.model_scripts.specs.declared.script_why.ScriptWhy.{ScriptWhy}
use Rattle.model_scripts.specs.declared.script_why.ScriptWhy.TheVariants.{NoSuchNode}
use Rattle.model_world.specs.Command.{Script}
use Rattle.model_world.specs.World.{Peer, fresh_peer, message_at}
use Rattle.model_program.specs.Plan.{word_at}
use Rattle.model_program.specs.Program as program
use Rattle.model_program.specs.Program.{node_word}
use Rattle.model_program.specs.declared.refusal.Refusal.TheVariants as shared
use Rattle.model_site.specs.Plan.{Plan, Says, checked, given, reading}
use Rattle.model_site.specs.Site.{first_other, state_taken, file_taken, updates_done, shown_checked}
use Rattle.model_site.specs.declared.site_refusal.SiteRefusal.{SiteRefusal}
use Rattle.model_site.specs.declared.site_refusal.SiteRefusal.TheVariants.{Shared, NotLocal}

-- ---- the words

-- the places of the names among the words
abbrev pub graph_file : ℕ
graph_file = 0

abbrev pub state_file : ℕ
state_file = 2

abbrev pub script_file : ℕ
script_file = 3

abbrev pub first_file : ℕ
first_file = 4

-- the site's number, where the words are of the listed form
unfoldable pub site_of : List (List ℕ) → Option ℕ
site_of words = if nat_lt 3 (length words) && nat_lt (length words) 13 then node_word (word_at words 1) else None

-- ---- the parts of the plan

abbrev pub graph_refused : ℕ × GraphWhy → SiteRefusal
graph_refused e = Shared (program.graph_refused e)

abbrev pub script_refused : ℕ × ScriptWhy → SiteRefusal
script_refused e = Shared (program.script_refused e)

abbrev pub opening : Library → (List Decl → Plan) → Plan
opening lib next = reading graph_file (λ bytes. checked graph_refused (graph_of lib bytes) next)

abbrev pub scripting : Library → List Decl → (Script → Plan) → Plan
scripting lib g next = reading script_file (λ bytes. checked script_refused (script_of lib g bytes) next)

abbrev pub local_refused : Option ℕ → Result (Unit {0}) SiteRefusal
local_refused None = Ok tt
local_refused (Some number) = Err (NotLocal number)

-- whether the script is one of replica p: it has the node, and updates of it alone
abbrev pub is_for : ℕ → Script → Result (Unit {0}) SiteRefusal
is_for p s = do
  _ ← check (nat_lt p s.nodes) (Shared (shared.Script (length s.commands + 1) NoSuchNode))
  local_refused (first_other p 1 s.commands)

-- the replica's own last state, joined into a replica to which nothing has happened
abbrev pub stating : ℕ → List Decl → ℕ → (Peer → Plan) → Plan
stating p g nodes next = reading state_file (λ bytes. given (state_taken p g state_file (fresh_peer g nodes) bytes) next)

-- one state more
abbrev pub filing : ℕ → List Decl → ℕ → Peer → (Peer → Plan) → Plan
filing p g f r next = reading f (λ bytes. given (file_taken p g f r bytes) next)

-- what is written of the replica at command number c: its state, where all that it shows is within the limit
abbrev pub written_state : ℕ → List Decl → ℕ → Peer → Result (List ℕ) SiteRefusal
written_state p g c r = shown_checked p g c r >>= (λ _. Ok (spelled (message_at g r)))

-- what is written of the replica that took all states in: its state after the updates
abbrev pub site_answer : ℕ → List Decl → Script → Peer → Result (List ℕ) SiteRefusal
site_answer p g s r = updates_done p g 1 r s.commands >>= (λ last. written_state p g (length s.commands + 1) last)

-- so many files more, the first of them being file f, and then the updates
unfoldable pub filing_more : ℕ → List Decl → Script → ℕ → ℕ → Peer → Plan
filing_more p g s f zero r = Says (site_answer p g s r)
filing_more p g s f (suc more) r = filing p g f r (λ next. filing_more p g s (f + 1) more next)

-- the state, so many files, and then the updates
abbrev pub taking_in : ℕ → List Decl → Script → ℕ → Plan
taking_in p g s files = stating p g s.nodes (λ r. filing_more p g s first_file files r)

-- the script, whether it is the site's, and then the states
abbrev pub scripted : Library → ℕ → ℕ → List Decl → Plan
scripted lib p files g = scripting lib g (λ s. given (is_for p s) (λ _. taking_in p g s files))

abbrev pub plan_of : Library → ℕ → Option ℕ → Plan
plan_of lib files None = Says (Err (Shared shared.Usage))
plan_of lib files (Some p) = opening lib (scripted lib p files)

-- what a site does with its words, the library being given
abbrev pub plan : Library → List (List ℕ) → Plan
plan lib words = plan_of lib (length words - first_file) (site_of words)
