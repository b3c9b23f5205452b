-- From a status back to the answer that the contents decide.
use Rattle.std.proofs.Common.{refl}
use Rattle.std.specs.Prelude.{◌≡◌, ◌≢◌, ◌⊎◌, ℕ, List, Option, Ok, Err}
use mathlib.Core.Logic.{inl, inr}
use Rattle.model_functions.specs.Library.{Library}
use Rattle.model_graph.specs.Graph.{Decl}
use Rattle.model_world.specs.declared.stop.Stop.{Stop}
use Rattle.model_world.specs.declared.stop.Stop.TheVariants as stop
use Rattle.model_readings.specs.declared.graph_why.GraphWhy.{GraphWhy}
use Rattle.model_scripts.specs.declared.script_why.ScriptWhy.{ScriptWhy}
use Rattle.model_scripts.specs.Progress.{grown}
use Rattle.model_program.specs.Call.{Reading, view_of, DecidesBy, Writes, Begins, IsLacking, IsPlanned}
use Rattle.model_program.specs.Cause.{IsGraphRefused, graph_long, graph_bad, IsScriptRefused, script_long, script_bad, IsFileRefused, file_long, no_message, wrong_graph, source_large, IsDotsRefused, dots_long, dots_bad, HasCause, usage, graph_refused, script_refused, run_stopped, reported, checked, dots_refused, other_word, dots_done, export_refused, no_such_node, export_stopped, exported, file_refused, variable_too_large, merged, delta_refused, delta_stopped, delta_done}
use Rattle.model_program.specs.Ends.{Writing, MeetsFault}
use Rattle.model_program.specs.Line.{refusal_status}
use Rattle.model_program.specs.Plan.{Text, Answer, Plan}
use Rattle.model_program.specs.Program.{form, IsUsageForm, stopped}
use Rattle.model_program.specs.declared.refusal.Refusal.{Refusal}
use Rattle.model_program.specs.declared.refusal.Refusal.TheVariants as refusal
use Rattle.model_program.specs.declared.state_why.StateWhy.{StateWhy}
use Rattle.model_program.proofs.AnswerLaws.{err-same}

-- ---- no cause but one ends as usage

stop-other : (g : List Decl) (halt : Stop) → stopped g halt ≡ refusal.Usage → ⊥
stop-other g (stop.TooLarge command node x) e = absurd cc
stop-other g (stop.NetworkFull command) e = absurd cc
stop-other g (stop.NotReached command) e = absurd cc

graph-other : (lib : Library) (content : List ℕ → Option (List ℕ)) (words : List (List ℕ)) (x : Refusal) → IsGraphRefused lib content words x → x ≡ refusal.Usage → ⊥
graph-other lib content words _ (graph_long is many) e = absurd cc
graph-other lib content words _ (graph_bad file bad) e = absurd cc

script-other : (lib : Library) (content : List ℕ → Option (List ℕ)) (words : List (List ℕ)) (g : List Decl) (x : Refusal) → IsScriptRefused lib content words g x → x ≡ refusal.Usage → ⊥
script-other lib content words g _ (script_long is many) e = absurd cc
script-other lib content words g _ (script_bad file bad) e = absurd cc

dots-other : (lib : Library) (content : List ℕ → Option (List ℕ)) (words : List (List ℕ)) (x : Refusal) → IsDotsRefused lib content words x → x ≡ refusal.Usage → ⊥
dots-other lib content words _ (dots_long is many) e = absurd cc
dots-other lib content words _ (dots_bad file bad) e = absurd cc

file-other : (content : List ℕ → Option (List ℕ)) (words : List (List ℕ)) (g : List Decl) (before : List _) (x : Refusal) → IsFileRefused content words g before x → x ≡ refusal.Usage → ⊥
file-other content words g before _ (file_long is many) e = absurd cc
file-other content words g before _ (no_message file bad) e = absurd cc
file-other content words g before _ (wrong_graph file good wrong) e = absurd cc
file-other content words g before _ (source_large file good graph nodes large) e = absurd cc

pub usage-form : (lib : Library) (content : List ℕ → Option (List ℕ)) (words : List (List ℕ)) (a : Answer) → HasCause lib content words a → a ≡ Err refusal.Usage → IsUsageForm (form words)
usage-form lib content words _ (usage is) e = is
usage-form lib content words _ (graph_refused {x = x} right h) e = absurd (graph-other lib content words x h (err-same x refusal.Usage e))
usage-form lib content words _ (script_refused {g = g} {x = x} is graph h) e = absurd (script-other lib content words g x h (err-same x refusal.Usage e))
usage-form lib content words _ (run_stopped {g = g} {s = s} {halt = halt} is graph script ends) e = absurd (stop-other (grown g s.commands) halt (err-same (stopped (grown g s.commands) halt) refusal.Usage e))
usage-form lib content words _ (reported is graph script ends) e = absurd cc
usage-form lib content words _ (delta_refused {g = g} {x = x} is graph h) e = absurd (script-other lib content words g x h (err-same x refusal.Usage e))
usage-form lib content words _ (delta_stopped {g = g} {s = s} {halt = halt} is graph script ends) e = absurd (stop-other (grown g s.commands) halt (err-same (stopped (grown g s.commands) halt) refusal.Usage e))
usage-form lib content words _ (delta_done is graph script ends) e = absurd cc
usage-form lib content words _ (checked is graph) e = absurd cc
usage-form lib content words _ (dots_refused {x = x} is h) e = absurd (dots-other lib content words x h (err-same x refusal.Usage e))
usage-form lib content words _ (other_word is script first) e = absurd cc
usage-form lib content words _ (dots_done is script known) e = absurd cc
usage-form lib content words _ (export_refused {g = g} {x = x} is graph h) e = absurd (script-other lib content words g x h (err-same x refusal.Usage e))
usage-form lib content words _ (no_such_node is graph script low) e = absurd cc
usage-form lib content words _ (export_stopped {g = g} {s = s} {halt = halt} is graph script has ends) e = absurd (stop-other (grown g s.commands) halt (err-same (stopped (grown g s.commands) halt) refusal.Usage e))
usage-form lib content words _ (exported is graph script has ends) e = absurd cc
usage-form lib content words _ (file_refused {g = g} {before = before} {x = x} is graph there within h) e = absurd (file-other content words g before x h (err-same x refusal.Usage e))
usage-form lib content words _ (variable_too_large is graph there end large) e = absurd cc
usage-form lib content words _ (merged is graph there end small) e = absurd cc

-- ---- statuses

-- the statuses of refusals alone
abbrev IsOther : ℕ → Type 0
IsOther status = (status ≢ 0) × (status ≢ 4) × (status ≢ 5) × (status ≢ 7)

module _ {N : Type 0} (p : Plan) (words : List (List ℕ)) (files : Reading N) (out err : Writing) where
  -- what is said of a text, and of a refusal
  abbrev OfText : ℕ → Text → Type 0
  OfText status text = ((status ≡ 0) × Writes out text) ⊎ (((status ≡ 5) × Begins out text) ⊎ IsLacking p words (view_of files) status)

  abbrev OfRefusal : ℕ → Refusal → Type 0
  OfRefusal status x = (status ≡ refusal_status x) ⊎ IsLacking p words (view_of files) status

  lacking-other : (status : ℕ) → IsOther status → IsLacking p words (view_of files) status → ⊥
  lacking-other status h (inl seven) = h.3 seven
  lacking-other status h (inr (four, fault)) = h.1 four

  text-other : (status : ℕ) (text : Text) → IsOther status → OfText status text → ⊥
  text-other status text h (inl (done, writes)) = h.0 done
  text-other status text h (inr (inl (fault, begins))) = h.2 fault
  text-other status text h (inr (inr lacks)) = lacking-other status h lacks

  own-status : (status : ℕ) (x : Refusal) → IsOther status → OfRefusal status x → status ≡ refusal_status x
  own-status status x h (inl own) = own
  own-status status x h (inr lacks) = absurd (lacking-other status h lacks)

  -- a status of refusals alone is that of the refusal
  refusal-of : (status : ℕ) (a : Answer) → IsOther status → IsPlanned p words files out err status → DecidesBy p words (view_of files) a → (x : Refusal) × (a ≡ Err x) × (status ≡ refusal_status x)
  refusal-of status (Ok text) h all decides = absurd (text-other status text h (all.written text decides))
  refusal-of status (Err x) h all decides = (x, refl, own-status status x h (all.refused x decides))

  abbrev Told : ℕ → Answer → Type 0
  Told status a = (x : Refusal) × (a ≡ Err x) × (status ≡ refusal_status x)

  as-usage : (a : Answer) → Told 1 a → a ≡ Err refusal.Usage
  as-usage a (refusal.Usage, is, e) = is
  as-usage a (refusal.Graph number why, is, e) = absurd cc
  as-usage a (refusal.Script number why, is, e) = absurd cc
  as-usage a (refusal.NotDots number, is, e) = absurd cc
  as-usage a (refusal.NotLive number, is, e) = absurd cc
  as-usage a (refusal.TooLong f, is, e) = absurd cc
  as-usage a (refusal.TooLarge command node name, is, e) = absurd cc
  as-usage a (refusal.NetworkFull command, is, e) = absurd cc
  as-usage a (refusal.NotReached command, is, e) = absurd cc
  as-usage a (refusal.State f place why, is, e) = absurd cc

  as-graph : (a : Answer) → Told 2 a → (number : ℕ) × (why : GraphWhy) × (a ≡ Err (refusal.Graph number why))
  as-graph a (refusal.Usage, is, e) = absurd cc
  as-graph a (refusal.Graph number why, is, e) = (number, why, is)
  as-graph a (refusal.Script number why, is, e) = absurd cc
  as-graph a (refusal.NotDots number, is, e) = absurd cc
  as-graph a (refusal.NotLive number, is, e) = absurd cc
  as-graph a (refusal.TooLong f, is, e) = absurd cc
  as-graph a (refusal.TooLarge command node name, is, e) = absurd cc
  as-graph a (refusal.NetworkFull command, is, e) = absurd cc
  as-graph a (refusal.NotReached command, is, e) = absurd cc
  as-graph a (refusal.State f place why, is, e) = absurd cc

  as-script : (a : Answer) → Told 3 a → ((number : ℕ) × (why : ScriptWhy) × (a ≡ Err (refusal.Script number why))) ⊎ (((number : ℕ) × (a ≡ Err (refusal.NotDots number))) ⊎ ((number : ℕ) × (a ≡ Err (refusal.NotLive number))))
  as-script a (refusal.Usage, is, e) = absurd cc
  as-script a (refusal.Graph number why, is, e) = absurd cc
  as-script a (refusal.Script number why, is, e) = inl (number, why, is)
  as-script a (refusal.NotDots number, is, e) = inr (inl (number, is))
  as-script a (refusal.NotLive number, is, e) = inr (inr (number, is))
  as-script a (refusal.TooLong f, is, e) = absurd cc
  as-script a (refusal.TooLarge command node name, is, e) = absurd cc
  as-script a (refusal.NetworkFull command, is, e) = absurd cc
  as-script a (refusal.NotReached command, is, e) = absurd cc
  as-script a (refusal.State f place why, is, e) = absurd cc

  as-limit : (a : Answer) → Told 6 a → ((command : ℕ) × (node : ℕ) × (name : List ℕ) × (a ≡ Err (refusal.TooLarge command node name))) ⊎ ((command : ℕ) × (a ≡ Err (refusal.NetworkFull command)))
  as-limit a (refusal.Usage, is, e) = absurd cc
  as-limit a (refusal.Graph number why, is, e) = absurd cc
  as-limit a (refusal.Script number why, is, e) = absurd cc
  as-limit a (refusal.NotDots number, is, e) = absurd cc
  as-limit a (refusal.NotLive number, is, e) = absurd cc
  as-limit a (refusal.TooLong f, is, e) = absurd cc
  as-limit a (refusal.TooLarge command node name, is, e) = inl (command, node, name, is)
  as-limit a (refusal.NetworkFull command, is, e) = inr (command, is)
  as-limit a (refusal.NotReached command, is, e) = absurd cc
  as-limit a (refusal.State f place why, is, e) = absurd cc

  as-unreached : (a : Answer) → Told 8 a → (command : ℕ) × (a ≡ Err (refusal.NotReached command))
  as-unreached a (refusal.Usage, is, e) = absurd cc
  as-unreached a (refusal.Graph number why, is, e) = absurd cc
  as-unreached a (refusal.Script number why, is, e) = absurd cc
  as-unreached a (refusal.NotDots number, is, e) = absurd cc
  as-unreached a (refusal.NotLive number, is, e) = absurd cc
  as-unreached a (refusal.TooLong f, is, e) = absurd cc
  as-unreached a (refusal.TooLarge command node name, is, e) = absurd cc
  as-unreached a (refusal.NetworkFull command, is, e) = absurd cc
  as-unreached a (refusal.NotReached command, is, e) = (command, is)
  as-unreached a (refusal.State f place why, is, e) = absurd cc

  as-state : (a : Answer) → Told 9 a → (f : ℕ) × (place : ℕ) × (why : StateWhy) × (a ≡ Err (refusal.State f place why))
  as-state a (refusal.Usage, is, e) = absurd cc
  as-state a (refusal.Graph number why, is, e) = absurd cc
  as-state a (refusal.Script number why, is, e) = absurd cc
  as-state a (refusal.NotDots number, is, e) = absurd cc
  as-state a (refusal.NotLive number, is, e) = absurd cc
  as-state a (refusal.TooLong f, is, e) = absurd cc
  as-state a (refusal.TooLarge command node name, is, e) = absurd cc
  as-state a (refusal.NetworkFull command, is, e) = absurd cc
  as-state a (refusal.NotReached command, is, e) = absurd cc
  as-state a (refusal.State f place why, is, e) = (f, place, why, is)

  as-long : (a : Answer) (x : Refusal) → a ≡ Err x → 4 ≡ refusal_status x → (f : ℕ) × (a ≡ Err (refusal.TooLong f))
  as-long a refusal.Usage is e = absurd cc
  as-long a (refusal.Graph number why) is e = absurd cc
  as-long a (refusal.Script number why) is e = absurd cc
  as-long a (refusal.NotDots number) is e = absurd cc
  as-long a (refusal.NotLive number) is e = absurd cc
  as-long a (refusal.TooLong f) is e = (f, is)
  as-long a (refusal.TooLarge command node name) is e = absurd cc
  as-long a (refusal.NetworkFull command) is e = absurd cc
  as-long a (refusal.NotReached command) is e = absurd cc
  as-long a (refusal.State f place why) is e = absurd cc

  abbrev All : ℕ → Type 0
  All status = IsPlanned p words files out err status

  pub done-text : (a : Answer) → All 0 → DecidesBy p words (view_of files) a → (text : Text) × (a ≡ Ok text) × Writes out text
  done-text (Ok text) all decides = (text, refl, written (all.written text decides)) where
    written : OfText 0 text → Writes out text
    written (inl (done, writes)) = writes
    written (inr (inl (fault, begins))) = absurd cc
    written (inr (inr (inl seven))) = absurd cc
    written (inr (inr (inr (four, fault)))) = absurd cc
  done-text (Err x) all decides = absurd (none x (all.refused x decides)) where
    none : (x : Refusal) → OfRefusal 0 x → ⊥
    none refusal.Usage (inl e) = cc
    none (refusal.Graph number why) (inl e) = cc
    none (refusal.Script number why) (inl e) = cc
    none (refusal.NotDots number) (inl e) = cc
    none (refusal.NotLive number) (inl e) = cc
    none (refusal.TooLong f) (inl e) = cc
    none (refusal.TooLarge command node name) (inl e) = cc
    none (refusal.NetworkFull command) (inl e) = cc
    none (refusal.NotReached command) (inl e) = cc
    none (refusal.State f place why) (inl e) = cc
    none x (inr (inl seven)) = cc
    none x (inr (inr (four, fault))) = cc

  pub fault-text : (a : Answer) → All 5 → DecidesBy p words (view_of files) a → (text : Text) × (a ≡ Ok text) × Begins out text
  fault-text (Ok text) all decides = (text, refl, begun (all.written text decides)) where
    begun : OfText 5 text → Begins out text
    begun (inl (done, writes)) = absurd cc
    begun (inr (inl (fault, begins))) = begins
    begun (inr (inr (inl seven))) = absurd cc
    begun (inr (inr (inr (four, fault)))) = absurd cc
  fault-text (Err x) all decides = absurd (none x (all.refused x decides)) where
    none : (x : Refusal) → OfRefusal 5 x → ⊥
    none refusal.Usage (inl e) = cc
    none (refusal.Graph number why) (inl e) = cc
    none (refusal.Script number why) (inl e) = cc
    none (refusal.NotDots number) (inl e) = cc
    none (refusal.NotLive number) (inl e) = cc
    none (refusal.TooLong f) (inl e) = cc
    none (refusal.TooLarge command node name) (inl e) = cc
    none (refusal.NetworkFull command) (inl e) = cc
    none (refusal.NotReached command) (inl e) = cc
    none (refusal.State f place why) (inl e) = cc
    none x (inr (inl seven)) = cc
    none x (inr (inr (four, fault))) = cc

  pub long-file : (a : Answer) → All 4 → DecidesBy p words (view_of files) a → ((f : ℕ) × (a ≡ Err (refusal.TooLong f))) ⊎ MeetsFault words (view_of files) p
  long-file (Ok text) all decides = inr (met (all.written text decides)) where
    met : OfText 4 text → MeetsFault words (view_of files) p
    met (inl (done, writes)) = absurd cc
    met (inr (inl (fault, begins))) = absurd cc
    met (inr (inr (inl seven))) = absurd cc
    met (inr (inr (inr (four, fault)))) = fault
  long-file (Err x) all decides = told (all.refused x decides) where
    told : OfRefusal 4 x → ((f : ℕ) × (◌≡◌ {A = Answer} (Err x) (Err (refusal.TooLong f)))) ⊎ MeetsFault words (view_of files) p
    told (inl own) = inl (as-long (Err x) x refl own)
    told (inr (inl seven)) = absurd cc
    told (inr (inr (four, fault))) = inr fault

  pub usage-told : (a : Answer) → All 1 → DecidesBy p words (view_of files) a → a ≡ Err refusal.Usage
  usage-told a all decides = as-usage a (refusal-of 1 a (λ e. cc, λ e. cc, λ e. cc, λ e. cc) all decides)

  pub graph-told : (a : Answer) → All 2 → DecidesBy p words (view_of files) a → (number : ℕ) × (why : GraphWhy) × (a ≡ Err (refusal.Graph number why))
  graph-told a all decides = as-graph a (refusal-of 2 a (λ e. cc, λ e. cc, λ e. cc, λ e. cc) all decides)

  pub script-told : (a : Answer) → All 3 → DecidesBy p words (view_of files) a → ((number : ℕ) × (why : ScriptWhy) × (a ≡ Err (refusal.Script number why))) ⊎ (((number : ℕ) × (a ≡ Err (refusal.NotDots number))) ⊎ ((number : ℕ) × (a ≡ Err (refusal.NotLive number))))
  script-told a all decides = as-script a (refusal-of 3 a (λ e. cc, λ e. cc, λ e. cc, λ e. cc) all decides)

  pub limit-told : (a : Answer) → All 6 → DecidesBy p words (view_of files) a
      → ((command : ℕ) × (node : ℕ) × (name : List ℕ) × (a ≡ Err (refusal.TooLarge command node name))) ⊎ ((command : ℕ) × (a ≡ Err (refusal.NetworkFull command)))
  limit-told a all decides = as-limit a (refusal-of 6 a (λ e. cc, λ e. cc, λ e. cc, λ e. cc) all decides)

  pub unreached-told : (a : Answer) → All 8 → DecidesBy p words (view_of files) a → (command : ℕ) × (a ≡ Err (refusal.NotReached command))
  unreached-told a all decides = as-unreached a (refusal-of 8 a (λ e. cc, λ e. cc, λ e. cc, λ e. cc) all decides)

  pub state-told : (a : Answer) → All 9 → DecidesBy p words (view_of files) a → (f : ℕ) × (place : ℕ) × (why : StateWhy) × (a ≡ Err (refusal.State f place why))
  state-told a all decides = as-state a (refusal-of 9 a (λ e. cc, λ e. cc, λ e. cc, λ e. cc) all decides)
