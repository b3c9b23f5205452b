-- A call that followed the plan of a trace or of a load, and ended by its answer, keeps all that is promised of it.
use Rattle.std.proofs.Common.{refl, sym, ap, subst, ◌∙◌}
use Rattle.std.specs.Prelude.{◌≡◌, ◌++◌, ℕ, List, Option, Some, Result, Ok, Err}
use Rattle.model_functions.specs.Library.{Library}
use Rattle.model_graph.specs.Chain.{◌>>=◌, refusing}
use Rattle.model_graph.specs.Graph.{Decl}
use Rattle.model_world.specs.Direct.{direct_report}
use Rattle.model_world.proofs.DirectLaws.{report-direct}
use Rattle.model_journal.specs.Entry.{Entry}
use Rattle.model_program.specs.Generator.{load_graph, load_script}
use Rattle.model_program.specs.Summary.{load_text}
use Rattle.model_readings.specs.Graph.{graph_of}
use Rattle.model_readings.specs.declared.graph_why.GraphWhy.{GraphWhy}
use Rattle.model_scripts.specs.Progress.{grown}
use Rattle.model_scripts.specs.Script.{script_of}
use Rattle.model_scripts.specs.declared.script_why.ScriptWhy.{ScriptWhy}
use Rattle.model_scripts.proofs.Reached.{accepted-script_of}
use Rattle.model_core.specs.Traced.{AreTraced, IsTrace, trace_lines}
use Rattle.model_values.specs.Told.{Appends}
use Rattle.model_world.specs.Command.{Script}
use Rattle.model_world.specs.World.{Run, ended}
use Rattle.model_world.specs.declared.stop.Stop.{Stop}
use Rattle.model_program.specs.Call.{AreUnchanged, AreLater, IsLater, Reading, view_of}
use Rattle.model_program.specs.Ends.{Writing, Ends, Settles}
use Rattle.model_program.specs.Follows.{View, AllowsText, Follows}
use Rattle.model_program.specs.Plan.{Answer, Says, exactly, told_answer}
use Rattle.model_program.specs.Threads.{traced_end, trace_answer, tracing_script, tracing, load_answer, loading}
use Rattle.model_program.specs.Told.{IsGraphTold, IsScriptTold}
use Rattle.model_program.specs.Program.{graph_refused, script_refused, stopped, run_answer}
use Rattle.model_program.specs.Top.{HasTraceCause, graph_refused as trace_graph_refused, script_refused as trace_script_refused, run_stopped as trace_stopped, traced, IsTraceAnswered, HasLoadCause, graph_refused as load_graph_refused, script_refused as load_script_refused, run_stopped as load_stopped, loaded, IsLoadAnswered}
use Rattle.model_program.specs.declared.refusal.Refusal.{Refusal}
use Rattle.model_program.specs.declared.failure.Failure.{Failure}
use Rattle.model_program.proofs.AlikeLaws.{known-places, alike-places}
use Rattle.model_program.proofs.AnswerLaws.{follows-told}
use Rattle.model_program.proofs.BackLaws.{GraphSeen, graph_is_refused, graph_is_read, graph-seen, ScriptSeen, script_is_refused, script_is_read, script-seen, graph-told, script-told, some-same}
use Rattle.model_program.proofs.CauseLaws.{told-answer}
use Rattle.model_program.proofs.DirectLaws.{text-written, failure-ends}
use Rattle.model_program.proofs.PlanCauses.{opening-read, scripting-read}
use Rattle.model_program.proofs.PromiseLaws.{call-planned}

-- ---- `trace`

module _ (lib : Library) (content : List ℕ → Option (List ℕ)) (words : List (List ℕ)) where
  abbrev Found : Type 0
  Found = (b : Answer) × HasTraceCause lib content words b

  run-found : (g : List Decl) (s : Script) → IsGraphTold lib content words g → IsScriptTold lib content words g s → (r : Result Run Stop) → ended g s ≡ r → Found
  run-found g s graph script (Ok run) e = (traced_end g s (Ok run), traced graph script e)
  run-found g s graph script (Err halt) e = (traced_end g s (Err halt), trace_stopped graph script e)

  script-found : (g : List Decl) → IsGraphTold lib content words g → ScriptSeen lib content words g → Found
  script-found g graph (script_is_refused {x = x} h) = (Err x, trace_script_refused graph h)
  script-found g graph (script_is_read s script) = run-found g s graph script (ended g s) refl

  graph-found : (a : Answer) → told_answer content words (tracing lib) ≡ Some a → GraphSeen lib content words → Found
  graph-found a e (graph_is_refused {x = x} h) = (Err x, trace_graph_refused h)
  graph-found a e (graph_is_read g graph) =
      script-found g graph (script-seen lib content words g (λ s. Says (trace_answer g s)) a (sym (opening-read lib content words (λ h. tracing_script lib h) g graph) ∙ e))

  -- the plan over a graph and a script that are told
  pub trace-told : (g : List Decl) (s : Script) → IsGraphTold lib content words g → IsScriptTold lib content words g s → told_answer content words (tracing lib) ≡ Some (trace_answer g s)
  trace-told g s graph script =
      opening-read lib content words (λ h. tracing_script lib h) g graph
      ∙ scripting-read lib content words g (λ k. Says (trace_answer g k)) s script
      ∙ told-answer content words (trace_answer g s) (trace_answer g s) refl

  -- a cause has its answer
  pub trace-caused : (a : Answer) → HasTraceCause lib content words a → told_answer content words (tracing lib) ≡ Some a
  trace-caused _ (trace_graph_refused {x = x} h) = graph-told lib content words (λ g. tracing_script lib g) x h
  trace-caused _ (trace_script_refused {g = g} {x = x} graph h) = opening-read lib content words (λ h. tracing_script lib h) g graph ∙ script-told lib content words g (λ s. Says (trace_answer g s)) x h
  trace-caused _ (trace_stopped {g = g} {s = s} {halt = halt} graph script e) = trace-told g s graph script ∙ ap (λ (r : Result Run Stop). Some (traced_end g s r)) e
  trace-caused _ (traced {g = g} {s = s} {run = run} graph script e) = trace-told g s graph script ∙ ap (λ (r : Result Run Stop). Some (traced_end g s r)) e

  -- an answer has its cause
  pub trace-cause : (a : Answer) → told_answer content words (tracing lib) ≡ Some a → HasTraceCause lib content words a
  trace-cause a e =
      let cause = graph-found a e (graph-seen lib content words (λ g. tracing_script lib g) a e) in
      subst (λ (b : Answer). HasTraceCause lib content words b) (some-same cause.0 a (sym (trace-caused cause.0 cause.1) ∙ e)) cause.1

-- with status 0 a trace was written, whose report is the direct one
abbrev IsWritten : List Decl → Script → Writing → Type 0
IsWritten g script out = (run : Run) × (ended g script ≡ Ok run) × (journals : List (List Entry)) × AreTraced g script run journals × Appends out.before (direct_report g script run ++ trace_lines g script.nodes 0 journals) out.after

trace-direct : (lib : Library) (words : List (List ℕ)) (v : View) (g : List Decl) (script : Script) (answer : Result (List ℕ) Failure) (out err : Writing) (status : ℕ)
    → IsGraphTold lib v.content words g → IsScriptTold lib v.content words g script → Follows words v (tracing lib) answer → Ends words answer out err status → status ≡ 0 → IsWritten g script out
trace-direct lib words v g script answer out err status graph told follows ends done =
    choose answer (follows-told words v (tracing lib) answer (trace_answer g script) follows (trace-told lib v.content words g script graph told)) ends where
      of-run : (run : Run) (text : List ℕ) → ended g script ≡ Ok run → IsTrace g script run text → Appends out.before text out.after → IsWritten g script out
      of-run run text is (journals, are, bytes) written = (
        run,
        is,
        journals,
        are,
        subst (λ (t : List ℕ). Appends out.before t out.after) (bytes ∙ ap (λ (r : List ℕ). r ++ trace_lines g script.nodes 0 journals) (report-direct g script run (accepted-script_of lib g told.bytes script told.read).lawful is)) written,
      )

      by : (r : Result Run Stop) (text : List ℕ) → ended g script ≡ r → AllowsText (traced_end g script r) text → Appends out.before text out.after → IsWritten g script out
      by (Ok run) text is allows written = of-run run text is allows written
      by (Err halt) text is allows written = absurd allows

      choose : (r : Result (List ℕ) Failure) → Settles words v (tracing lib) (trace_answer g script) r → Ends words r out err status → IsWritten g script out
      choose (Ok text) settles written = by (ended g script) text refl settles (text-written words text out err status written done)
      choose (Err failure) settles told = absurd (failure-ends words failure out err status told done)

pub trace-answered : {N : Type 0} (lib : Library) (words : List (List ℕ)) (files : Reading N) (answer : Result (List ℕ) Failure) (out err : Writing) (status : ℕ)
    → AreUnchanged files.content files.before files.after → AreLater files.faults files.before files.after
    → Follows words (view_of files) (tracing lib) answer → IsLater out → IsLater err → Ends words answer out err status → IsTraceAnswered lib words files out err status
trace-answered lib words files answer out err status same later follows out_later err_later ends = record {
  planned = call-planned (tracing lib) words files answer out err status same later follows out_later err_later ends;
  caused = λ a told. trace-cause lib (files.content files.before) words a told;
  direct = λ g script graph told done. trace-direct lib words (view_of files) g script answer out err status graph told follows ends done;
  known = λ g script graph told done. known-places g script;
  alike = λ g script graph told done. alike-places g script;
}

-- ---- `load`

-- the answer by how the run ends, by what the script is read as, and by what the graph is
module _ (lib : Library) (seed count : ℕ) where
  abbrev loaded_end : List Decl → Script → Result Run Stop → Result (List ℕ) Refusal
  loaded_end g s r = refusing (stopped (grown g s.commands)) r >>= λ run. Ok (load_text seed count run)

  abbrev loaded_script : List Decl → Result Script (ℕ × ScriptWhy) → Result (List ℕ) Refusal
  loaded_script g r = refusing script_refused r >>= λ script. run_answer (load_text seed count) g script

  abbrev loaded_graph : Result (List Decl) (ℕ × GraphWhy) → Result (List ℕ) Refusal
  loaded_graph r = refusing graph_refused r >>= λ g. loaded_script g (script_of lib g (load_script seed count))

  run-loaded : (g : List Decl) (s : Script) → graph_of lib load_graph ≡ Ok g → script_of lib g (load_script seed count) ≡ Ok s → (r : Result Run Stop) → ended g s ≡ r → HasLoadCause lib seed count (exactly (loaded_end g s r))
  run-loaded g s graph script (Ok run) e = loaded graph script e
  run-loaded g s graph script (Err halt) e = load_stopped graph script e

  script-loaded : (g : List Decl) → graph_of lib load_graph ≡ Ok g → (r : Result Script (ℕ × ScriptWhy)) → script_of lib g (load_script seed count) ≡ r → HasLoadCause lib seed count (exactly (loaded_script g r))
  script-loaded g graph (Ok s) e = run-loaded g s graph e (ended g s) refl
  script-loaded g graph (Err (number, why)) e = load_script_refused graph e

  graph-loaded : (r : Result (List Decl) (ℕ × GraphWhy)) → graph_of lib load_graph ≡ r → HasLoadCause lib seed count (exactly (loaded_graph r))
  graph-loaded (Ok g) e = script-loaded g e (script_of lib g (load_script seed count)) refl
  graph-loaded (Err (number, why)) e = load_graph_refused e

  pub load-cause : (a : Answer) → exactly (load_answer lib seed count) ≡ a → HasLoadCause lib seed count a
  load-cause a e = subst (λ (b : Answer). HasLoadCause lib seed count b) e (graph-loaded (graph_of lib load_graph) refl)

  -- the plan comes to this one answer
  load-says : (content : List ℕ → Option (List ℕ)) (words : List (List ℕ)) → told_answer content words (loading lib seed count) ≡ Some (exactly (load_answer lib seed count))
  load-says content words = told-answer content words (exactly (load_answer lib seed count)) (exactly (load_answer lib seed count)) refl

  pub load-told : (content : List ℕ → Option (List ℕ)) (words : List (List ℕ)) (a : Answer) → told_answer content words (loading lib seed count) ≡ Some a → HasLoadCause lib seed count a
  load-told content words a told = load-cause a (some-same (exactly (load_answer lib seed count)) a (sym (load-says content words) ∙ told))

  pub load-caused : (content : List ℕ → Option (List ℕ)) (words : List (List ℕ)) (a : Answer) → HasLoadCause lib seed count a → told_answer content words (loading lib seed count) ≡ Some a
  load-caused content words _ (load_graph_refused graph) = load-says content words ∙ ap (λ (r : Result (List Decl) (ℕ × GraphWhy)). Some (exactly (loaded_graph r))) graph
  load-caused content words _ (load_script_refused {g = g} graph script) =
      load-says content words ∙ ap (λ (r : Result (List Decl) (ℕ × GraphWhy)). Some (exactly (loaded_graph r))) graph ∙ ap (λ (r : Result Script (ℕ × ScriptWhy)). Some (exactly (loaded_script g r))) script
  load-caused content words _ (load_stopped {g = g} {s = s} graph script e) =
      load-says content words
      ∙ ap (λ (r : Result (List Decl) (ℕ × GraphWhy)). Some (exactly (loaded_graph r))) graph
      ∙ ap (λ (r : Result Script (ℕ × ScriptWhy)). Some (exactly (loaded_script g r))) script
      ∙ ap (λ (r : Result Run Stop). Some (exactly (loaded_end g s r))) e
  load-caused content words _ (loaded {g = g} {s = s} graph script e) =
      load-says content words
      ∙ ap (λ (r : Result (List Decl) (ℕ × GraphWhy)). Some (exactly (loaded_graph r))) graph
      ∙ ap (λ (r : Result Script (ℕ × ScriptWhy)). Some (exactly (loaded_script g r))) script
      ∙ ap (λ (r : Result Run Stop). Some (exactly (loaded_end g s r))) e

pub load-answered : {N : Type 0} (lib : Library) (seed count : ℕ) (words : List (List ℕ)) (files : Reading N) (answer : Result (List ℕ) Failure) (out err : Writing) (status : ℕ) → files.after ≡ files.before
    → AreUnchanged files.content files.before files.after → AreLater files.faults files.before files.after
    → Follows words (view_of files) (loading lib seed count) answer → IsLater out → IsLater err → Ends words answer out err status → IsLoadAnswered lib seed count words files out err status
load-answered lib seed count words files answer out err status unread same later follows out_later err_later ends = record {
  planned = call-planned (loading lib seed count) words files answer out err status same later follows out_later err_later ends;
  caused = λ a told. load-told lib seed count (files.content files.before) words a told;
  unread = unread;
}
