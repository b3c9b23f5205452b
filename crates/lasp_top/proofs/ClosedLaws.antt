-- What is written of the cores of a run that was closed.
use Rattle.std.proofs.Common.{◌≡◌, ℕ, ◌+◌, ◌<◌, ◌≤◌, suc, List, [], ◌∷◌, ◌++◌, map, length, Some, Result, Ok, Err, refl, sym, ap, subst, ◌∙◌, arith}
use Rattle.std.specs.Prelude.{slice_get}
use Rattle.std.proofs.lemmas.List.{length-map}
use Rattle.std.proofs.lemmas.Option.{slice_get_within}
use Rattle.model_core.specs.Core.{Core}
use Rattle.model_graph.specs.Chain.{refusing}
use Rattle.model_graph.specs.Graph.{Decl}
use Rattle.model_graph.specs.Evaluation.{eval}
use Rattle.model_journal.specs.Entry.{Entry, Frame}
use Rattle.model_journal.specs.Journal.{graph, vals, sources, counts}
use Rattle.model_journal.specs.Legal.{IsLegal}
use Rattle.model_program.specs.Summary.{load_line, number_lines, load_text}
use Rattle.model_program.specs.Follows.{View, Allows, Follows, Passes, Stops, Part}
use Rattle.model_program.specs.Plan.{Answer, Says}
use Rattle.model_program.specs.Program.{stopped}
use Rattle.model_program.specs.Threads.{traced_end, trace_answer}
use Rattle.model_program.specs.declared.failure.Failure.{Failure}
use Rattle.model_program.specs.declared.failure.Failure.TheVariants.{Refused, ReadFault, Memory}
use Rattle.model_program.specs.declared.refusal.Refusal.{Refusal}
use Rattle.model_program.proofs.PlanLaws.{part-itself}
use Rattle.model_runs.specs.Calls.{frame_of, calls, unbound}
use Rattle.model_scripts.specs.Progress.{grown}
use Rattle.model_core.specs.Trace.{journal_lines}
use Rattle.model_core.specs.Traced.{IsTraced, IsTrace, trace_lines}
use Rattle.model_world.specs.Command.{Script}
use Rattle.model_world.specs.Line.{known_line}
use Rattle.model_world.specs.Report.{report_of, known_lines}
use Rattle.model_world.specs.World.{Peer, Run, start, ended, peer_at, shown_at}
use Rattle.model_world.specs.declared.stop.Stop.{Stop}
use Rattle.lasp_drive.proofs.NodeLaws.{mapped-at}
use Rattle.lasp_top.specs.Summary.{core_lines, known_by, IsSummary}
use Rattle.lasp_run.specs.Run.{IsStop}
use Rattle.lasp_top.specs.Closed.{AreCoresOf, traces_of}

-- ---- journals

-- the lines of cores, the first being that of node p, are those of their journals
traces-lines : (g : List Decl) (nodes p : ℕ) (cores : List Core) → ((q : ℕ) (core : Core) → slice_get cores q ≡ Some core → core.frame ≡ frame_of g nodes (q + p))
    → traces_of p cores ≡ trace_lines g nodes p (map (λ (c : Core). c.entries) cores)
traces-lines g nodes p [] frames = refl
traces-lines g nodes p (core ∷ cores) frames =
    ap (λ (X : Frame). journal_lines (graph X core.entries) p core.entries ++ traces_of (p + 1) cores) (subst (λ (n : ℕ). core.frame ≡ frame_of g nodes n) (omega arith) (frames 0 core refl))
    ∙ ap (λ (rest : List ℕ). journal_lines (graph (frame_of g nodes p) core.entries) p core.entries ++ rest)
    (traces-lines g nodes (p + 1) cores (λ q c at. subst (λ (n : ℕ). c.frame ≡ frame_of g nodes n) (omega arith) (frames (suc q) c at)))

pub is-trace : (g : List Decl) (script : Script) (run : Run) (cores : List Core) (report bytes : List ℕ) → AreCoresOf g script run cores → report ≡ report_of run → bytes ≡ report ++ traces_of 0 cores → IsTrace g script run bytes
is-trace g script run cores report bytes are told is = (
  map (λ (c : Core). c.entries) cores,
  are.traced,
  is ∙ ap (λ (r : List ℕ). r ++ traces_of 0 cores) told
      ∙ ap (λ (l : List ℕ). report_of run ++ l) (traces-lines g script.nodes 0 cores (λ q c at. are.frames q c at ∙ ap (frame_of g script.nodes) (omega arith))),
)

-- ---- answers

-- a trace of a run that came to its end is answered
pub trace-allows : (g : List Decl) (script : Script) (run : Run) (bytes : List ℕ) → ended g script ≡ Ok run → IsTrace g script run bytes → Allows (trace_answer g script) (Ok bytes)
trace-allows g script run bytes is trace = subst (λ (r : Result Run Stop). Allows (traced_end g script r) (Ok bytes)) (sym is) trace

stopped-end : (g : List Decl) (script : Script) (r : Result Run Stop) (e : Refusal) → refusing (stopped (grown g script.commands)) r ≡ Err e → traced_end g script r ≡ Err e
stopped-end g script (Ok run) e h = absurd cc
stopped-end g script (Err halt) e h = ap (λ (x : Refusal). Err x) (let same : stopped (grown g script.commands) halt ≡ e = cc in same)

-- and so is how it stopped
pub stop-allows : (g : List Decl) (script : Script) (failure : Failure) → IsStop g script failure → Allows (trace_answer g script) (Err failure)
stop-allows g script (Refused e) h = stopped-end g script (ended g script) e h
stop-allows g script (ReadFault f) h = absurd h
stop-allows g script Memory h = tt

follows-allowed : (words : List (List ℕ)) (v : View) (answer : Answer) (r : Result (List ℕ) Failure) → Allows answer r → Follows words v (Says answer) r
unfolding Follows
follows-allowed words v answer r h = h

-- a call did a part, and came to what is allowed behind it
pub follows-part : {B : Type 0} (words : List (List ℕ)) (v : View) (part : Part B) (b : B) (answer : B → Answer) (r : Result (List ℕ) Failure) → Passes words v part b → Allows (answer b) r → Follows words v (part (λ x. Says (answer x))) r
follows-part words v part b answer r h allows = h v (part-itself v) (λ x. Says (answer x)) r (follows-allowed words v (answer b) r allows)

pub follows-stop : {B : Type 0} (words : List (List ℕ)) (v : View) (part : Part B) (answer : B → Answer) (failure : Failure) → Stops words v part failure → Follows words v (part (λ x. Says (answer x))) (Err failure)
follows-stop words v part answer failure h = h v (part-itself v) (λ x. Says (answer x))

-- ---- the summary

known-lines : (p : ℕ) (cores : List Core) (peers : List Peer) → length cores ≡ length peers → ((q : ℕ) (core : Core) → slice_get cores q ≡ Some core → counts core.frame core.entries ≡ (peer_at peers q).counts)
    → known_by p cores ≡ known_lines p peers
known-lines p [] [] size same = refl
known-lines p [] (r ∷ peers) size same = absurd (omega (arith, size))
known-lines p (core ∷ cores) [] size same = absurd (omega (arith, size))
known-lines p (core ∷ cores) (r ∷ peers) size same =
    ap (λ (ns : List ℕ). known_line p ns ++ known_by (p + 1) cores) (same 0 core refl)
    ∙ ap (λ (rest : List ℕ). known_line p r.counts ++ rest) (known-lines (p + 1) cores peers (omega (arith, size)) (λ q c at. same (suc q) c at))

-- what a journal with the calls of a node has when the run is over
abbrev pub EndsAs : List Decl → Script → Run → Type 0
EndsAs g script run = (p : ℕ) → p < script.nodes → (h : List Entry) → IsLegal (frame_of g script.nodes p) h → unbound h ≡ calls 1 (start g script.nodes) p script.commands
    → (graph (frame_of g script.nodes p) h ≡ run.graph) × (sources (frame_of g script.nodes p) h ≡ (peer_at run.peers p).contents) × (counts (frame_of g script.nodes p) h ≡ (peer_at run.peers p).counts)

module _ (g : List Decl) (script : Script) (run : Run) (cores : List Core) (are : AreCoresOf g script run cores) (ends : EndsAs g script run) where
  many-cores : length cores ≡ script.nodes
  many-cores = sym (length-map cores (λ (c : Core). c.entries)) ∙ are.traced.many

  each-core : (p : ℕ) (core : Core) → slice_get cores p ≡ Some core → IsTraced g script run p core.entries
  each-core p core at = are.traced.each p core.entries (mapped-at (λ (c : Core). c.entries) cores p core at)

  ended-core : (p : ℕ) (core : Core) → slice_get cores p ≡ Some core → (graph core.frame core.entries ≡ run.graph) × (sources core.frame core.entries ≡ (peer_at run.peers p).contents) × (counts core.frame core.entries ≡ (peer_at run.peers p).counts)
  ended-core p core at =
      let traced = each-core p core at in
      subst (λ (X : Frame). (graph X core.entries ≡ run.graph) × (sources X core.entries ≡ (peer_at run.peers p).contents) × (counts X core.entries ≡ (peer_at run.peers p).counts)) (sym (are.frames p core at))
      (ends p (omega (arith, slice_get_within cores p core at, many-cores)) core.entries traced.legal traced.calls_made)

  shown-core : (p : ℕ) (core : Core) → slice_get cores p ≡ Some core → vals core.frame core.entries ≡ shown_at run.graph (peer_at run.peers p)
  shown-core p core at =
      let end = ended-core p core at in
      subst (λ (X : Frame). vals X core.entries ≡ eval (graph X core.entries) (sources X core.entries)) (sym (are.frames p core at)) (each-core p core at).evaluated
      ∙ (λ i. eval (end.0 i) (end.1 i))

  -- the lines of the first core are those of node 0
  first-lines : (core : Core) → slice_get cores 0 ≡ Some core → core_lines core ≡ number_lines 0 run.graph (shown_at run.graph (peer_at run.peers 0))
  first-lines core at = λ i. number_lines 0 ((ended-core 0 core at).0 i) (shown-core 0 core at i)

  -- the summary of the cores is that of the run
  pub summary-text : (seed count : ℕ) (bytes : List ℕ) → IsSummary seed count cores bytes → bytes ≡ load_text seed count run
  summary-text seed count bytes is = by cores refl is where
    by : (cs : List Core) → cores ≡ cs → IsSummary seed count cs bytes → bytes ≡ load_text seed count run
    by [] same none = absurd none
    by (core ∷ more) same told =
        told
        ∙ ap (λ (l : List ℕ). load_line seed count ++ l ++ known_by 0 (core ∷ more)) (first-lines core (ap (λ (cs : List Core). slice_get cs 0) same))
        ∙ ap (λ (l : List ℕ). load_line seed count ++ number_lines 0 run.graph (shown_at run.graph (peer_at run.peers 0)) ++ l)
        (ap (known_by 0) (sym same) ∙ known-lines 0 cores run.peers (many-cores ∙ sym are.peers) (λ q c at. (ended-core q c at).2))

  pub some-core : 1 ≤ script.nodes → 0 < length cores
  some-core some = omega (arith, some, many-cores)
