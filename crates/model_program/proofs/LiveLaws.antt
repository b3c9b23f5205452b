-- A call that followed the plan of `live`, and ended by what it came to, keeps all that is promised of it.
use Rattle.std.proofs.Common.{refl, sym, ap, subst, ◌∙◌}
use Rattle.std.specs.Prelude.{◌≡◌, ◌≢◌, ◌⊎◌, ℕ, ◌+◌, List, length, Option, Some, None, Result, Ok, Err}
use mathlib.Core.Logic.{inl, inr}
use Rattle.model_functions.specs.Library.{Library}
use Rattle.model_graph.specs.Graph.{Decl, name_at}
use Rattle.model_live.specs.Together.{too_large}
use Rattle.model_live.specs.Words.{first_other}
use Rattle.model_live.proofs.LargeLaws.{large-derived}
use Rattle.model_live.proofs.WordLaws.{other-told, other-is, none-known, known-none}
use Rattle.model_values.specs.Faults.{Rose}
use Rattle.model_world.specs.Command.{Script}
use Rattle.model_program.specs.Call.{AreUnchanged, AreLater, IsLater, Reading, view_of, IsLacking}
use Rattle.model_program.specs.Ends.{Writing, Settles, NoFault}
use Rattle.model_program.specs.Follows.{View}
use Rattle.model_program.specs.Line.{status_of}
use Rattle.model_program.specs.Live.{small_or, live_or, live_answer, living_script, living, Output, LiveFollows, status_behind, LiveEnds, HasLiveCause, graph_refused, script_refused, other_word, too_many, lived, TellsLive, WritesLived, BeginsLived, IsLiveAnswered}
use Rattle.model_program.specs.Plan.{Lived, Answer, Says, told_answer}
use Rattle.model_program.specs.Told.{IsGraphTold, IsScriptTold}
use Rattle.model_program.specs.declared.failure.Failure.{Failure}
use Rattle.model_program.specs.declared.failure.Failure.TheVariants.{Refused, ReadFault, Memory}
use Rattle.model_program.specs.declared.refusal.Refusal.{Refusal}
use Rattle.model_program.specs.declared.refusal.Refusal.TheVariants as refusal
use Rattle.model_program.proofs.AnswerLaws.{follows-told, err-same}
use Rattle.model_program.proofs.BackLaws.{GraphSeen, graph_is_refused, graph_is_read, graph-seen, ScriptSeen, script_is_refused, script_is_read, script-seen, graph-told, script-told, some-same}
use Rattle.model_program.proofs.CauseLaws.{told-answer}
use Rattle.model_program.proofs.PlanCauses.{opening-read, scripting-read}

-- ---- the plan over told contents

module _ (lib : Library) (content : List ℕ → Option (List ℕ)) (words : List (List ℕ)) (failed : Option ℕ) where
  abbrev Found : Type 0
  Found = (b : Answer) × HasLiveCause lib content words failed b

  small-found : (g : List Decl) (s : Script) → IsGraphTold lib content words g → IsScriptTold lib content words g s → first_other 1 s.commands ≡ None → (o : Option ℕ) → too_large g s ≡ o → Found
  small-found g s graph script live (Some x) e =
      let known = none-known 1 s.commands live in
      (small_or g s failed (Some x), too_many graph script known ((large-derived g s x known).0 e))
  small-found g s graph script live None e = (small_or g s failed None, lived graph script (none-known 1 s.commands live) e)

  word-found : (g : List Decl) (s : Script) → IsGraphTold lib content words g → IsScriptTold lib content words g s → (o : Option ℕ) → first_other 1 s.commands ≡ o → Found
  word-found g s graph script (Some number) e = let first = other-told 1 number s.commands e in (Err (refusal.NotLive (1 + first.0)), other_word graph script first.2)
  word-found g s graph script None e = small-found g s graph script e (too_large g s) refl

  script-found : (g : List Decl) → IsGraphTold lib content words g → ScriptSeen lib content words g → Found
  script-found g graph (script_is_refused {x = x} h) = (Err x, script_refused graph h)
  script-found g graph (script_is_read s script) = word-found g s graph script (first_other 1 s.commands) refl

  graph-found : (a : Answer) → told_answer content words (living lib failed) ≡ Some a → GraphSeen lib content words → Found
  graph-found a e (graph_is_refused {x = x} h) = (Err x, graph_refused h)
  graph-found a e (graph_is_read g graph) =
      script-found g graph (script-seen lib content words g (λ s. Says (live_answer failed g s)) a (sym (opening-read lib content words (λ h. living_script lib failed h) g graph) ∙ e))

  -- the plan over a graph and a script that are told
  pub live-told : (g : List Decl) (s : Script) → IsGraphTold lib content words g → IsScriptTold lib content words g s → told_answer content words (living lib failed) ≡ Some (live_answer failed g s)
  live-told g s graph script =
      opening-read lib content words (λ h. living_script lib failed h) g graph
      ∙ scripting-read lib content words g (λ k. Says (live_answer failed g k)) s script
      ∙ told-answer content words (live_answer failed g s) (live_answer failed g s) refl

  -- a script that such nodes know, whose updates together make a variable too large or not
  live-small : (g : List Decl) (s : Script) (o : Option ℕ) → IsGraphTold lib content words g → IsScriptTold lib content words g s → first_other 1 s.commands ≡ None → too_large g s ≡ o
      → told_answer content words (living lib failed) ≡ Some (small_or g s failed o)
  live-small g s o graph script live large = live-told g s graph script ∙ ap (λ (w : Option ℕ). Some (live_or g s failed w)) live ∙ ap (λ (l : Option ℕ). Some (small_or g s failed l)) large

  -- a cause has its answer
  pub live-caused : (a : Answer) → HasLiveCause lib content words failed a → told_answer content words (living lib failed) ≡ Some a
  live-caused _ (graph_refused {x = x} h) = graph-told lib content words (λ g. living_script lib failed g) x h
  live-caused _ (script_refused {g = g} {x = x} graph h) = opening-read lib content words (λ h. living_script lib failed h) g graph ∙ script-told lib content words g (λ s. Says (live_answer failed g s)) x h
  live-caused _ (other_word {g = g} {s = s} {place = place} graph script first) = live-told g s graph script ∙ ap (λ (w : Option ℕ). Some (live_or g s failed w)) (other-is 1 place s.commands first)
  live-caused _ (too_many {g = g} {s = s} {x = x} graph script live first) = live-small g s (Some x) graph script (known-none 1 s.commands live) ((large-derived g s x live).1 first)
  live-caused _ (lived {g = g} {s = s} graph script live e) = live-small g s None graph script (known-none 1 s.commands live) e

  -- an answer has its cause
  pub live-cause : (a : Answer) → told_answer content words (living lib failed) ≡ Some a → HasLiveCause lib content words failed a
  live-cause a e =
      let cause = graph-found a e (graph-seen lib content words (λ g. living_script lib failed g) a e) in
      subst (λ (b : Answer). HasLiveCause lib content words failed b) (some-same cause.0 a (sym (live-caused cause.0 cause.1) ∙ e)) cause.1

-- a refusal doesn't hang on which node failed
err-cause : (lib : Library) (content : List ℕ → Option (List ℕ)) (words : List (List ℕ)) (failed other : Option ℕ) (x : Refusal) (a : Answer) → a ≡ Err x → HasLiveCause lib content words failed a → HasLiveCause lib content words other (Err x)
err-cause lib content words failed other x _ e (graph_refused {x = y} h) = subst (λ (z : Refusal). HasLiveCause lib content words other (Err z)) (err-same y x e) (graph_refused h)
err-cause lib content words failed other x _ e (script_refused {x = y} graph h) = subst (λ (z : Refusal). HasLiveCause lib content words other (Err z)) (err-same y x e) (script_refused graph h)
err-cause lib content words failed other x _ e (other_word {place = place} graph script first) = subst (λ (z : Refusal). HasLiveCause lib content words other (Err z)) (err-same (refusal.NotLive (1 + place)) x e) (other_word graph script first)
err-cause lib content words failed other x _ e (too_many {g = g} {s = s} {x = y} graph script live large) =
    subst (λ (z : Refusal). HasLiveCause lib content words other (Err z)) (err-same (refusal.TooLarge (length s.commands + 1) 0 (name_at g y)) x e) (too_many graph script live large)
err-cause lib content words failed other x _ e (lived graph script live small) = absurd cc

-- the plan refuses alike, whichever node failed
pub refuses-alike : (lib : Library) (content : List ℕ → Option (List ℕ)) (words : List (List ℕ)) (failed other : Option ℕ) (x : Refusal)
    → told_answer content words (living lib failed) ≡ Some (Err x) → told_answer content words (living lib other) ≡ Some (Err x)
refuses-alike lib content words failed other x e = live-caused lib content words other (Err x) (err-cause lib content words failed other x (Err x) refl (live-cause lib content words failed (Err x) e))

-- the plan over contents that tell a script which nodes may run
pub lived-told : (lib : Library) (content : List ℕ → Option (List ℕ)) (words : List (List ℕ)) (failed : Option ℕ) (g : List Decl) (s : Script) → TellsLive lib content words g s
    → told_answer content words (living lib failed) ≡ Some (Ok (Lived g s failed))
lived-told lib content words failed g s tells = live-caused lib content words failed (Ok (Lived g s failed)) (lived tells.graph tells.script tells.live tells.small)

-- ---- how a call ends

refused-ends : (lib : Library) (words : List (List ℕ)) (v : View) (x : Refusal) (answer : Result Output Failure) (out err : Writing) (status : ℕ)
    → told_answer v.content words (living lib None) ≡ Some (Err x) → LiveFollows lib words v answer → LiveEnds words answer out err status → (status ≡ status_of (Refused x)) ⊎ IsLacking (living lib None) words v status
unfolding LiveEnds
refused-ends lib words v x (Ok o) out err status told follows ends =
    absurd (follows-told words v (living lib o.failed) (Ok o.text) (Err x) follows (refuses-alike lib v.content words None o.failed x told))
refused-ends lib words v x (Err failure) out err status told follows ends = by failure (follows-told words v (living lib None) (Err failure) (Err x) follows told) ends.0 where
  by : (f : Failure) → Settles words v (living lib None) (Err x) (Err f) → status ≡ status_of f → (status ≡ status_of (Refused x)) ⊎ IsLacking (living lib None) words v status
  by (Refused e) settles is = inl (is ∙ ap (λ (y : Refusal). status_of (Refused y)) (sym (err-same x e settles)))
  by (ReadFault f) settles is = inr (inr (is, (f, settles.0, settles.1)))
  by Memory settles is = inr (inl is)

written-ends : (lib : Library) (words : List (List ℕ)) (v : View) (g : List Decl) (s : Script) (answer : Result Output Failure) (out err : Writing) (status : ℕ)
    → TellsLive lib v.content words g s → LiveFollows lib words v answer → LiveEnds words answer out err status
    → WritesLived words g s out err status ⊎ (BeginsLived g s out status ⊎ IsLacking (living lib None) words v status)
unfolding LiveEnds
written-ends lib words v g s (Ok o) out err status tells follows (inl (is, appends, told)) =
    let settles = follows-told words v (living lib o.failed) (Ok o.text) (Ok (Lived g s o.failed)) follows (lived-told lib v.content words o.failed g s tells) in
    inl (record { failed = o.failed; status_is = is; writes = (o.text, settles, appends); tells = told })
written-ends lib words v g s (Ok o) out err status tells follows (inr (five, some, rose, part, told)) =
    let settles = follows-told words v (living lib o.failed) (Ok o.text) (Ok (Lived g s o.failed)) follows (lived-told lib v.content words o.failed g s tells) in
    inr (inl (five, (o.failed, (o.text, settles, some, rose, part))))
written-ends lib words v g s (Err failure) out err status tells follows ends = inr (inr (by failure (follows-told words v (living lib None) (Err failure) (Ok (Lived g s None)) follows (lived-told lib v.content words None g s tells)) ends.0)) where
  by : (f : Failure) → Settles words v (living lib None) (Ok (Lived g s None)) (Err f) → status ≡ status_of f → IsLacking (living lib None) words v status
  by (Refused e) settles is = absurd cc
  by (ReadFault f) settles is = inr (is, (f, settles.0, settles.1))
  by Memory settles is = inl is

-- where nothing failed there is no other way than to write it whole, or want of memory
complete-of : (lib : Library) (words : List (List ℕ)) (v : View) (g : List Decl) (s : Script) (out err : Writing) (status : ℕ) → NoFault words v (living lib None) → ¬ Rose out.faults_before out.faults_after
    → WritesLived words g s out err status ⊎ (BeginsLived g s out status ⊎ IsLacking (living lib None) words v status) → WritesLived words g s out err status ⊎ (status ≡ 7)
complete-of lib words v g s out err status quiet sound (inl writes) = inl writes
complete-of lib words v g s out err status quiet sound (inr (inl (five, (failed, (text, settles, some, rose, part))))) = absurd (sound rose)
complete-of lib words v g s out err status quiet sound (inr (inr (inl seven))) = inr seven
complete-of lib words v g s out err status quiet sound (inr (inr (inr (four, (f, comes, rose))))) = absurd (quiet f comes rose)

quiet-ends : (words : List (List ℕ)) (answer : Result Output Failure) (out err : Writing) (status : ℕ) → status ≢ 0 → status ≢ 5 → status ≢ 8 → LiveEnds words answer out err status → out.after ≡ out.before
unfolding LiveEnds
quiet-ends words (Ok o) out err status not_done not_fault not_failed (inl (is, appends, told)) = absurd (by o.failed is) where
  by : (failed : Option ℕ) → status ≡ status_behind failed → ⊥
  by None e = not_done e
  by (Some c) e = not_failed e
quiet-ends words (Ok o) out err status not_done not_fault not_failed (inr (fault, some, rose, part, told)) = absurd (not_fault fault)
quiet-ends words (Err failure) out err status not_done not_fault not_failed ends = ends.1

pub live-answered : {N : Type 0} (lib : Library) (words : List (List ℕ)) (files : Reading N) (answer : Result Output Failure) (out err : Writing) (status : ℕ)
    → AreUnchanged files.content files.before files.after → AreLater files.faults files.before files.after
    → LiveFollows lib words (view_of files) answer → IsLater out → IsLater err → LiveEnds words answer out err status → IsLiveAnswered lib words files out err status
live-answered lib words files answer out err status same later follows out_later err_later ends = record {
  same = same;
  later = later;
  out_later = out_later;
  err_later = err_later;
  ends = (answer, follows, ends);
  refused = λ x told. refused-ends lib words (view_of files) x answer out err status told follows ends;
  caused = λ failed a told. live-cause lib (files.content files.before) words failed a told;
  written = λ g s tells. written-ends lib words (view_of files) g s answer out err status tells follows ends;
  complete = λ g s tells quiet sound. complete-of lib words (view_of files) g s out err status quiet sound (written-ends lib words (view_of files) g s answer out err status tells follows ends);
  quiet = λ not_done not_fault not_failed. quiet-ends words answer out err status not_done not_fault not_failed ends;
}
