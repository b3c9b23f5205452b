-- The report of a run whose graph and script are told.
use Rattle.std.proofs.Common.{◌≡◌, ℕ, List, Option, Some, Result, Ok, Err, refl, sym, subst, ◌∙◌}
use mathlib.Core.Logic.{inl, inr}
use Rattle.model_values.specs.Told.{Appends}
use Rattle.model_functions.specs.Library.{Library}
use Rattle.model_graph.specs.Chain.{◌>>=◌, refusing}
use Rattle.model_graph.specs.Graph.{Decl}
use Rattle.model_world.specs.Command.{Script}
use Rattle.model_world.specs.Report.{report_of}
use Rattle.model_world.specs.World.{Run, ended}
use Rattle.model_world.specs.declared.stop.Stop.{Stop}
use Rattle.model_world.specs.Direct.{direct_report}
use Rattle.model_world.proofs.DirectLaws.{report-direct}
use Rattle.model_scripts.specs.Progress.{grown}
use Rattle.model_scripts.proofs.Reached.{accepted-script_of}
use Rattle.model_program.specs.Plan.{exactly, told_answer}
use Rattle.model_program.specs.Follows.{View, AllowsText, Follows}
use Rattle.model_program.specs.Line.{status_of}
use Rattle.model_program.specs.Ends.{Writing, Ends, Settles}
use Rattle.model_program.specs.Program.{stopped, run_answer, plan}
use Rattle.model_program.specs.Told.{TellsRun}
use Rattle.model_program.specs.declared.form.Form.TheVariants.{Plain}
use Rattle.model_program.specs.declared.refusal.Refusal.TheVariants as refusal
use Rattle.model_program.specs.declared.failure.Failure.{Failure}
use Rattle.model_program.specs.declared.failure.Failure.TheVariants.{Refused, ReadFault, Memory}
use Rattle.model_program.proofs.AnswerLaws.{follows-told}
use Rattle.model_program.proofs.PlanCauses.{told-form, to-answer}

told-run : (lib : Library) (content : List ℕ → Option (List ℕ)) (words : List (List ℕ)) (g : List Decl) (script : Script) → TellsRun lib content words g script → told_answer content words (plan lib words) ≡ Some (exactly (run_answer report_of g script))
told-run lib content words g script h =
    told-form lib content words Plain h.plain ∙ to-answer lib content words g (run_answer report_of) script (run_answer report_of g script) h.graph h.script refl

-- a run that has a report ended
answer-run : (g : List Decl) (script : Script) (text : List ℕ) → AllowsText (exactly (run_answer report_of g script)) text → (run : Run) × (ended g script ≡ Ok run) × (text ≡ report_of run)
answer-run g script text e = choose (ended g script) refl e where
  choose : (r : Result Run Stop) → ended g script ≡ r → AllowsText (exactly (refusing (stopped (grown g script.commands)) r >>= (λ run. Ok (report_of run)))) text → (run : Run) × (ended g script ≡ Ok run) × (text ≡ report_of run)
  choose (Ok run) is h = (run, is, h)
  choose (Err stop) is h = absurd h

-- the report of a script that was read is the direct one
report-told : (lib : Library) (content : List ℕ → Option (List ℕ)) (words : List (List ℕ)) (g : List Decl) (script : Script) (run : Run) → TellsRun lib content words g script → ended g script ≡ Ok run → report_of run ≡ direct_report g script run
report-told lib content words g script run tells = report-direct g script run (accepted-script_of lib g tells.script.bytes script tells.script.read).lawful

-- a failure has another status than 0
failure-told : (failure : Failure) → status_of failure ≡ 0 → ⊥
failure-told (Refused refusal.Usage) e = cc
failure-told (Refused (refusal.TooLong f)) e = cc
failure-told (Refused (refusal.Graph number why)) e = cc
failure-told (Refused (refusal.Script number why)) e = cc
failure-told (Refused (refusal.NotDots number)) e = cc
failure-told (Refused (refusal.NotLive number)) e = cc
failure-told (Refused (refusal.TooLarge command node name)) e = cc
failure-told (Refused (refusal.NetworkFull command)) e = cc
failure-told (Refused (refusal.NotReached command)) e = cc
failure-told (Refused (refusal.State f place why)) e = cc
failure-told (ReadFault f) e = cc
failure-told Memory e = cc

pub text-written : (words : List (List ℕ)) (text : List ℕ) (out err : Writing) (status : ℕ) → Ends words (Ok text) out err status → status ≡ 0 → Appends out.before text out.after
unfolding Ends
text-written words text out err status (inl (done, appends, same)) e = appends
text-written words text out err status (inr (fault, some, rose, part, line)) e = absurd (let clash : 5 ≡ 0 = sym fault ∙ e in cc)

pub failure-ends : (words : List (List ℕ)) (failure : Failure) (out err : Writing) (status : ℕ) → Ends words (Err failure) out err status → status ≡ 0 → ⊥
unfolding Ends
failure-ends words failure out err status ends e = failure-told failure (sym ends.0 ∙ e)

-- with status 0 the report was written, which is the direct report
pub direct-ends : (lib : Library) (words : List (List ℕ)) (v : View) (g : List Decl) (script : Script) (answer : Result (List ℕ) Failure) (out err : Writing) (status : ℕ)
    → TellsRun lib v.content words g script → Follows words v (plan lib words) answer → Ends words answer out err status → status ≡ 0
    → (run : Run) × (ended g script ≡ Ok run) × Appends out.before (direct_report g script run) out.after
direct-ends lib words v g script answer out err status tells follows ends done =
    choose answer (follows-told words v (plan lib words) answer (exactly (run_answer report_of g script)) follows (told-run lib v.content words g script tells)) ends where
      choose : (r : Result (List ℕ) Failure) → Settles words v (plan lib words) (exactly (run_answer report_of g script)) r → Ends words r out err status → (run : Run) × (ended g script ≡ Ok run) × Appends out.before (direct_report g script run) out.after
      choose (Ok text) settles written =
          let found = answer-run g script text settles in (
            found.0,
            found.1,
            subst (λ (t : List ℕ). Appends out.before t out.after) (found.2 ∙ report-told lib v.content words g script found.0 tells found.1) (text-written words text out err status written done),
          )
      choose (Err failure) settles told = absurd (failure-ends words failure out err status told done)
