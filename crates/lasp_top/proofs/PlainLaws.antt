-- A run by workers is answered as the run of the same files on one thread.
use Rattle.std.proofs.Common.{◌≡◌, List, [], ◌∷◌, refl, sym, ap, subst, codes}
use Rattle.std.specs.Prelude.{ℕ, Result, Err}
use Rattle.model_functions.specs.Library.{Library}
use Rattle.model_world.specs.Report.{report_of}
use Rattle.model_program.specs.Call.{AreUnchanged, AreLater, IsLater, Reading, view_of, IsAnswered}
use Rattle.model_program.specs.Ends.{Writing, Ends}
use Rattle.model_program.specs.Follows.{Follows}
use Rattle.model_program.specs.Plan.{Plan}
use Rattle.model_program.specs.Program.{form, plan, plan_of, running, IsUsageForm}
use Rattle.model_program.specs.declared.failure.Failure.{Failure}
use Rattle.model_program.specs.declared.failure.Failure.TheVariants.{Memory}
use Rattle.model_program.specs.declared.form.Form.{Form}
use Rattle.model_program.specs.declared.form.Form.TheVariants.{Plain}
use Rattle.model_program.proofs.PlanLaws.{follows-memory}
use Rattle.model_program.proofs.PromiseLaws.{call-answered}
use Rattle.model_program.specs.Threads.{plain_words}

form-plain : (graph script : List ℕ) → form (codes "plain" ∷ graph ∷ script ∷ []) ≡ Plain
unfolding form
form-plain graph script = refl

plan-plain : (lib : Library) (words : List (List ℕ)) → running lib report_of ≡ plan lib (plain_words words)
plan-plain lib words = ap (λ (f : Form). plan_of lib (plain_words words) f) (sym (form-plain _ _))

no-usage : (words : List (List ℕ)) → IsUsageForm (form (plain_words words)) → ⊥
no-usage words usage = subst (λ (f : Form). IsUsageForm f) (form-plain _ _) usage

-- a call that followed the plan of a run
pub run-answered : {N : Type 0} (lib : Library) (words : List (List ℕ)) (files : Reading N) (answer : Result (List ℕ) Failure) (out err : Writing) (status : ℕ)
    → AreUnchanged files.content files.before files.after → AreLater files.faults files.before files.after
    → Follows (plain_words words) (view_of files) (running lib report_of) answer → IsLater out → IsLater err → Ends (plain_words words) answer out err status → IsAnswered lib (plain_words words) files out err status
run-answered lib words files answer out err status same later follows out_later err_later ends =
    call-answered lib (plain_words words) files answer out err status same later (λ usage. absurd (no-usage words usage))
    (subst (λ (p : Plan). Follows (plain_words words) (view_of files) p answer) (plan-plain lib words) follows) out_later err_later ends

-- memory was wanting, whatever the words are
pub memory-ends : (words others : List (List ℕ)) (out err : Writing) (status : ℕ) → Ends words (Err Memory) out err status → Ends others (Err Memory) out err status
unfolding Ends
memory-ends words others out err status ends = ends

pub memory-answered : {N : Type 0} (lib : Library) (words : List (List ℕ)) (files : Reading N) (out err : Writing) (status : ℕ)
    → AreUnchanged files.content files.before files.after → AreLater files.faults files.before files.after → IsLater out → IsLater err → Ends words (Err Memory) out err status → IsAnswered lib (plain_words words) files out err status
memory-answered lib words files out err status same later out_later err_later ends =
    run-answered lib words files (Err Memory) out err status same later (follows-memory (plain_words words) (view_of files) (running lib report_of)) out_later err_later (memory-ends words (plain_words words) out err status ends)
