-- The plan of `dots` over told contents, and how its calls may end.
use Rattle.std.proofs.Common.{refl, sym, ap, subst, ◌∙◌}
use Rattle.std.specs.Prelude.{◌≡◌, ◌⊎◌, ◌<◌, ◌+◌, ◌++◌, Bool, true, false, nat_lt, ℕ, List, length, Option, Some, None, Ok, Err, Result}
use mathlib.Core.Logic.{inl, inr}
use Rattle.model_functions.specs.Library.{Library}
use Rattle.model_world.specs.Command.{Script}
use Rattle.model_world.specs.Report.{report_of}
use Rattle.model_world.specs.World.{Run, start, ended}
use Rattle.model_scripts.specs.Script.{script_of}
use Rattle.model_scripts.specs.declared.script_why.ScriptWhy.{ScriptWhy}
use Rattle.model_scripts.proofs.Reached.{accepted-script_of}
use Rattle.model_dots.specs.DotReport.{live_lines, dot_output}
use Rattle.model_dots.specs.DotWorld.{one_set, AreDotCommands}
use Rattle.model_dots.specs.Unlimited.{unlimited}
use Rattle.model_dots.specs.Words.{first_other, IsFirstOther}
use Rattle.model_dots.proofs.TextLaws.{output-unlimited, output-ended}
use Rattle.model_dots.proofs.WordLaws.{first-told, known-none}
use Rattle.model_program.specs.Dots.{dots_or, dots_answer, IsDotStatus, done, script, file, text, memory}
use Rattle.model_program.specs.Ends.{Writing, Ends}
use Rattle.model_program.specs.Follows.{View, Follows}
use Rattle.model_program.specs.Line.{refusal_status}
use Rattle.model_program.specs.Plan.{Exactly, Says, exactly, told_answer, word_at, file_limit, checked}
use Rattle.model_program.specs.Program.{form, plan, plan_of, script_refused, running_dots}
use Rattle.model_program.specs.Told.{IsFileTold, IsDotsTold}
use Rattle.model_program.specs.declared.failure.Failure.{Failure}
use Rattle.model_program.specs.declared.failure.Failure.TheVariants.{Refused, ReadFault, Memory}
use Rattle.model_program.specs.declared.form.Form.{Form}
use Rattle.model_program.specs.declared.form.Form.TheVariants.{Dots}
use Rattle.model_program.specs.declared.refusal.Refusal.{Refusal}
use Rattle.model_program.specs.declared.refusal.Refusal.TheVariants as refusal
use Rattle.model_program.proofs.CauseLaws.{told-short, told-long, told-checked, told-refused, told-answer}
use Rattle.model_program.proofs.PlanCauses.{told-form}
use Rattle.model_program.proofs.PlanLaws.{choice}
use Rattle.model_program.proofs.AnswerLaws.{err-same}

-- ---- over told contents

module _ (lib : Library) (content : List ℕ → Option (List ℕ)) (words : List (List ℕ)) (is : form words ≡ Dots) where
  pub dots-long : (bytes : List ℕ) → content (word_at words 1) ≡ Some bytes → file_limit < length bytes → told_answer content words (plan lib words) ≡ Some (Err (refusal.TooLong 1))
  dots-long bytes told long =
      told-form lib content words Dots is ∙ told-long content words 1 bytes (λ bytes. checked script_refused (script_of lib one_set bytes) (λ s. Says (exactly (dots_answer s)))) told long

  pub dots-refused : (bytes : List ℕ) (number : ℕ) (why : ScriptWhy) → IsFileTold content words 1 bytes → script_of lib one_set bytes ≡ Err (number, why)
      → told_answer content words (plan lib words) ≡ Some (Err (refusal.Script number why))
  dots-refused bytes number why told refused =
      told-form lib content words Dots is
      ∙ told-short content words 1 bytes (λ bytes. checked script_refused (script_of lib one_set bytes) (λ s. Says (exactly (dots_answer s)))) told.told told.short
      ∙ told-refused content words script_refused (script_of lib one_set bytes) (number, why) (λ s. Says (exactly (dots_answer s))) refused

  pub dots-answered : (s : Script) (answer : Result (List ℕ) Refusal) → IsDotsTold lib content words s → dots_answer s ≡ answer → told_answer content words (plan lib words) ≡ Some (exactly answer)
  dots-answered s answer told e =
      told-form lib content words Dots is
      ∙ told-short content words 1 told.bytes (λ bytes. checked script_refused (script_of lib one_set bytes) (λ s. Says (exactly (dots_answer s)))) told.file.told told.file.short
      ∙ told-checked content words script_refused (script_of lib one_set told.bytes) s (λ s. Says (exactly (dots_answer s))) told.read
      ∙ told-answer content words (exactly (dots_answer s)) (exactly answer) (ap exactly e)

  pub dots-other : (s : Script) (place : ℕ) → IsDotsTold lib content words s → IsFirstOther s.commands place → told_answer content words (plan lib words) ≡ Some (Err (refusal.NotDots (1 + place)))
  dots-other s place told first = dots-answered s (Err (refusal.NotDots (1 + place))) told (ap (dots_or s) ((first-told 1 (1 + place) s.commands).1 (place, refl, first)))

  pub dots-written : (s : Script) → IsDotsTold lib content words s → AreDotCommands s.commands → told_answer content words (plan lib words) ≡ Some (Ok (Exactly (dot_output s.nodes s.commands)))
  dots-written s told known = dots-answered s (Ok (dot_output s.nodes s.commands)) told (ap (dots_or s) (known-none 1 s.commands known))

  -- the run of a script that was told, come to its end or not stopped by any limit
  pub run-output : (s : Script) (run : Run) → IsDotsTold lib content words s → (ended one_set s ≡ Ok run) ⊎ (run ≡ unlimited (start one_set s.nodes) s.commands) → AreDotCommands s.commands
      → dot_output s.nodes s.commands ≡ report_of run ++ live_lines 0 run.peers
  run-output s run told (inl ends) known = output-ended s run (accepted-script_of lib one_set told.bytes s told.read).lawful known ends
  run-output s run told (inr reached) known = output-unlimited s.nodes s.commands run (record { lawful = (accepted-script_of lib one_set told.bytes s told.read).lawful.each; reached = reached }) known

  run-reported : (s : Script) (run : Run) → IsDotsTold lib content words s → AreDotCommands s.commands → (ended one_set s ≡ Ok run) ⊎ (run ≡ unlimited (start one_set s.nodes) s.commands)
      → told_answer content words (plan lib words) ≡ Some (Ok (Exactly (report_of run ++ live_lines 0 run.peers)))
  run-reported s run told known which = dots-written s told known ∙ ap (λ (output : List ℕ). Some (Ok (Exactly output))) (run-output s run told which known)

  pub dots-reported : (s : Script) (run : Run) → IsDotsTold lib content words s → AreDotCommands s.commands → ended one_set s ≡ Ok run
      → told_answer content words (plan lib words) ≡ Some (Ok (Exactly (report_of run ++ live_lines 0 run.peers)))
  dots-reported s run told known ends = run-reported s run told known (inl ends)

  pub dots-unlimited : (s : Script) (run : Run) → IsDotsTold lib content words s → AreDotCommands s.commands → run ≡ unlimited (start one_set s.nodes) s.commands
      → told_answer content words (plan lib words) ≡ Some (Ok (Exactly (report_of run ++ live_lines 0 run.peers)))
  dots-unlimited s run told known reached = run-reported s run told known (inr reached)

-- ---- how a call ends

-- a refusal that `dots` may answer
data IsDotRefusal : Refusal → Type 0 where
  long : {f : ℕ} → IsDotRefusal (refusal.TooLong f)
  bad : {number : ℕ} {why : ScriptWhy} → IsDotRefusal (refusal.Script number why)
  other : {number : ℕ} → IsDotRefusal (refusal.NotDots number)

refusal-ends : (e : Refusal) → IsDotRefusal e → IsDotStatus (refusal_status e)
refusal-ends e long = file
refusal-ends e bad = script
refusal-ends e other = script

or-refusal : (s : Script) (first : Option ℕ) (e : Refusal) → exactly (dots_or s first) ≡ Err e → IsDotRefusal e
or-refusal s (Some number) e h = subst IsDotRefusal (err-same (refusal.NotDots number) e h) other
or-refusal s None e h = absurd cc

-- a script that was read, or refused
read-refusal : (words : List (List ℕ)) (v : View) (read : Result Script (ℕ × ScriptWhy)) (e : Refusal) → Follows words v (checked script_refused read (λ s. Says (exactly (dots_answer s)))) (Err (Refused e)) → IsDotRefusal e
unfolding Follows
read-refusal words v (Ok s) e h = or-refusal s (first_other 1 s.commands) e h
read-refusal words v (Err why) e h = subst IsDotRefusal (err-same (script_refused why) e h) bad

short-refusal : (lib : Library) (words : List (List ℕ)) (v : View) (bytes : List ℕ) (is_long : Bool) (e : Refusal)
    → Follows words v (checked (λ e. e) (choice 1 bytes is_long) (λ bytes. checked script_refused (script_of lib one_set bytes) (λ s. Says (exactly (dots_answer s))))) (Err (Refused e)) → IsDotRefusal e
unfolding Follows
short-refusal lib words v bytes true e h = subst IsDotRefusal (err-same (refusal.TooLong 1) e h) long
short-refusal lib words v bytes false e h = read-refusal words v (script_of lib one_set bytes) e h

plan-refusal : (lib : Library) (words : List (List ℕ)) (v : View) (e : Refusal) → Follows words v (running_dots lib) (Err (Refused e)) → IsDotRefusal e
unfolding Follows
plan-refusal lib words v e (inl fails) = absurd fails
plan-refusal lib words v e (inr (bytes, sees, rest)) = short-refusal lib words v bytes (nat_lt file_limit (length bytes)) e rest

same-status : (n m : ℕ) → n ≡ m → IsDotStatus m → IsDotStatus n
same-status n m e h = subst IsDotStatus (sym e) h

ends-dots : (lib : Library) (words : List (List ℕ)) (v : View) (answer : Result (List ℕ) Failure) (out err : Writing) (status : ℕ)
    → Follows words v (running_dots lib) answer → Ends words answer out err status → IsDotStatus status
unfolding Ends
ends-dots lib words v (Ok written) out err status h (inl ends) = same-status status 0 ends.0 done
ends-dots lib words v (Ok written) out err status h (inr ends) = same-status status 5 ends.0 text
ends-dots lib words v (Err (Refused e)) out err status h ends = same-status status (refusal_status e) ends.0 (refusal-ends e (plan-refusal lib words v e h))
ends-dots lib words v (Err (ReadFault f)) out err status h ends = same-status status 4 ends.0 file
ends-dots lib words v (Err Memory) out err status h ends = same-status status 7 ends.0 memory

pub dots-ends : (lib : Library) (words : List (List ℕ)) (v : View) (answer : Result (List ℕ) Failure) (out err : Writing) (status : ℕ) → form words ≡ Dots
    → Follows words v (plan lib words) answer → Ends words answer out err status → IsDotStatus status
dots-ends lib words v answer out err status is h ends = ends-dots lib words v answer out err status (subst (λ (f : Form). Follows words v (plan_of lib words f) answer) is h) ends
