-- What `dots` writes where the contents of its script are told.
use Rattle.std.proofs.Common.{◌≡◌, ℕ, ◌⊎◌, List, ◌++◌, Option, Some, None, Result, Ok, Err, refl, subst, ◌∙◌}
use Rattle.model_values.specs.Told.{Appends}
use Rattle.model_functions.specs.Library.{Library}
use Rattle.model_world.specs.Command.{Script}
use Rattle.model_world.specs.Report.{report_of}
use Rattle.model_world.specs.World.{Run, start, ended}
use Rattle.model_dots.specs.DotReport.{live_lines}
use Rattle.model_dots.specs.DotWorld.{one_set}
use Rattle.model_dots.specs.Unlimited.{unlimited}
use Rattle.model_dots.specs.Words.{first_other}
use Rattle.model_dots.proofs.WordLaws.{none-known}
use Rattle.model_program.specs.Dots.{dots_or, dots_answer}
use Rattle.model_program.specs.Ends.{Writing, Ends, Settles}
use Rattle.model_program.specs.Follows.{View, AllowsText, Follows}
use Rattle.model_program.specs.Plan.{exactly}
use Rattle.model_program.specs.Program.{plan}
use Rattle.model_program.specs.Told.{TellsDots}
use Rattle.model_program.specs.declared.failure.Failure.{Failure}
use Rattle.model_program.proofs.AnswerLaws.{follows-told}
use Rattle.model_program.proofs.DirectLaws.{text-written, failure-ends}
use Rattle.model_program.proofs.DotCauses.{dots-answered, run-output}

-- with status 0 the report of the script's run was written, and how many live rows each node's set has
pub dots-writes : (lib : Library) (words : List (List ℕ)) (v : View) (s : Script) (run : Run) (answer : Result (List ℕ) Failure) (out err : Writing) (status : ℕ)
    → TellsDots lib v.content words s → (ended one_set s ≡ Ok run) ⊎ (run ≡ unlimited (start one_set s.nodes) s.commands) → Follows words v (plan lib words) answer → Ends words answer out err status → status ≡ 0
    → Appends out.before (report_of run ++ live_lines 0 run.peers) out.after
dots-writes lib words v s run answer out err status tells which follows ends done =
    choose answer (follows-told words v (plan lib words) answer (exactly (dots_answer s)) follows (dots-answered lib v.content words tells.dots s (dots_answer s) tells.script refl)) ends where
      report : List ℕ
      report = report_of run ++ live_lines 0 run.peers

      same : (first : Option ℕ) (bytes : List ℕ) → first_other 1 s.commands ≡ first → AllowsText (exactly (dots_or s first)) bytes → bytes ≡ report
      same (Some number) bytes e h = absurd h
      same None bytes e h = h ∙ run-output lib v.content words tells.dots s run tells.script which (none-known 1 s.commands e)

      choose : (r : Result (List ℕ) Failure) → Settles words v (plan lib words) (exactly (dots_answer s)) r → Ends words r out err status → Appends out.before report out.after
      choose (Ok bytes) settles written = subst (λ (t : List ℕ). Appends out.before t out.after) (same (first_other 1 s.commands) bytes refl settles) (text-written words bytes out err status written done)
      choose (Err failure) settles told = absurd (failure-ends words failure out err status told done)
