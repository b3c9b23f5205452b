-- A call that followed the plan of its words, and ended by its answer, keeps all that is promised of it.
use Rattle.std.proofs.Common.{◌≡◌, ℕ, inl, inr, List, Result, Ok, Err}
use Rattle.model_functions.specs.Library.{Library}
use Rattle.model_program.specs.Call.{AreUnchanged, AreLater, IsLater, Reading, view_of, IsPlanned, IsAnswered}
use Rattle.model_program.specs.Ends.{Writing, Ends}
use Rattle.model_program.specs.Follows.{Follows}
use Rattle.model_program.specs.Plan.{Plan}
use Rattle.model_program.specs.Program.{form, plan, IsUsageForm}
use Rattle.model_program.specs.declared.failure.Failure.{Failure}
use Rattle.model_program.proofs.AlikeLaws.{known-places, alike-places, deltas-stand}
use Rattle.model_program.proofs.AnswerLaws.{follows-told, refused-ends, written-ends, complete-ends, quiet-ends}
use Rattle.model_program.proofs.BackLaws.{told-cause}
use Rattle.model_program.proofs.DirectLaws.{direct-ends}
use Rattle.model_program.proofs.DeltaTextLaws.{deltas-write}
use Rattle.model_program.proofs.DotTextLaws.{dots-writes}

-- a call that followed a plan and ended by its answer
pub call-planned : {N : Type 0} (p : Plan) (words : List (List ℕ)) (files : Reading N) (answer : Result (List ℕ) Failure) (out err : Writing) (status : ℕ)
    → AreUnchanged files.content files.before files.after → AreLater files.faults files.before files.after
    → Follows words (view_of files) p answer → IsLater out → IsLater err → Ends words answer out err status → IsPlanned p words files out err status
call-planned p words files answer out err status same later follows out_later err_later ends = record {
  same = same;
  later = later;
  out_later = out_later;
  err_later = err_later;
  ends = (answer, follows, ends);
  refused = λ x told. refused-ends words (view_of files) p x answer out err status (follows-told words (view_of files) p answer (Err x) follows told) ends;
  written = λ text told. written-ends words (view_of files) p text answer out err status (follows-told words (view_of files) p answer (Ok text) follows told) ends;
  complete = λ text told quiet sound. complete-ends words (view_of files) p text answer out err status quiet sound (follows-told words (view_of files) p answer (Ok text) follows told) ends;
  quiet = λ not_done not_fault. quiet-ends words answer out err status not_done not_fault ends;
}

pub call-answered : {N : Type 0} (lib : Library) (words : List (List ℕ)) (files : Reading N) (answer : Result (List ℕ) Failure) (out err : Writing) (status : ℕ)
    → AreUnchanged files.content files.before files.after → AreLater files.faults files.before files.after → (IsUsageForm (form words) → files.after ≡ files.before)
    → Follows words (view_of files) (plan lib words) answer → IsLater out → IsLater err → Ends words answer out err status → IsAnswered lib words files out err status
call-answered lib words files answer out err status same later unread follows out_later err_later ends = record {
  planned = call-planned (plan lib words) words files answer out err status same later follows out_later err_later ends;
  caused = λ a told. told-cause lib (files.content files.before) words a told;
  direct = λ g script tells done. direct-ends lib words (view_of files) g script answer out err status tells follows ends done;
  known = λ g script tells done. known-places g script;
  alike = λ g script tells done. alike-places g script;
  deltas = λ g script tells done. deltas-write lib words (view_of files) g script answer out err status tells follows ends done;
  deltas_stand = λ g script tells done. deltas-stand g script;
  dots = λ script run tells is done. dots-writes lib words (view_of files) script run answer out err status tells (inl is) follows ends done;
  dots_unlimited = λ script run tells is done. dots-writes lib words (view_of files) script run answer out err status tells (inr is) follows ends done;
  unread = unread;
}
