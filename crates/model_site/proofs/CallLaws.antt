-- A call that followed the plan of its words, and ended by its answer, keeps all that is promised of it.
use Rattle.std.specs.Prelude.{◌≡◌, ℕ, List, None, Result, Ok, Err}
use Rattle.model_functions.specs.Library.{Library}
use Rattle.model_program.specs.Call.{AreUnchanged, AreLater, IsLater, Reading, view_of}
use Rattle.model_program.specs.Ends.{Writing}
use Rattle.model_site.specs.Call.{IsAnswered}
use Rattle.model_site.specs.Ends.{Ends}
use Rattle.model_site.specs.Follows.{Follows}
use Rattle.model_site.specs.Program.{site_of, plan}
use Rattle.model_site.specs.declared.site_failure.SiteFailure.{SiteFailure}
use Rattle.model_site.proofs.AnswerLaws.{follows-told, refused-ends, written-ends, complete-ends, quiet-ends}
use Rattle.model_site.proofs.CauseLaws.{told-cause}
use Rattle.model_site.proofs.KeptLaws.{kept-ends, called-ends}
use Rattle.model_site.proofs.PromiseLaws.{world-ends}
use Rattle.model_site.proofs.StatusLaws.{few-statuses}

pub call-answered : {N : Type 0} (lib : Library) (words : List (List ℕ)) (files : Reading N) (answer : Result (List ℕ) SiteFailure) (out err : Writing) (status : ℕ)
    → AreUnchanged files.content files.before files.after → AreLater files.faults files.before files.after → (site_of words ≡ None → files.after ≡ files.before)
    → Follows words (view_of files) (plan lib words) answer → IsLater out → IsLater err → Ends words answer out err status → IsAnswered lib words files out err status
call-answered lib words files answer out err status same later unread follows out_later err_later ends = record {
  same = same;
  later = later;
  out_later = out_later;
  err_later = err_later;
  ends = (answer, follows, ends);
  caused = λ a told. told-cause lib (files.content files.before) words a told;
  refused = λ x told. refused-ends words (view_of files) (plan lib words) x answer out err status (follows-told words (view_of files) (plan lib words) answer (Err x) follows told) ends;
  written = λ bytes told. written-ends words (view_of files) (plan lib words) bytes answer out err status (follows-told words (view_of files) (plan lib words) answer (Ok bytes) follows told) ends;
  complete = λ bytes told quiet sound. complete-ends words (view_of files) (plan lib words) bytes answer out err status quiet sound (follows-told words (view_of files) (plan lib words) answer (Ok bytes) follows told) ends;
  world = λ p g s messages tells done. world-ends lib words (view_of files) p g s messages answer out err status tells follows ends done;
  kept = λ p g s messages tells done. kept-ends lib words (view_of files) p g s messages answer out err status tells follows ends done;
  called = λ g s sites k tells done. called-ends lib words (view_of files) g s sites k answer out err status tells follows ends done;
  few = few-statuses lib words (view_of files) answer out err status follows ends;
  unread = unread;
  quiet = λ not_done not_fault. quiet-ends words answer out err status not_done not_fault ends;
}
