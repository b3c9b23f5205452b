-- What a command of a node leaves.
use Rattle.std.specs.Prelude.{◌≡◌, ℕ, ◌+◌, true, false, Bool, IsFalse, List, [], ◌∷◌, length, slice_get, Option, Some, None, Result, Ok, Err}
use Rattle.model_journal.specs.Entry.{Entry, Frame}
use Rattle.model_states.specs.Threshold.{Threshold, meets}
use Rattle.model_world.specs.Command.{Command, Script, Until}
use Rattle.model_live.specs.Steps.{Step, Waits, step_at}
use Rattle.model_live.specs.Story.{is_met, shown_after}
use Rattle.lasp_live.specs.Ends.{Out, In}
use Rattle.lasp_live.specs.Turns.{AreEvaluated, Learns}
use Rattle.lasp_live.specs.Fed.{Setting, HaveEnded, IsAt, frame_in}
use Rattle.lasp_live.specs.declared.log.Log.{Log}

-- command i, counted from 0, is this step of node me
pub record IsStepAt (script : Script) (me i : ℕ) (s : Step) : Type 0 where
  pub command : Command
  pub at : slice_get script.commands i ≡ Some command
  pub step : step_at me (i + 1) command ≡ s ∷ []

-- command i was done, or memory was wanting
abbrev pub HasDone : {E : Type 0} → Setting → ℕ → Result (Unit {0}) E → List Entry → Log → List Out → List In → Type 0
HasDone s i (Ok done) seen log outs ins = IsAt s (i + 1) seen log outs ins
HasDone s i (Err why) seen log outs ins = Unit {0}

-- command i was passed; or its threshold isn't met though nothing more comes of anybody; or memory was wanting
abbrev pub HasWaited : {E : Type 0} → Setting → ℕ → ℕ → Until → Result Bool E → List Entry → Log → List Out → List In → Type 0
HasWaited s i x until (Ok true) seen log outs ins = IsAt s (i + 1) seen log outs ins
HasWaited s i x until (Ok false) seen log outs ins =
    IsAt s i seen log outs ins × IsFalse (is_met (frame_in s) seen (length seen) x until) × HaveEnded s log.ended.items
HasWaited s i x until (Err why) seen log outs ins = Unit {0}

-- command i was done or passed; or it is a threshold that the node failed at, and nothing more comes of anybody; or memory was wanting
pub record HasFailed (s : Setting) (i : ℕ) (seen : List Entry) (log : Log) (outs : List Out) (ins : List In) : Type 0 where
  pub x : ℕ
  pub until : Until
  pub step : IsStepAt s.script s.me i (Waits (i + 1) x until)
  pub unmet : IsFalse (is_met (frame_in s) seen (length seen) x until)
  pub at : IsAt s i seen log outs ins
  pub ended : HaveEnded s log.ended.items

abbrev pub HasPassed : {E : Type 0} → Setting → ℕ → Result Bool E → List Entry → Log → List Out → List In → Type 0
HasPassed s i (Ok true) seen log outs ins = IsAt s (i + 1) seen log outs ins
HasPassed s i (Ok false) seen log outs ins = HasFailed s i seen log outs ins
HasPassed s i (Err why) seen log outs ins = Unit {0}

-- all commands were done, none failed; or one was the first that the node failed at; or memory was wanting
abbrev pub HasPlayed : {E : Type 0} → Setting → Result (Option ℕ) E → List Entry → Log → List Out → List In → Type 0
HasPlayed s (Ok None) seen log outs ins = IsAt s (length s.script.commands) seen log outs ins
HasPlayed s (Ok (Some c)) seen log outs ins = (i : ℕ) × (c ≡ i + 1) × HasFailed s i seen log outs ins
HasPlayed s (Err why) seen log outs ins = Unit {0}

-- the journal went on by results, and every variable is as its graph gives it; or it went on by results, and memory was wanting
abbrev pub HasSettled : {E : Type 0} → Frame → List Entry → Result (Unit {0}) E → List Entry → Type 0
HasSettled X old (Ok done) new = Learns old new × AreEvaluated X new
HasSettled X old (Err why) new = Learns old new

-- the same, and whether a variable is at a threshold was told
abbrev pub HasAsked : {E : Type 0} → Frame → Threshold → ℕ → List Entry → Result Bool E → List Entry → Type 0
HasAsked X t x old (Ok met) new = Learns old new × (met ≡ meets t (shown_after X new (length new) x))
HasAsked X t x old (Err why) new = Learns old new
