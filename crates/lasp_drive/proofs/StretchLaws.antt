-- A run goes on stretch by stretch.
use Rattle.std.proofs.Common.{ap, sym, subst, ◌∙◌, arith, drop, ◌⊎◌, inl, inr}
use Rattle.std.specs.Prelude.{◌≡◌, ℕ, ◌+◌, ◌≤◌, ◌<◌, List, [], ◌∷◌, length, Some, slice_get, Result, Ok, Err, OnOk, IsTrue, true, false}
use Rattle.std.proofs.Math.Nat.{eq-or-lt_of_le}
use Rattle.std.proofs.lemmas.Option.{slice_get_within, get_or_from_slice_get}
use Rattle.model_values.proofs.ListLaws.{drop-at}
use Rattle.model_functions.specs.Library.{Library}
use Rattle.model_readings.specs.Lawful.{IsGraph, FitsAll}
use Rattle.model_scripts.specs.Progress.{grown_by, grown}
use Rattle.model_world.specs.Command.{Command}
use Rattle.model_world.specs.Lawful.{MayBeDone}
use Rattle.model_world.specs.World.{Point, acts}
use Rattle.lasp_drive.specs.Node.{NodeView, AreSettled}
use Rattle.lasp_drive.specs.Driver.{DriverView, run_of, stage_of, Stands}
use Rattle.lasp_drive.specs.Acts.{Acted, ActsSeen, StopsWithin}
use Rattle.lasp_drive.specs.Play.{MayPlay, StopsAmong, PlaysSeen}
use Rattle.lasp_drive.specs.Stretch.{is_point, HaveNoPoint, MayGoOn, GoesOn, IsAt, HasAdvanced, CrossesSeen, PassesOnSeen}
use Rattle.lasp_drive.specs.declared.halt.Halt.{Halt}
use Rattle.lasp_drive.proofs.PlayLaws.{drop-past, graph-so-far, fits-so-far, way-begins, way-next, way-stops, way-then, way-halts, way-ends, may-next, may-begin}

pub at-begin : (lib : Library) (d : DriverView) (from : ℕ) (commands : List Command) → from ≤ length commands → MayGoOn lib (from + 1) d (drop from commands) → IsAt lib from from commands d d
at-begin lib d from commands within may = record { within = within; may = may; way = way-begins (from + 1) d (drop from commands) may.ready }

pub at-start : (lib : Library) (d : DriverView) (commands : List Command) → MayPlay lib d commands → IsAt lib 0 0 commands d d
at-start lib d commands may = at-begin lib d 0 commands (omega arith) (may-begin lib d commands may)

-- what the next command needs
pub record MayDoNext (lib : Library) (c : ℕ) (d : DriverView) (k : Command) : Type 0 where
  pub ready : Stands c d
  pub few : c ≤ 100000
  pub lawful : MayBeDone (length d.nodes) (stage_of d) k
  pub graph : IsGraph (grown d.graph (k ∷ []))
  pub fits : FitsAll lib d.graph

pub at-command : (lib : Library) (from i : ℕ) (commands : List Command) (old now : DriverView) (k : Command) → IsAt lib from i commands old now → slice_get commands i ≡ Some k → MayDoNext lib (i + 1) now k
at-command lib from i commands old now k there at =
    let may = subst (λ (left : List Command). MayGoOn lib (i + 1) now left) (drop-at commands i k at) there.may in
    record {
      ready = may.ready;
      few = omega (arith, may.few);
      lawful = may.lawful.0;
      graph = graph-so-far (grown_by now.graph k) (drop (i + 1) commands) may.graph;
      fits = fits-so-far lib now.graph (k ∷ drop (i + 1) commands) may.fits;
    }

-- the next command was done
pub at-next : (lib : Library) (from i : ℕ) (commands : List Command) (old now new : DriverView) (k : Command) → IsAt lib from i commands old now → slice_get commands i ≡ Some k → Acted (i + 1) (i + 1 + 1) now (acts (run_of now) k) new → IsAt lib from (i + 1) commands old new
at-next lib from i commands old now new k there at done =
    let left = drop-at commands i k at in
    record {
      within = omega (arith, slice_get_within commands i k at);
      may = may-next lib (i + 1) now new k (drop (i + 1) commands) (subst (λ (ks : List Command). MayGoOn lib (i + 1) now ks) left there.may) done;
      way = way-next (from + 1) (i + 1) old now new k (drop (i + 1) commands) (drop from commands) (subst (λ (ks : List Command). GoesOn (from + 1) (i + 1) old now (drop from commands) ks) left there.way) done;
    }

-- the next command stopped the run
pub at-stops : (lib : Library) (from i : ℕ) (commands : List Command) (old now : DriverView) (k : Command) (why : Halt) (nodes : List NodeView) → IsAt lib from i commands old now → slice_get commands i ≡ Some k → StopsWithin (i + 1) now (acts (run_of now) k) why nodes
    → StopsAmong (from + 1) old (drop from commands) why nodes
at-stops lib from i commands old now k why nodes there at stop =
    way-stops (from + 1) (i + 1) old now k (drop (i + 1) commands) (drop from commands) why nodes (subst (λ (ks : List Command). GoesOn (from + 1) (i + 1) old now (drop from commands) ks) (drop-at commands i k at) there.way) stop

-- one stretch behind others
pub at-then : (lib : Library) (from mid i : ℕ) (commands : List Command) (old now new : DriverView) → IsAt lib from mid commands old now → IsAt lib mid i commands now new → IsAt lib from i commands old new
at-then lib from mid i commands old now new first second = record {
  within = second.within;
  may = second.may;
  way = way-then (from + 1) (mid + 1) (i + 1) old now new (drop from commands) (drop mid commands) (drop i commands) first.way second.way;
}

pub at-halts : (lib : Library) (from mid : ℕ) (commands : List Command) (old now : DriverView) (why : Halt) (nodes : List NodeView) → IsAt lib from mid commands old now → StopsAmong (mid + 1) now (drop mid commands) why nodes → StopsAmong (from + 1) old (drop from commands) why nodes
at-halts lib from mid commands old now why nodes first stop = way-halts (from + 1) (mid + 1) old now (drop from commands) (drop mid commands) why nodes first.way stop

-- the script's end is a point
pub at-ends : {A : Type 0} (lib : Library) (i : ℕ) (commands : List Command) (old now new : DriverView) (result : Result A Halt) → IsAt lib 0 i commands old now → length commands ≤ i → ActsSeen (i + 1) (i + 1) now (Point ∷ []) result new → OnOk result (AreSettled new.nodes) → PlaysSeen old commands result new
at-ends lib i commands old now new result there past point settled =
    way-ends (i + 1) old now new commands result (omega (arith, there.may.few)) (subst (λ (ks : List Command). GoesOn 1 (i + 1) old now commands ks) (drop-past commands i past) there.way) point settled

-- what is declared so far fits
pub at-fits : (lib : Library) (from i : ℕ) (commands : List Command) (old now : DriverView) → IsAt lib from i commands old now → FitsAll lib now.graph
at-fits lib from i commands old now there = fits-so-far lib now.graph (drop i commands) there.may.fits

-- the command at a place is a point
pub at-point : (commands : List Command) (i : ℕ) (here : Command) → slice_get commands i ≡ Some here → is_point here ≡ true → (k : Command) → slice_get commands i ≡ Some k → IsTrue (is_point k)
at-point commands i here at is k there = ap is_point (sym (get_or_from_slice_get commands i k here there) ∙ get_or_from_slice_get commands i here here at) ∙ is

-- the command at a place is none
pub between-next : (commands : List Command) (from i : ℕ) (here : Command) → slice_get commands i ≡ Some here → is_point here ≡ false → HaveNoPoint from i commands → HaveNoPoint from (i + 1) commands
between-next commands from i here at is none j past low k there = by (eq-or-lt_of_le (omega (arith, low))) where
  by : (j ≡ i) ⊎ (j < i) → is_point k ≡ false
  by (inl same) = ap is_point (sym (get_or_from_slice_get commands i k here (ap (λ (n : ℕ). slice_get commands n) (sym same) ∙ there)) ∙ get_or_from_slice_get commands i here here at) ∙ is
  by (inr before) = none j past before k there

-- there is none at the end
pub at-end : (commands : List Command) (i : ℕ) → length commands ≤ i → (k : Command) → slice_get commands i ≡ Some k → IsTrue (is_point k)
at-end commands i past k at = absurd (omega (arith, past, slice_get_within commands i k at))

-- the point behind a stretch was done with it, or the run stopped there
pub passes-on : (lib : Library) (from i : ℕ) (commands : List Command) (old mid new : DriverView) (result : Result ℕ Halt) → from < length commands → HasAdvanced lib from i commands old mid → CrossesSeen lib i commands mid result new → PassesOnSeen lib from commands old result new
passes-on lib from i commands old mid new (Ok j) more far crossed = (by crossed.0, at-then lib from i j commands old mid new far.there crossed.1) where
  by : (i < j) ⊎ (j ≡ length commands) → from < j
  by (inl later) = omega (arith, later, far.past)
  by (inr end) = omega (arith, end, more)
passes-on lib from i commands old mid new (Err why) more far stop = at-halts lib from i commands old mid why new.nodes far.there stop
