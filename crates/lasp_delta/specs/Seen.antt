-- What contracts see of a run by deltas.
use Rattle.std.specs.Prelude.{ℕ, List, length, Option}
use Rattle.model_core.specs.Core.{Read}
use Rattle.model_deltas.specs.Delta.{Delta}
use Rattle.model_deltas.specs.Gossip.{Gossip}
use Rattle.model_deltas.specs.Going.{IsGoing}
use Rattle.lasp_drive.specs.Node.{NodeView}
use Rattle.lasp_drive.specs.Driver.{DriverView, seen, run_of, stage_of, Stands}
use Rattle.lasp_delta.specs.declared.run.deltas.DeltaRun.{DeltaRun}

-- a run by deltas: its driver, of each node the number of the message that it sent last, each message's delta, and how many deliveries and gaps there were
pub record DeltaView : Type 0 where
  pub driver : DriverView
  pub last : List (Option ℕ)
  pub deltas : List Delta
  pub deliveries : ℕ
  pub gaps : ℕ

abbrev pub delta_seen : {N R : Type 0} → (N → NodeView) → (R → Read) → DeltaRun N R → DeltaView
delta_seen view read d = record { driver = seen view read d.driver; last = d.last.items; deltas = d.letters.items; deliveries = d.deliveries; gaps = d.gaps }

-- the run to which it has come
abbrev pub gossip_of : DeltaView → Gossip
gossip_of d = record { run = run_of d.driver; last = d.last; deltas = d.deltas; deliveries = d.deliveries; gaps = d.gaps }

-- before command number c: the driver stands there, and it is a place of a run by deltas
pub record IsUnderWay (c : ℕ) (d : DeltaView) : Type 0 where
  pub ready : Stands c d.driver
  pub going : IsGoing (length d.driver.nodes) (stage_of d.driver) (gossip_of d)
