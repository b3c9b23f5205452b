-- What contracts see of a driver: a run of the world, and the nodes that do it.
use Rattle.std.specs.Prelude.{◌≡◌, ℕ, ◌≤◌, [], List, map, length, replicate, string_bytes, Option}
use Rattle.std.specs.Arc.{arc_value}
use Rattle.model_graph.specs.Graph.{Decl}
use Rattle.model_graph.specs.Message.{Message}
use Rattle.model_world.specs.Lawful.{Stage, opening_stage}
use Rattle.model_world.specs.World.{Opened, Run, start, network_limit}
use Rattle.model_world.specs.Delta.{Delta}
use Rattle.model_world.specs.Known.{IsKnown}
use Rattle.model_core.specs.Core.{Read}
use Rattle.model_runs.specs.Sound.{IsSound}
use Rattle.lasp_drive.specs.Node.{NodeView, AreNodes, HaveNoReads}
use Rattle.lasp_drive.specs.Waiting.{AreWaiting}
use Rattle.lasp_drive.specs.Marks.{marked_of, HoldMarks}
use Rattle.lasp_drive.specs.Tails.{AreTailed}
use Rattle.lasp_drive.specs.declared.node.Tail.{Tail}
use Rattle.lasp_drive.specs.declared.driver.Mark.{Mark}
use Rattle.lasp_drive.specs.declared.driver.OpenRead.{OpenRead}
use Rattle.lasp_drive.specs.declared.driver.Driver.{Driver}

-- a driver: its graph so far, its nodes, what was sent and how many bytes that may have, what is kept of each message for those who have the one before, the marks, the reads, and the printed lines
pub record DriverView : Type 0 where
  pub graph : List Decl
  pub nodes : List NodeView
  pub sent : List Message
  pub limit : ℕ
  pub tails : List (Option Tail)
  pub marks : List Mark
  pub reads : List (OpenRead Read)
  pub text : List ℕ

-- a read of a node, as its node has it
abbrev pub read_seen : {R : Type 0} → (R → Read) → OpenRead R → OpenRead Read
read_seen read r = record { node = r.node; read = read r.read }

-- a driver whose nodes and reads are seen so
abbrev pub seen : {N R : Type 0} → (N → NodeView) → (R → Read) → Driver N R → DriverView
seen view read d = record {
  graph = arc_value d.graph;
  nodes = map view d.nodes.items;
  sent = d.network.sent;
  limit = d.network.limit;
  tails = d.tails.items;
  marks = d.marks.items;
  reads = map (read_seen read) d.reads.items;
  text = string_bytes d.text;
}

-- a read that was opened
abbrev pub opened_of : OpenRead Read → Opened
opened_of r = record { node = r.node; var = r.read.var; threshold = r.read.threshold }

-- the run that a driver has come to
abbrev pub run_of : DriverView → Run
run_of d = record { graph = d.graph; peers = map (λ (n : NodeView). n.peer) d.nodes; sent = d.sent; marks = map marked_of d.marks; reads = map opened_of d.reads; text = d.text }

-- what stands there by the commands alone
abbrev pub stage_of : DriverView → Stage
stage_of d = record { graph = d.graph; marked = map (λ (m : Mark). m.var) d.marks; sent = length d.sent }

-- everything that the replicas and messages of a run of so many nodes hold is known by some deltas
abbrev pub IsRunKnown : ℕ → Run → Type 0
IsRunKnown many run = (all : List (List Delta)) × IsKnown many run.graph run.peers run.sent all

-- before command number c: the nodes are those of one run, which is sound and of which everything is known; of its reads those wait that aren't met, the nodes that are told with a mark hold what it keeps, and what is kept of a message stands behind its sender's message before
pub record Stands (c : ℕ) (d : DriverView) : Type 0 where
  pub some : 1 ≤ length d.nodes
  pub few : length d.nodes ≤ 8
  pub nodes : AreNodes d.graph (length d.nodes) d.nodes
  pub limit : d.limit ≡ network_limit
  pub sound : IsSound (length d.nodes) c (stage_of d) (run_of d)
  pub known : IsRunKnown (length d.nodes) (run_of d)
  pub waiting : AreWaiting c d.nodes d.reads
  pub marked : HoldMarks d.nodes d.marks
  pub tailed : AreTailed d.graph d.nodes d.sent d.tails

-- the driver stands there
abbrev pub IsReady : {N R : Type 0} → (N → NodeView) → (R → Read) → ℕ → Driver N R → Type 0
IsReady view read c d = Stands c (seen view read d)

-- the run is before its first command, with so many nodes to which nothing has happened
pub record Starts (g : List Decl) (many : ℕ) (d : DriverView) : Type 0 where
  pub size : length d.nodes ≡ many
  pub ready : Stands 1 d
  pub run : run_of d ≡ start g many
  pub stage : stage_of d ≡ opening_stage g
  pub calls : map (λ (n : NodeView). n.calls) d.nodes ≡ replicate many []
  pub reads : HaveNoReads d.nodes
