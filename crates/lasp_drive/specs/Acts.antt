-- What the acts of a driver do: what the world does, or they stop where the world stops.
use Rattle.std.specs.Prelude.{◌≡◌, ℕ, ◌+◌, ◌<◌, ◌≤◌, ◌==◌, if◌then◌else◌, Bool, IsTrue, IsFalse, List, [], ◌∷◌, ◌++◌, length, map, Result, Ok, Err, OnOk}
use Rattle.model_states.specs.Threshold.{Threshold}
use Rattle.model_graph.specs.Graph.{kind_at, is_source}
use Rattle.model_graph.specs.Lawful.{variable_limit}
use Rattle.model_readings.specs.Lawful.{IsNext}
use Rattle.model_world.specs.Command as plain
use Rattle.model_world.specs.Lawful.{Stage, IsPlace, MayAsk, MayBeDone}
use Rattle.model_world.specs.World.{Act, Update, Keep, Post, Take, Point, Show, Open, Reach, Extend, acts, each}
use Rattle.model_world.specs.declared.stop.Stop.{Stop}
use Rattle.model_world.specs.declared.stop.Stop.TheVariants as stop
use Rattle.model_core.specs.Core.{Read}
use Rattle.model_runs.specs.Calls.{calls_of_acts}
use Rattle.model_runs.specs.Held.{IsUpdate}
use Rattle.lasp_drive.specs.Node.{NodeView, AreSettled}
use Rattle.lasp_drive.specs.Reads.{IsNextRead}
use Rattle.lasp_drive.specs.Waiting.{reads_at, GoOnByReads}
use Rattle.lasp_drive.specs.Calls.{GoOnByCalls, GoesOnWithin}
use Rattle.lasp_drive.specs.Driver.{DriverView, seen, run_of, stage_of, Stands}
use Rattle.lasp_drive.specs.declared.halt.Halt.{Halt}
use Rattle.lasp_drive.specs.declared.halt.Halt.TheVariants as halt
use Rattle.lasp_drive.specs.declared.driver.Driver.{Driver}

-- a run that didn't go on stopped where the world stops, or memory was wanting
abbrev pub Halts : {B : Type 0} → Result B Stop → Halt → Type 0
Halts expected (halt.TooLarge c p x) = expected ≡ Err (stop.TooLarge c p x)
Halts expected (halt.NetworkFull c) = expected ≡ Err (stop.NetworkFull c)
Halts expected (halt.NotReached c) = expected ≡ Err (stop.NotReached c)
Halts expected halt.Memory = Unit {0}

-- what is done is what the world does, or it stops where the world stops, or memory was wanting
abbrev pub Does : {A B : Type 0} → Result B Stop → Result A Halt → B → Type 0
Does expected (Ok done) new = expected ≡ Ok new
Does expected (Err why) new = Halts expected why

-- ---- what acts leave

-- what stands there by an act alone
abbrev pub staged : Stage → Act → Stage
staged s (Keep p x) = record { graph = s.graph; marked = s.marked ++ x ∷ []; sent = s.sent }
staged s (Post p) = record { graph = s.graph; marked = s.marked; sent = s.sent + 1 }
staged s (Extend d) = record { graph = s.graph ++ d ∷ []; marked = s.marked; sent = s.sent }
staged s _ = s

abbrev pub all_staged : Stage → List Act → Stage
all_staged s [] = s
all_staged s (a ∷ rest) = all_staged (staged s a) rest

-- how many reads an act opens at node p
abbrev pub asks : ℕ → Act → ℕ
asks p (Open q x until) = if q == p then 1 else 0
asks p (Reach q x until) = if q == p then 1 else 0
asks p _ = 0

abbrev pub all_asks : ℕ → List Act → ℕ
all_asks p [] = 0
all_asks p (a ∷ rest) = asks p a + all_asks p rest

-- acts of command number c were done as the world does them, each node got the calls that they make at it, and the driver stands before command number next
pub record Acted (c next : ℕ) (old : DriverView) (done : List Act) (new : DriverView) : Type 0 where
  pub ready : Stands next new
  pub size : length new.nodes ≡ length old.nodes
  pub stage : stage_of new ≡ all_staged (stage_of old) done
  pub run : each c (run_of old) done ≡ Ok (run_of new)
  pub calls : GoOnByCalls old.nodes new.nodes (λ p. calls_of_acts c (run_of old) p done)
  pub opened : GoOnByReads old.nodes new.nodes (λ p. all_asks p done)

-- the run stopped within acts of command number c where the world stops, or memory was wanting; each node has got the first of the calls that they make at it
pub record StopsWithin (c : ℕ) (old : DriverView) (all : List Act) (why : Halt) (new : List NodeView) : Type 0 where
  pub halts : Halts (each c (run_of old) all) why
  pub calls : GoesOnWithin old.nodes new (λ p. calls_of_acts c (run_of old) p all)

-- these acts were done, or the run stopped within them
abbrev pub ActsSeen : {A : Type 0} → ℕ → ℕ → DriverView → List Act → Result A Halt → DriverView → Type 0
ActsSeen c next old all (Ok done) new = Acted c next old all new
ActsSeen c next old all (Err why) new = StopsWithin c old all why new.nodes

-- the same, and each node is where it was
pub record Acts {N R P A : Type 0} (view : N → NodeView) (read : R → Read) (place : N → P) (c next : ℕ) (old : Driver N R) (all : List Act) (result : Result A Halt) (new : Driver N R) : Type 0 where
  pub acts : ActsSeen c next (seen view read old) all result (seen view read new)
  pub in_place : map place new.nodes.items ≡ map place old.nodes.items

-- the same of acts behind which the driver still stands before command number c, with the reads that it had
pub record Passes {N R P A : Type 0} (view : N → NodeView) (read : R → Read) (place : N → P) (c : ℕ) (old : Driver N R) (all : List Act) (result : Result A Halt) (new : Driver N R) : Type 0 where
  pub acts : ActsSeen c c (seen view read old) all result (seen view read new)
  pub reads : OnOk result (new.reads ≡ old.reads)
  pub in_place : map place new.nodes.items ≡ map place old.nodes.items

-- the same of the acts of a command
abbrev pub Steps : {N R P A : Type 0} → (N → NodeView) → (R → Read) → (N → P) → ℕ → Driver N R → plain.Command → Result A Halt → Driver N R → Type 0
Steps view read place c old k result new = Acts view read place c (c + 1) old (acts (run_of (seen view read old)) k) result new

-- ---- where acts may be done

-- an act of command number c may be done there: its node, variable, mark and message are there, its operation is one of the variable's kind, what it shows is settled, and what it declares may follow
abbrev pub MayDo : ℕ → DriverView → Act → Type 0
MayDo c d (Update p x op) = IsPlace (length d.nodes) (stage_of d) p x × IsUpdate (length d.nodes) d.graph x op × (c ≤ 100000)
MayDo c d (Keep p x) = IsPlace (length d.nodes) (stage_of d) p x × IsTrue (is_source (kind_at d.graph x))
MayDo c d (Post p) = (p < length d.nodes) × (c ≤ 100000)
MayDo c d (Take p i) = (p < length d.nodes) × (i < length d.sent)
MayDo c d Point = Unit {0}
MayDo c d (Show p x) = IsPlace (length d.nodes) (stage_of d) p x × AreSettled d.nodes
MayDo c d (Open p x until) = IsPlace (length d.nodes) (stage_of d) p x × MayAsk (length d.nodes) (stage_of d) x until
MayDo c d (Reach p x until) = IsPlace (length d.nodes) (stage_of d) p x × MayAsk (length d.nodes) (stage_of d) x until × AreSettled d.nodes
MayDo c d (Extend decl) = (length d.graph < variable_limit) × IsNext d.graph decl

-- the driver stands before command number c, and the act may be done there
pub record MayAct {N R : Type 0} (view : N → NodeView) (read : R → Read) (c : ℕ) (d : Driver N R) (a : Act) : Type 0 where
  pub ready : Stands c (seen view read d)
  pub lawful : MayDo c (seen view read d) a

-- the driver stands before command number c, which may be done there
pub record MayStep {N R : Type 0} (view : N → NodeView) (read : R → Read) (c : ℕ) (d : Driver N R) (k : plain.Command) : Type 0 where
  pub ready : Stands c (seen view read d)
  pub few : c ≤ 100000
  pub lawful : MayBeDone (length (map view d.nodes.items)) (stage_of (seen view read d)) k

-- ---- what reads leave

-- the run has one read more: it waits for variable x of node p, under that node's next number where its reads are told
pub record HasOpened {N R : Type 0} (view : N → NodeView) (read : R → Read) (p x : ℕ) (threshold : Threshold) (old new : Driver N R) : Type 0 where
  pub handle : R
  pub reads_are : new.reads.items ≡ old.reads.items ++ record { node = p; read = handle } ∷ []
  pub is : IsNextRead (reads_at (map view old.nodes.items) p) x threshold (read handle)

-- the run went on because its threshold was met, or stopped at command number c because it wasn't, or memory was wanting
abbrev pub Reaches : {A : Type 0} → ℕ → Bool → Result A Halt → Type 0
Reaches c met (Ok done) = IsTrue met
Reaches c met (Err (halt.NotReached k)) = (k ≡ c) × IsFalse met
Reaches c met (Err halt.Memory) = Unit {0}
Reaches c met (Err (halt.TooLarge k p x)) = ⊥
Reaches c met (Err (halt.NetworkFull k)) = ⊥

-- whether it was done or refused, unless memory was wanting
abbrev pub UnlessMemory : {A : Type 0} → Result A Halt → Type 0 → Type 0
UnlessMemory (Ok done) P = P
UnlessMemory (Err halt.Memory) P = Unit {0}
UnlessMemory (Err (halt.TooLarge k p x)) P = P
UnlessMemory (Err (halt.NetworkFull k)) P = P
UnlessMemory (Err (halt.NotReached k)) P = P
