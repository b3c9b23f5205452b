-- Replicas that do the updates of a script before any node runs.
use Rattle.std.specs.Prelude.{◌≡◌, ℕ, ◌+◌, ◌<◌, IsTrue, List, [], length, Option, Some, None, Result, Ok, Err}
use Rattle.std.specs.List.{range_with_len}
use Rattle.model_core.specs.Core.{Core, entered}
use Rattle.model_core.specs.Peer.{peer_of}
use Rattle.model_graph.specs.Evaluation.{content_at}
use Rattle.model_graph.specs.Graph.{Decl, is_source, kind_at}
use Rattle.model_journal.specs.Entry as model
use Rattle.model_journal.specs.Entry.{entry}
use Rattle.model_journal.specs.Journal.{declared}
use Rattle.model_journal.specs.Legal.{IsLegal}
use Rattle.model_runs.specs.Calls.{frame_of}
use Rattle.model_world.specs.Command.{Script}
use Rattle.model_live.specs.Together.{alone, together}
use Rattle.lasp_graph.specs.States.{Held}
use Rattle.lasp_graph.specs.declared.inputs.EvalAll.{EvalAll}
use Rattle.lasp_graph.specs.declared.inputs.EvalAll.TheVariants.{TooLarge, Memory}
use Rattle.lasp_replica.specs.Replica.{IsSmall}
use Rattle.lasp_state.specs.State.{op_of}
use Rattle.lasp_live.specs.Own.{peer_before}
use Rattle.lasp_live.specs.declared.step.Step.{Step}
use Rattle.lasp_live.specs.declared.step.Step.TheVariants.{Update, Send, Print, Await}

-- the replica of node p behind its own updates before command i, counted from 0
pub record IsAloneAt (g : List Decl) (script : Script) (p i : ℕ) (core : Core) : Type 0 where
  pub frame : core.frame ≡ frame_of g script.nodes p
  pub undeclared : declared core.entries ≡ []
  pub peer : peer_of core.frame core.entries ≡ peer_before g script p i

-- behind all its own updates
pub record IsAlone (g : List Decl) (script : Script) (p : ℕ) (core : Core) : Type 0 where
  pub frame : core.frame ≡ frame_of g script.nodes p
  pub undeclared : declared core.entries ≡ []
  pub peer : peer_of core.frame core.entries ≡ alone g script p

-- a replica whose sources are what the nodes' updates come to, of so many nodes from node p on
pub record IsTogetherFrom (g : List Decl) (script : Script) (p many : ℕ) (core : Core) : Type 0 where
  pub all : p + many ≡ script.nodes
  pub frame : core.frame ≡ frame_of g script.nodes 0
  pub undeclared : declared core.entries ≡ []
  pub contents : (x : ℕ) → x < length g → IsTrue (is_source (kind_at g x)) → content_at (peer_of core.frame core.entries).contents x ≡ content_at (together g script (range_with_len p many)) x

-- of all nodes
pub record IsTogether (g : List Decl) (script : Script) (core : Core) : Type 0 where
  pub frame : core.frame ≡ frame_of g script.nodes 0
  pub undeclared : declared core.entries ≡ []
  pub contents : (x : ℕ) → x < length g → IsTrue (is_source (kind_at g x)) → content_at (peer_of core.frame core.entries).contents x ≡ content_at (together g script (range_with_len 0 script.nodes)) x

-- ---- step by step

-- the operation of an update is small
abbrev pub IsSmallStep : ℕ → Option Step → Type 0
IsSmallStep nodes None = Unit {0}
IsSmallStep nodes (Some (Update x op)) = IsSmall nodes op
IsSmallStep nodes (Some Send) = Unit {0}
IsSmallStep nodes (Some (Print x)) = Unit {0}
IsSmallStep nodes (Some (Await x until)) = Unit {0}

-- an update was entered, and any other step changed nothing
abbrev pub HasStepped : Option Step → Core → Core → Type 0
HasStepped None old new = new ≡ old
HasStepped (Some (Update x op)) old new = (new ≡ entered (entry 0 (model.Update x (op_of op))) old) × IsLegal new.frame new.entries
HasStepped (Some Send) old new = new ≡ old
HasStepped (Some (Print x)) old new = new ≡ old
HasStepped (Some (Await x until)) old new = new ≡ old

-- ---- what is too large

-- the variable that evaluation tells as too large; none where all was evaluated
abbrev pub IsLargeOf : Result (List Held) EvalAll → Option ℕ → Type 0
IsLargeOf (Ok states) large = large ≡ None
IsLargeOf (Err (TooLarge x)) large = large ≡ Some x
IsLargeOf (Err Memory) large = ⊥
