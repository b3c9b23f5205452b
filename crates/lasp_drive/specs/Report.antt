-- What the report asks the nodes of a run.
use Rattle.std.specs.Prelude.{◌≡◌, ℕ, ◌<◌, List, length, map, slice_get, Some}
use Rattle.model_graph.specs.Spelling.{spelled}
use Rattle.model_world.specs.World.{Run, message_at, peer_at}
use Rattle.model_core.specs.Core.{Read}
use Rattle.lasp_drive.specs.Node.{NodeView, AreNodes, AreSettled, MayRead}
use Rattle.lasp_drive.specs.Nodes.{peers_of, AllLearn}
use Rattle.lasp_drive.specs.Driver.{seen, run_of, IsReady}
use Rattle.lasp_drive.specs.declared.driver.OpenRead.{OpenRead}
use Rattle.lasp_drive.specs.declared.driver.Driver.{Driver}

-- a read that was opened at one of the settled nodes
pub record MayPoll (nodes : List NodeView) (r : OpenRead Read) : Type 0 where
  pub settled : AreSettled nodes
  pub node : r.node < length nodes
  pub may : (n : NodeView) → slice_get nodes r.node ≡ Some n → MayRead n r.read.var r.read.threshold

-- each of them is
abbrev pub AreOpened : List NodeView → List (OpenRead Read) → Type 0
AreOpened nodes reads = (k : ℕ) (r : OpenRead Read) → slice_get reads k ≡ Some r → MayPoll nodes r

-- it holds of each run whose nodes these are
abbrev pub OfTheirRun : List NodeView → (Run → Type 0) → Type 0
OfTheirRun nodes P = (run : Run) → peers_of nodes ≡ run.peers → AreNodes run.graph (length nodes) nodes → P run

-- the bytes of a node's message
abbrev pub exported : ℕ → Run → List ℕ
exported p run = spelled (message_at run.graph (peer_at run.peers p))

-- the nodes of a driver were only asked: each learned at most and is where it was, and all else is as it was
pub record OnlyAsked {N R P : Type 0} (view : N → NodeView) (read : R → Read) (place : N → P) (old new : Driver N R) : Type 0 where
  pub learn : AllLearn (map view old.nodes.items) (map view new.nodes.items)
  pub in_place : map place new.nodes.items ≡ map place old.nodes.items
  pub run : run_of (seen view read new) ≡ run_of (seen view read old)
  pub ready : (c : ℕ) → IsReady view read c old → IsReady view read c new
