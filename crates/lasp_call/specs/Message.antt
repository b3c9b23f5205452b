-- The messages of files, and the node that takes them.
use Rattle.std.specs.Prelude.{ℕ}
use Rattle.model_wire.specs.declared.wire_why.WireWhy.{WireWhy}
use Rattle.model_world.specs.World.{Peer}
use Rattle.model_program.specs.declared.refusal.Refusal.{Refusal}
use Rattle.model_program.specs.declared.refusal.Refusal.TheVariants.{State}
use Rattle.model_program.specs.declared.state_why.StateWhy.TheVariants.{Wire}
use Rattle.lasp_drive.specs.Node.{NodeView}

-- file f is no message at this place
abbrev pub message_refused : ℕ → ℕ × WireWhy → Refusal
message_refused f e = State f e.0 (Wire e.1)

-- the sources and counts of a node
abbrev pub peer_by : {N : Type 0} → (N → NodeView) → N → Peer
peer_by view n = (view n).peer
