-- What leads from a message to a later one.
use Rattle.std.specs.Prelude.{◌≡◌, ℕ, Option, Some}
use Rattle.std.specs.Arc.{arc_value}
use Rattle.model_graph.specs.Message.{Message}
use Rattle.model_wire.specs.Lawful.{IsMessage}
use Rattle.model_deltas.specs.Before.{IsBefore}
use Rattle.lasp_drive.specs.Since.{message_since}
use Rattle.lasp_drive.specs.declared.node.Tail.{Tail}

-- a message and what came since it lead to a later one of its sender
pub record LeadTo (before tail after : Message) : Type 0 where
  pub lawful : IsMessage after
  pub earlier : IsBefore before after
  pub exact : tail ≡ message_since before after

-- what is kept of a later message leads to it, if it goes on from the message with this number
abbrev pub LeadsFrom : Option ℕ → Message → Option Tail → Message → Type 0
LeadsFrom last before tail after = (t : Tail) → tail ≡ Some t → last ≡ Some t.before → LeadTo before (arc_value t.rows) after
