-- A letter as contracts see it, with what it is of.
use Rattle.std.specs.Prelude.{List}
use Rattle.std.specs.Coded.{Coded, coded×}
use Rattle.model_graph.specs.Coded.{coded_decls}
use Rattle.model_graph.specs.Graph.{Decl}
use Rattle.model_graph.specs.Message.{Message}
use Rattle.model_world.specs.Command.{Script}
use Rattle.model_live.specs.Letter.{IsLetter}
use Rattle.lasp_script.specs.Coded.{coded_script}
use Rattle.lasp_wire.specs.Sent.{coded_message}

-- what all letters of a run share: the graph and the script
abbrev pub Plan : Type 0
Plan = List Decl × Script

-- a message, and the graph and the script that it is of
abbrev pub Sealed : Type 0
Sealed = Message × Plan

abbrev pub coded_sealed : Coded Sealed
coded_sealed = coded× coded_message (coded× coded_decls coded_script)

abbrev pub IsSealed : Sealed → Type 0
IsSealed s = IsLetter s.1.0 s.1.1 s.0
