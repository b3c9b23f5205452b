-- The status that a failure ends with, and its line on standard error.
use Rattle.std.specs.Prelude.{ℕ, List, [], ◌∷◌, codes}
use Rattle.std.specs.Fmt.{decimal}
use Rattle.model_world.specs.Line.{line}
use Rattle.model_program.specs.Plan.{word_at}
use Rattle.model_program.specs.declared.refusal.Refusal.{Refusal}
use Rattle.model_program.specs.declared.refusal.Refusal.TheVariants.{Usage, TooLong, Graph, Script, NotDots, NotLive, TooLarge, NetworkFull, NotReached, State}
use Rattle.model_program.specs.declared.failure.Failure.{Failure}
use Rattle.model_program.specs.declared.failure.Failure.TheVariants.{Refused, ReadFault, Memory}
use Rattle.model_readings.specs.declared.graph_why.GraphWhy.{GraphWhy}
use Rattle.model_readings.specs.declared.graph_why.GraphWhy.TheVariants as graph
use Rattle.model_scripts.specs.declared.script_why.ScriptWhy.{ScriptWhy}
use Rattle.model_scripts.specs.declared.script_why.ScriptWhy.TheVariants as script
use Rattle.model_wire.specs.declared.wire_why.WireWhy.{WireWhy}
use Rattle.model_wire.specs.declared.wire_why.WireWhy.TheVariants as wire
use Rattle.model_program.specs.declared.state_why.StateWhy.{StateWhy}
use Rattle.model_program.specs.declared.state_why.StateWhy.TheVariants.{Wire, WrongGraph}

abbrev pub refusal_status : Refusal → ℕ
refusal_status Usage = 1
refusal_status (TooLong f) = 4
refusal_status (Graph number why) = 2
refusal_status (Script number why) = 3
refusal_status (NotDots number) = 3
refusal_status (NotLive number) = 3
refusal_status (TooLarge command node name) = 6
refusal_status (NetworkFull command) = 6
refusal_status (NotReached command) = 8
refusal_status (State f place why) = 9

abbrev pub status_of : Failure → ℕ
status_of (Refused refusal) = refusal_status refusal
status_of (ReadFault f) = 4
status_of Memory = 7

abbrev pub graph_why_text : GraphWhy → List ℕ
graph_why_text graph.NotJson = codes "NotJson"
graph_why_text graph.Shape = codes "Shape"
graph_why_text graph.NameShape = codes "NameShape"
graph_why_text graph.NameTaken = codes "NameTaken"
graph_why_text graph.UnknownInput = codes "UnknownInput"
graph_why_text graph.WrongKind = codes "WrongKind"
graph_why_text graph.UnknownFunction = codes "UnknownFunction"
graph_why_text graph.TooWide = codes "TooWide"
graph_why_text graph.TooMany = codes "TooMany"

abbrev pub script_why_text : ScriptWhy → List ℕ
script_why_text script.NotJson = codes "NotJson"
script_why_text script.Shape = codes "Shape"
script_why_text script.NoSuchNode = codes "NoSuchNode"
script_why_text script.UnknownVar = codes "UnknownVar"
script_why_text script.WrongOp = codes "WrongOp"
script_why_text script.ValueRefused = codes "ValueRefused"
script_why_text script.NotSent = codes "NotSent"
script_why_text script.UnknownMark = codes "UnknownMark"
script_why_text script.TooMany = codes "TooMany"
script_why_text script.MarkTaken = codes "MarkTaken"
script_why_text script.NameShape = codes "NameShape"
script_why_text script.NameTaken = codes "NameTaken"
script_why_text script.UnknownInput = codes "UnknownInput"
script_why_text script.WrongKind = codes "WrongKind"
script_why_text script.UnknownFunction = codes "UnknownFunction"
script_why_text script.TooWide = codes "TooWide"

abbrev pub wire_why_text : WireWhy → List ℕ
wire_why_text wire.Short = codes "Short"
wire_why_text wire.Magic = codes "Magic"
wire_why_text wire.Kind = codes "Kind"
wire_why_text wire.Order = codes "Order"
wire_why_text wire.Text = codes "Text"
wire_why_text wire.Range = codes "Range"
wire_why_text wire.Rest = codes "Rest"

abbrev pub state_why_text : StateWhy → List ℕ
state_why_text (Wire why) = wire_why_text why
state_why_text WrongGraph = codes "WrongGraph"

abbrev pub refusal_words : List (List ℕ) → Refusal → List (List ℕ)
refusal_words words Usage = codes "usage" ∷ []
refusal_words words (TooLong f) = codes "too long" ∷ word_at words f ∷ codes "16777216" ∷ []
refusal_words words (Graph number why) = codes "graph" ∷ decimal number ∷ graph_why_text why ∷ []
refusal_words words (Script number why) = codes "script" ∷ decimal number ∷ script_why_text why ∷ []
refusal_words words (NotDots number) = codes "script" ∷ decimal number ∷ codes "NotDots" ∷ []
refusal_words words (NotLive number) = codes "script" ∷ decimal number ∷ codes "NotLive" ∷ []
refusal_words words (TooLarge command node name) = codes "too large" ∷ decimal command ∷ decimal node ∷ name ∷ []
refusal_words words (NetworkFull command) = codes "network full" ∷ decimal command ∷ []
refusal_words words (NotReached command) = codes "not reached" ∷ decimal command ∷ []
refusal_words words (State f place why) = codes "state" ∷ word_at words f ∷ decimal place ∷ state_why_text why ∷ []

abbrev pub failure_words : List (List ℕ) → Failure → List (List ℕ)
failure_words words (Refused refusal) = refusal_words words refusal
failure_words words (ReadFault f) = codes "read fault" ∷ word_at words f ∷ []
failure_words words Memory = codes "out of memory" ∷ []

-- the one line that a failure writes on standard error
abbrev pub line_of : List (List ℕ) → Failure → List ℕ
line_of words failure = line (failure_words words failure)
