-- The message that a replica may send: what it knows, with its sources in their order.
use Rattle.std.specs.Prelude.{List}
use Rattle.model_graph.specs.Message.{Message, message_of}
use Rattle.model_journal.specs.Entry.{Entry, Frame}
use Rattle.model_journal.specs.Journal.{graph, vals, counts}

-- the message after the entries
abbrev pub message : Frame → List Entry → Message
message X entries = message_of (graph X entries) (vals X entries) (counts X entries)
