-- What a replica's journal makes of the replica in the world: what its sources hold, and how many updates it knows.
use Rattle.std.specs.Prelude.{List}
use Rattle.model_world.specs.World.{Peer}
use Rattle.model_journal.specs.Entry.{Entry, Frame}
use Rattle.model_journal.specs.Journal.{sources, counts}

-- the replica after the entries: its sources by variable, derived places least, and its counts
abbrev pub peer_of : Frame → List Entry → Peer
peer_of X entries = record { contents = sources X entries; counts = counts X entries }
