-- The words that the contracts of this library are written in.
pub use Rattle.std.specs.Arc.{arc_value}
pub use Rattle.model_graph.specs.Message.{message_of}
pub use Rattle.model_graph.specs.Spelling.{spelled}
pub use Rattle.model_wire.specs.Lawful.{IsMessage}
pub use Rattle.lasp_graph.specs.States.{AreSourcesOfKind, contents_of}
pub use Rattle.lasp_gossip.specs.Network.{network, size_of, with_sent}
