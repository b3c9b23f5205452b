-- Bytes that go on behind a message.
use Rattle.std.specs.Prelude.{◌≡◌, ◌≢◌, ◌++◌, ℕ, true, List, [], length}
use Rattle.model_graph.specs.Message.{Message}
use Rattle.model_wire.specs.Message.{is_version}
use Rattle.model_wire.specs.Spelling.{spelled_in}
use Rattle.model_wire.specs.Lawful.{IsMessage}

-- a message's spelling begins the bytes, and ends at the place; at least one byte follows it
pub record HasMessageBefore (bytes : List ℕ) (place : ℕ) : Type 0 where
  pub version : ℕ
  pub message : Message
  pub more : List ℕ
  pub known : is_version version ≡ true
  pub lawful : IsMessage message
  pub some : more ≢ []
  pub parts : bytes ≡ spelled_in version message ++ more
  pub ends : place ≡ length (spelled_in version message)
