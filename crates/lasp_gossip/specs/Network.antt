-- The messages that were sent, and how many bytes they have.
use Rattle.std.specs.Prelude.{ℕ, ◌++◌, List, [], ◌∷◌, length, map, sum, refl}
use Rattle.std.specs.Coded.{Coded, code_by, coded×, coded_ℕ, coded_list}
use Rattle.model_graph.specs.Message.{Message}
use Rattle.model_graph.specs.Spelling.{spelled}
use Rattle.lasp_wire.specs.Sent.{coded_message}

-- the bytes of all messages
abbrev pub size_of : List Message → ℕ
size_of sent = sum (map (λ m. length (spelled m)) sent)

-- a network: how many bytes its messages may have together, and the messages that were sent, by their numbers
pub record Network : Type 0 where
  pub limit : ℕ
  pub sent : List Message

abbrev pub network : ℕ → List Message → Network
network limit sent = record { limit = limit; sent = sent }

-- a network with a message more
abbrev pub with_sent : Network → Message → Network
with_sent n m = network n.limit (n.sent ++ m ∷ [])

abbrev pub coded_network : Coded Network
coded_network = code_by (ℕ × List Message) (coded× coded_ℕ (coded_list coded_message)) (λ n. (n.limit, n.sent)) (λ p. network p.0 p.1) (λ _. refl)
