-- Messages as plain data, and as trees of numbers.
use Rattle.std.specs.Prelude.{ℕ, List, [], ◌∷◌, ◌++◌, refl}
use Rattle.std.specs.Coded.{Coded, code_by, coded×, coded_ℕ, coded_list}
use Rattle.model_states.specs.Coded.{coded_content}
use Rattle.model_states.specs.Content.{Content}
use Rattle.model_graph.specs.Coded.{coded_kind}
use Rattle.model_graph.specs.Graph.{Kind, OrSet, GSet, Counter, MaxReg, Union}
use Rattle.model_graph.specs.Message.{Sent, Message}
use Rattle.model_wire.specs.Message.{Held}
use Rattle.lasp_state.specs.declared.state.State.{State}
use Rattle.lasp_state.specs.declared.state.State.TheVariants.{Set, Grow, Count, Max, Fold}
use Rattle.lasp_state.specs.State.{content_of}
use Rattle.lasp_wire.specs.declared.source.Source.{Source}

-- the kind of a source with this state; a fold is none, and a kind that is no source stands for it
abbrev pub kind_of : State → Kind
kind_of (Set rows) = OrSet
kind_of (Grow values) = GSet
kind_of (Count counts) = Counter
kind_of (Max m) = MaxReg
kind_of (Fold rows n) = Union 0 0

-- what a source with this state holds
abbrev pub held_of : State → Held
held_of s = (kind_of s, content_of s)

-- a source with a name and a state
abbrev pub sent : List ℕ → State → Sent
sent name s = record { decl = record { name = name; kind = kind_of s }; content = content_of s }

abbrev pub sent_of : Source → Sent
sent_of s = sent s.name s.state

-- what a source holds
abbrev pub held_in : Sent → Held
held_in s = (s.decl.kind, s.content)

-- a message of these counts and sources
abbrev pub message : List ℕ → List Sent → Message
message counts sources = record { counts = counts; sources = sources }

-- a message with a source more
abbrev pub with_source : Message → Sent → Message
with_source m s = message m.counts (m.sources ++ s ∷ [])

abbrev pub coded_sent : Coded Sent
coded_sent =
    code_by (List ℕ × (Kind × Content)) (coded× (coded_list coded_ℕ) (coded× coded_kind coded_content)) (λ s. (s.decl.name, (s.decl.kind, s.content)))
    (λ p. record { decl = record { name = p.0; kind = p.1.0 }; content = p.1.1 }) (λ _. refl)

abbrev pub coded_message : Coded Message
coded_message = code_by (List ℕ × List Sent) (coded× (coded_list coded_ℕ) (coded_list coded_sent)) (λ m. (m.counts, m.sources)) (λ p. message p.0 p.1) (λ _. refl)
