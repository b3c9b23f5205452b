-- Deltas as plain data, and as trees of numbers.
use Rattle.std.specs.Prelude.{ℕ, List, refl}
use Rattle.std.specs.Coded.{Coded, code_by, coded×, coded_ℕ, coded_list}
use Rattle.model_graph.specs.Message.{Sent, Message}
use Rattle.model_deltas.specs.Delta.{Delta}
use Rattle.lasp_wire.specs.Sent.{coded_sent}

-- the delta that goes on from some counts and carries a message
abbrev pub going_on : List ℕ → Message → Delta
going_on from m = record { from = from; counts = m.counts; sources = m.sources }

abbrev pub coded_delta : Coded Delta
coded_delta =
    code_by (List ℕ × (List ℕ × List Sent)) (coded× (coded_list coded_ℕ) (coded× (coded_list coded_ℕ) (coded_list coded_sent))) (λ d. (d.from, (d.counts, d.sources)))
    (λ p. record { from = p.0; counts = p.1.0; sources = p.1.1 }) (λ _. refl)
