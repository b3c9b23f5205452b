use Rattle.std.proofs.Common.{◌≡◌, ℕ, ◌-◌, List, Ok, length, drop, map, sym, ap, subst, ◌∙◌, arith}
use Rattle.std.proofs.lemmas.List.{take_rest}
use Rattle.model_graph.specs.Message.{Sent, Message}
use Rattle.model_wire.specs.Message.{sources_at}
use Rattle.model_wire.proofs.Within.{sources_inside}
use Rattle.lasp_wire.specs.declared.refused.WireRefused.{WireRefused}
use Rattle.lasp_wire.specs.Placed.{RefusesAt}
use Rattle.lasp_wire.specs.Read.{Fails}
use Rattle.lasp_wire.specs.Sent.{sent_of}
use Rattle.lasp_wire.proofs.PlacedLaws.{refused-at, sources-at, zeros-message}
use Rattle.lasp_wire.proofs.places.sources_at.Goals as goal

pub overflow_sub-behind : goal.overflow_sub-behind
overflow_sub-behind c =
    (sources-at c.args.bytes.now c.args.place c.args.nodes (map sent_of c.in-Ok.sources.items) c.in-Ok.rest.now (record { some = c.requires.some; few = c.requires.few }) (λ i. omega (arith, c.type_inv.bytes i)) c.requires.within
    (subst (λ (l : List ℕ). sources_at 2 c.args.nodes l ≡ Ok (map sent_of c.in-Ok.sources.items, c.in-Ok.rest.now)) (take_rest c.args.bytes.now c.args.place) c.in-Ok.ensures)).fewer

pub of-requires : goal.of-requires
of-requires c =
    rw c.in_ok-counts-in-Ok.ensures
    (zeros-message c.args.nodes (map sent_of c.in-Ok.sources.items) (record { some = c.requires.some; few = c.requires.few })
    (sources-at c.args.bytes.now c.args.place c.args.nodes (map sent_of c.in-Ok.sources.items) c.in-Ok.rest.now (record { some = c.requires.some; few = c.requires.few }) (λ i. omega (arith, c.type_inv.bytes i)) c.requires.within
    (subst (λ (l : List ℕ). sources_at 2 c.args.nodes l ≡ Ok (map sent_of c.in-Ok.sources.items, c.in-Ok.rest.now)) (take_rest c.args.bytes.now c.args.place) c.in-Ok.ensures)).lawful)

pub returns-in_ok-counts-in-Ok-clause-exact : goal.returns-in_ok-counts-in-Ok-clause-exact
returns-in_ok-counts-in-Ok-clause-exact c =
    let at =
    sources-at c.args.bytes.now c.args.place c.args.nodes (map sent_of c.in-Ok.sources.items) c.in-Ok.rest.now (record { some = c.requires.some; few = c.requires.few }) (λ i. omega (arith, c.type_inv.bytes i)) c.requires.within
    (subst (λ (l : List ℕ). sources_at 2 c.args.nodes l ≡ Ok (map sent_of c.in-Ok.sources.items, c.in-Ok.rest.now)) (take_rest c.args.bytes.now c.args.place) c.in-Ok.ensures) in
    (at.read ∙ ap (λ (sources : List Sent). Ok (sources, drop (length c.args.bytes.now - length c.in-Ok.rest.now) c.args.bytes.now)) (sym (ap (λ (m : Message). m.sources) c.of.ensures)), omega arith)

pub returns-in-Err-clause-exact : goal.returns-in-Err-clause-exact
returns-in-Err-clause-exact c =
    subst (λ (e : WireRefused). RefusesAt c.args.bytes.now e (sources_at 2 c.args.nodes (drop c.args.place c.args.bytes.now))) (sym c.placed_in.ensures)
    (refused-at (List Sent) c.args.bytes.now c.args.place c.in-Err.e (sources_at 2 c.args.nodes (drop c.args.place c.args.bytes.now))
    (subst (λ (l : List ℕ). Fails c.in-Err.e (sources_at 2 c.args.nodes l)) (take_rest c.args.bytes.now c.args.place) c.in-Err.ensures) (sources_inside 2 c.args.nodes (drop c.args.place c.args.bytes.now)))
