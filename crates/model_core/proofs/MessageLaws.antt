-- The sources of a message are the first sources of a graph exactly where they are the sources of its first declarations.
use Rattle.std.proofs.Common.{◌≡◌, ℕ, suc, Bool, true, false, cond, List, [], ◌∷◌, ◌++◌, length, map, take, drop, refl, sym, ap, subst, ◌∙◌}
use Rattle.std.specs.List.{AllByRecursion}
use Rattle.std.proofs.lemmas.List.{take-append-drop}
use Rattle.model_values.proofs.ListLaws.{each-weaker}
use Rattle.model_graph.specs.Graph.{Decl, is_source}
use Rattle.model_graph.specs.Lawful.{sources_among}
use Rattle.model_graph.specs.Message.{Message}
use Rattle.model_graph.proofs.MessageLaws.{among-append}
use Rattle.model_wire.specs.Lawful.{IsSent, IsMessage}
use Rattle.model_runs.specs.Held.{IsSentSource, IsSentTo}

-- the first sources of a graph are the sources of some first declarations
first-sources : (g ds more : List Decl) → ds ++ more ≡ sources_among g → (n : ℕ) × (ds ≡ sources_among (take n g))
first-sources g [] more e = (0, refl)
first-sources [] (d ∷ ds) more e = absurd cc
first-sources (c ∷ g) (d ∷ ds) more e = choose (is_source c.kind) refl e (λ f. first-sources g ds more f) (λ f. first-sources g (d ∷ ds) more f) where
  choose : (b : Bool) → is_source c.kind ≡ b → d ∷ (ds ++ more) ≡ cond b (c ∷ sources_among g) (sources_among g)
      → (ds ++ more ≡ sources_among g → (n : ℕ) × (ds ≡ sources_among (take n g)))
      → (d ∷ (ds ++ more) ≡ sources_among g → (n : ℕ) × (d ∷ ds ≡ sources_among (take n g)))
      → (n : ℕ) × (d ∷ ds ≡ sources_among (take n (c ∷ g)))
  choose true is f here there =
      let same : d ≡ c = cc in
      let rest : ds ++ more ≡ sources_among g = cc in
      let found = here rest in
      (suc found.0, (λ i. same i ∷ found.1 i) ∙ sym (ap (λ (b : Bool). cond b (c ∷ sources_among (take found.0 g)) (sources_among (take found.0 g))) is))
  choose false is f here there =
      let found = there f in
      (suc found.0, found.1 ∙ sym (ap (λ (b : Bool). cond b (c ∷ sources_among (take found.0 g)) (sources_among (take found.0 g))) is))

pub sent-to : (nodes : ℕ) (g : List Decl) (m : Message) → IsMessage m → length m.counts ≡ nodes → ((more : List Decl) × (map (λ s. s.decl) m.sources ++ more ≡ sources_among g)) → IsSentTo nodes g m
sent-to nodes g m message wide first =
    let found = first-sources g (map (λ s. s.decl) m.sources) first.0 first.1 in
    record {
      wide = wide;
      declared = found.0;
      sources = found.1;
      each = subst (λ (n : ℕ). AllByRecursion (IsSentSource n) m.sources) wide (each-weaker (IsSent (length m.counts)) (IsSentSource (length m.counts)) (λ s h. h.1) m.sources message.sources);
    }

pub sent-first : (nodes : ℕ) (g : List Decl) (m : Message) → IsSentTo nodes g m → (more : List Decl) × (map (λ s. s.decl) m.sources ++ more ≡ sources_among g)
sent-first nodes g m sent = (
  sources_among (drop sent.declared g),
  ap (λ (ds : List Decl). ds ++ sources_among (drop sent.declared g)) sent.sources
      ∙ sym (among-append (take sent.declared g) (drop sent.declared g)) ∙ ap sources_among (take-append-drop sent.declared g),
)

pub ruleset messages = (sent-to, sent-first)
