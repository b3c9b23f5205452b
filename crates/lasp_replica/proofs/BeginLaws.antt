-- Whether the sources of a message begin those of a graph, source by source.
use Rattle.std.proofs.Common.{◌≡◌, ◌↔◌, ℕ, zero, suc, ◌+◌, ◌≤◌, ◌<◌, ◌⊎◌, inl, inr, nat_eq, IsTrue, Bool, true, false, cond, List, [], ◌∷◌, ◌++◌, length, map, drop, Option, Some, refl, sym, ap, subst, ◌∙◌, arith}
use Rattle.std.specs.Prelude.{slice_get}
use Rattle.std.specs.Option.{option_map}
use Rattle.std.proofs.lemmas.Bool.Decides.{nat_tests}
use Rattle.std.proofs.lemmas.List.{drop_all}
use Rattle.model_values.proofs.ListLaws.{drop-at, each-at}
use Rattle.model_graph.specs.Graph.{Kind, Decl, is_source}
use Rattle.model_graph.specs.Lawful.{sources_among}
use Rattle.model_graph.proofs.PlaceLaws.{below-or-not, map-length}
use Rattle.model_graph.specs.Message.{Sent, Message}
use Rattle.model_wire.specs.Lawful.{IsSent, IsMessage}
use Rattle.model_wire.specs.Message as wire
use Rattle.model_runs.proofs.SourceLaws.{source-kind}
use Rattle.lasp_state.specs.declared.state.State.{State}
use Rattle.lasp_wire.specs.Sent.{kind_of, held_of, held_in}
use Rattle.lasp_replica.specs.Replica.{IsBeginning}

-- the declarations of a message's sources
abbrev pub declared_in : Message → List Decl
declared_in m = map (λ (s : Sent). s.decl) m.sources

-- some declarations are the first of others
abbrev pub AreFirst : List Decl → List Decl → Type 0
AreFirst ds all = (more : List Decl) × (ds ++ more ≡ all)

-- the sources from number i on begin those among the variables from x on
abbrev pub BeginsFrom : Message → List Decl → ℕ → ℕ → Type 0
BeginsFrom m g i x = AreFirst (drop i (declared_in m)) (sources_among (drop x g))

drop-some : {A : Type 0} (xs : List A) (i : ℕ) → i < length xs → (x : A) × (rest : List A) × (drop i xs ≡ x ∷ rest)
drop-some [] i h = absurd (omega (arith, h))
drop-some (x ∷ xs) zero h = (x, xs, refl)
drop-some (x ∷ xs) (suc i) h = drop-some xs i (omega (arith, h))

found : (sources : List Sent) (i : ℕ) (s : Sent) → slice_get sources i ≡ Some s → slice_get (map (λ (t : Sent). t.decl) sources) i ≡ Some s.decl
found [] i s e = absurd cc
found (t ∷ sources) zero s e = cc
found (t ∷ sources) (suc i) s e = found sources i s e

-- the sources from a source on
among-source : (g : List Decl) (x : ℕ) (d : Decl) → slice_get g x ≡ Some d → is_source d.kind ≡ true → sources_among (drop x g) ≡ d ∷ sources_among (drop (x + 1) g)
among-source g x d at source = ap sources_among (drop-at g x d at) ∙ ap (λ (b : Bool). cond b (d ∷ sources_among (drop (x + 1) g)) (sources_among (drop (x + 1) g))) source

-- and from a derived variable on
among-process : (g : List Decl) (x : ℕ) (d : Decl) → slice_get g x ≡ Some d → is_source d.kind ≡ false → sources_among (drop x g) ≡ sources_among (drop (x + 1) g)
among-process g x d at process = ap sources_among (drop-at g x d at) ∙ ap (λ (b : Bool). cond b (d ∷ sources_among (drop (x + 1) g)) (sources_among (drop (x + 1) g))) process

first-more : (d e : Decl) (ds es : List Decl) → d ≡ e → AreFirst ds es → AreFirst (d ∷ ds) (e ∷ es)
first-more d e ds es same h = (h.0, λ i. same i ∷ h.1 i)

first-less : (d e : Decl) (ds es : List Decl) → AreFirst (d ∷ ds) (e ∷ es) → (d ≡ e) × AreFirst ds es
first-less d e ds es h =
    let both : d ∷ (ds ++ h.0) ≡ e ∷ es = h.1 in
    let rest : ds ++ h.0 ≡ es = cc in
    let same : d ≡ e = cc in
    (same, (h.0, rest))

-- a derived variable is no source
pub begins-process : (m : Message) (g : List Decl) (i x : ℕ) (d : Decl) → slice_get g x ≡ Some d → is_source d.kind ≡ false → BeginsFrom m g i x ↔ BeginsFrom m g i (x + 1)
begins-process m g i x d at process =
    (subst (AreFirst (drop i (declared_in m))) (among-process g x d at process), subst (AreFirst (drop i (declared_in m))) (sym (among-process g x d at process)))

-- the next source is the same
pub begins-next : (m : Message) (g : List Decl) (i x : ℕ) (d : Decl) (s : Sent) → slice_get g x ≡ Some d → is_source d.kind ≡ true → slice_get m.sources i ≡ Some s → s.decl ≡ d
    → BeginsFrom m g i x ↔ BeginsFrom m g (i + 1) (x + 1)
begins-next m g i x d s at source there same = (
  λ h. (first-less s.decl d (drop (i + 1) (declared_in m)) (sources_among (drop (x + 1) g)) (subst (λ (ds : List Decl). AreFirst ds (d ∷ sources_among (drop (x + 1) g))) mine (subst (AreFirst (drop i (declared_in m))) (among-source g x d at source) h))).1,
  λ h. subst (AreFirst (drop i (declared_in m))) (sym (among-source g x d at source)) (subst (λ (ds : List Decl). AreFirst ds (d ∷ sources_among (drop (x + 1) g))) (sym mine) (first-more s.decl d (drop (i + 1) (declared_in m)) (sources_among (drop (x + 1) g)) same h)),
) where
  mine : drop i (declared_in m) ≡ s.decl ∷ drop (i + 1) (declared_in m)
  mine = drop-at (declared_in m) i s.decl (found m.sources i s there)

-- the next source is another
pub begins-other : (m : Message) (g : List Decl) (i x : ℕ) (d : Decl) (s : Sent) → slice_get g x ≡ Some d → is_source d.kind ≡ true → slice_get m.sources i ≡ Some s → (s.decl ≡ d → ⊥) → BeginsFrom m g i x → ⊥
begins-other m g i x d s at source there other h =
    other (first-less s.decl d (drop (i + 1) (declared_in m)) (sources_among (drop (x + 1) g))
    (subst (λ (ds : List Decl). AreFirst ds (d ∷ sources_among (drop (x + 1) g))) (drop-at (declared_in m) i s.decl (found m.sources i s there)) (subst (AreFirst (drop i (declared_in m))) (among-source g x d at source) h))).0

-- no source is left
pub begins-whole : (m : Message) (g : List Decl) (i x : ℕ) → i ≡ length m.sources → BeginsFrom m g i x
begins-whole m g i x e =
    (sources_among (drop x g), ap (λ (ds : List Decl). ds ++ sources_among (drop x g)) (drop_all i (declared_in m) (omega (arith, e, map-length (λ (s : Sent). s.decl) m.sources))))

-- no variable is left, but sources are
pub begins-short : (m : Message) (g : List Decl) (i x : ℕ) → length g ≤ x → i < length m.sources → BeginsFrom m g i x → ⊥
begins-short m g i x past low h =
    let mine = drop-some (declared_in m) i (omega (arith, low, map-length (λ (s : Sent). s.decl) m.sources)) in
    absurd (more mine.0 mine.1 h.0 (ap (λ (ds : List Decl). ds ++ h.0) (sym mine.2) ∙ h.1 ∙ ap sources_among (drop_all x g past))) where
      more : (d : Decl) (ds more : List Decl) → (d ∷ ds) ++ more ≡ [] → ⊥
      more d ds rest e = cc

-- at the end there is a source left or none
pub begins-end : (m : Message) (g : List Decl) (i x n : ℕ) → length g ≤ x → i ≤ length m.sources → n ≡ length m.sources → BeginsFrom m g i x ↔ IsBeginning m g → IsTrue (nat_eq i n) ↔ IsBeginning m g
begins-end m g i x n past within long is = (
  λ t. is.0 (begins-whole m g i x (let same : i ≡ n = grind (arith, nat_tests, t) in same ∙ long)),
  λ b. choose b (below-or-not i (length m.sources)),
) where
  choose : IsBeginning m g → (i < length m.sources) ⊎ (length m.sources ≤ i) → IsTrue (nat_eq i n)
  choose b (inl low) = absurd (begins-short m g i x past low (is.1 b))
  choose b (inr high) = grind (arith, nat_tests, high, within, long)

-- ---- one source

-- a source of a message is a declaration's where the name is, and the kind is and is that of a source
pub same-source : (m : Message) (i : ℕ) (name : List ℕ) (state : State) (d : Decl) (b : Bool) → IsMessage m → option_map (λ (s : Sent). s.decl.name) (slice_get m.sources i) ≡ Some name
    → option_map held_in (slice_get m.sources i) ≡ Some (held_of state) → name ≡ d.name → IsTrue b ↔ (IsTrue (is_source d.kind) × (kind_of state ≡ d.kind))
    → (s : Sent) → slice_get m.sources i ≡ Some s → IsTrue b ↔ (s.decl ≡ d)
same-source m i name state d b message named held same test s at = (there, back) where
  name-is : s.decl.name ≡ name
  name-is = let both : Some s.decl.name ≡ Some name = sym (ap (λ (o : Option Sent). option_map (λ (t : Sent). t.decl.name) o) at) ∙ named in cc

  held-is : held_in s ≡ held_of state
  held-is = let both : Some (held_in s) ≡ Some (held_of state) = sym (ap (λ (o : Option Sent). option_map held_in o) at) ∙ held in cc

  kind-is : s.decl.kind ≡ kind_of state
  kind-is = ap (λ (h : wire.Held). h.0) held-is

  there : IsTrue b → s.decl ≡ d
  there t = let kinds : s.decl.kind ≡ d.kind = kind-is ∙ (test.0 t).1 in λ j. record { name = (name-is ∙ same) j; kind = kinds j }

  back : s.decl ≡ d → IsTrue b
  back e = test.1 (
    subst (λ (k : Kind). IsTrue (is_source k)) (ap (λ (c : Decl). c.kind) e) (source-kind (length m.counts) s.decl.kind s.content (each-at (IsSent (length m.counts)) m.sources i s message.sources at).1),
    sym kind-is ∙ ap (λ (c : Decl). c.kind) e,
  )
