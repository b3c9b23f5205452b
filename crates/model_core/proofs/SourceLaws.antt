-- The source part of contents: what it has at a place, and what setting, gaining and adding contents make of it.
use Rattle.std.proofs.Common.{◌≡◌, ℕ, zero, suc, ◌<◌, Bool, true, false, if◌then◌else◌, IsTrue, IsFalse, List, [], ◌∷◌, ◌++◌, length, map, slice_set, Some, None, refl, sym, ap, ◌∙◌, arith}
use Rattle.model_states.specs.Content.{Content, least}
use Rattle.model_graph.specs.Graph.{Kind, Decl, is_source, kind_at}
use Rattle.model_graph.specs.Evaluation.{least_of, content_at}
use Rattle.model_graph.proofs.PlaceLaws.{same-lists, from-nothing}
use Rattle.model_graph.specs.Message.{Sent, Message, sent_from, sent_at, source_number, brought, with_gain, gained}
use Rattle.model_graph.proofs.MessageLaws.{gained-length, gained-at}
use Rattle.model_journal.specs.Journal.{sources_from}
use Rattle.model_journal.proofs.GainLaws.{least_of-derived}

pub sources-length : (g : List Decl) (ss : List Content) → length ss ≡ length g → length (sources_from g ss) ≡ length g
sources-length [] ss long = refl
sources-length (d ∷ g) [] long = absurd (omega (arith, long))
sources-length (d ∷ g) (s ∷ ss) long = omega (arith, sources-length g ss (omega (arith, long)))

-- a source is as given
pub sources-source : (g : List Decl) (ss : List Content) (x : ℕ) → x < length g → IsTrue (is_source (kind_at g x)) → content_at (sources_from g ss) x ≡ content_at ss x
sources-source [] ss x low source = absurd (omega (arith, low))
sources-source (d ∷ g) [] x low source = refl
sources-source (d ∷ g) (s ∷ ss) zero low source = ap (λ (b : Bool). if b then s else least) source
sources-source (d ∷ g) (s ∷ ss) (suc x) low source = sources-source g ss x (omega (arith, low)) source

-- a derived place is least
pub sources-derived : (g : List Decl) (ss : List Content) (x : ℕ) → x < length g → IsFalse (is_source (kind_at g x)) → content_at (sources_from g ss) x ≡ least
sources-derived [] ss x low process = absurd (omega (arith, low))
sources-derived (d ∷ g) [] x low process = refl
sources-derived (d ∷ g) (s ∷ ss) zero low process = ap (λ (b : Bool). if b then s else least) process
sources-derived (d ∷ g) (s ∷ ss) (suc x) low process = sources-derived g ss x (omega (arith, low)) process

-- what a kind has before anything happened is least where it is derived
least-kept : (nodes : ℕ) (k : Kind) → (if is_source k then least_of nodes k else least) ≡ least_of nodes k
least-kept nodes k = choose (is_source k) refl where
  choose : (b : Bool) → is_source k ≡ b → (if b then least_of nodes k else least) ≡ least_of nodes k
  choose true e = refl
  choose false e = sym (least_of-derived nodes k e)

pub sources-least : (nodes : ℕ) (g : List Decl) → sources_from g (map (λ d. least_of nodes d.kind) g) ≡ map (λ d. least_of nodes d.kind) g
sources-least nodes [] = refl
sources-least nodes (d ∷ g) = λ i. least-kept nodes d.kind i ∷ sources-least nodes g i

pub sources-push : (nodes : ℕ) (g : List Decl) (d : Decl) (ss : List Content) → length ss ≡ length g
    → sources_from (g ++ d ∷ []) (ss ++ least_of nodes d.kind ∷ []) ≡ sources_from g ss ++ least_of nodes d.kind ∷ []
sources-push nodes [] d [] long = ap (λ (s : Content). s ∷ []) (least-kept nodes d.kind)
sources-push nodes [] d (s ∷ ss) long = absurd (omega (arith, long))
sources-push nodes (c ∷ g) d [] long = absurd (omega (arith, long))
sources-push nodes (c ∷ g) d (s ∷ ss) long = ap (λ (rest : List Content). (if is_source c.kind then s else least) ∷ rest) (sources-push nodes g d ss (omega (arith, long)))

-- a source that is set
pub sources-set : (g : List Decl) (ss : List Content) (y : ℕ) (c : Content) → y < length g → IsTrue (is_source (kind_at g y)) → sources_from g (slice_set ss y c) ≡ slice_set (sources_from g ss) y c
sources-set [] ss y c low source = absurd (omega (arith, low))
sources-set (d ∷ g) [] y c low source = refl
sources-set (d ∷ g) (s ∷ ss) zero c low source = ap (λ (b : Bool). (if b then c else least) ∷ sources_from g ss) source
sources-set (d ∷ g) (s ∷ ss) (suc y) c low source = ap (λ (rest : List Content). (if is_source d.kind then s else least) ∷ rest) (sources-set g ss y c (omega (arith, low)) source)

-- a derived variable that is set changes no source
pub sources-unset : (g : List Decl) (ss : List Content) (y : ℕ) (c : Content) → y < length g → IsFalse (is_source (kind_at g y)) → sources_from g (slice_set ss y c) ≡ sources_from g ss
sources-unset [] ss y c low process = absurd (omega (arith, low))
sources-unset (d ∷ g) [] y c low process = refl
sources-unset (d ∷ g) (s ∷ ss) zero c low process = ap (λ (b : Bool). (if b then c else least) ∷ sources_from g ss) process ∙ sym (ap (λ (b : Bool). (if b then s else least) ∷ sources_from g ss) process)
sources-unset (d ∷ g) (s ∷ ss) (suc y) c low process = ap (λ (rest : List Content). (if is_source d.kind then s else least) ∷ rest) (sources-unset g ss y c (omega (arith, low)) process)

-- what a message brings comes to sources alone
pub sources-gained : (g : List Decl) (m : Message) (ss : List Content) → length ss ≡ length g → sources_from g (gained (brought g m) 0 ss) ≡ gained (brought g m) 0 (sources_from g ss)
sources-gained g m ss long =
    same-lists (sources_from g (gained (brought g m) 0 ss)) (gained (brought g m) 0 (sources_from g ss)) least
    (sources-length g (gained (brought g m) 0 ss) (gained-length (brought g m) 0 ss ∙ long) ∙ sym (gained-length (brought g m) 0 (sources_from g ss) ∙ sources-length g ss long))
    (λ x low. at x (omega (arith, low, sources-length g (gained (brought g m) 0 ss) (gained-length (brought g m) 0 ss ∙ long)))) where
      there : (ts : List Content) (x : ℕ) → x < length ts → content_at (gained (brought g m) 0 ts) x ≡ with_gain (content_at ts x) (brought g m x)
      there ts x low = gained-at (brought g m) 0 ts x low ∙ ap (λ (i : ℕ). with_gain (content_at ts x) (brought g m i)) (sym (from-nothing x))

      choose : (x : ℕ) → x < length g → (b : Bool) → is_source (kind_at g x) ≡ b → content_at (sources_from g (gained (brought g m) 0 ss)) x ≡ with_gain (content_at (sources_from g ss) x) (brought g m x)
      choose x low true e =
          sources-source g (gained (brought g m) 0 ss) x low e
          ∙ there ss x (omega (arith, low, long))
          ∙ ap (λ (s : Content). with_gain s (brought g m x)) (sym (sources-source g ss x low e))
      choose x low false e =
          sources-derived g (gained (brought g m) 0 ss) x low e
          ∙ sym (sources-derived g ss x low e)
          ∙ sym (ap (λ (b : Bool). with_gain (content_at (sources_from g ss) x) (if b then Some (sent_at m.sources (source_number g x)) else None)) e)

      at : (x : ℕ) → x < length g → content_at (sources_from g (gained (brought g m) 0 ss)) x ≡ content_at (gained (brought g m) 0 (sources_from g ss)) x
      at x low = choose x low (is_source (kind_at g x)) refl ∙ sym (there (sources_from g ss) x (omega (arith, low, sources-length g ss long)))

-- a message has the sources alone
pub sources-sent : (g : List Decl) (ss : List Content) → sent_from g (sources_from g ss) ≡ sent_from g ss
sources-sent [] ss = refl
sources-sent (d ∷ g) [] = refl
sources-sent (d ∷ g) (s ∷ ss) = choose (is_source d.kind) (sources-sent g ss) where
  choose : (b : Bool) → sent_from g (sources_from g ss) ≡ sent_from g ss
      → (if b then record { decl = d; content = if b then s else least } ∷ sent_from g (sources_from g ss) else sent_from g (sources_from g ss)) ≡ (if b then record { decl = d; content = s } ∷ sent_from g ss else sent_from g ss)
  choose true rest = ap (λ (sent : List Sent). record { decl = d; content = s } ∷ sent) rest
  choose false rest = rest
