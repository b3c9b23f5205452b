-- What a replica's message has of each source, and what a delivery leaves at each place.
use Rattle.std.proofs.Common.{◌≡◌, ℕ, zero, suc, ◌+◌, ◌≤◌, ◌<◌, Bool, true, false, cond, if◌then◌else◌, IsTrue, List, [], ◌∷◌, ◌++◌, length, map, Option, Some, slice_get, refl, ap, ◌∙◌, arith}
use Rattle.model_states.specs.Content.{Content, least}
use Rattle.model_graph.specs.Graph.{Decl, is_source, kind_at}
use Rattle.model_graph.specs.Evaluation.{content_at}
use Rattle.model_graph.specs.Lawful.{sources_among}
use Rattle.model_graph.specs.Message.{Sent, sent_from, source_number, sent_at, with_gain, gained}

-- what a message has of the source at a place
pub sent_at-found : (sources : List Sent) (i : ℕ) (t : Sent) → slice_get sources i ≡ Some t → sent_at sources i ≡ t.content
sent_at-found [] i t e = absurd cc
sent_at-found (s ∷ sources) zero t e = let same : s ≡ t = cc in ap (λ (u : Sent). u.content) same
sent_at-found (s ∷ sources) (suc i) t e = sent_at-found sources i t e

pub sent-is : (g : List Decl) (ss : List Content) (x : ℕ) → x < length g → length ss ≡ length g → IsTrue (is_source (kind_at g x)) → sent_at (sent_from g ss) (source_number g x) ≡ content_at ss x
sent-is [] ss x low long source = absurd (omega (arith, low))
sent-is (d ∷ g) [] x low long source = absurd (omega (arith, long))
sent-is (d ∷ g) (s ∷ ss) zero low long source = ap (λ (b : Bool). sent_at (if b then record { decl = d; content = s } ∷ sent_from g ss else sent_from g ss) 0) source
sent-is (d ∷ g) (s ∷ ss) (suc x) low long source = choose (is_source d.kind) (sent-is g ss x (omega (arith, low)) (omega (arith, long)) source) where
  first : Sent
  first = record { decl = d; content = s }

  choose : (b : Bool) → sent_at (sent_from g ss) (source_number g x) ≡ content_at ss x
      → sent_at (if b then first ∷ sent_from g ss else sent_from g ss) (if b then source_number g x + 1 else source_number g x) ≡ content_at ss x
  choose true rest = (let next : source_number g x + 1 ≡ suc (source_number g x) = omega arith in ap (λ (i : ℕ). sent_at (first ∷ sent_from g ss) i) next) ∙ rest
  choose false rest = rest

-- a message has the declarations of the sources, in their order
pub sent-among : (g : List Decl) (ss : List Content) → length ss ≡ length g → map (λ s. s.decl) (sent_from g ss) ≡ sources_among g
sent-among [] ss long = refl
sent-among (d ∷ g) [] long = absurd (omega (arith, long))
sent-among (d ∷ g) (s ∷ ss) long = choose (is_source d.kind) (sent-among g ss (omega (arith, long))) where
  first : Sent
  first = record { decl = d; content = s }

  choose : (b : Bool) → map (λ s. s.decl) (sent_from g ss) ≡ sources_among g
      → map (λ s. s.decl) (if b then first ∷ sent_from g ss else sent_from g ss) ≡ cond b (d ∷ sources_among g) (sources_among g)
  choose true rest = ap (λ (ds : List Decl). d ∷ ds) rest
  choose false rest = rest

pub among-append : (g more : List Decl) → sources_among (g ++ more) ≡ sources_among g ++ sources_among more
among-append [] more = refl
among-append (d ∷ g) more = choose (is_source d.kind) (among-append g more) where
  choose : (b : Bool) → sources_among (g ++ more) ≡ sources_among g ++ sources_among more
      → cond b (d ∷ sources_among (g ++ more)) (sources_among (g ++ more)) ≡ cond b (d ∷ sources_among g) (sources_among g) ++ sources_among more
  choose true rest = ap (λ (ds : List Decl). d ∷ ds) rest
  choose false rest = rest

-- past its last source a message has nothing
pub sent-past : (sent : List Sent) (i : ℕ) → length sent ≤ i → sent_at sent i ≡ least
sent-past [] i h = refl
sent-past (s ∷ sent) zero h = absurd (omega (arith, h))
sent-past (s ∷ sent) (suc i) h = sent-past sent i (omega (arith, h))

-- a message has as many sources as the graph
pub sent-length : (g : List Decl) (ss : List Content) → length ss ≡ length g → length (sent_from g ss) ≡ source_number g (length g)
sent-length [] ss long = refl
sent-length (d ∷ g) [] long = absurd (omega (arith, long))
sent-length (d ∷ g) (s ∷ ss) long = choose (is_source d.kind) (sent-length g ss (omega (arith, long))) where
  choose : (b : Bool) → length (sent_from g ss) ≡ source_number g (length g)
      → length (if b then record { decl = d; content = s } ∷ sent_from g ss else sent_from g ss) ≡ (if b then source_number g (length g) + 1 else source_number g (length g))
  choose true rest = omega (arith, rest)
  choose false rest = rest

-- more declarations leave the places of the earlier sources as they are
pub number-append : (g more : List Decl) (x : ℕ) → x ≤ length g → source_number (g ++ more) x ≡ source_number g x
number-append [] more zero h = none more where
  none : (g : List Decl) → source_number g 0 ≡ 0
  none [] = refl
  none (d ∷ g) = refl
number-append [] more (suc x) h = absurd (omega (arith, h))
number-append (d ∷ g) more zero h = refl
number-append (d ∷ g) more (suc x) h = ap (λ (n : ℕ). if is_source d.kind then n + 1 else n) (number-append g more x (omega (arith, h)))

-- and a later variable's place is not before an earlier one's
pub number-rises : (g : List Decl) (x y : ℕ) → x ≤ y → source_number g x ≤ source_number g y
number-rises [] x y h = omega arith
number-rises (d ∷ g) zero zero h = omega arith
number-rises (d ∷ g) zero (suc y) h = omega arith
number-rises (d ∷ g) (suc x) zero h = absurd (omega (arith, h))
number-rises (d ∷ g) (suc x) (suc y) h = choose (is_source d.kind) (number-rises g x y (omega (arith, h))) where
  choose : (b : Bool) → source_number g x ≤ source_number g y → (if b then source_number g x + 1 else source_number g x) ≤ (if b then source_number g y + 1 else source_number g y)
  choose true rest = omega (arith, rest)
  choose false rest = rest

-- ---- gains

pub gained-length : (gains : ℕ → Option Content) (n : ℕ) (ss : List Content) → length (gained gains n ss) ≡ length ss
gained-length gains n [] = refl
gained-length gains n (s ∷ ss) = omega (arith, gained-length gains (n + 1) ss)

pub gained-at : (gains : ℕ → Option Content) (n : ℕ) (ss : List Content) (x : ℕ) → x < length ss → content_at (gained gains n ss) x ≡ with_gain (content_at ss x) (gains (n + x))
gained-at gains n [] x h = absurd (omega (arith, h))
gained-at gains n (s ∷ ss) zero h = ap (λ (i : ℕ). with_gain s (gains i)) (let here : n ≡ n + 0 = omega arith in here)
gained-at gains n (s ∷ ss) (suc x) h = gained-at gains (n + 1) ss x (omega (arith, h)) ∙ ap (λ (i : ℕ). with_gain (content_at ss x) (gains i)) (let there : (n + 1) + x ≡ n + suc x = omega arith in there)
