-- A message is made source by source.
use Rattle.std.proofs.Common.{◌≡◌, ℕ, zero, suc, ◌+◌, ◌≤◌, ◌<◌, Bool, if◌then◌else◌, IsTrue, IsFalse, List, [], ◌∷◌, ◌++◌, length, drop, Some, refl, sym, ap, subst, ◌∙◌, arith}
use Rattle.std.specs.Prelude.{slice_get}
use Rattle.std.specs.List.{AllByRecursion}
use Rattle.std.proofs.lemmas.Option.{slice_get_within, get_or_from_slice_get}
use Rattle.model_states.specs.Content.{Content}
use Rattle.model_states.specs.Threshold.{set, grow, counter, register}
use Rattle.model_graph.specs.Graph.{Kind, OrSet, GSet, Counter, MaxReg, Union, Product, Intersection, Map, Filter, Fold, Decl, is_source, no_decl, decl_at, kind_at}
use Rattle.model_graph.specs.Evaluation.{content_at}
use Rattle.model_graph.specs.Lawful.{shape_of}
use Rattle.model_graph.proofs.PlaceLaws.{length-append, map-length}
use Rattle.model_graph.specs.Message.{Sent, Message, sent_from, message_of}
use Rattle.model_wire.specs.Lawful.{IsSent, IsMessage}
use Rattle.lasp_state.specs.declared.state.State.{State}
use Rattle.lasp_state.specs.declared.state.State.TheVariants as state
use Rattle.lasp_state.specs.State.{shape_of as shape}
use Rattle.lasp_graph.specs.States.{Held, held_of, contents_of}
use Rattle.lasp_graph.proofs.Evaluation.{content-held, shape-held}
use Rattle.lasp_wire.specs.Sent.{kind_of, sent, message, with_source}
use Rattle.lasp_graph.specs.States.{AreSourcesOfKind}
use Rattle.lasp_gossip.specs.Exchange.{IsBegun}

-- ---- states by their kinds

set-kind : (s : State) → shape s ≡ set → kind_of s ≡ OrSet
set-kind (state.Set rows) e = refl
set-kind (state.Grow values) e = absurd cc
set-kind (state.Count counts) e = absurd cc
set-kind (state.Max m) e = absurd cc
set-kind (state.Fold rows n) e = absurd cc

grow-kind : (s : State) → shape s ≡ grow → kind_of s ≡ GSet
grow-kind (state.Set rows) e = absurd cc
grow-kind (state.Grow values) e = refl
grow-kind (state.Count counts) e = absurd cc
grow-kind (state.Max m) e = absurd cc
grow-kind (state.Fold rows n) e = absurd cc

count-kind : (s : State) (nodes : ℕ) → shape s ≡ counter nodes → kind_of s ≡ Counter
count-kind (state.Set rows) nodes e = absurd cc
count-kind (state.Grow values) nodes e = absurd cc
count-kind (state.Count counts) nodes e = refl
count-kind (state.Max m) nodes e = absurd cc
count-kind (state.Fold rows n) nodes e = absurd cc

register-kind : (s : State) → shape s ≡ register → kind_of s ≡ MaxReg
register-kind (state.Set rows) e = absurd cc
register-kind (state.Grow values) e = absurd cc
register-kind (state.Count counts) e = absurd cc
register-kind (state.Max m) e = refl
register-kind (state.Fold rows n) e = absurd cc

-- a state of the shape of a source is of its kind
pub state-kind : (s : State) (nodes : ℕ) (k : Kind) → IsTrue (is_source k) → shape s ≡ shape_of nodes k → kind_of s ≡ k
state-kind s nodes OrSet source e = set-kind s e
state-kind s nodes GSet source e = grow-kind s e
state-kind s nodes Counter source e = count-kind s nodes e
state-kind s nodes MaxReg source e = register-kind s e
state-kind s nodes (Union x y) source e = absurd cc
state-kind s nodes (Product x y) source e = absurd cc
state-kind s nodes (Intersection x y) source e = absurd cc
state-kind s nodes (Map x place ops) source e = absurd cc
state-kind s nodes (Filter x place ops) source e = absurd cc
state-kind s nodes (Fold x op place lift) source e = absurd cc

-- ---- the sources that are left

abbrev source_at : List Decl → List Content → ℕ → Sent
source_at g ss x = record { decl = decl_at g x; content = content_at ss x }

-- those from variable x on begin with it, if it is a source
left-from : (g : List Decl) (ss : List Content) (x : ℕ) → x < length g → length ss ≡ length g
    → sent_from (drop x g) (drop x ss) ≡ (if is_source (kind_at g x) then source_at g ss x ∷ sent_from (drop (suc x) g) (drop (suc x) ss) else sent_from (drop (suc x) g) (drop (suc x) ss))
left-from [] ss x low long = absurd (omega (arith, low))
left-from (d ∷ g) [] x low long = absurd (omega (arith, long))
left-from (d ∷ g) (s ∷ ss) zero low long = refl
left-from (d ∷ g) (s ∷ ss) (suc x) low long = left-from g ss x (omega (arith, low)) (omega (arith, long))

-- where it is one, it is the next
left-source : (g : List Decl) (ss : List Content) (x : ℕ) → x < length g → length ss ≡ length g → IsTrue (is_source (kind_at g x))
    → sent_from (drop x g) (drop x ss) ≡ source_at g ss x ∷ sent_from (drop (x + 1) g) (drop (x + 1) ss)
left-source g ss x low long source =
    left-from g ss x low long
    ∙ ap (λ (b : Bool). if b then source_at g ss x ∷ sent_from (drop (suc x) g) (drop (suc x) ss) else sent_from (drop (suc x) g) (drop (suc x) ss)) source
    ∙ (let next : suc x ≡ x + 1 = omega arith in ap (λ (n : ℕ). source_at g ss x ∷ sent_from (drop n g) (drop n ss)) next)

left-derived : (g : List Decl) (ss : List Content) (x : ℕ) → x < length g → length ss ≡ length g → IsFalse (is_source (kind_at g x))
    → sent_from (drop x g) (drop x ss) ≡ sent_from (drop (x + 1) g) (drop (x + 1) ss)
left-derived g ss x low long process =
    left-from g ss x low long
    ∙ ap (λ (b : Bool). if b then source_at g ss x ∷ sent_from (drop (suc x) g) (drop (suc x) ss) else sent_from (drop (suc x) g) (drop (suc x) ss)) process
    ∙ (let next : suc x ≡ x + 1 = omega arith in ap (λ (n : ℕ). sent_from (drop n g) (drop n ss)) next)

-- ---- the message so far

module _ (g : List Decl) (hs : List Held) (counts : List ℕ) where
  pub begun-nothing : IsBegun g (contents_of hs) counts 0 (message counts [])
  begun-nothing = record { counts_are = refl; whole = refl }

  pub begun-source : (x : ℕ) (m : Message) → IsBegun g (contents_of hs) counts x m → x < length g → length hs ≡ length g → IsTrue (is_source (kind_at g x)) → IsBegun g (contents_of hs) counts (x + 1) (with_source m (source_at g (contents_of hs) x))
  begun-source x m h low long source = record {
    counts_are = h.counts_are;
    whole = appended m.sources (source_at g (contents_of hs) x) (sent_from (drop (x + 1) g) (drop (x + 1) (contents_of hs)))
        ∙ ap (λ (sent : List Sent). m.sources ++ sent) (sym (left-source g (contents_of hs) x low (map-length (λ (h : Held). h.content) hs ∙ long) source)) ∙ h.whole;
  } where
    appended : (xs : List Sent) (y : Sent) (ys : List Sent) → (xs ++ y ∷ []) ++ ys ≡ xs ++ y ∷ ys
    appended [] y ys = refl
    appended (x ∷ xs) y ys = ap (λ (zs : List Sent). x ∷ zs) (appended xs y ys)

  pub begun-derived : (x : ℕ) (m : Message) → IsBegun g (contents_of hs) counts x m → x < length g → length hs ≡ length g → IsFalse (is_source (kind_at g x)) → IsBegun g (contents_of hs) counts (x + 1) m
  begun-derived x m h low long process = record {
    counts_are = h.counts_are;
    whole = ap (λ (sent : List Sent). m.sources ++ sent) (sym (left-derived g (contents_of hs) x low (map-length (λ (h : Held). h.content) hs ∙ long) process)) ∙ h.whole;
  }

  -- with all variables done it is the whole
  pub begun-whole : (x : ℕ) (m : Message) → IsBegun g (contents_of hs) counts x m → length g ≤ x → m ≡ message_of g (contents_of hs) counts
  begun-whole x m h past = λ i. record { counts = h.counts_are i; sources = (sym (none m.sources) ∙ ap (λ (ds : List Decl). m.sources ++ sent_from ds (drop x (contents_of hs))) (sym (over g x past)) ∙ h.whole) i } where
    none : (xs : List Sent) → xs ++ [] ≡ xs
    none [] = refl
    none (x ∷ xs) = ap (λ (zs : List Sent). x ∷ zs) (none xs)

    over : (ds : List Decl) (n : ℕ) → length ds ≤ n → drop n ds ≡ []
    over [] zero low = refl
    over [] (suc n) low = refl
    over (d ∷ ds) zero low = absurd (omega (arith, low))
    over (d ∷ ds) (suc n) low = over ds n (omega (arith, low))

  -- ---- what the message holds is within the format all along

  pub lawful-nothing : IsMessage (message_of g (contents_of hs) counts) → IsMessage (message counts [])
  lawful-nothing h = record { nodes = h.nodes; counts = h.counts; few = omega arith; sources = tt }

  pub lawful-source : (x : ℕ) (m : Message) → IsMessage (message_of g (contents_of hs) counts) → IsBegun g (contents_of hs) counts x m → x < length g → length hs ≡ length g → IsTrue (is_source (kind_at g x))
      → IsMessage (with_source m (source_at g (contents_of hs) x))
  lawful-source x m lawful h low long source = subst (λ (cs : List ℕ). IsMessage (message cs (m.sources ++ source_at g (contents_of hs) x ∷ []))) (sym h.counts_are) (record {
    nodes = lawful.nodes;
    counts = lawful.counts;
    few = omega (arith, lawful.few, ap (λ (sent : List Sent). length sent) all, length-append m.sources (t ∷ rest), length-append m.sources (t ∷ []));
    sources = first m.sources (subst (λ (sent : List Sent). AllByRecursion (IsSent (length counts)) sent) (sym all) lawful.sources);
  }) where
    t : Sent
    t = source_at g (contents_of hs) x

    rest : List Sent
    rest = sent_from (drop (x + 1) g) (drop (x + 1) (contents_of hs))

    all : m.sources ++ t ∷ rest ≡ sent_from g (contents_of hs)
    all = ap (λ (sent : List Sent). m.sources ++ sent) (sym (left-source g (contents_of hs) x low (map-length (λ (h : Held). h.content) hs ∙ long) source)) ∙ h.whole

    first : (xs : List Sent) → AllByRecursion (IsSent (length counts)) (xs ++ t ∷ rest) → AllByRecursion (IsSent (length counts)) (xs ++ t ∷ [])
    first [] each = (each.0, tt)
    first (y ∷ xs) each = (each.0, first xs each.1)

  -- the source that a declaration and a state make is the variable's
  pub source-is : (nodes x : ℕ) (d : Decl) (s : State) → AreSourcesOfKind nodes g hs → IsTrue (is_source d.kind) → slice_get g x ≡ Some d → slice_get hs x ≡ Some (held_of s) → sent d.name s ≡ source_at g (contents_of hs) x
  source-is nodes x d s kinds source declared held =
      let here : decl_at g x ≡ d = get_or_from_slice_get g x d no_decl declared in
      let kind : kind_at g x ≡ d.kind = ap (λ (e : Decl). e.kind) here in
      let is : kind_of s ≡ d.kind =
      state-kind s nodes d.kind source (sym (shape-held hs x (held_of s) held) ∙ kinds x (slice_get_within g x d declared) (subst (λ (k : Kind). IsTrue (is_source k)) (sym kind) source) ∙ ap (shape_of nodes) kind) in
      λ i. record { decl = (ap (λ (k : Kind). record { name = d.name; kind = k }) is ∙ sym here) i; content = sym (content-held hs x (held_of s) held) i }
