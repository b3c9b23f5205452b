-- The sources of a message, each joined into its state, with its growth made ready.
use Rattle.std.proofs.Common.{◌≡◌, ◌≢◌, ℕ, zero, suc, ◌+◌, ◌≤◌, ◌<◌, ◌⊎◌, inl, inr, ◌==◌, pos, Bool, true, false, cond, if◌then◌else◌, IsTrue, IsFalse, List, [], ◌∷◌, ◌++◌, length, map, take, slice_set, Option, Some, None, Result, Ok, Err, get_or, refl, sym, ap, subst, ◌∙◌, arith}
use Rattle.std.specs.Prelude.{slice_get}
use Rattle.std.specs.Result.{IsErrAnd}
use Rattle.std.proofs.Math.Seq.{map-set_same}
use Rattle.std.specs.Option.{option_map}
use Rattle.std.proofs.lemmas.Bool.Decides.{nat_tests}
use Rattle.std.proofs.lemmas.Option.{get_or_from_slice_get}
use Rattle.std.proofs.lemmas.List.{get_or-set_same, get_or-set_other}
use Rattle.model_values.specs.Row.{Row}
use Rattle.model_values.proofs.ListLaws.{each-at}
use Rattle.model_states.specs.Content.{Content, least, join_contents, size_of, row_limit, IsOrdered, IsContentAtMost}
use Rattle.model_states.specs.Threshold.{Shape, set, grow, counter, register, fold}
use Rattle.model_states.proofs.ContentLaws.{join-below, join-nothing, at_most-least}
use Rattle.model_graph.specs.Graph.{Decl, is_source, decl_at, kind_at}
use Rattle.model_graph.specs.Evaluation.{content_at, first_large}
use Rattle.model_graph.specs.Lawful.{shape_of, sources_among}
use Rattle.model_graph.proofs.LeastLaws.{no-fold}
use Rattle.model_graph.proofs.LimitLaws.{large-words, small-words}
use Rattle.model_graph.proofs.PlaceLaws.{below-or-not, equal-numbers, from-nothing, same-lists, map-length, set-length, at-append, at-last, at-past, length-push}
use Rattle.model_graph.specs.Message.{Sent, Message, source_number, sent_at, brought, with_gain, gained}
use Rattle.model_graph.proofs.MessageLaws.{sent-past, gained-length, gained-at, sent_at-found}
use Rattle.model_wire.specs.Lawful.{IsSource, IsSent, IsMessage}
use Rattle.model_wire.specs.Message as wire
use Rattle.model_runs.specs.Held.{IsSentTo}
use Rattle.model_runs.proofs.SourceLaws.{source-kind}
use Rattle.lasp_state.specs.declared.state.State.{State}
use Rattle.lasp_state.specs.declared.state.State.TheVariants as state
use Rattle.lasp_state.specs.State.{content_of, shape_of as shape}
use Rattle.lasp_graph.specs.States.{Held, held_of, held_at, contents_of, grown, AreJoinable}
use Rattle.lasp_wire.specs.Sent.{kind_of, held_in}
use Rattle.lasp_wire.specs.Sent as sent
use Rattle.lasp_replica.specs.History.{History}
use Rattle.lasp_replica.specs.Kept.{Kept}
use Rattle.lasp_replica.specs.Parts.{news_of, AreRowsOf}
use Rattle.lasp_replica.specs.declared.refused.DeliverRefused.{DeliverRefused}
use Rattle.lasp_replica.specs.declared.refused.DeliverRefused.TheVariants as refusal
use Rattle.lasp_replica.specs.Replica.{told, no_kept, kept_at}
use Rattle.lasp_graph.specs.States.{AreSourcesOfKind}
use Rattle.lasp_replica.specs.Delivery.{grows_at, IsLike, AreSmall, IsJoined, IsReady, IsTaken, IsReadyFor, IsRefusedAt, AreTaken, AreJoined, IsRefused}
use Rattle.lasp_graph.proofs.SourceLists.{held-content}

-- ---- states at places

-- past the states stands a set without rows
abbrev no_held : Held
no_held = record { shape = set; content = least; number = pos 0 }

-- a state that a content was joined into, put in its place
pub joined-set : (old new : List Held) (x : ℕ) (h : Held) (s : Content) → x < length old → new ≡ slice_set old x h → h.shape ≡ (held_at old x).shape → h.content ≡ join_contents (held_at old x).content s → IsJoined old x s new
joined-set old new x h s low e shape content = subst (IsJoined old x s) (sym e) (record {
  long = set-length old x h;
  shapes = λ y. same y (y == x) refl;
  content = ap (λ (k : Held). k.content) (get_or-set_same old x h no_held low) ∙ content;
  others = λ y n. get_or-set_other old x y h no_held n;
}) where
  same : (y : ℕ) (b : Bool) → (y == x) ≡ b → (held_at (slice_set old x h) y).shape ≡ (held_at old y).shape
  same y true t =
      let here : y ≡ x = equal-numbers y x t in
      subst (λ (z : ℕ). (held_at (slice_set old x h) z).shape ≡ (held_at old z).shape) (sym here) (ap (λ (k : Held). k.shape) (get_or-set_same old x h no_held low) ∙ shape)
  same y false t = ap (λ (k : Held). k.shape) (get_or-set_other old x y h no_held (let n : y ≢ x = grind (arith, nat_tests, t) in n))

-- nothing was joined that is not there already
joined-nothing : (old : List Held) (x : ℕ) (c : Content) → join_contents (held_at old x).content c ≡ (held_at old x).content → IsJoined old x c old
joined-nothing old x c same = record { long = refl; shapes = λ y. refl; content = sym same; others = λ y n. refl }

-- ---- one state

-- how many counts a content of a shape has
abbrev counts_in : Shape → ℕ
counts_in set = 0
counts_in grow = 0
counts_in (counter nodes) = nodes
counts_in register = 0
counts_in fold = 0

counts-long : (s : State) → length (content_of s).counts ≡ counts_in (shape s)
counts-long (state.Set rows) = refl
counts-long (state.Grow values) = refl
counts-long (state.Count counts) = refl
counts-long (state.Max m) = refl
counts-long (state.Fold rows n) = refl

module _ (old : List Held) (x : ℕ) (now : State) (there : slice_get old x ≡ Some (held_of now)) where
  pub held-here : held_at old x ≡ held_of now
  held-here = get_or_from_slice_get old x (held_of now) no_held there

  -- the state has what comes already
  pub taken-still : (s : State) (history : Kept) → shape now ≡ shape s → IsOrdered (content_of now) → IsContentAtMost (content_of s) (content_of now) → size_of (held_at old x).content ≤ row_limit → IsTaken old x (content_of s) false old history
  taken-still s history alike ordered below small = record {
    joined = joined-nothing old x (content_of s) same;
    ready = record {
      still = λ t. subst (λ (h : Held). IsContentAtMost (content_of s) h.content) (sym held-here) below;
      grew = λ t. absurd (let both : false ≡ true = t in cc);
      prepared = λ t. absurd (let both : false ≡ true = t in cc);
      pending = λ t. absurd (let both : false ≡ true = t in cc);
    };
    small = subst (λ (c : Content). size_of c ≤ row_limit) (sym same) small;
  } where
    long : length (content_of s).counts ≤ length (content_of now).counts
    long = omega (arith, counts-long s, counts-long now, ap counts_in alike)

    same : join_contents (held_at old x).content (content_of s) ≡ (held_at old x).content
    same = subst (λ (h : Held). join_contents h.content (content_of s) ≡ h.content) (sym held-here) (join-below (content_of now) (content_of s) ordered long below)

  pub size-here : (c : Content) (size : ℕ) → size ≡ size_of (join_contents (content_of now) c) → size ≡ size_of (join_contents (held_at old x).content c)
  size-here c size is = is ∙ ap (λ (h : Held). size_of (join_contents h.content c)) (sym held-here)

  -- the state grew
  pub taken-grown : (s : State) (new : List Held) (history : Kept) (rows : List Row) (size : ℕ) → x < length old → (IsContentAtMost (content_of s) (content_of now) → ⊥)
      → size ≡ size_of (join_contents (content_of now) (content_of s)) → size ≤ row_limit → rows ≡ news_of (shape now) (content_of now) (content_of s)
      → IsTrue history.prepared → AreRowsOf rows history.pending → new ≡ slice_set old x (grown (held_at old x) (held_of s)) → IsTaken old x (content_of s) true new history
  taken-grown s new history rows size low more is within news prepared pending placed = record {
    joined = joined-set old new x (grown (held_at old x) (held_of s)) (content_of s) low placed refl refl;
    ready = record {
      still = λ t. absurd (let both : true ≡ false = t in cc);
      grew = λ t below. more (subst (λ (h : Held). IsContentAtMost (content_of s) h.content) held-here below);
      prepared = λ t. prepared;
      pending = λ t. subst (λ (z : List Row). AreRowsOf z history.pending) (news ∙ ap (λ (h : Held). news_of h.shape h.content (content_of s)) (sym held-here)) pending;
    };
    small = subst (λ (n : ℕ). n ≤ row_limit) (size-here (content_of s) size is) within;
  }

  -- and what the message does not have brings nothing
  pub taken-nothing : (sources : List Sent) (i : ℕ) (history : Kept) → length sources ≤ i → IsOrdered (content_of now) → size_of (held_at old x).content ≤ row_limit → IsTaken old x (sent_at sources i) false old history
  taken-nothing sources i history past ordered small = subst (λ (c : Content). IsTaken old x c false old history) (sym (sent-past sources i past)) (record {
    joined = joined-nothing old x least same;
    ready = record {
      still = λ t. at_most-least (held_at old x).content;
      grew = λ t. absurd (let both : false ≡ true = t in cc);
      prepared = λ t. absurd (let both : false ≡ true = t in cc);
      pending = λ t. absurd (let both : false ≡ true = t in cc);
    };
    small = subst (λ (c : Content). size_of c ≤ row_limit) (sym same) small;
  }) where
    same : join_contents (held_at old x).content least ≡ (held_at old x).content
    same = subst (λ (h : Held). join_contents h.content least ≡ h.content) (sym held-here) (join-nothing (content_of now) ordered)

-- ---- what a message has of a source

found : (sources : List Sent) (i : ℕ) (s : State) (o : Option Sent) → slice_get sources i ≡ o → option_map held_in o ≡ Some (sent.held_of s) → (t : Sent) × (slice_get sources i ≡ Some t) × (held_in t ≡ sent.held_of s)
found sources i s None e h = absurd cc
found sources i s (Some t) e h = (t, e, cc)

-- a state that a source may hold is of the shape of its kind
state-shape : (s : State) (nodes : ℕ) → IsSource nodes (kind_of s) (content_of s) → shape s ≡ shape_of nodes (kind_of s)
state-shape (state.Set rows) nodes h = refl
state-shape (state.Grow values) nodes h = refl
state-shape (state.Count counts) nodes h = ap counter h.0.0
state-shape (state.Max m) nodes h = refl
state-shape (state.Fold rows n) nodes h = absurd h

module _ (states : List Held) (x i : ℕ) (m : Message) (s : State) (lawful : IsMessage m) (there : option_map held_in (slice_get m.sources i) ≡ Some (sent.held_of s)) where
  t : Sent
  t = (found m.sources i s (slice_get m.sources i) refl there).0

  at : slice_get m.sources i ≡ Some (found m.sources i s (slice_get m.sources i) refl there).0
  at = (found m.sources i s (slice_get m.sources i) refl there).1

  is : held_in (found m.sources i s (slice_get m.sources i) refl there).0 ≡ sent.held_of s
  is = (found m.sources i s (slice_get m.sources i) refl there).2

  holds : IsSource (length m.counts) (kind_of s) (content_of s)
  holds = subst (λ (h : wire.Held). IsSource (length m.counts) h.0 h.1) is (each-at (IsSent (length m.counts)) m.sources i (found m.sources i s (slice_get m.sources i) refl there).0 lawful.sources at).1

  pub joinable : IsLike states x i m → AreJoinable (held_at states x) (held_of s)
  joinable like = record {
    shape = same-shape ∙ sym (state-shape s (length m.counts) holds);
    nested = λ folded. absurd (no-fold (length m.counts) (kind_of s) (source-kind (length m.counts) (kind_of s) (content_of s) holds) (sym same-shape ∙ folded));
  } where
    same-shape : (held_at states x).shape ≡ shape_of (length m.counts) (kind_of s)
    same-shape = like (found m.sources i s (slice_get m.sources i) refl there).0 at ∙ ap (λ (h : wire.Held). shape_of (length m.counts) h.0) is

  -- what the message has is what the state holds
  pub content-sent : content_of s ≡ sent_at m.sources i
  content-sent = sym (sent_at-found m.sources i (found m.sources i s (slice_get m.sources i) refl there).0 at ∙ ap (λ (h : wire.Held). h.1) is)

-- ---- sources in their order

number-none : (g : List Decl) → source_number g 0 ≡ 0
number-none [] = refl
number-none (d ∷ g) = refl

number-next : (g : List Decl) (x : ℕ) → x < length g → source_number g (suc x) ≡ (if is_source (kind_at g x) then source_number g x + 1 else source_number g x)
number-next [] x low = absurd (omega (arith, low))
number-next (d ∷ g) zero low = ap (λ (n : ℕ). if is_source d.kind then n + 1 else n) (number-none g)
number-next (d ∷ g) (suc x) low = choose (is_source d.kind) (is_source (kind_at g x)) (number-next g x (omega (arith, low))) where
  choose : (b c : Bool) → source_number g (suc x) ≡ (if c then source_number g x + 1 else source_number g x)
      → (if b then source_number g (suc x) + 1 else source_number g (suc x)) ≡ (if c then (if b then source_number g x + 1 else source_number g x) + 1 else (if b then source_number g x + 1 else source_number g x))
  choose true true e = omega (arith, e)
  choose true false e = omega (arith, e)
  choose false true e = omega (arith, e)
  choose false false e = omega (arith, e)

number-source : (g : List Decl) (x : ℕ) → x < length g → IsTrue (is_source (kind_at g x)) → source_number g (x + 1) ≡ source_number g x + 1
number-source g x low source =
    (let next : x + 1 ≡ suc x = omega arith in ap (source_number g) next) ∙ number-next g x low ∙ ap (λ (b : Bool). if b then source_number g x + 1 else source_number g x) source

number-derived : (g : List Decl) (x : ℕ) → x < length g → IsFalse (is_source (kind_at g x)) → source_number g (x + 1) ≡ source_number g x
number-derived g x low process =
    (let next : x + 1 ≡ suc x = omega arith in ap (source_number g) next) ∙ number-next g x low ∙ ap (λ (b : Bool). if b then source_number g x + 1 else source_number g x) process

-- no more sources are declared before a variable than variables
number-small : (g : List Decl) (x : ℕ) → source_number g x ≤ x
number-small [] x = omega arith
number-small (d ∷ g) zero = omega arith
number-small (d ∷ g) (suc x) = choose (is_source d.kind) (number-small g x) where
  choose : (b : Bool) → source_number g x ≤ x → (if b then source_number g x + 1 else source_number g x) ≤ suc x
  choose true h = omega (arith, h)
  choose false h = omega (arith, h)

-- a source of a message to the graph is the graph's
sent-declared : (declared : ℕ) (g : List Decl) (sources : List Sent) → map (λ s. s.decl) sources ≡ sources_among (take declared g) → (x : ℕ) → x < length g → IsTrue (is_source (kind_at g x))
    → (s : Sent) → slice_get sources (source_number g x) ≡ Some s → s.decl ≡ decl_at g x
sent-declared declared [] sources e x low source s at = absurd (omega (arith, low))
sent-declared zero (d ∷ g) [] e x low source s at = absurd cc
sent-declared zero (d ∷ g) (t ∷ sources) e x low source s at = absurd cc
sent-declared (suc n) (d ∷ g) sources e zero low source s at = first sources (e ∙ ap (λ (b : Bool). cond b (d ∷ sources_among (take n g)) (sources_among (take n g))) source) at where
  first : (sources : List Sent) → map (λ s. s.decl) sources ≡ d ∷ sources_among (take n g) → slice_get sources 0 ≡ Some s → s.decl ≡ d
  first [] e at = absurd cc
  first (t ∷ sources) e at = let same : t ≡ s = cc in let here : t.decl ≡ d = cc in ap (λ (u : Sent). u.decl) (sym same) ∙ here
sent-declared (suc n) (d ∷ g) sources e (suc y) low source s at = choose (is_source d.kind) sources e at (λ sources e at. sent-declared n g sources e y (omega (arith, low)) source s at) where
  choose : (b : Bool) → (sources : List Sent) → map (λ s. s.decl) sources ≡ cond b (d ∷ sources_among (take n g)) (sources_among (take n g)) → slice_get sources (if b then source_number g y + 1 else source_number g y) ≡ Some s
      → ((sources : List Sent) → map (λ s. s.decl) sources ≡ sources_among (take n g) → slice_get sources (source_number g y) ≡ Some s → s.decl ≡ decl_at g y) → s.decl ≡ decl_at g y
  choose true [] e at rest = absurd cc
  choose true (t ∷ sources) e at rest =
      let next : source_number g y + 1 ≡ suc (source_number g y) = omega arith in
      let same : map (λ s. s.decl) sources ≡ sources_among (take n g) = cc in
      rest sources same (subst (λ (i : ℕ). slice_get (t ∷ sources) i ≡ Some s) next at)
  choose false sources e at rest = rest sources e at

brought-source : (g : List Decl) (m : Message) (x : ℕ) → IsTrue (is_source (kind_at g x)) → brought g m x ≡ Some (sent_at m.sources (source_number g x))
brought-source g m x source = ap (λ (b : Bool). if b then Some (sent_at m.sources (source_number g x)) else None) source

brought-nothing : (g : List Decl) (m : Message) (x : ℕ) → IsFalse (is_source (kind_at g x)) → brought g m x ≡ None
brought-nothing g m x process = ap (λ (b : Bool). if b then Some (sent_at m.sources (source_number g x)) else None) process

-- ---- histories that tell the same

pub told-set : (histories : List Kept) (x : ℕ) (old new : Kept) → old ≡ get_or histories x old → new.history ≡ old.history → map told (slice_set histories x new) ≡ map told histories
told-set histories x old new value same = map-set_same told histories x new old (same ∙ ap told value)

pub told-long : (old new : List Kept) → map told new ≡ map told old → length new ≡ length old
told-long old new same =
    let lists : length (map told new) ≡ length (map told old) = ap (λ (hs : List History). length hs) same in
    omega (arith, lists, map-length told new, map-length told old)

-- ---- refusals

refused-from : (A B : Type 0) (contents : List Content) (x : ℕ) (c : Content) (e : DeliverRefused) → (row_limit < size_of c → first_large 0 contents ≡ Some x) → IsRefusedAt {A = A} x c (Err e) → IsRefused {A = B} contents (Err e)
refused-from A B contents x c refusal.WrongGraph first h = absurd h
refused-from A B contents x c (refusal.TooManyRows y) first h = first h.1 ∙ ap (λ (z : ℕ). Some z) (sym h.0)
refused-from A B contents x c refusal.Memory first h = tt

-- what one source refused is passed on
pub refused-passed : {A B : Type 0} (contents : List Content) (x : ℕ) (c : Content) (e : DeliverRefused) (one : Result A DeliverRefused) (all : Result B DeliverRefused) → one ≡ Err e → IsErrAnd all (λ y. y ≡ e)
    → (row_limit < size_of c → first_large 0 contents ≡ Some x) → IsRefusedAt x c one → IsRefused contents all
refused-passed contents x c e one (Ok b) was passed first h = tt
refused-passed {A = A} {B = B} contents x c e one (Err y) was passed first h =
    subst (λ (z : DeliverRefused). IsRefused {A = B} contents (Err z)) (sym passed) (refused-from A B contents x c e first (subst (λ (r : Result A DeliverRefused). IsRefusedAt x c r) was h))

-- ---- the message so far

module _ (g : List Decl) (m : Message) (old : List Held) where
  pub taken-none : (histories : List Kept) → AreTaken g m old 0 0 old histories []
  taken-none histories = record {
    number = sym (number-none g);
    long = refl;
    shapes = λ y. refl;
    derived = λ y process. refl;
    done = λ y low. absurd (omega (arith, low));
    left = λ y past. refl;
    small = λ y low. absurd (omega (arith, low));
    many = refl;
    ready = λ y low. absurd (omega (arith, low));
  }

  -- what a variable has with all that it gains
  gained-here : (y : ℕ) → y < length old → content_at (gained (brought g m) 0 (contents_of old)) y ≡ with_gain (held_at old y).content (brought g m y)
  gained-here y low =
      gained-at (brought g m) 0 (contents_of old) y (omega (arith, low, map-length (λ (k : Held). k.content) old))
      ∙ ap (λ (n : ℕ). with_gain (content_at (contents_of old) y) (brought g m n)) (sym (from-nothing y)) ∙ ap (λ (c : Content). with_gain c (brought g m y)) (held-content old y)

  module _ (x i : ℕ) (now : List Held) (histories : List Kept) (grow : List Bool) (h : AreTaken g m old x i now histories grow) where
    pub taken-number : i ≤ x
    taken-number = omega (arith, h.number, number-small g x)

    pub taken-like : IsSentTo (length m.counts) g m → AreSourcesOfKind (length m.counts) g old → x < length g → IsTrue (is_source (kind_at g x)) → IsLike now x i m
    taken-like sent kinds low source s at =
        h.shapes x ∙ kinds x low source
        ∙ ap (λ (d : Decl). shape_of (length m.counts) d.kind) (sym (sent-declared sent.declared g m.sources sent.sources x low source s (subst (λ (n : ℕ). slice_get m.sources n ≡ Some s) h.number at)))

    pub taken-small : AreSmall old → x < length old → size_of (held_at now x).content ≤ row_limit
    taken-small small low = subst (λ (k : Held). size_of k.content ≤ row_limit) (sym (h.left x (omega arith))) (small x low)

    -- what a source that is next gets
    next-gain : IsTrue (is_source (kind_at g x)) → join_contents (held_at now x).content (sent_at m.sources i) ≡ with_gain (held_at old x).content (brought g m x)
    next-gain source =
        ap (λ (k : Held). join_contents k.content (sent_at m.sources i)) (h.left x (omega arith)) ∙ ap (λ (n : ℕ). join_contents (held_at old x).content (sent_at m.sources n)) h.number
        ∙ sym (ap (with_gain (held_at old x).content) (brought-source g m x source))

    pub taken-source : (grows : Bool) (new : List Held) (history : Kept) → IsTaken now x (sent_at m.sources i) grows new history → x < length g → x < length histories → IsTrue (is_source (kind_at g x))
        → AreTaken g m old (x + 1) (i + 1) new (slice_set histories x history) (grow ++ grows ∷ [])
    taken-source grows new history t low within source = record {
      number = omega (arith, h.number, number-source g x low source);
      long = t.joined.long ∙ h.long;
      shapes = λ y. t.joined.shapes y ∙ h.shapes y;
      derived = λ y process. t.joined.others y (other y process) ∙ h.derived y process;
      done = λ y below. done y (below-or-not y x) below;
      left = λ y past. t.joined.others y (omega (arith, past)) ∙ h.left y (omega (arith, past));
      small = λ y below. small y (below-or-not y x) below;
      many = omega (arith, length-push grow grows, h.many);
      ready = λ y below. ready y (below-or-not y x) below;
    } where
      other : (y : ℕ) → IsFalse (is_source (kind_at g y)) → y ≢ x
      other y process e =
          let no-source : is_source (kind_at g x) ≡ false = subst (λ (z : ℕ). is_source (kind_at g z) ≡ false) e process in
          let a-source : is_source (kind_at g x) ≡ true = source in
          absurd cc

      done : (y : ℕ) → (y < x) ⊎ (x ≤ y) → y < x + 1 → (held_at new y).content ≡ with_gain (held_at old y).content (brought g m y)
      done y (inl before) below = ap (λ (k : Held). k.content) (t.joined.others y (omega (arith, before))) ∙ h.done y before
      done y (inr past) below = (let same : x ≡ y = omega (arith, past, below) in subst (λ (z : ℕ). (held_at new z).content ≡ with_gain (held_at old z).content (brought g m z)) same (t.joined.content ∙ next-gain source))

      small : (y : ℕ) → (y < x) ⊎ (x ≤ y) → y < x + 1 → size_of (held_at new y).content ≤ row_limit
      small y (inl before) below = subst (λ (k : Held). size_of k.content ≤ row_limit) (sym (t.joined.others y (omega (arith, before)))) (h.small y before)
      small y (inr past) below = (let same : x ≡ y = omega (arith, past, below) in subst (λ (z : ℕ). size_of (held_at new z).content ≤ row_limit) same (subst (λ (c : Content). size_of c ≤ row_limit) (sym t.joined.content) t.small))

      here : IsReadyFor (held_at old x) (brought g m x) (grows_at (grow ++ grows ∷ []) x) (kept_at (slice_set histories x history) x)
      here =
          subst (λ (o : Option Content). IsReadyFor (held_at old x) o (grows_at (grow ++ grows ∷ []) x) (kept_at (slice_set histories x history) x)) (sym (brought-source g m x source ∙ ap (λ (n : ℕ). Some (sent_at m.sources n)) (sym h.number)))
          (subst (λ (b : Bool). IsReady (held_at old x) (sent_at m.sources i) b (kept_at (slice_set histories x history) x)) (sym (ap (grows_at (grow ++ grows ∷ [])) (sym h.many) ∙ at-last grow grows false))
          (subst (λ (k : Kept). IsReady (held_at old x) (sent_at m.sources i) grows k) (sym (get_or-set_same histories x history no_kept within))
          (subst (λ (k : Held). IsReady k (sent_at m.sources i) grows history) (h.left x (omega arith)) t.ready)))

      ready : (y : ℕ) → (y < x) ⊎ (x ≤ y) → y < x + 1 → IsReadyFor (held_at old y) (brought g m y) (grows_at (grow ++ grows ∷ []) y) (kept_at (slice_set histories x history) y)
      ready y (inl before) below =
          subst (λ (b : Bool). IsReadyFor (held_at old y) (brought g m y) b (kept_at (slice_set histories x history) y)) (sym (at-append grow (grows ∷ []) y false (omega (arith, before, h.many))))
          (subst (λ (k : Kept). IsReadyFor (held_at old y) (brought g m y) (grows_at grow y) k) (sym (get_or-set_other histories x y history no_kept (omega (arith, before)))) (h.ready y before))
      ready y (inr past) below = (let same : x ≡ y = omega (arith, past, below) in subst (λ (z : ℕ). IsReadyFor (held_at old z) (brought g m z) (grows_at (grow ++ grows ∷ []) z) (kept_at (slice_set histories x history) z)) same here)

    pub taken-derived : AreSmall old → x < length old → x < length g → IsFalse (is_source (kind_at g x)) → AreTaken g m old (x + 1) i now histories (grow ++ false ∷ [])
    taken-derived limit inside low process = record {
      number = omega (arith, h.number, number-derived g x low process);
      long = h.long;
      shapes = h.shapes;
      derived = h.derived;
      done = λ y below. done y (below-or-not y x) below;
      left = λ y past. h.left y (omega (arith, past));
      small = λ y below. small y (below-or-not y x) below;
      many = omega (arith, length-push grow false, h.many);
      ready = λ y below. ready y (below-or-not y x) below;
    } where
      done : (y : ℕ) → (y < x) ⊎ (x ≤ y) → y < x + 1 → (held_at now y).content ≡ with_gain (held_at old y).content (brought g m y)
      done y (inl before) below = h.done y before
      done y (inr past) below = (let same : x ≡ y = omega (arith, past, below) in
          subst (λ (z : ℕ). (held_at now z).content ≡ with_gain (held_at old z).content (brought g m z)) same
          (ap (λ (k : Held). k.content) (h.left x (omega arith)) ∙ sym (ap (with_gain (held_at old x).content) (brought-nothing g m x process))))

      small : (y : ℕ) → (y < x) ⊎ (x ≤ y) → y < x + 1 → size_of (held_at now y).content ≤ row_limit
      small y (inl before) below = h.small y before
      small y (inr past) below = (let same : x ≡ y = omega (arith, past, below) in subst (λ (z : ℕ). size_of (held_at now z).content ≤ row_limit) same (taken-small limit inside))

      here : IsReadyFor (held_at old x) (brought g m x) (grows_at (grow ++ false ∷ []) x) (kept_at histories x)
      here =
          subst (λ (o : Option Content). IsReadyFor (held_at old x) o (grows_at (grow ++ false ∷ []) x) (kept_at histories x)) (sym (brought-nothing g m x process))
          (ap (grows_at (grow ++ false ∷ [])) (sym h.many) ∙ at-last grow false false)

      ready : (y : ℕ) → (y < x) ⊎ (x ≤ y) → y < x + 1 → IsReadyFor (held_at old y) (brought g m y) (grows_at (grow ++ false ∷ []) y) (kept_at histories y)
      ready y (inl before) below =
          subst (λ (b : Bool). IsReadyFor (held_at old y) (brought g m y) b (kept_at histories y)) (sym (at-append grow (false ∷ []) y false (omega (arith, before, h.many)))) (h.ready y before)
      ready y (inr past) below = (let same : x ≡ y = omega (arith, past, below) in subst (λ (z : ℕ). IsReadyFor (held_at old z) (brought g m z) (grows_at (grow ++ false ∷ []) z) (kept_at histories z)) same here)

    -- the next source would be the first that is too large
    pub taken-large : IsTrue (is_source (kind_at g x)) → x < length old → row_limit < size_of (join_contents (held_at now x).content (sent_at m.sources i)) → first_large 0 (gained (brought g m) 0 (contents_of old)) ≡ Some x
    taken-large source low large = (large-words (gained (brought g m) 0 (contents_of old)) x).1 (record {
      large = subst (λ (c : Content). row_limit < size_of c) (next-gain source ∙ sym (gained-here x low)) large;
      before = λ y below. subst (λ (c : Content). size_of c ≤ row_limit) (h.done y below ∙ sym (gained-here y (omega (arith, below, low)))) (h.small y below);
    })

    -- with all variables done each has what it gains
    pub taken-all : length g ≤ x → x ≤ length g → length old ≡ length g → AreJoined g m old now histories grow
    taken-all past within long = record {
      contents = contents;
      shapes = h.shapes;
      derived = h.derived;
      small = ap (first_large 0) (sym contents) ∙ (small-words (contents_of now)).1 (λ y. small y (below-or-not y x));
      many = omega (arith, h.many, past, within);
      ready = λ y low. h.ready y (omega (arith, low, past));
    } where
      contents : contents_of now ≡ gained (brought g m) 0 (contents_of old)
      contents = same-lists (contents_of now) (gained (brought g m) 0 (contents_of old)) least
          (map-length (λ (k : Held). k.content) now ∙ h.long ∙ sym (map-length (λ (k : Held). k.content) old) ∙ sym (gained-length (brought g m) 0 (contents_of old)))
          (λ y low.
          let here : y < length old = omega (arith, low, map-length (λ (k : Held). k.content) now, h.long) in
          held-content now y ∙ h.done y (omega (arith, here, long, past)) ∙ sym (gained-here y here))

      small : (y : ℕ) → (y < x) ⊎ (x ≤ y) → size_of (content_at (contents_of now) y) ≤ row_limit
      small y (inl low) = subst (λ (c : Content). size_of c ≤ row_limit) (sym (held-content now y)) (h.small y low)
      small y (inr high) = subst (λ (c : Content). size_of c ≤ row_limit) (sym (at-past (contents_of now) y least (omega (arith, high, past, long, h.long, map-length (λ (k : Held). k.content) now)))) (omega arith)
