-- What a letter may tell a node of its own counts, variable by variable.
use Rattle.std.proofs.Common.{◌≡◌, ℕ, zero, suc, ◌+◌, ◌<◌, ◌≤◌, ◌⊎◌, inl, inr, Bool, true, false, if◌then◌else◌, List, [], ◌∷◌, length, refl, sym, ap, subst, ◌∙◌, arith}
use Rattle.std.specs.Prelude.{Option, Some, None, slice_get}
use Rattle.std.specs.Option.{option_map}
use Rattle.std.proofs.lemmas.Option.{same_Some}
use Rattle.model_states.specs.Content.{Content}
use Rattle.model_graph.specs.Graph.{Decl, Counter, is_source, kind_at}
use Rattle.model_graph.proofs.PlaceLaws.{below-or-not}
use Rattle.model_graph.specs.Message.{Sent, Message, sent_at, source_number}
use Rattle.model_graph.proofs.MessageLaws.{sent_at-found, sent-past}
use Rattle.model_states.specs.Counts.{count_at}
use Rattle.model_live.specs.Letter.{IsNews}
use Rattle.lasp_state.specs.State.{content_of}
use Rattle.lasp_state.specs.declared.state.State.{State}
use Rattle.lasp_wire.specs.Sent.{held_in, held_of}

-- ---- the numbers of sources

pub number-none : (g : List Decl) → source_number g 0 ≡ 0
number-none [] = refl
number-none (d ∷ g) = refl

pub number-next : (g : List Decl) (x : ℕ) → x < length g → source_number g (suc x) ≡ (if is_source (kind_at g x) then source_number g x + 1 else source_number g x)
number-next [] x low = absurd (omega (arith, low))
number-next (d ∷ []) zero low = refl
number-next (d ∷ e ∷ g) zero low = refl
number-next (d ∷ g) (suc x) low = choose (is_source d.kind) (is_source (kind_at g x)) (number-next g x (omega (arith, low))) where
  choose : (b c : Bool) → source_number g (suc x) ≡ (if c then source_number g x + 1 else source_number g x)
      → (if b then source_number g (suc x) + 1 else source_number g (suc x)) ≡ (if c then (if b then source_number g x + 1 else source_number g x) + 1 else (if b then source_number g x + 1 else source_number g x))
  choose true true e = ap (λ (n : ℕ). n + 1) e
  choose true false e = ap (λ (n : ℕ). n + 1) e
  choose false true e = e
  choose false false e = e

number-by : (g : List Decl) (x : ℕ) (b : Bool) → x < length g → is_source (kind_at g x) ≡ b → source_number g (x + 1) ≡ (if b then source_number g x + 1 else source_number g x)
number-by g x b low is =
    ap (source_number g) (let next : x + 1 ≡ suc x = omega arith in next) ∙ number-next g x low ∙ ap (λ (c : Bool). if c then source_number g x + 1 else source_number g x) is

-- ---- one source of a message

-- a source that it doesn't have tells nothing
pub past-within : (sources : List Sent) (i p total : ℕ) → length sources ≤ i → count_at (sent_at sources i).counts p ≤ total
past-within sources i p total past = subst (λ (s : Content). count_at s.counts p ≤ total) (sym (sent-past sources i past)) (omega arith)

source-content : (sources : List Sent) (i : ℕ) (s : State) → option_map held_in (slice_get sources i) ≡ Some (held_of s) → sent_at sources i ≡ content_of s
source-content sources i s e = choose (slice_get sources i) refl where
  choose : (o : Option Sent) → slice_get sources i ≡ o → sent_at sources i ≡ content_of s
  choose None is = absurd (let none : None ≡ Some (held_of s) = sym (ap (option_map held_in) is) ∙ e in cc)
  choose (Some t) is = sent_at-found sources i t is ∙ ap (λ h. h.1) (same_Some (held_in t) (held_of s) (sym (ap (option_map held_in) is) ∙ e))

pub there-within : (sources : List Sent) (i p total : ℕ) (s : State) → option_map held_in (slice_get sources i) ≡ Some (held_of s) → count_at (content_of s).counts p ≤ total → count_at (sent_at sources i).counts p ≤ total
there-within sources i p total s e few = subst (λ (t : Content). count_at t.counts p ≤ total) (sym (source-content sources i s e)) few

pub ruleset tellings = (past-within, there-within)

-- ---- counters

-- of the variables before one no counter tells more
abbrev pub IsNewsBefore : List Decl → ℕ → (ℕ → ℕ) → Message → ℕ → Type 0
IsNewsBefore g p counted m n = (x : ℕ) → x < n → kind_at g x ≡ Counter → count_at (sent_at m.sources (source_number g x)).counts p ≤ counted x

-- a loop over the variables that stands at one of them
pub record IsNewsAt (g : List Decl) (p : ℕ) (counted : ℕ → ℕ) (m : Message) (n i : ℕ) : Type 0 where
  pub within : n ≤ length g
  pub number : i ≡ source_number g n
  pub few : i ≤ n
  pub before : IsNewsBefore g p counted m n

pub news-begins : (g : List Decl) (p : ℕ) (counted : ℕ → ℕ) (m : Message) → IsNewsAt g p counted m 0 0
news-begins g p counted m = record { within = omega arith; number = sym (number-none g); few = omega arith; before = λ x low counter. absurd (omega (arith, low)) }

pub news-source : (g : List Decl) (p : ℕ) (counted : ℕ → ℕ) (m : Message) (n i : ℕ) → IsNewsAt g p counted m n i → n < length g → is_source (kind_at g n) ≡ true → count_at (sent_at m.sources i).counts p ≤ counted n
    → IsNewsAt g p counted m (n + 1) (i + 1)
news-source g p counted m n i at low source here = record {
  within = omega (arith, low);
  number = ap (λ (k : ℕ). k + 1) at.number ∙ sym (number-by g n true low source);
  few = omega (arith, at.few);
  before = λ x less counter. choose x counter (below-or-not x n) less;
} where
  choose : (x : ℕ) → kind_at g x ≡ Counter → (x < n) ⊎ (n ≤ x) → x < n + 1 → count_at (sent_at m.sources (source_number g x)).counts p ≤ counted x
  choose x counter (inl less) low = at.before x less counter
  choose x counter (inr past) low =
      subst (λ (y : ℕ). count_at (sent_at m.sources (source_number g y)).counts p ≤ counted y) (let same : n ≡ x = omega (arith, past, low) in same)
      (subst (λ (j : ℕ). count_at (sent_at m.sources j).counts p ≤ counted n) at.number here)

pub news-derived : (g : List Decl) (p : ℕ) (counted : ℕ → ℕ) (m : Message) (n i : ℕ) → IsNewsAt g p counted m n i → n < length g → is_source (kind_at g n) ≡ false → IsNewsAt g p counted m (n + 1) i
news-derived g p counted m n i at low derived = record {
  within = omega (arith, low);
  number = at.number ∙ sym (number-by g n false low derived);
  few = omega (arith, at.few);
  before = λ x less counter. choose x counter (below-or-not x n) less;
} where
  choose : (x : ℕ) → kind_at g x ≡ Counter → (x < n) ⊎ (n ≤ x) → x < n + 1 → count_at (sent_at m.sources (source_number g x)).counts p ≤ counted x
  choose x counter (inl less) low = at.before x less counter
  choose x counter (inr past) low =
      let same : n ≡ x = omega (arith, past, low) in
      let both : true ≡ false = sym (ap is_source counter) ∙ ap (λ (y : ℕ). is_source (kind_at g y)) (sym same) ∙ derived in
      absurd cc

pub news-ends : (g : List Decl) (p made : ℕ) (counted : ℕ → ℕ) (m : Message) (n i : ℕ) → count_at m.counts p ≤ made → IsNewsAt g p counted m n i → length g ≤ n → IsNews g p made counted m
news-ends g p made counted m n i few at past = record { updates = few; totals = λ x low counter. at.before x (omega (arith, low, past)) counter }

pub ruleset news = (news-begins, news-source, news-derived, news-ends)
