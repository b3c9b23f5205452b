-- What loops over counts and sources make of two messages.
use Rattle.std.proofs.Common.{◌≡◌, ℕ, zero, suc, ◌+◌, ◌≤◌, ◌<◌, ◌⊎◌, inl, inr, max, Bool, true, false, if◌then◌else◌, nat_lt, List, [], ◌∷◌, length, map, drop, Option, Some, Ok, Err, sym, ap, subst, ◌∙◌, arith}
use Rattle.std.specs.Prelude.{slice_get}
use Rattle.std.specs.List.{AllByRecursion}
use Rattle.std.proofs.lemmas.Bool.Decides.{nat_tests}
use Rattle.std.proofs.lemmas.List.{drop_all}
use Rattle.model_values.proofs.ListLaws.{drop-at, each-at}
use Rattle.model_states.specs.Counts.{count_at, larger}
use Rattle.model_states.specs.Content.{Content, least, join_contents, size_of, row_limit, IsOrdered}
use Rattle.model_states.proofs.CountLaws.{count_at-larger, length-larger, same_from_counts}
use Rattle.model_states.proofs.ContentLaws.{at_most-least, at_most-itself}
use Rattle.model_graph.specs.Graph.{Decl}
use Rattle.model_graph.specs.Evaluation.{first_large}
use Rattle.model_graph.proofs.PlaceLaws.{below-or-not, at-past}
use Rattle.model_graph.specs.Message.{Sent, Message, sent_at}
use Rattle.model_graph.proofs.MessageLaws.{sent-past, sent_at-found}
use Rattle.model_wire.specs.Lawful.{IsNodes, IsSource, IsSent, IsMessage}
use Rattle.model_runs.proofs.EachLaws.{each-larger}
use Rattle.model_runs.proofs.SourceLaws.{source-join}
use Rattle.model_deltas.specs.Delta.{changed_content, changed_source, changed_sources}
use Rattle.model_deltas.specs.Applied.{Gap, TooManyRows, first_gap, joined_source, joined_sources, small_or, limited}
use Rattle.model_deltas.specs.Before.{AreSourcesAlike}
use Rattle.model_deltas.proofs.ChangeLaws.{changed-from_nothing}
use Rattle.lasp_state.specs.declared.state.State.{State}
use Rattle.lasp_state.specs.State.{content_of, shape_of}
use Rattle.lasp_wire.specs.Sent.{message, sent}
use Rattle.lasp_delta.proofs.PlaceLaws.{count-is, changed-at, joined-both}
use Rattle.lasp_delta.proofs.KindLaws.{same-kind}

-- ---- gaps

gap-step : (counts from : List ℕ) (i have need : ℕ) → slice_get counts i ≡ Some have → slice_get from i ≡ Some need
    → first_gap i counts (drop i from) ≡ (if nat_lt have need then Some (Gap i have need) else first_gap (i + 1) counts (drop (i + 1) from))
gap-step counts from i have need e f =
    ap (first_gap i counts) (drop-at from i need f)
    ∙ ap (λ (n : ℕ). if nat_lt n need then Some (Gap i n need) else first_gap (i + 1) counts (drop (i + 1) from)) (count-is counts i have e)

pub gap-here : (counts from : List ℕ) (i have need : ℕ) → slice_get counts i ≡ Some have → slice_get from i ≡ Some need → have < need → first_gap i counts (drop i from) ≡ Some (Gap i have need)
gap-here counts from i have need e f short =
    let test : nat_lt have need ≡ true = grind (arith, nat_tests, short) in
    gap-step counts from i have need e f ∙ ap (λ (b : Bool). if b then Some (Gap i have need) else first_gap (i + 1) counts (drop (i + 1) from)) test

pub gap-next : (counts from : List ℕ) (i have need : ℕ) → slice_get counts i ≡ Some have → slice_get from i ≡ Some need → need ≤ have → first_gap (i + 1) counts (drop (i + 1) from) ≡ first_gap i counts (drop i from)
gap-next counts from i have need e f enough =
    let test : nat_lt have need ≡ false = grind (arith, nat_tests, enough) in
    sym (gap-step counts from i have need e f ∙ ap (λ (b : Bool). if b then Some (Gap i have need) else first_gap (i + 1) counts (drop (i + 1) from)) test)

-- ---- larger counts

-- the counts are the larger ones up to a node, and from there on the first ones
pub record AreLargerTo (s t : List ℕ) (node : ℕ) (counts : List ℕ) : Type 0 where
  pub long : length counts ≡ length s
  pub done : (j : ℕ) → j < node → count_at counts j ≡ max (count_at s j) (count_at t j)
  pub left : (j : ℕ) → node ≤ j → count_at counts j ≡ count_at s j

pub larger-end : (s t counts : List ℕ) (node : ℕ) → length s ≡ length t → length t ≤ node → AreLargerTo s t node counts → counts ≡ larger s t
larger-end s t counts node e past h = same_from_counts counts (larger s t) (omega (arith, h.long, e, length-larger s t)) (λ j. choose j (below-or-not j node)) where
  choose : (j : ℕ) → (j < node) ⊎ (node ≤ j) → count_at counts j ≡ count_at (larger s t) j
  choose j (inl low) = h.done j low ∙ sym (count_at-larger s t j)
  choose j (inr high) =
      let none : count_at t j ≡ 0 = at-past t j 0 (omega (arith, past, high)) in
      omega (arith, h.left j high, count_at-larger s t j, none)

-- the larger counts of two messages are those of one
pub larger-message : (m n : Message) → IsMessage m → IsMessage n → length m.counts ≡ length n.counts → IsMessage (message (larger m.counts n.counts) [])
larger-message m n h g e =
    let long : length (larger m.counts n.counts) ≡ length m.counts = omega (arith, length-larger m.counts n.counts, e) in
    record { nodes = subst IsNodes (sym long) h.nodes; counts = each-larger (λ c. c ≤ 100000) (λ c d low high. omega (arith, low, high)) m.counts n.counts h.counts g.counts; few = omega arith; sources = tt }

-- ---- the first source that is too large

abbrev pub large_from : List Sent → ℕ → Option ℕ
large_from all i = first_large i (map (λ s. s.content) (drop i all))

large-step : (all : List Sent) (i : ℕ) (s : Sent) → slice_get all i ≡ Some s → large_from all i ≡ (if nat_lt row_limit (size_of s.content) then Some i else large_from all (i + 1))
large-step all i s e = ap (λ (l : List Sent). first_large i (map (λ s. s.content) l)) (drop-at all i s e)

pub large-here : (m : Message) (i : ℕ) (s : Sent) → slice_get m.sources i ≡ Some s → row_limit < size_of s.content → large_from m.sources i ≡ large_from m.sources 0 → limited m ≡ Err (TooManyRows i)
large-here m i s e large so_far =
    let test : nat_lt row_limit (size_of s.content) ≡ true = grind (arith, nat_tests, large) in
    ap (small_or m) (sym so_far ∙ large-step m.sources i s e ∙ ap (λ (b : Bool). if b then Some i else large_from m.sources (i + 1)) test)

pub large-next : (all : List Sent) (i : ℕ) (s : Sent) → slice_get all i ≡ Some s → size_of s.content ≤ row_limit → large_from all (i + 1) ≡ large_from all i
large-next all i s e small =
    let test : nat_lt row_limit (size_of s.content) ≡ false = grind (arith, nat_tests, small) in
    sym (large-step all i s e ∙ ap (λ (b : Bool). if b then Some i else large_from all (i + 1)) test)

pub large-end : (m : Message) (i : ℕ) → length m.sources ≤ i → large_from m.sources i ≡ large_from m.sources 0 → limited m ≡ Ok m
large-end m i past so_far = ap (small_or m) (sym so_far ∙ ap (λ (l : List Sent). first_large i (map (λ s. s.content) l)) (drop_all i m.sources past))

-- ---- sources that two messages have together

pub joined-sent : (nodes : ℕ) (ss ts : List Sent) (i : ℕ) (x : Sent) → AllByRecursion (IsSent nodes) ss → AllByRecursion (IsSent nodes) ts → AreSourcesAlike ss ts → slice_get (joined_sources ss ts) i ≡ Some x
    → size_of x.content ≤ row_limit → IsSent nodes x
joined-sent nodes [] ts i x h g alike e small = each-at (IsSent nodes) ts i x g e
joined-sent nodes (s ∷ ss) [] i x h g alike e small = each-at (IsSent nodes) (s ∷ ss) i x h e
joined-sent nodes (s ∷ ss) (t ∷ ts) zero x h g alike e small =
    let same : joined_source s t ≡ x = cc in
    subst (IsSent nodes) same
    (h.0.0, source-join nodes s.decl.kind s.content t.content h.0.1 (subst (λ (d : Decl). IsSource nodes d.kind t.content) (sym alike.0) g.0.1) (subst (λ (y : Sent). size_of y.content ≤ row_limit) (sym same) small))
joined-sent nodes (s ∷ ss) (t ∷ ts) (suc i) x h g alike e small = joined-sent nodes ss ts i x h.1 g.1 alike.1 e small

pub joined-is : (ss ts : List Sent) (i : ℕ) (name other : List ℕ) (s t all : State) → slice_get ss i ≡ Some (sent name s) → slice_get ts i ≡ Some (sent other t) → shape_of all ≡ shape_of s
    → content_of all ≡ join_contents (content_of s) (content_of t) → slice_get (joined_sources ss ts) i ≡ Some (sent name all)
joined-is ss ts i name other s t all e f shape content =
    joined-both ss ts i (sent name s) (sent other t) e f ∙ (λ k. Some (record { decl = record { name = name; kind = sym (same-kind all s shape) k }; content = sym content k }))

-- ---- sources with what changed

pub changed-is : (before after : List Sent) (i : ℕ) (name other : List ℕ) (old state new : State) → slice_get after i ≡ Some (sent name state) → slice_get before i ≡ Some (sent other old) → shape_of new ≡ shape_of state
    → content_of new ≡ changed_content (content_of old) (content_of state) → slice_get (changed_sources before 0 after) i ≡ Some (sent name new)
changed-is before after i name other old state new e f shape content =
    let was : sent_at before (0 + i) ≡ content_of old =
    (let start : 0 + i ≡ i = omega arith in ap (sent_at before) start) ∙ sent_at-found before i (sent other old) f in
    changed-at before 0 after i (sent name state) e ∙ ap (λ (c : Content). Some (changed_source c (sent name state))) was
    ∙ (λ k. Some (record { decl = record { name = name; kind = sym (same-kind new state shape) k }; content = sym content k }))

pub changed-all : (before after : List Sent) (i : ℕ) (name : List ℕ) (state : State) → slice_get after i ≡ Some (sent name state) → length before ≤ i → IsOrdered (content_of state)
    → slice_get (changed_sources before 0 after) i ≡ Some (sent name state)
changed-all before after i name state e past up =
    let was : sent_at before (0 + i) ≡ least = sent-past before (0 + i) (omega (arith, past)) in
    let all : changed_content least (content_of state) ≡ content_of state = changed-from_nothing least (content_of state) up (at_most-least (content_of state)) (at_most-itself least) in
    changed-at before 0 after i (sent name state) e ∙ ap (λ (c : Content). Some (changed_source c (sent name state))) was ∙ ap (λ (c : Content). Some (record { decl = (sent name state).decl; content = c })) all
