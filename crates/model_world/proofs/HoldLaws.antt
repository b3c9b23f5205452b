-- Messages and declarations leave replicas, messages and marks with what they know.
use Rattle.std.proofs.Common.{◌≡◌, ℕ, ◌+◌, ◌≤◌, ◌<◌, ◌⊎◌, inl, inr, Bool, true, false, if◌then◌else◌, IsTrue, List, [], ◌∷◌, ◌++◌, length, Some, None, refl, sym, ap, subst, ◌∙◌, arith}
use Rattle.model_states.specs.Counts.{larger}
use Rattle.model_states.specs.Content.{Content, least, join_contents}
use Rattle.model_states.proofs.CountLaws.{count_at-larger, length-larger}
use Rattle.model_states.proofs.ContentLaws.{ordered-join, join-nothing}
use Rattle.model_graph.specs.Graph.{Kind, Decl, is_source, no_decl, kind_at}
use Rattle.model_graph.specs.Evaluation.{content_at, least_of}
use Rattle.model_graph.proofs.PlaceLaws.{below-or-not, from-nothing, at-append, at-last, length-push}
use Rattle.model_graph.proofs.LeastLaws.{least_of-ordered}
use Rattle.model_graph.specs.Message.{Message, message_of, source_number, sent_at, brought, gained, with_gain}
use Rattle.model_graph.proofs.MessageLaws.{sent-is, sent-past, sent-length, number-append, number-rises, gained-length, gained-at}
use Rattle.model_world.specs.Delta.{Delta, first_deltas, brought_to, known}
use Rattle.model_world.specs.Holds.{Holds, Carries, Keeps}
use Rattle.model_world.specs.Known.{Each, IsOfSource}
use Rattle.model_world.proofs.MeasureLaws.{same_from_measures, measure-all, total-larger, each-weaker}
use Rattle.model_world.proofs.VariableLaws.{kind-append, known-append, known-derived, known-later, known-ordered}

-- ---- a message

module _ (g : List Decl) (nodes : ℕ) (all : List (List Delta)) where
  -- what a replica sends carries what it knows
  pub sends-known : (ss : List Content) (cs : List ℕ) → Holds g nodes all ss cs → Carries g nodes all (message_of g ss cs)
  sends-known ss cs h = record {
    narrow = omega (arith, h.wide);
    few = omega (arith, sent-length g ss h.long);
    made = h.made;
    knows = λ x low source.
        ap (λ (s : Content). join_contents (least_of nodes (kind_at g x)) s) (sent-is g ss x low h.long source ∙ h.knows x low)
        ∙ same_from_measures (join_contents (least_of nodes (kind_at g x)) (known g nodes all cs x)) (known g nodes all cs x) (ordered-join (least_of nodes (kind_at g x)) (known g nodes all cs x)) (known-ordered g nodes all cs x)
        (λ μ measure. omega (arith, measure (least_of nodes (kind_at g x)) (known g nodes all cs x), measure-all μ measure (least_of nodes (kind_at g x)) (brought_to x (first_deltas all cs))));
  }

  -- who takes it knows what either knew
  pub takes-known : (ss : List Content) (cs : List ℕ) (m : Message) → Each (IsOfSource g) all → Holds g nodes all ss cs → Carries g nodes all m → Holds g nodes all (gained (brought g m) 0 ss) (larger cs m.counts)
  takes-known ss cs m sources h c = record {
    long = gained-length (brought g m) 0 ss ∙ h.long;
    wide = omega (arith, length-larger cs m.counts, h.wide, c.narrow);
    made = λ q. omega (arith, count_at-larger cs m.counts q, h.made q, c.made q);
    knows = λ x low. gained-at (brought g m) 0 ss x (omega (arith, low, h.long)) ∙ gain x low (is_source (kind_at g x)) refl;
  } where
    l : ℕ → Content
    l x = least_of nodes (kind_at g x)

    sent : ℕ → Content
    sent x = sent_at m.sources (source_number g x)

    gain : (x : ℕ) → x < length g → (b : Bool) → is_source (kind_at g x) ≡ b → with_gain (content_at ss x) (brought g m (0 + x)) ≡ known g nodes all (larger cs m.counts) x
    gain x low true e =
        ap (λ (i : ℕ). with_gain (content_at ss x) (brought g m i)) (sym (from-nothing x))
        ∙ ap (λ (b : Bool). with_gain (content_at ss x) (if b then Some (sent x) else None)) e
        ∙ same_from_measures (join_contents (content_at ss x) (sent x)) (known g nodes all (larger cs m.counts) x) (ordered-join (content_at ss x) (sent x)) (known-ordered g nodes all (larger cs m.counts) x)
        (λ μ measure. omega (
          arith,
          measure (content_at ss x) (sent x),
          ap μ (h.knows x low),
          measure-all μ measure (l x) (brought_to x (first_deltas all cs)),
          measure (l x) (sent x),
          ap μ (c.knows x low e),
          measure-all μ measure (l x) (brought_to x (first_deltas all m.counts)),
          total-larger μ measure x all cs m.counts,
          measure-all μ measure (l x) (brought_to x (first_deltas all (larger cs m.counts))),
        ))
    gain x low false e =
        ap (λ (i : ℕ). with_gain (content_at ss x) (brought g m i)) (sym (from-nothing x))
        ∙ ap (λ (b : Bool). with_gain (content_at ss x) (if b then Some (sent x) else None)) e
        ∙ h.knows x low ∙ known-derived g nodes all cs x sources e ∙ sym (known-derived g nodes all (larger cs m.counts) x sources e)

-- ---- a declaration

module _ (g : List Decl) (nodes : ℕ) (all : List (List Delta)) (d : Decl) (sources : Each (IsOfSource g) all) where
  abbrev longer : List Decl
  longer = g ++ d ∷ []

  last-kind : kind_at longer (length g) ≡ d.kind
  last-kind = ap (λ (c : Decl). c.kind) (at-last g d no_decl)

  -- a variable of the longer graph is an earlier one or the new one
  pub each-var : (P : ℕ → Type 0) → ((x : ℕ) → x < length g → P x) → P (length g) → (x : ℕ) → x < length longer → P x
  each-var P earlier new x low = choose (below-or-not x (length g)) where
    choose : (x < length g) ⊎ (length g ≤ x) → P x
    choose (inl h) = earlier x h
    choose (inr h) = subst P (let here : length g ≡ x = omega (arith, h, low, length-push g d) in here) new

  pub sources-longer : Each (IsOfSource longer) all
  sources-longer = each-weaker (IsOfSource g) (IsOfSource longer) (λ c h. (omega (arith, h.0, length-push g d), subst (λ (k : Kind). IsTrue (is_source k)) (sym (kind-append g (d ∷ []) c.var h.0)) h.1)) all sources

  pub extends-known : (ss : List Content) (cs : List ℕ) → Holds g nodes all ss cs → Holds longer nodes all (ss ++ least_of nodes d.kind ∷ []) cs
  extends-known ss cs h = record {
    long = omega (arith, h.long, length-push ss (least_of nodes d.kind), length-push g d);
    wide = h.wide;
    made = h.made;
    knows = each-var (λ x. content_at (ss ++ least_of nodes d.kind ∷ []) x ≡ known longer nodes all cs x)
        (λ x low. at-append ss (least_of nodes d.kind ∷ []) x least (omega (arith, low, h.long)) ∙ h.knows x low ∙ sym (known-append g d nodes all cs x low))
        (ap (λ (i : ℕ). content_at (ss ++ least_of nodes d.kind ∷ []) i) (sym h.long) ∙ at-last ss (least_of nodes d.kind) least ∙ ap (least_of nodes) (sym last-kind) ∙ sym (known-later g d nodes all cs sources));
  }

  pub carries-longer : (m : Message) → Carries g nodes all m → Carries longer nodes all m
  carries-longer m c = record {
    narrow = c.narrow;
    few = omega (arith, c.few, number-append g (d ∷ []) (length g) (omega arith), number-rises longer (length g) (length longer) (omega (arith, length-push g d)));
    made = c.made;
    knows = each-var (λ x. IsTrue (is_source (kind_at longer x)) → join_contents (least_of nodes (kind_at longer x)) (sent_at m.sources (source_number longer x)) ≡ known longer nodes all m.counts x) earlier new;
  } where
    earlier : (x : ℕ) → x < length g → IsTrue (is_source (kind_at longer x)) → join_contents (least_of nodes (kind_at longer x)) (sent_at m.sources (source_number longer x)) ≡ known longer nodes all m.counts x
    earlier x low source =
        (λ i. join_contents (least_of nodes (kind-append g (d ∷ []) x low i)) (sent_at m.sources (number-append g (d ∷ []) x (let under : x ≤ length g = omega (arith, low) in under) i)))
        ∙ c.knows x low (subst (λ (k : Kind). IsTrue (is_source k)) (kind-append g (d ∷ []) x low) source)
        ∙ sym (known-append g d nodes all m.counts x low)

    new : IsTrue (is_source (kind_at longer (length g))) → join_contents (least_of nodes (kind_at longer (length g))) (sent_at m.sources (source_number longer (length g))) ≡ known longer nodes all m.counts (length g)
    new source =
        ap (λ (s : Content). join_contents (least_of nodes (kind_at longer (length g))) s) (sent-past m.sources (source_number longer (length g)) (omega (arith, c.few, number-append g (d ∷ []) (length g) (omega arith))))
        ∙ join-nothing (least_of nodes (kind_at longer (length g))) (least_of-ordered nodes (kind_at longer (length g)))
        ∙ sym (known-later g d nodes all m.counts sources)

  pub keeps-longer : (x : ℕ) (s : Content) → Keeps g nodes all x s → Keeps longer nodes all x s
  keeps-longer x s h = record {
    declared = omega (arith, h.declared, length-push g d);
    counts = h.counts;
    made = h.made;
    knows = h.knows ∙ sym (known-append g d nodes all h.counts x h.declared);
  }
