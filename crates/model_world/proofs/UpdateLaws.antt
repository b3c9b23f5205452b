-- An update of one replica: what the others know stays known, and the replica itself knows what its update brought.
use Rattle.std.proofs.Common.{◌≡◌, ℕ, ◌+◌, ◌≤◌, ◌<◌, max, ◌⊎◌, inl, inr, Bool, true, if◌then◌else◌, ◌==◌, List, [], ◌∷◌, ◌++◌, length, slice_set, refl, sym, ap, subst, ◌∙◌, arith}
use Rattle.std.proofs.lemmas.Bool.Decides.{nat_tests}
use Rattle.model_states.specs.Counts.{count_at}
use Rattle.model_states.specs.Content.{Content, least, join_contents, IsOrdered}
use Rattle.model_states.proofs.ContentLaws.{ordered-join}
use Rattle.model_graph.specs.Graph.{Decl, kind_at}
use Rattle.model_graph.specs.Evaluation.{content_at, least_of}
use Rattle.model_graph.proofs.PlaceLaws.{below-or-not, at-past, at-set, set-length, length-push}
use Rattle.model_graph.specs.Message.{Message}
use Rattle.model_world.specs.Delta.{Delta, deltas_at, first_deltas, brought_to, join_all, known}
use Rattle.model_world.specs.Holds.{AreMade, Holds, Carries, Keeps}
use Rattle.model_world.proofs.MeasureLaws.{IsMeasure, same_from_measures, measure-all, one, total-own, first-kept}
use Rattle.model_world.proofs.VariableLaws.{known-ordered, other}

module _ (g : List Decl) (nodes : ℕ) (all : List (List Delta)) (p : ℕ) (d : Delta) where
  abbrev more : List (List Delta)
  more = slice_set all p (deltas_at all p ++ d ∷ [])

  -- replica p has one more delta, the others as many
  pub made-more : (q n : ℕ) → n ≤ length (deltas_at all q) → n ≤ length (deltas_at more q)
  made-more q n h = choose (below-or-not q (length all)) where
    choose : (q < length all) ⊎ (length all ≤ q) → n ≤ length (deltas_at more q)
    choose (inl low) = at-set (λ (ds : List Delta). n ≤ length ds) all p (deltas_at all p ++ d ∷ []) [] q low
        (λ e. omega (arith, h, ap (λ (i : ℕ). length (deltas_at all i)) e, length-push (deltas_at all p) d)) (λ _. h)
    choose (inr high) = omega (arith, h, ap (λ (ds : List Delta). length ds) (at-past all q [] high))

  pub known-kept : (cs : List ℕ) → AreMade all cs → (x : ℕ) → known g nodes more cs x ≡ known g nodes all cs x
  known-kept cs made x = ap (λ (ds : List Delta). join_all (least_of nodes (kind_at g x)) (brought_to x ds)) (first-kept p all cs d (made p))

  pub holds-kept : (ss : List Content) (cs : List ℕ) → Holds g nodes all ss cs → Holds g nodes more ss cs
  holds-kept ss cs h = record {
    long = h.long;
    wide = h.wide;
    made = λ q. made-more q (count_at cs q) (h.made q);
    knows = λ x low. h.knows x low ∙ sym (known-kept cs h.made x);
  }

  pub carries-kept : (m : Message) → Carries g nodes all m → Carries g nodes more m
  carries-kept m h = record {
    narrow = h.narrow;
    few = h.few;
    made = λ q. made-more q (count_at m.counts q) (h.made q);
    knows = λ x low source. h.knows x low source ∙ sym (known-kept m.counts h.made x);
  }

  pub keeps-kept : (x : ℕ) (s : Content) → Keeps g nodes all x s → Keeps g nodes more x s
  keeps-kept x s h = record {
    declared = h.declared;
    counts = h.counts;
    made = λ q. made-more q (count_at h.counts q) (h.made q);
    knows = h.knows ∙ sym (known-kept h.counts h.made x);
  }

  -- the replica itself, which counted all of its own updates
  module _ (ss : List Content) (cs : List ℕ) (h : Holds g nodes all ss cs) (few : p < length all) (member : p < nodes) (own : count_at cs p ≡ length (deltas_at all p)) where
    abbrev after : List Content
    after = slice_set ss d.var (join_contents (content_at ss d.var) d.content)

    abbrev counted : List ℕ
    counted = slice_set cs p (count_at cs p + 1)

    own-measure : (μ : Content → ℕ) (measure : IsMeasure μ) (x : ℕ) → x < length g → μ (known g nodes more counted x) ≡ max (one μ measure x d) (μ (content_at ss x))
    own-measure μ measure x low =
        omega (
          arith,
          measure-all μ measure (least_of nodes (kind_at g x)) (brought_to x (first_deltas more counted)),
          total-own μ measure x p all cs d few (omega (arith, h.wide, member)) own,
          measure-all μ measure (least_of nodes (kind_at g x)) (brought_to x (first_deltas all cs)),
          ap μ (h.knows x low),
        )

    own-knows : (x : ℕ) → x < length g → content_at after x ≡ known g nodes more counted x
    own-knows x low =
        at-set (λ (s : Content). s ≡ known g nodes more counted x) ss d.var (join_contents (content_at ss d.var) d.content) least x (omega (arith, low, h.long)) here there where
          here : x ≡ d.var → join_contents (content_at ss d.var) d.content ≡ known g nodes more counted x
          here e = same_from_measures (join_contents (content_at ss d.var) d.content) (known g nodes more counted x) (ordered-join (content_at ss d.var) d.content) (known-ordered g nodes more counted x)
              (λ μ measure.
              let is : one μ measure x d ≡ μ d.content = ap (λ (b : Bool). if b then μ d.content else 0) (let same : (d.var == x) ≡ true = grind (arith, nat_tests, e) in same) in
              omega (arith, measure (content_at ss d.var) d.content, own-measure μ measure x low, is, ap (λ (y : ℕ). μ (content_at ss y)) e))

          there : (x ≡ d.var → ⊥) → content_at ss x ≡ known g nodes more counted x
          there n = same_from_measures (content_at ss x) (known g nodes more counted x) (subst IsOrdered (sym (h.knows x low)) (known-ordered g nodes all cs x)) (known-ordered g nodes more counted x)
              (λ μ measure.
              let is : one μ measure x d ≡ 0 = ap (λ (b : Bool). if b then μ d.content else 0) (other d.var x (λ e. n (sym e))) in
              omega (arith, own-measure μ measure x low, is))

    own-count : count_at counted p ≡ count_at cs p + 1
    own-count = at-set (λ (n : ℕ). n ≡ count_at cs p + 1) cs p (count_at cs p + 1) 0 p (omega (arith, h.wide, member)) (λ _. refl) (λ n. absurd (n refl))

    own-log : length (deltas_at more p) ≡ length (deltas_at all p) + 1
    own-log = at-set (λ (ds : List Delta). length ds ≡ length (deltas_at all p) + 1) all p (deltas_at all p ++ d ∷ []) [] p few (λ _. length-push (deltas_at all p) d) (λ n. absurd (n refl))

    pub own-all : count_at counted p ≡ length (deltas_at more p)
    own-all = omega (arith, own-count, own-log, own)

    pub own-holds : Holds g nodes more after counted
    own-holds = record {
      long = set-length ss d.var (join_contents (content_at ss d.var) d.content) ∙ h.long;
      wide = set-length cs p (count_at cs p + 1) ∙ h.wide;
      made = λ q. choose q (below-or-not q (length cs));
      knows = own-knows;
    } where
      choose : (q : ℕ) → (q < length cs) ⊎ (length cs ≤ q) → count_at counted q ≤ length (deltas_at more q)
      choose q (inl low) = at-set (λ (n : ℕ). n ≤ length (deltas_at more q)) cs p (count_at cs p + 1) 0 q low
          (λ e. omega (arith, own-log, own, ap (λ (i : ℕ). length (deltas_at more i)) e)) (λ _. made-more q (count_at cs q) (h.made q))
      choose q (inr high) = omega (arith, at-past counted q 0 (omega (arith, high, set-length cs p (count_at cs p + 1))))
