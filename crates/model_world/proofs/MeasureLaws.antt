-- Contents by their measures: numbers that a join sends to the maximum. Each key's number is one, and how many counts there are is one; ordered contents that agree in every measure are the same.
use Rattle.std.proofs.Common.{◌≡◌, ℕ, zero, suc, ◌+◌, ◌≤◌, ◌<◌, max, ◌⊎◌, inl, inr, Bool, true, false, cond, if◌then◌else◌, ◌==◌, List, [], ◌∷◌, ◌++◌, length, map, filter, take, slice_index_or, slice_set, refl, ap, ◌∙◌, arith}
use Rattle.std.proofs.lemmas.List.{take-append-le}
use Rattle.std.proofs.Math.Seq.{take-length, take-append-add}
use Rattle.model_states.specs.Counts.{count_at, larger}
use Rattle.model_states.specs.Content.{Content, join_contents, content_mark, IsOrdered}
use Rattle.model_states.proofs.ContentLaws.{content_mark-join, same_from_content_mark, counts-join, ordered-join}
use Rattle.model_graph.proofs.PlaceLaws.{below-or-not}
use Rattle.model_world.specs.Owner.{no_delta, delta_at}
use Rattle.model_world.specs.Delta.{Delta, deltas_at, first_deltas, brought_to, join_all}
use Rattle.model_world.specs.Known.{EachOf, Each}

-- a number that a join sends to the maximum
abbrev pub IsMeasure : (Content → ℕ) → Type 0
IsMeasure μ = (s t : Content) → μ (join_contents s t) ≡ max (μ s) (μ t)

pub same_from_measures : (s t : Content) → IsOrdered s → IsOrdered t → ((μ : Content → ℕ) → IsMeasure μ → μ s ≡ μ t) → s ≡ t
same_from_measures s t up_s up_t same =
    same_from_content_mark s t up_s up_t (same (λ (c : Content). length c.counts) counts-join) (λ k. same (λ (c : Content). content_mark c k) (λ a b. content_mark-join a b k))

pub ordered-all : (s : Content) (contents : List Content) → IsOrdered s → IsOrdered (join_all s contents)
ordered-all s [] up = up
ordered-all s (t ∷ contents) up = ordered-join t (join_all s contents)

module _ (μ : Content → ℕ) (measure : IsMeasure μ) where
  -- the greatest of contents
  abbrev pub greatest : List Content → ℕ
  greatest [] = 0
  greatest (t ∷ contents) = max (μ t) (greatest contents)

  pub measure-all : (s : Content) (contents : List Content) → μ (join_all s contents) ≡ max (μ s) (greatest contents)
  measure-all s [] = omega arith
  measure-all s (t ∷ contents) = omega (arith, measure t (join_all s contents), measure-all s contents)

  -- the greatest that deltas brought to a variable
  abbrev pub total : ℕ → List Delta → ℕ
  total x deltas = greatest (brought_to x deltas)

  -- what one delta brought to it
  abbrev pub one : ℕ → Delta → ℕ
  one x d = if d.var == x then μ d.content else 0

  pub total-more : (x : ℕ) (d : Delta) (deltas : List Delta) → total x (d ∷ deltas) ≡ max (one x d) (total x deltas)
  total-more x d deltas =
      elim (d.var == x) as (λ b. greatest (map (λ d. d.content) (cond b (d ∷ filter (λ d. d.var == x) deltas) (filter (λ d. d.var == x) deltas))) ≡ max (if b then μ d.content else 0) (total x deltas)) [
        | true ↦ refl
        | false ↦ omega arith
      ]

  pub total-append : (x : ℕ) (ds es : List Delta) → total x (ds ++ es) ≡ max (total x ds) (total x es)
  total-append x [] es = omega arith
  total-append x (d ∷ ds) es = omega (arith, total-more x d (ds ++ es), total-append x ds es, total-more x d ds)

  total-take : (x m n : ℕ) (ds : List Delta) → m ≤ n → total x (take m ds) ≤ total x (take n ds)
  total-take x zero n ds h = omega arith
  total-take x (suc m) zero ds h = absurd (omega (arith, h))
  total-take x (suc m) (suc n) [] h = omega arith
  total-take x (suc m) (suc n) (d ∷ ds) h = omega (arith, total-more x d (take m ds), total-more x d (take n ds), total-take x m n ds (omega (arith, h)))

  total-take_max : (x m n : ℕ) (ds : List Delta) → total x (take (max m n) ds) ≡ max (total x (take m ds)) (total x (take n ds))
  total-take_max x m n ds = choose (below-or-not m n) where
    choose : (m < n) ⊎ (n ≤ m) → total x (take (max m n) ds) ≡ max (total x (take m ds)) (total x (take n ds))
    choose (inl h) = omega (arith, total-take x m n ds (omega (arith, h)), ap (λ (i : ℕ). total x (take i ds)) (let top : max m n ≡ n = omega (arith, h) in top))
    choose (inr h) = omega (arith, total-take x n m ds h, ap (λ (i : ℕ). total x (take i ds)) (let top : max m n ≡ m = omega (arith, h) in top))

  -- a replica that takes the larger counts knows what either knew
  pub total-larger : (x : ℕ) (all : List (List Delta)) (cs ds : List ℕ) → total x (first_deltas all (larger cs ds)) ≡ max (total x (first_deltas all cs)) (total x (first_deltas all ds))
  total-larger x [] cs ds = omega arith
  total-larger x (deltas ∷ all) [] ds = omega arith
  total-larger x (deltas ∷ all) (c ∷ cs) [] = omega arith
  total-larger x (deltas ∷ all) (c ∷ cs) (d ∷ ds) =
      omega (
        arith,
        total-append x (take (max c d) deltas) (first_deltas all (larger cs ds)),
        total-take_max x c d deltas,
        total-larger x all cs ds,
        total-append x (take c deltas) (first_deltas all cs),
        total-append x (take d deltas) (first_deltas all ds),
      )

  -- and after an update of its own, what that brought besides
  pub total-own : (x p : ℕ) (all : List (List Delta)) (cs : List ℕ) (d : Delta) → p < length all → p < length cs → count_at cs p ≡ length (deltas_at all p)
      → total x (first_deltas (slice_set all p (deltas_at all p ++ d ∷ [])) (slice_set cs p (count_at cs p + 1))) ≡ max (one x d) (total x (first_deltas all cs))
  total-own x p [] cs d h g e = absurd (omega (arith, h))
  total-own x p (deltas ∷ all) [] d h g e = absurd (omega (arith, g))
  total-own x zero (deltas ∷ all) (c ∷ cs) d h g e =
      let whole : take (c + 1) (deltas ++ d ∷ []) ≡ deltas ++ d ∷ [] = ap (λ (n : ℕ). take (n + 1) (deltas ++ d ∷ [])) e ∙ take-append-add deltas (d ∷ []) 1 in
      let before : take c deltas ≡ deltas = ap (λ (n : ℕ). take n deltas) e ∙ take-length deltas in
      omega (
        arith,
        ap (λ (ds : List Delta). total x (ds ++ first_deltas all cs)) whole,
        ap (λ (ds : List Delta). total x (ds ++ first_deltas all cs)) before,
        total-append x (deltas ++ d ∷ []) (first_deltas all cs),
        total-append x deltas (d ∷ []),
        total-more x d [],
        total-append x deltas (first_deltas all cs),
      )
  total-own x (suc p) (deltas ∷ all) (c ∷ cs) d h g e =
      omega (
        arith,
        total-own x p all cs d (omega (arith, h)) (omega (arith, g)) e,
        total-append x (take c deltas) (first_deltas all cs),
        total-append x (take c deltas) (first_deltas (slice_set all p (deltas_at all p ++ d ∷ [])) (slice_set cs p (count_at cs p + 1))),
      )

-- who counts no more than there was knows what it knew
pub first-kept : (p : ℕ) (all : List (List Delta)) (cs : List ℕ) (d : Delta) → count_at cs p ≤ length (deltas_at all p) → first_deltas (slice_set all p (deltas_at all p ++ d ∷ [])) cs ≡ first_deltas all cs
first-kept p [] cs d h = refl
first-kept zero (deltas ∷ all) [] d h = refl
first-kept zero (deltas ∷ all) (c ∷ cs) d h = ap (λ (ds : List Delta). ds ++ first_deltas all cs) (take-append-le c deltas (d ∷ []) h)
first-kept (suc p) (deltas ∷ all) [] d h = refl
first-kept (suc p) (deltas ∷ all) (c ∷ cs) d h = ap (λ (ds : List Delta). take c deltas ++ ds) (first-kept p all cs d h)

-- ---- what holds of every delta

pub each-append : (P : Delta → Type 0) (ds es : List Delta) → EachOf P ds → EachOf P es → EachOf P (ds ++ es)
each-append P [] es h g = g
each-append P (d ∷ ds) es h g = (h.0, each-append P ds es h.1 g)

each-take : (P : Delta → Type 0) (n : ℕ) (ds : List Delta) → EachOf P ds → EachOf P (take n ds)
each-take P zero ds h = tt
each-take P (suc n) [] h = tt
each-take P (suc n) (d ∷ ds) h = (h.0, each-take P n ds h.1)

pub each-first : (P : Delta → Type 0) (all : List (List Delta)) (cs : List ℕ) → Each P all → EachOf P (first_deltas all cs)
each-first P [] cs h = tt
each-first P (deltas ∷ all) [] h = tt
each-first P (deltas ∷ all) (c ∷ cs) h = each-append P (take c deltas) (first_deltas all cs) (each-take P c deltas h.0) (each-first P all cs h.1)

pub each-push : (P : Delta → Type 0) (p : ℕ) (all : List (List Delta)) (d : Delta) → Each P all → P d → Each P (slice_set all p (deltas_at all p ++ d ∷ []))
each-push P p [] d h g = tt
each-push P zero (deltas ∷ all) d h g = (each-append P deltas (d ∷ []) h.0 (g, tt), h.1)
each-push P (suc p) (deltas ∷ all) d h g = (h.0, each-push P p all d h.1 g)

pub each-weaker : (P Q : Delta → Type 0) → ((d : Delta) → P d → Q d) → (all : List (List Delta)) → Each P all → Each Q all
each-weaker P Q f [] h = tt
each-weaker P Q f (deltas ∷ all) h = (within deltas h.0, each-weaker P Q f all h.1) where
  within : (ds : List Delta) → EachOf P ds → EachOf Q ds
  within [] h = tt
  within (d ∷ ds) h = (f d h.0, within ds h.1)

-- deltas of other variables brought nothing
pub nothing-brought : (x : ℕ) (ds : List Delta) → EachOf (λ d. (d.var == x) ≡ false) ds → brought_to x ds ≡ []
nothing-brought x [] h = refl
nothing-brought x (d ∷ ds) h = ap (λ (b : Bool). map (λ d. d.content) (cond b (d ∷ filter (λ d. d.var == x) ds) (filter (λ d. d.var == x) ds))) h.0 ∙ nothing-brought x ds h.1

-- ---- the first deltas one by one

module _ (μ : Content → ℕ) (measure : IsMeasure μ) where
  take-has : (x c j : ℕ) (ds : List Delta) → j < c → j < length ds → one μ measure x (slice_index_or ds j no_delta) ≤ total μ measure x (take c ds)
  take-has x zero j ds h g = absurd (omega (arith, h))
  take-has x (suc c) j [] h g = absurd (omega (arith, g))
  take-has x (suc c) zero (d ∷ ds) h g = omega (arith, total-more μ measure x d (take c ds))
  take-has x (suc c) (suc j) (d ∷ ds) h g = omega (arith, total-more μ measure x d (take c ds), take-has x c j ds (omega (arith, h)) (omega (arith, g)))

  -- each of the first deltas is in the total
  pub first-has : (x q j : ℕ) (all : List (List Delta)) (cs : List ℕ) → j < count_at cs q → j < length (deltas_at all q) → one μ measure x (delta_at all q j) ≤ total μ measure x (first_deltas all cs)
  first-has x q j [] cs h g = absurd (omega (arith, g))
  first-has x q j (deltas ∷ all) [] h g = absurd (omega (arith, h))
  first-has x zero j (deltas ∷ all) (c ∷ cs) h g = omega (arith, total-append μ measure x (take c deltas) (first_deltas all cs), take-has x c j deltas h g)
  first-has x (suc q) j (deltas ∷ all) (c ∷ cs) h g = omega (arith, total-append μ measure x (take c deltas) (first_deltas all cs), first-has x q j all cs h g)

  take-low : (x c n : ℕ) (ds : List Delta) → ((j : ℕ) → j < c → j < length ds → one μ measure x (slice_index_or ds j no_delta) ≤ n) → total μ measure x (take c ds) ≤ n
  take-low x zero n ds h = omega arith
  take-low x (suc c) n [] h = omega arith
  take-low x (suc c) n (d ∷ ds) h =
      omega (arith, total-more μ measure x d (take c ds), h 0 (omega arith) (omega arith), take-low x c n ds (λ j a b. h (suc j) (omega (arith, a)) (omega (arith, b))))

  -- and the total is no more than they are
  pub first-low : (x n : ℕ) (all : List (List Delta)) (cs : List ℕ) → ((q j : ℕ) → j < count_at cs q → j < length (deltas_at all q) → one μ measure x (delta_at all q j) ≤ n) → total μ measure x (first_deltas all cs) ≤ n
  first-low x n [] cs h = omega arith
  first-low x n (deltas ∷ all) [] h = omega arith
  first-low x n (deltas ∷ all) (c ∷ cs) h =
      omega (arith, total-append μ measure x (take c deltas) (first_deltas all cs), take-low x c n deltas (h 0), first-low x n all cs (λ q j a b. h (suc q) j a b))
