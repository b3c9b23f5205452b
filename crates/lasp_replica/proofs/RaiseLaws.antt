-- Counts that are raised one after the other.
use Rattle.std.proofs.Common.{◌≡◌, ℕ, zero, suc, ◌+◌, ◌<◌, max, List, [], ◌∷◌, length, slice_set, Some, refl, ap, ◌∙◌, arith}
use Rattle.std.specs.Prelude.{slice_get, slice_index_or}
use Rattle.std.proofs.lemmas.Option.{get_or_from_slice_get}
use Rattle.model_states.specs.Counts.{larger}

-- the first so many counts are raised, the others as they were
abbrev pub raised : ℕ → List ℕ → List ℕ → List ℕ
raised zero cs ds = cs
raised (suc i) [] ds = []
raised (suc i) (c ∷ cs) [] = c ∷ cs
raised (suc i) (c ∷ cs) (d ∷ ds) = max c d ∷ raised i cs ds

pub length-raised : (i : ℕ) (cs ds : List ℕ) → length (raised i cs ds) ≡ length cs
length-raised zero cs ds = refl
length-raised (suc i) [] ds = refl
length-raised (suc i) (c ∷ cs) [] = refl
length-raised (suc i) (c ∷ cs) (d ∷ ds) = ap suc (length-raised i cs ds)

-- one more count is raised
raised-more : (i : ℕ) (cs ds : List ℕ) (d : ℕ) → i < length cs → slice_get ds i ≡ Some d → slice_set (raised i cs ds) i (max (slice_index_or (raised i cs ds) i 0) d) ≡ raised (suc i) cs ds
raised-more i [] ds d h e = absurd (omega (arith, h))
raised-more zero (c ∷ cs) [] d h e = absurd cc
raised-more (suc i) (c ∷ cs) [] d h e = absurd cc
raised-more zero (c ∷ cs) (b ∷ ds) d h e = ap (λ (n : ℕ). max c n ∷ cs) (let same : d ≡ b = cc in same)
raised-more (suc i) (c ∷ cs) (b ∷ ds) d h e = ap (λ (ns : List ℕ). max c b ∷ ns) (raised-more i cs ds d (omega (arith, h)) e)

pub raised-next : (i : ℕ) (cs ds so_far : List ℕ) (c d : ℕ) → i < length so_far → so_far ≡ raised i cs ds → slice_get so_far i ≡ Some c → slice_get ds i ≡ Some d → slice_set so_far i (max c d) ≡ raised (i + 1) cs ds
raised-next i cs ds so_far c d within is own at =
    ap (λ (n : ℕ). slice_set so_far i (max n d)) (let at_place = get_or_from_slice_get so_far i c 0 own in here at_place)
    ∙ ap (λ (ns : List ℕ). slice_set ns i (max (slice_index_or ns i 0) d)) is
    ∙ raised-more i cs ds d (omega (arith, within, ap (λ (ns : List ℕ). length ns) is, length-raised i cs ds)) at
    ∙ ap (λ (n : ℕ). raised n cs ds) (let next : suc i ≡ i + 1 = omega arith in next) where
      here : slice_index_or so_far i 0 ≡ c → c ≡ slice_index_or so_far i 0
      here e = let back : c ≡ slice_index_or so_far i 0 = cc in back

pub raised-all : (cs ds : List ℕ) → length cs ≡ length ds → raised (length cs) cs ds ≡ larger cs ds
raised-all [] [] e = refl
raised-all [] (d ∷ ds) e = absurd (omega (arith, e))
raised-all (c ∷ cs) [] e = absurd (omega (arith, e))
raised-all (c ∷ cs) (d ∷ ds) e = ap (λ (ns : List ℕ). max c d ∷ ns) (raised-all cs ds (omega (arith, e)))
