-- Lists joined place by place.
use Rattle.std.specs.Prelude.{List, [], ◌∷◌}

-- at each place the join of what both lists have there
abbrev pub joined_places : {A : Type 0} → (A → A → A) → List A → List A → List A
joined_places join [] ts = []
joined_places join (s ∷ ss) [] = s ∷ ss
joined_places join (s ∷ ss) (t ∷ ts) = join s t ∷ joined_places join ss ts

-- the lists are of one length, and each place of the one is related to that of the other
abbrev pub AreRelated : {A : Type 0} → (A → A → Type 0) → List A → List A → Type 0
AreRelated R [] [] = Unit {0}
AreRelated R [] (t ∷ ts) = ⊥
AreRelated R (s ∷ ss) [] = ⊥
AreRelated R (s ∷ ss) (t ∷ ts) = R s t × AreRelated R ss ts
