-- Lists place by place.
use Rattle.std.proofs.Common.{◌≡◌, ℕ, zero, suc, ◌<◌, List, [], ◌∷◌, ◌++◌, map, length, replicate, take, drop, ◌⊎◌, inl, inr, refl, sym, ap, subst, ◌∙◌, append_assoc, append-nil, arith}
use Rattle.std.specs.Prelude.{Some, slice_get}
use Rattle.std.specs.List.{AllZip, remove}
use Rattle.std.proofs.lemmas.List.{length-map, take_all, drop_all}
use Rattle.std.proofs.lemmas.Option.{slice_get_within, same_Some}
use Rattle.lasp_drive.proofs.NodeLaws.{mapped-at}

-- there is an element at each place
pub at-place : {X : Type 0} (xs : List X) (p : ℕ) → p < length xs → (x : X) × (slice_get xs p ≡ Some x)
at-place [] p low = absurd (omega (arith, low))
at-place (x ∷ xs) zero low = (x, refl)
at-place (x ∷ xs) (suc p) low = at-place xs p (omega (arith, low))

-- what stands at a place of a mapped list comes from what stands there
pub mapped-from : {X Y : Type 0} (f : X → Y) (xs : List X) (p : ℕ) (y : Y) → slice_get (map f xs) p ≡ Some y → (x : X) × (slice_get xs p ≡ Some x) × (y ≡ f x)
mapped-from f xs p y at =
    let there = at-place xs p (omega (arith, slice_get_within (map f xs) p y at, length-map xs f)) in
    (there.0, there.1, same_Some y (f there.0) (sym at ∙ mapped-at f xs p there.0 there.1))

-- of two lists that are mapped to one
pub same-at : {X Y : Type 0} (f : X → Y) (old new : List X) (p : ℕ) (x : X) → map f new ≡ map f old → slice_get new p ≡ Some x → (y : X) × (slice_get old p ≡ Some y) × (f x ≡ f y)
same-at {X} {Y} f old new p x same at = mapped-from f old p (f x) (subst (λ (ys : List Y). slice_get ys p ≡ Some (f x)) same (mapped-at f new p x at))

pub same-length : {X Y : Type 0} (f : X → Y) (old new : List X) → map f new ≡ map f old → length new ≡ length old
same-length {X} {Y} f old new same = sym (length-map new f) ∙ ap (λ (ys : List Y). length ys) same ∙ length-map old f

pub map-twice : {X Y Z : Type 0} (f : X → Y) (g : Y → Z) (xs : List X) → map g (map f xs) ≡ map (λ (x : X). g (f x)) xs
map-twice f g [] = refl
map-twice {X} {Y} {Z} f g (x ∷ xs) = ap (λ (zs : List Z). g (f x) ∷ zs) (map-twice f g xs)

-- each element is mapped to the same
pub map-same : {X Y : Type 0} (f : X → Y) (y : Y) (xs : List X) → ((p : ℕ) (x : X) → slice_get xs p ≡ Some x → f x ≡ y) → map f xs ≡ replicate (length xs) y
map-same f y [] each = refl
map-same {X} {Y} f y (x ∷ xs) each = (λ i. each 0 x refl i ∷ map f xs) ∙ ap (λ (ys : List Y). y ∷ ys) (map-same f y xs (λ p z at. each (suc p) z at))

-- what is tied place by place is mapped to the same
pub zip-mapped : {X Y : Type 0} (R : X → X → Type 0) (f : X → Y) → ((x y : X) → R x y → f y ≡ f x) → (old new : List X) → AllZip R old new → map f new ≡ map f old
zip-mapped R f each [] [] all = refl
zip-mapped R f each [] (y ∷ new) all = absurd all
zip-mapped R f each (x ∷ old) [] all = absurd all
zip-mapped {X} {Y} R f each (x ∷ old) (y ∷ new) all = (λ i. each x y all.0 i ∷ map f new) ∙ ap (λ (ys : List Y). f x ∷ ys) (zip-mapped R f each old new all.1)

-- the last element, and those before it
pub at-before : {X : Type 0} (xs : List X) (y : X) (p : ℕ) (x : X) → slice_get xs p ≡ Some x → slice_get (xs ++ y ∷ []) p ≡ Some x
at-before [] y p x at = absurd cc
at-before (z ∷ xs) y zero x at = at
at-before (z ∷ xs) y (suc p) x at = at-before xs y p x at

pub at-end : {X : Type 0} (xs : List X) (y : X) → slice_get (xs ++ y ∷ []) (length xs) ≡ Some y
at-end [] y = refl
at-end (z ∷ xs) y = at-end xs y

-- what stands at a place stood there before, or is the last
pub at-or-last : {X : Type 0} (xs : List X) (y : X) (p : ℕ) (x : X) → slice_get (xs ++ y ∷ []) p ≡ Some x → (slice_get xs p ≡ Some x) ⊎ ((p ≡ length xs) × (y ≡ x))
at-or-last [] y zero x at = inr (refl, same_Some y x at)
at-or-last [] y (suc p) x at = absurd cc
at-or-last (z ∷ xs) y zero x at = inl at
at-or-last (z ∷ xs) y (suc p) x at = choose (at-or-last xs y p x at) where
  choose : (slice_get xs p ≡ Some x) ⊎ ((p ≡ length xs) × (y ≡ x)) → (slice_get (z ∷ xs) (suc p) ≡ Some x) ⊎ ((suc p ≡ length (z ∷ xs)) × (y ≡ x))
  choose (inl before) = inl before
  choose (inr last) = inr (ap suc last.0, last.1)

-- what holds of each element and of one more
pub at-push : {X : Type 0} (P : X → Type 0) (xs : List X) (y : X) → ((p : ℕ) (x : X) → slice_get xs p ≡ Some x → P x) → P y → (p : ℕ) (x : X) → slice_get (xs ++ y ∷ []) p ≡ Some x → P x
at-push P [] y each here zero x at = subst P (same_Some y x at) here
at-push P [] y each here (suc p) x at = absurd cc
at-push P (z ∷ xs) y each here zero x at = each 0 x at
at-push P (z ∷ xs) y each here (suc p) x at = at-push P xs y (λ q w there. each (suc q) w there) here p x at

-- the first element of a list that stands behind others
pub at-seam : {X : Type 0} (xs ys : List X) (p : ℕ) (x : X) → length xs ≡ p → slice_get ys 0 ≡ Some x → slice_get (xs ++ ys) p ≡ Some x
at-seam [] ys p x size at = subst (λ (n : ℕ). slice_get ys n ≡ Some x) size at
at-seam (z ∷ xs) ys zero x size at = absurd (omega (arith, size))
at-seam (z ∷ xs) ys (suc p) x size at = at-seam xs ys p x (omega (arith, size)) at

-- an element went from the front of one list behind another
pub moved : {X : Type 0} (new old rest left all : List X) (x y : X) → y ≡ x → new ≡ old ++ y ∷ [] → left ≡ x ∷ rest → old ++ left ≡ all → new ++ rest ≡ all
moved {X} new old rest left all x y is pushed came items =
    ap (λ (l : List X). l ++ rest) pushed ∙ append_assoc old (y ∷ []) rest ∙ (λ i. old ++ (is i ∷ rest)) ∙ ap (λ (l : List X). old ++ l) (sym came) ∙ items

-- the same of the first element of a list that both are mapped from
pub moved-mapped : {X Y : Type 0} (f : X → Y) (new old : List Y) (left rest all : List X) (x : X) → slice_get left 0 ≡ Some x → rest ≡ remove left 0 → new ≡ old ++ f x ∷ [] → old ++ map f left ≡ map f all → new ++ map f rest ≡ map f all
moved-mapped f new old [] rest all x at removed pushed items = absurd cc
moved-mapped f new old (y ∷ left) rest all x at removed pushed items =
    moved new old (map f rest) (map f (y ∷ left)) (map f all) (f y) (f x) (ap f (sym (same_Some y x at))) pushed (ap (λ l. f y ∷ map f l) (sym removed)) items

-- what was written over a whole vector
pub written : {X : Type 0} (many : ℕ) (new old : List X) → length new ≡ length old → length old ≡ many → take many (new ++ drop (length new) old) ≡ new
written {X} many new old size whole =
    ap (λ (l : List X). take many (new ++ l)) (drop_all (length new) old (omega (arith, size))) ∙ ap (take many) (append-nil new) ∙ take_all many new (omega (arith, size, whole))
