-- Lists of reads that were woken, read by read.
use Rattle.std.proofs.Common.{◌≡◌, ℕ, ◌+◌, ◌<◌, ◌≤◌, List, [], ◌∷◌, ◌++◌, length, take, Option, Some, None, refl, sym, ap, subst, ◌∙◌, append-nil, append_assoc, length-append, arith}
use Rattle.std.specs.Prelude.{IfSome, slice_get}
use Rattle.std.specs.Option.{option_map}
use Rattle.std.proofs.lemmas.List.{take_more, take_all, map-append, length-map, length-take-le}
use Rattle.std.proofs.lemmas.Option.{get_or_from_slice_get}
use Rattle.model_core.specs.Core.{Read}
use Rattle.lasp_reads.specs.Wake.{numbers}

-- the numbers woken while the first i reads of a list were gone through
abbrev Woken : Option (List ℕ) → Option (List ℕ) → List Read → ℕ → Type 0
Woken before now reads i = now ≡ option_map (λ list. list ++ numbers (take i reads)) before

few : (reads : List Read) (i : ℕ) → i ≤ length reads → length (numbers (take i reads)) ≡ i
few reads i low = length-map (take i reads) (λ (r : Read). r.number) ∙ length-take-le i reads low

-- there is room for one more
pub room-left : (before now : Option (List ℕ)) (reads : List Read) (i room left : ℕ) → i < length reads → IfSome before (λ list. length list + length reads ≤ room) → left ≡ room → Woken before now reads i → IfSome now (λ list. length list < left)
room-left None now reads i room left low fits same woken = subst (λ (o : Option (List ℕ)). IfSome o (λ list. length list < left)) (sym woken) tt
room-left (Some list) now reads i room left low fits same woken =
    subst (λ (o : Option (List ℕ)). IfSome o (λ list. length list < left)) (sym woken)
    (let long = length-append list (numbers (take i reads)) in let many = few reads i (omega (arith, low)) in omega (arith, long, many, fits, same, low))

one-more : (reads : List Read) (i : ℕ) (r : Read) → i < length reads → slice_get reads i ≡ Some r → numbers (take (i + 1) reads) ≡ numbers (take i reads) ++ r.number ∷ []
one-more reads i r low at =
    ap numbers (take_more reads i r low)
    ∙ map-append (λ (s : Read). s.number) (take i reads) (_ ∷ [])
    ∙ ap (λ (s : Read). numbers (take i reads) ++ s.number ∷ []) (get_or_from_slice_get reads i r r at)

-- the next one was woken
pub woken-next : (before now next : Option (List ℕ)) (reads : List Read) (i : ℕ) (r : Read) → i < length reads → slice_get reads i ≡ Some r → Woken before now reads i → next ≡ option_map (λ list. list ++ r.number ∷ []) now → Woken before next reads (i + 1)
woken-next None now next reads i r low at woken is = is ∙ ap (option_map (λ (list : List ℕ). list ++ r.number ∷ [])) woken
woken-next (Some list) now next reads i r low at woken is =
    is ∙ ap (option_map (λ (list : List ℕ). list ++ r.number ∷ [])) woken
    ∙ ap (λ (l : List ℕ). Some l) (append_assoc list (numbers (take i reads)) (r.number ∷ []) ∙ ap (λ (l : List ℕ). list ++ l) (sym (one-more reads i r low at)))

-- all were
pub woken-all : (before now : Option (List ℕ)) (reads : List Read) (i : ℕ) → length reads ≤ i → Woken before now reads i → now ≡ option_map (λ list. list ++ numbers reads) before
woken-all before now reads i all woken = woken ∙ ap (λ (rs : List Read). option_map (λ (list : List ℕ). list ++ numbers rs) before) (take_all i reads all)

-- none was yet
pub woken-none : (before : Option (List ℕ)) (reads : List Read) → Woken before before reads 0
woken-none None reads = refl
woken-none (Some list) reads = ap (λ (l : List ℕ). Some l) (sym (append-nil list))
