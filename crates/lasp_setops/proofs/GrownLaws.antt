-- Processes after changes of their inputs.
use Rattle.std.proofs.Common.{◌≡◌, List, sym, ap, ◌∙◌, Bool, arith}
use Rattle.model_values.specs.Value.{Val}
use Rattle.model_values.specs.Row.{Row}
use Rattle.model_sets.specs.Rows.{mark, IsAscending, IsAtMost, join}
use Rattle.model_sets.specs.Equations.{map_set, filter_set, union_set, product_set, intersect_set, changed}
use Rattle.model_sets.proofs.RowLaws.{join-associative, join-commutative, mark-join, ascending-join, same_from_mark}
use Rattle.model_sets.proofs.EquationLaws.{map-join, filter-join, product-join_left, product-join_right, intersect-join_left, intersect-join_right, join-changed}
use Rattle.lasp_setops.specs.Grown.{IsGrown}

pub grown-changed : (before after : List Row) → IsAscending before → IsAscending after → IsAtMost before after → IsGrown before (changed before after) after
grown-changed before after up_before up_after h = record { ascends = up_before; joined = join-changed before after up_after h }

pub ruleset changes = (grown-changed)

pub map-grown : (f : Val → Val) (x c x' : List Row) → IsGrown x c x' → join (map_set f x) (map_set f c) ≡ map_set f x'
map-grown f x c x' h = sym (map-join f x c) ∙ ap (map_set f) h.joined

pub filter-grown : (p : Val → Bool) (x c x' : List Row) → IsAscending c → IsGrown x c x' → join (filter_set p x) (filter_set p c) ≡ filter_set p x'
filter-grown p x c x' up h = sym (filter-join p x c h.ascends up) ∙ ap (filter_set p) h.joined

pub union-grown : (x c x' y d y' : List Row) → IsGrown x c x' → IsGrown y d y' → join (join (union_set x y) c) d ≡ union_set x' y'
union-grown x c x' y d y' h k =
    ap (λ (s : List Row). join s d) (join-associative x y c ∙ ap (join x) (join-commutative y c) ∙ sym (join-associative x c y)) ∙ join-associative (join x c) y d ∙ (λ i. join (h.joined i) (k.joined i))

-- for a process that sends joins to joins in each input
grown-by : (F : List Row → List Row → List Row) → ((x z y : List Row) → F (join x z) y ≡ join (F x y) (F z y)) → ((x y u : List Row) → F x (join y u) ≡ join (F x y) (F x u))
    → (x c x' y d y' : List Row) → IsGrown x c x' → IsGrown y d y' → join (join (F x y) (F c y')) (F x' d) ≡ F x' y'
grown-by F left right x c x' y d y' h k =
    let whole : F x' y' ≡ join (join (F x y) (F x d)) (F c y') = ap (λ (s : List Row). F s y') (sym h.joined) ∙ left x c y' ∙ ap (λ (s : List Row). join s (F c y')) (ap (F x) (sym k.joined) ∙ right x y d) in
    let more : F x' d ≡ join (F x d) (F c d) = ap (λ (s : List Row). F s d) (sym h.joined) ∙ left x c d in
    let crossed : F c y' ≡ join (F c y) (F c d) = ap (F c) (sym k.joined) ∙ right c y d in
    same_from_mark (join (join (F x y) (F c y')) (F x' d)) (join (join (F x y) (F x d)) (F c y')) (ascending-join (join (F x y) (F c y')) (F x' d)) (ascending-join (join (F x y) (F x d)) (F c y'))
    (λ v t. omega (arith, mark-join (join (F x y) (F c y')) (F x' d) v t, mark-join (F x y) (F c y') v t, ap (λ (s : List Row). mark s v t) more, mark-join (F x d) (F c d) v t, ap (λ (s : List Row). mark s v t) crossed, mark-join (F c y) (F c d) v t, mark-join (join (F x y) (F x d)) (F c y') v t, mark-join (F x y) (F x d) v t))
    ∙ sym whole

pub product-grown : (x c x' y d y' : List Row) → IsGrown x c x' → IsGrown y d y' → join (join (product_set x y) (product_set c y')) (product_set x' d) ≡ product_set x' y'
product-grown = grown-by product_set product-join_left product-join_right

pub intersect-grown : (x c x' y d y' : List Row) → IsGrown x c x' → IsGrown y d y' → join (join (intersect_set x y) (intersect_set c y')) (intersect_set x' d) ≡ intersect_set x' y'
intersect-grown = grown-by intersect_set intersect-join_left intersect-join_right

-- ---- along the steps of an increment

union-steps : (x c x' y d y' old : List Row) → IsGrown x c x' → IsGrown y d y' → old ≡ union_set x y → join (join old c) d ≡ union_set x' y'
union-steps x c x' y d y' old h k is = (λ i. join (join (is i) c) d) ∙ union-grown x c x' y d y' h k

-- both changes joined in at once
pub union-gain : (x c x' y d y' old gain : List Row) → gain ≡ join c d → IsGrown x c x' → IsGrown y d y' → old ≡ union_set x y → join old gain ≡ union_set x' y'
union-gain x c x' y d y' old gain made h k is = ap (join old) made ∙ sym (join-associative old c d) ∙ union-steps x c x' y d y' old h k is

pub product-steps : (x c x' y d y' old : List Row) → IsGrown x c x' → IsGrown y d y' → old ≡ product_set x y → join (join old (product_set c y')) (product_set x' d) ≡ product_set x' y'
product-steps x c x' y d y' old h k is = (λ i. join (join (is i) (product_set c y')) (product_set x' d)) ∙ product-grown x c x' y d y' h k

pub intersect-steps : (x c x' y d y' old : List Row) → IsGrown x c x' → IsGrown y d y' → old ≡ intersect_set x y → join (join old (intersect_set c y')) (intersect_set x' d) ≡ intersect_set x' y'
intersect-steps x c x' y d y' old h k is = (λ i. join (join (is i) (intersect_set c y')) (intersect_set x' d)) ∙ intersect-grown x c x' y d y' h k

pub map-after : (f : Val → Val) (x c x' old all more t : List Row) → all ≡ old → more ≡ map_set f c → t ≡ join all more → IsGrown x c x' → old ≡ map_set f x → t ≡ map_set f x'
map-after f x c x' old all more t copy first second h is = second ∙ (λ i. join ((copy ∙ is) i) (first i)) ∙ map-grown f x c x' h

pub filter-after : (p : Val → Bool) (x c x' old all more t : List Row) → IsAscending c → all ≡ old → more ≡ filter_set p c → t ≡ join all more → IsGrown x c x' → old ≡ filter_set p x → t ≡ filter_set p x'
filter-after p x c x' old all more t up copy first second h is = second ∙ (λ i. join ((copy ∙ is) i) (first i)) ∙ filter-grown p x c x' up h
