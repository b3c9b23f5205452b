-- How deep a value may be read doesn't matter, as long as it is more than the pairs that may stand in it.
use Rattle.std.proofs.Common.{◌≡◌, ℕ, zero, suc, ◌-◌, ◌<◌, ◌≤◌, Bool, true, false, cond, eqb, List, length, Result, Ok, Err, ℤ, refl, ap, subst, ◌∙◌, arith}
use Rattle.std.proofs.lemmas.Bool.{eqb-false}
use Rattle.model_graph.specs.Chain.{◌>>=◌}
use Rattle.model_wire.specs.declared.wire_why.WireWhy.TheVariants as why
use Rattle.model_wire.specs.Reader.{Reading, Reader, remade, made, kind_at}
use Rattle.model_wire.specs.Value.{signed_at, text_at, Part, int_part, text_part, pair_part, part_at}
use Rattle.model_wire.proofs.Codecs.{passed}
use Rattle.model_wire.proofs.ValueLaws.{pair_behind, behind_tag}

abbrev second_part : ℕ → Part → Reader Part
second_part depth a = made (pair_part a.value) (part_at depth a.pairs a.room)

abbrev IsFewer : ℕ → Reading Part → Type 0
IsFewer pairs r = (p : Part × List ℕ) → r ≡ Ok p → p.0.pairs ≤ pairs

either : (pairs : ℕ) (b : Bool) (r s : Reading Part) → IsFewer pairs r → IsFewer pairs s → IsFewer pairs (cond b r s)
either pairs true r s h k = h
either pairs false r s h k = k

remade_fewer : (X : Type 0) (pairs : ℕ) (make : X → Part) (r : Reading X) → ((x : X) → (make x).pairs ≤ pairs) → IsFewer pairs (r >>= remade make)
remade_fewer X pairs make (Ok x) h p e =
    let is : (make x.0, x.1) ≡ p = cc in
    subst (λ (q : Part × List ℕ). q.0.pairs ≤ pairs) is (h x.0)
remade_fewer X pairs make (Err x) h p e = absurd cc

-- no more pairs are left than there were
pub fewer : (depth pairs room : ℕ) (bytes : List ℕ) → IsFewer pairs (part_at depth pairs room bytes)
unfolding part_at
fewer zero pairs room bytes p e = absurd cc
fewer (suc depth) pairs room bytes p e =
    let a = passed (kind_at 0 2 bytes) (behind_tag (length bytes) depth pairs room) p e in
    either pairs (eqb a.value.0 0) (made (int_part pairs room) signed_at a.value.1) _
    (remade_fewer ℤ pairs (int_part pairs room) (signed_at a.value.1) (λ n. omega arith))
    (either pairs (eqb a.value.0 1) (made (text_part pairs room) (text_at room) a.value.1) _
    (remade_fewer (List ℕ) pairs (text_part pairs room) (text_at room a.value.1) (λ t. omega arith))
    (either pairs (eqb pairs 0) (Err (length bytes, why.Range)) (pair_behind depth pairs room a.value.1) (λ q h. absurd cc)
    (λ q h.
    let b = passed (part_at depth (pairs - 1) room a.value.1) (λ x. second_part depth x.0 x.1) q h in
    let c = passed (part_at depth b.value.0.pairs b.value.0.room b.value.1) (remade (pair_part b.value.0.value)) q b.then in
    let is : (pair_part b.value.0.value c.value.0, c.value.1) ≡ q = cc in
    subst (λ (r : Part × List ℕ). r.0.pairs ≤ pairs) is
    (omega (arith, fewer depth (pairs - 1) room a.value.1 b.value b.first, fewer depth b.value.0.pairs b.value.0.room b.value.1 c.value c.first)))))
    p a.then

-- steps that agree where they are taken
agree : {A B E : Type 0} (r : Result A E) (f g : A → Result B E) → ((x : A) → r ≡ Ok x → f x ≡ g x) → (r >>= f) ≡ (r >>= g)
agree (Ok x) f g h = h x refl
agree (Err e) f g h = refl

choice : {A : Type 0} (b : Bool) (x y z : A) → (b ≡ false → y ≡ z) → cond b x y ≡ cond b x z
choice true x y z h = refl
choice false x y z h = h refl

pub enough : (d e pairs room : ℕ) (bytes : List ℕ) → pairs < d → pairs < e → part_at d pairs room bytes ≡ part_at e pairs room bytes
unfolding part_at
enough zero e pairs room bytes h k = absurd (omega (arith, h))
enough (suc d) zero pairs room bytes h k = absurd (omega (arith, k))
enough (suc d) (suc e) pairs room bytes h k =
    agree (kind_at 0 2 bytes) (behind_tag (length bytes) d pairs room) (behind_tag (length bytes) e pairs room)
    (λ tag is. choice (eqb tag.0 0) _ _ _ (λ not-int. choice (eqb tag.0 1) _ _ _ (λ not-text. choice (eqb pairs 0) _ _ _ (λ some.
    let more = eqb-false pairs 0 some in
    ap (λ (r : Reading Part). r >>= (λ x. second_part d x.0 x.1)) (enough d e (pairs - 1) room tag.1 (omega (arith, h, more)) (omega (arith, k, more)))
    ∙ agree (part_at e (pairs - 1) room tag.1) (λ x. second_part d x.0 x.1) (λ x. second_part e x.0 x.1)
    (λ x read.
    let few = fewer e (pairs - 1) room tag.1 x read in
    ap (λ (r : Reading Part). r >>= remade (pair_part x.0.value)) (enough d e x.0.pairs x.0.room x.1 (omega (arith, h, more, few)) (omega (arith, k, more, few))))))))
