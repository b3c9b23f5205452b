-- Beginnings of one list.
use Rattle.std.proofs.Common.{◌≡◌, ◌≤◌, List, [], ◌∷◌, ◌++◌, All, length, refl, ap, sym, subst, ◌∙◌, arith, append_assoc, append-nil, length-append}
use mathlib.Core.List.{IsPrefix}
use Rattle.std.proofs.lemmas.List.{get_or_append_left}
use Rattle.std.proofs.lemmas.List.Elements.{All-head, All-tail}

module _ {A : Type 0} where
  pub prefix_self : (xs : List A) → IsPrefix xs xs
  prefix_self xs = ([], append-nil xs)

  pub prefix_more : (xs ys more : List A) → IsPrefix xs ys → IsPrefix xs (ys ++ more)
  prefix_more xs ys more p = (p.0 ++ more, sym (append_assoc xs p.0 more) ∙ ap (λ w. w ++ more) p.1)

  -- of two beginnings of one list the shorter begins the longer
  pub prefix_shorter : (xs ys zs : List A) → IsPrefix xs zs → IsPrefix ys zs → length xs ≤ length ys → IsPrefix xs ys
  prefix_shorter [] ys zs p q le = (ys, refl)
  prefix_shorter (x ∷ xs) [] zs p q le = absurd (omega arith)
  prefix_shorter (x ∷ xs) (y ∷ ys) [] p q le = absurd (cc (p.1))
  prefix_shorter (x ∷ xs) (y ∷ ys) (z ∷ zs) p q le =
      let heads : x ≡ y = cc (p.1, q.1) in
      let rest = prefix_shorter xs ys zs (p.0, cc (p.1)) (q.0, cc (q.1)) (omega arith) in
      (rest.0, cc (heads, rest.1))

  pub prefix-length : (xs ys : List A) → IsPrefix xs ys → length xs ≤ length ys
  prefix-length xs ys p = omega (arith, sym (ap length p.1) ∙ length-append xs p.0)

  -- a beginning that has the length of another one is that
  pub prefix_same : (xs ys more : List A) → IsPrefix xs (ys ++ more) → length xs ≡ length ys → xs ≡ ys
  prefix_same [] [] more p same = refl
  prefix_same [] (y ∷ ys) more p same = absurd (omega (arith, same))
  prefix_same (x ∷ xs) [] more p same = absurd (omega (arith, same))
  prefix_same (x ∷ xs) (y ∷ ys) more p same =
      let rest = prefix_same xs ys more (p.0, cc (p.1)) (omega (arith, same)) in cc (p.1, rest)

  -- a list that ends with x, and whose length is one more than that of a beginning of it
  pub next_list : (xs older whole more : List A) (x : A) → IsPrefix xs (whole ++ more) → whole ≡ older ++ x ∷ [] → length older ≡ length xs → whole ≡ xs ++ x ∷ []
  next_list xs older whole more x p ends same =
      let split : whole ++ more ≡ older ++ (x ∷ more) = ap (λ l. l ++ more) ends ∙ append_assoc older (x ∷ []) more in
      let is : xs ≡ older = prefix_same xs older (x ∷ more) (subst (λ l. IsPrefix xs l) split p) (sym same) in
      ends ∙ ap (λ l. l ++ x ∷ []) (sym is)

  pub empty_is : (xs : List A) → length xs ≡ 0 → xs ≡ []
  empty_is [] e = refl
  empty_is (x ∷ xs) e = absurd (omega (arith, e))

-- what holds of a list holds of each beginning of it
pub All-prefix : {A : Type 0} (P : A → Type 0) (xs ys : List A) → IsPrefix xs ys → All P ys → All P xs
All-prefix P xs ys p h k d lt =
    let all : All P (xs ++ p.0) = subst (All P) (sym p.1) h in
    subst P (get_or_append_left xs p.0 d k lt) (all k d (omega (arith, length-append xs p.0)))

pub All-last : {A : Type 0} (P : A → Type 0) (xs more : List A) (x : A) → All P ((xs ++ x ∷ []) ++ more) → P x
All-last P [] more x h = All-head P x more h
All-last P (y ∷ ys) more x h = All-last P ys more x (All-tail P y ((ys ++ x ∷ []) ++ more) h)
