-- The items of chunks, one chunk after the other.
use Rattle.std.proofs.Common.{◌≡◌, ℕ, zero, suc, ◌+◌, ◌-◌, ◌<◌, ◌≤◌, List, [], ◌∷◌, ◌++◌, length, take, drop, get_or, slice_get, Some, refl, sym, ap, subst, ◌∙◌, append_assoc, append-nil, length-append, arith}
use Rattle.std.proofs.lemmas.List.{take_more, drop_more, take-append-drop, drop-append-le, drop-drop, drop_at}
use Rattle.lasp_log.specs.Log.{joined}

module _ {T : Type 0} where
  joined-append : (cs ds : List (List T)) → joined (cs ++ ds) ≡ joined cs ++ joined ds
  joined-append [] ds = refl
  joined-append (c ∷ cs) ds = ap (λ (s : List T). c ++ s) (joined-append cs ds) ∙ sym (append_assoc c (joined cs) (joined ds))

  joined-push : (cs : List (List T)) (c : List T) → joined (cs ++ c ∷ []) ≡ joined cs ++ c
  joined-push cs c = joined-append cs (c ∷ []) ∙ ap (λ (s : List T). joined cs ++ s) (append-nil c)

  -- what was newest is the last chunk
  pub joined-sealed : (cs : List (List T)) (c : List T) → joined (cs ++ c ∷ []) ++ [] ≡ joined cs ++ c
  joined-sealed cs c = append-nil (joined (cs ++ c ∷ [])) ∙ joined-push cs c

  -- the chunks before a place and those from it on
  joined-parts : (cs : List (List T)) (i : ℕ) → joined (take i cs) ++ joined (drop i cs) ≡ joined cs
  joined-parts cs i = sym (joined-append (take i cs) (drop i cs)) ∙ ap joined (take-append-drop i cs)

  joined-from : (cs : List (List T)) (i : ℕ) (c : List T) → i < length cs → c ≡ get_or cs i c → joined (drop i cs) ≡ c ++ joined (drop (i + 1) cs)
  joined-from cs i c h is = ap joined (drop_more cs i c h) ∙ ap (λ (s : List T). s ++ joined (drop (i + 1) cs)) (sym is)

  -- the chunks before one, that one, those behind it and the newest items
  joined-around : (cs : List (List T)) (n : List T) (i : ℕ) (c : List T) → i < length cs → c ≡ get_or cs i c → joined (take i cs) ++ (c ++ (joined (drop (i + 1) cs) ++ n)) ≡ joined cs ++ n
  joined-around cs n i c h is =
      ap (λ (s : List T). joined (take i cs) ++ s) (sym (append_assoc c (joined (drop (i + 1) cs)) n) ∙ ap (λ (s : List T). s ++ n) (sym (joined-from cs i c h is)))
      ∙ sym (append_assoc (joined (take i cs)) (joined (drop i cs)) n) ∙ ap (λ (s : List T). s ++ n) (joined-parts cs i)

  length-before : (cs : List (List T)) (i : ℕ) (c : List T) → i < length cs → c ≡ get_or cs i c → length (joined (take (i + 1) cs)) ≡ length (joined (take i cs)) + length c
  length-before cs i c h is =
      ap (λ (ds : List (List T)). length (joined ds)) (take_more cs i c h) ∙ ap length (joined-push (take i cs) (get_or cs i c)) ∙ length-append (joined (take i cs)) (get_or cs i c)
      ∙ ap (λ (s : List T). length (joined (take i cs)) + length s) (sym is)

  -- where there are items before, there is a chunk before
  pub some-before : (cs : List (List T)) (i m n : ℕ) → n ≡ length (joined (take i cs)) → m < n → 0 < i
  some-before cs zero m n e h = absurd (omega (arith, e, h))
  some-before cs (suc i) m n e h = omega arith

  -- one chunk back from a place between chunks
  pub length-back : (cs : List (List T)) (b begin : ℕ) (c : List T) → 0 < b → b ≤ length cs → c ≡ get_or cs (b - 1) c → begin ≡ length (joined (take b cs)) → begin ≡ length (joined (take (b - 1) cs)) + length c
  length-back cs b begin c some fits is at =
      let e : b - 1 + 1 ≡ b = omega (arith, some) in
      let h : b - 1 < length cs = omega (arith, some, fits) in
      at ∙ ap (λ (k : ℕ). length (joined (take k cs))) (sym e) ∙ length-before cs (b - 1) c h is

  pub joined-back : (cs : List (List T)) (n : List T) (b : ℕ) (c : List T) → 0 < b → b ≤ length cs → c ≡ get_or cs (b - 1) c → joined (take (b - 1) cs) ++ (c ++ (joined (drop b cs) ++ n)) ≡ joined cs ++ n
  joined-back cs n b c some fits is =
      let e : b ≡ b - 1 + 1 = omega (arith, some) in
      let h : b - 1 < length cs = omega (arith, some, fits) in
      ap (λ (k : ℕ). joined (take (b - 1) cs) ++ (c ++ (joined (drop k cs) ++ n))) e ∙ joined-around cs n (b - 1) c h is

  -- the items from a place on, where that is among some of them
  pub drop-among : (before items rest all : List T) (place begin : ℕ) → before ++ (items ++ rest) ≡ all → begin ≡ length before → begin ≤ place → place ≤ begin + length items → drop (place - begin) items ++ rest ≡ drop place all
  drop-among before items rest all place begin is at low high =
      let short : place - begin ≤ length items = omega (arith, low, high) in
      let sum : begin + (place - begin) ≡ place = omega (arith, low) in
      sym (drop-append-le (place - begin) items rest short)
      ∙ ap (λ (s : List T). drop (place - begin) s) (sym (drop_at before (items ++ rest) begin (sym at)))
      ∙ drop-drop (place - begin) begin (before ++ (items ++ rest))
      ∙ ap (λ (k : ℕ). drop k (before ++ (items ++ rest))) sum
      ∙ ap (λ (s : List T). drop place s) is

  get-drop : (all : List T) (i : ℕ) → slice_get (drop i all) 0 ≡ slice_get all i
  get-drop [] zero = refl
  get-drop [] (suc i) = refl
  get-drop (x ∷ all) zero = refl
  get-drop (x ∷ all) (suc i) = get-drop all i

  -- the item that a pass from a place on begins with
  pub item-at : (all rest : List T) (i : ℕ) (x : T) → drop i all ≡ x ∷ rest → slice_get all i ≡ Some x
  item-at all rest i x e = sym (get-drop all i) ∙ ap (λ (s : List T). slice_get s 0) e

  pub not-past : (all : List T) (i : ℕ) → drop i all ≡ [] → length all ≤ i
  not-past [] i e = omega arith
  not-past (x ∷ all) zero e = cc
  not-past (x ∷ all) (suc i) e = omega (arith, not-past all i e)

  -- the last two chunks as one
  joined-last : (cs : List (List T)) (n : ℕ) (a b : List T) → suc (suc n) ≡ length cs → a ≡ get_or cs n a → b ≡ get_or cs (suc n) b → joined (take n cs ++ (a ++ b) ∷ []) ≡ joined cs
  joined-last [] n a b e here there = absurd (omega (arith, e))
  joined-last (x ∷ []) n a b e here there = absurd (omega (arith, e))
  joined-last (x ∷ y ∷ []) zero a b e here there = append_assoc a b [] ∙ ap (λ (s : List T). s ++ (b ++ [])) here ∙ ap (λ (s : List T). x ++ (s ++ [])) there
  joined-last (x ∷ y ∷ z ∷ cs) zero a b e here there = absurd (omega (arith, e))
  joined-last (x ∷ y ∷ cs) (suc n) a b e here there = ap (λ (s : List T). x ++ s) (joined-last (y ∷ cs) n a b (omega (arith, e)) here there)

  pub joined-pair : (cs cut new : List (List T)) (count : ℕ) (a b whole : List T) → count ≡ length cs → 2 ≤ length cs → a ≡ get_or cs (count - 2) a → b ≡ get_or cs (count - 1) b → whole ≡ a ++ b → cut ≡ take (count - 2) cs → new ≡ cut ++ whole ∷ [] → joined new ≡ joined cs
  joined-pair cs cut new count a b whole many some here there one short is =
      let e : count - 1 ≡ suc (count - 2) = omega (arith, many, some) in
      let two : suc (suc (count - 2)) ≡ length cs = omega (arith, many, some) in
      ap joined (is ∙ (λ i. short i ++ one i ∷ [])) ∙ joined-last cs (count - 2) a b two here (subst (λ (k : ℕ). b ≡ get_or cs k b) e there)
