-- Beginnings of one list, and the entries of one number in them.
use Rattle.std.proofs.Common.{◌≡◌, ◌≢◌, ℕ, ◌<◌, ◌≤◌, false, ltb, ltb-true, ltb-false, eqb, eq-eqb, ne_eqb, cond, List, [], ◌∷◌, ◌++◌, All, length, refl, ap, sym, subst, ◌∙◌, arith, append_assoc, append-nil, length-append}
use mathlib.Core.List.{IsPrefix}
use Rattle.std.proofs.lemmas.Bool.{cond_both, or_from, or_parts}
use Rattle.std.proofs.lemmas.List.{get_or_append_left}
use Rattle.std.proofs.lemmas.List.Elements.{filter-append, All-nil, All-cons, All-head, All-tail}
use Rattle.lasp_histlock.specs.History.{entries_of, added, among, longer}

module _ {A : Type 0} where
  pub prefix_self : (xs : List A) → IsPrefix xs xs
  prefix_self xs = ([], append-nil xs)

  pub prefix_trans : (xs ys zs : List A) → IsPrefix xs ys → IsPrefix ys zs → IsPrefix xs zs
  prefix_trans xs ys zs p q = (p.0 ++ q.0, sym (append_assoc xs p.0 q.0) ∙ (ap (λ w. w ++ q.0) p.1 ∙ q.1))

  pub prefix_more : (xs ys more : List A) → IsPrefix xs ys → IsPrefix xs (ys ++ more)
  prefix_more xs ys more p = prefix_trans xs ys (ys ++ more) p (more, refl)

  -- of two beginnings of one list the shorter begins the longer
  pub prefix_shorter : (xs ys zs : List A) → IsPrefix xs zs → IsPrefix ys zs → length xs ≤ length ys → IsPrefix xs ys
  prefix_shorter [] ys zs p q le = (ys, refl)
  prefix_shorter (x ∷ xs) [] zs p q le = absurd (omega arith)
  prefix_shorter (x ∷ xs) (y ∷ ys) [] p q le = absurd (cc (p.1))
  prefix_shorter (x ∷ xs) (y ∷ ys) (z ∷ zs) p q le =
      let heads : x ≡ y = cc (p.1, q.1) in
      let rest = prefix_shorter xs ys zs (p.0, cc (p.1)) (q.0, cc (q.1)) (omega arith) in
      (rest.0, cc (heads, rest.1))

  -- a beginning as long as the whole is the whole
  pub prefix_whole : (xs ys : List A) → IsPrefix xs ys → length ys ≤ length xs → xs ≡ ys
  prefix_whole [] [] p le = refl
  prefix_whole [] (y ∷ ys) p le = absurd (omega arith)
  prefix_whole (x ∷ xs) [] p le = absurd (cc (p.1))
  prefix_whole (x ∷ xs) (y ∷ ys) p le =
      let rest = prefix_whole xs ys (p.0, cc (p.1)) (omega arith) in cc (p.1, rest)

  pub prefix-length : (xs ys : List A) → IsPrefix xs ys → length xs ≤ length ys
  prefix-length xs ys p = omega (arith, sym (ap length p.1) ∙ length-append xs p.0)

  -- a beginning and what was added to it
  pub prefix_added : (xs ys : List A) → IsPrefix xs ys → xs ++ added xs ys ≡ ys
  prefix_added [] ys p = refl
  prefix_added (x ∷ xs) [] p = absurd (cc (p.1))
  prefix_added (x ∷ xs) (y ∷ ys) p = let rest = prefix_added xs ys (p.0, cc (p.1)) in cc (p.1, rest)

  -- the longer of two beginnings of one list
  module _ (xs ys whole : List A) (p : IsPrefix xs whole) (q : IsPrefix ys whole) where
    pub longer_whole : IsPrefix (longer xs ys) whole
    longer_whole = cond_both (ltb (length xs) (length ys)) ys xs (λ l. IsPrefix l whole) (λ _. q) (λ _. p)

    pub longer_left : IsPrefix xs (longer xs ys)
    longer_left = cond_both (ltb (length xs) (length ys)) ys xs (λ l. IsPrefix xs l)
        (λ e. let lt = ltb-true (length xs) (length ys) e in prefix_shorter xs ys whole p q (omega arith)) (λ _. prefix_self xs)

    pub longer_right : IsPrefix ys (longer xs ys)
    longer_right = cond_both (ltb (length xs) (length ys)) ys xs (λ l. IsPrefix ys l)
        (λ _. prefix_self ys) (λ e. let le = ltb-false (length xs) (length ys) e in prefix_shorter ys xs whole q p le)

    pub longer_first : xs ≡ whole → longer xs ys ≡ whole
    longer_first same = cond_both (ltb (length xs) (length ys)) ys xs (λ l. l ≡ whole)
        (λ e. let lt = ltb-true (length xs) (length ys) e in let le = prefix-length ys whole q in let n = ap length same in absurd (omega arith)) (λ _. same)

    pub longer_second : ys ≡ whole → longer xs ys ≡ whole
    longer_second same = cond_both (ltb (length xs) (length ys)) ys xs (λ l. l ≡ whole)
        (λ _. same) (λ e. let le = ltb-false (length xs) (length ys) e in let n = ap length same in prefix_whole xs whole p (omega arith))

-- what holds of a list holds of each beginning of it
pub All-prefix : {A : Type 0} (P : A → Type 0) (xs ys : List A) → IsPrefix xs ys → All P ys → All P xs
All-prefix P xs ys p h k d lt =
    let all : All P (xs ++ p.0) = subst (All P) (sym p.1) h in
    subst P (get_or_append_left xs p.0 d k lt) (all k d (omega (arith, length-append xs p.0)))

module _ {E : Type 0} (names : E → ℕ) where
  pub entries_of-append : (n : ℕ) (xs ys : List E) → entries_of names n (xs ++ ys) ≡ entries_of names n xs ++ entries_of names n ys
  entries_of-append n xs ys = filter-append (λ e. eqb (names e) n) xs ys

  -- where no entry names n
  pub entries_of-none : (n : ℕ) (xs : List E) → All (λ e. names e ≢ n) xs → entries_of names n xs ≡ []
  entries_of-none n [] h = refl
  entries_of-none n (x ∷ xs) h =
      let other = ne_eqb (names x) n (All-head (λ e. names e ≢ n) x xs h) in
      ap (λ b. cond b (x ∷ entries_of names n xs) (entries_of names n xs)) other ∙ entries_of-none n xs (All-tail (λ e. names e ≢ n) x xs h)

  -- where each entry names n
  pub entries_of-all : (n : ℕ) (xs : List E) → All (λ e. names e ≡ n) xs → entries_of names n xs ≡ xs
  entries_of-all n [] h = refl
  entries_of-all n (x ∷ xs) h =
      let one = eq-eqb (names x) n (All-head (λ e. names e ≡ n) x xs h) in
      ap (λ b. cond b (x ∷ entries_of names n xs) (entries_of names n xs)) one ∙ ap (λ l. x ∷ l) (entries_of-all n xs (All-tail (λ e. names e ≡ n) x xs h))

  -- what a beginning has of n and the whole has no more of, each list between has too
  pub entries_of-between : (n : ℕ) (xs ys zs : List E) → IsPrefix xs ys → IsPrefix ys zs → entries_of names n xs ≡ entries_of names n zs → entries_of names n xs ≡ entries_of names n ys
  entries_of-between n xs ys zs p q same =
      let f = entries_of names n in
      let mid : f ys ≡ f xs ++ f (p.0) = sym (ap f p.1) ∙ entries_of-append n xs p.0 in
      let all : f zs ≡ f ys ++ f (q.0) = sym (ap f q.1) ∙ entries_of-append n ys q.0 in
      let a = ap length mid ∙ length-append (f xs) (f (p.0)) in
      let b = ap length all ∙ length-append (f ys) (f (q.0)) in
      let c = ap length same in
      prefix_whole (f xs) (f ys) (f (p.0), sym mid) (omega arith)

module _ {E : Type 0} (names : E → ℕ) (n : ℕ) where
  unnamed : (l : List E) → length (entries_of names n l) ≡ 0 → All (λ e. names e ≢ n) l
  unnamed [] none = All-nil (λ e. names e ≢ n)
  unnamed (x ∷ xs) none =
      let rest = entries_of names n xs in
      let other : names x ≢ n = λ same. omega (arith, sym none ∙ ap (λ b. length (cond b (x ∷ rest) rest)) (eq-eqb (names x) n same)) in
      let none' : length rest ≡ 0 = sym (ap (λ b. length (cond b (x ∷ rest) rest)) (ne_eqb (names x) n other)) ∙ none in
      All-cons (λ e. names e ≢ n) x xs other (unnamed xs none')

  -- what stands past a beginning that has all of n doesn't name n
  pub none_past : (xs more : List E) → entries_of names n xs ≡ entries_of names n (xs ++ more) → All (λ e. names e ≢ n) more
  none_past xs more same =
      let f = entries_of names n in
      let a = ap length (same ∙ entries_of-append names n xs more) ∙ length-append (f xs) (f more) in
      unnamed more (omega arith)

pub among-append : (n k : ℕ) (ks : List ℕ) → among n ks ≡ false → n ≢ k → among n (ks ++ k ∷ []) ≡ false
among-append n k [] h ne = or_from (eqb n k) false (ne_eqb n k ne) refl
among-append n k (j ∷ ks) h ne = let t = or_parts (eqb n j) (among n ks) h in or_from (eqb n j) (among n (ks ++ k ∷ [])) t.0 (among-append n k ks t.1 ne)

-- a number that bounds them all isn't among them
pub among-above : (n : ℕ) (ks : List ℕ) → All (λ k. (0 < k) × (k < n)) ks → among n ks ≡ false
among-above n [] h = refl
among-above n (k ∷ ks) h =
    let t = All-head (λ k. (0 < k) × (k < n)) k ks h in
    or_from (eqb n k) (among n ks) (ne_eqb n k (λ e. omega (arith, t.1, e))) (among-above n ks (All-tail (λ k. (0 < k) × (k < n)) k ks h))
