-- The laws of folds.
use Rattle.std.proofs.Common.{◌≡◌, ◌≢◌, ℕ, ◌≤◌, Bool, true, false, cond, not, ◌&&◌, if◌then◌else◌, ◌==◌, IsTrue, List, [], ◌∷◌, map, filter, fold, refl, sym, ap, subst, ◌∙◌, arith}
use Rattle.std.proofs.lemmas.Bool.Decides.{nat_tests}
use Rattle.model_values.specs.Value.{Val}
use Rattle.model_values.specs.Row.{Row}
use Rattle.model_sets.specs.Rows.{IsAscending, IsAtMost}
use Rattle.model_sets.specs.Values.{held, IsHeld, AreAscending, visible, row_values}
use Rattle.model_sets.specs.Equations.{changed}
use Rattle.model_sets.specs.Folds.{IsFoldGroup, AreLifted, fold_of, fold_set, lacking, corrected}
use Rattle.model_sets.proofs.ValueLaws.{held-small, same_from_held, ascending-visible, ascending-of_values}
use Rattle.model_sets.proofs.AlgebraLaws.{held-here, IsHeld-filter, held-filter, ascending-filter}
use Rattle.model_sets.proofs.UpdateLaws.{changed-values}

-- Where every lift is a member.
module _ {A : Type 0} {member : A → Bool} {op : A → A → A} {neutral : A} {inverse : A → A} (g : IsFoldGroup member op neutral inverse) (lift : Val → A) (lifted : (v : Val) → IsTrue (member (lift v))) where
  abbrev IsMember : A → Type 0
  IsMember a = IsTrue (member a)

  -- the lifts combined from the last on
  abbrev total : List Val → A
  total [] = neutral
  total (v ∷ s) = op (lift v) (total s)

  total-in : (s : List Val) → IsMember (total s)
  total-in [] = g.neutral_in
  total-in (v ∷ s) = g.op_in (lift v) (total s) (lifted v) (total-in s)

  neutral_left : (a : A) → IsMember a → op neutral a ≡ a
  neutral_left a m = g.commutative neutral a g.neutral_in m ∙ g.neutral_right a m

  fold-from : (a : A) → IsMember a → (s : List Val) → fold (λ b v. op b (lift v)) a s ≡ op a (total s)
  fold-from a m [] = sym (g.neutral_right a m)
  fold-from a m (v ∷ s) = fold-from (op a (lift v)) (g.op_in a (lift v) m (lifted v)) s ∙ g.associative a (lift v) (total s) m (lifted v) (total-in s)

  fold-total : (s : List Val) → fold_of op neutral lift s ≡ total s
  fold-total s = fold-from neutral g.neutral_in s ∙ neutral_left (total s) (total-in s)

  fold-in : (s : List Val) → IsMember (fold_of op neutral lift s)
  fold-in s = subst IsMember (sym (fold-total s)) (total-in s)

  -- a member moved past another
  swap : (a b c : A) → IsMember a → IsMember b → IsMember c → op a (op b c) ≡ op b (op a c)
  swap a b c m n k = sym (g.associative a b c m n k) ∙ ap (λ d. op d c) (g.commutative a b m n) ∙ g.associative b a c n m k

  swap-right : (a b c : A) → IsMember a → IsMember b → IsMember c → op (op a b) c ≡ op (op a c) b
  swap-right a b c m n k = g.associative a b c m n k ∙ ap (op a) (g.commutative b c n k) ∙ sym (g.associative a c b m k n)

  -- a total is that of the values that pass a test and that of those that do not
  parted : (p : Val → Bool) (s : List Val) → total s ≡ op (total (filter p s)) (total (filter (λ v. not (p v)) s))
  parted p [] = sym (g.neutral_right neutral g.neutral_in)
  parted p (v ∷ s) = ap (op (lift v)) (parted p s) ∙ elim (p v) as (λ b. op (lift v) (op (total (filter p s)) (total (filter (λ v. not (p v)) s)))
      ≡ op (total (cond b (v ∷ filter p s) (filter p s))) (total (cond (not b) (v ∷ filter (λ v. not (p v)) s) (filter (λ v. not (p v)) s)))) [
        | true ↦ sym (g.associative (lift v) (total (filter p s)) (total (filter (λ v. not (p v)) s)) (lifted v) (total-in (filter p s)) (total-in (filter (λ v. not (p v)) s)))
        | false ↦ swap (lift v) (total (filter p s)) (total (filter (λ v. not (p v)) s)) (lifted v) (total-in (filter p s)) (total-in (filter (λ v. not (p v)) s))
      ]

  undone : (a b : A) → IsMember a → IsMember b → op (op a b) (inverse b) ≡ a
  undone a b m n = g.associative a b (inverse b) m n (g.inverse_in b n) ∙ ap (op a) (g.inverse_right b n) ∙ g.neutral_right a m

  -- the inverse of two members together
  inverse-op : (a b : A) → IsMember a → IsMember b → inverse (op a b) ≡ op (inverse a) (inverse b)
  inverse-op a b m n =
      let i = g.inverse_in (op a b) (g.op_in a b m n) in
      let j = g.inverse_in a m in
      let k = g.inverse_in b n in
      let jk = g.op_in (inverse a) (inverse b) j k in
      let both : op (op a b) (op (inverse a) (inverse b)) ≡ neutral =
      sym (g.associative (op a b) (inverse a) (inverse b) (g.op_in a b m n) j k) ∙ ap (λ d. op d (inverse b)) (swap-right a b (inverse a) m n j ∙ ap (λ d. op d b) (g.inverse_right a m) ∙ neutral_left b n) ∙ g.inverse_right b n in
      sym (neutral_left (inverse (op a b)) i) ∙ ap (λ d. op d (inverse (op a b))) (sym both) ∙ ap (λ d. op d (inverse (op a b))) (g.commutative (op a b) (op (inverse a) (inverse b)) (g.op_in a b m n) jk)
      ∙ undone (op (inverse a) (inverse b)) (op a b) jk (g.op_in a b m n)

  -- the values that both have, read in either
  kept : (s t : List Val) → AreAscending s → AreAscending t → filter (λ v. not (held t v == 0)) s ≡ filter (λ v. not (held s v == 0)) t
  kept s t up_s up_t = same_from_held (filter (λ v. not (held t v == 0)) s) (filter (λ v. not (held s v == 0)) t) (ascending-filter (λ v. not (held t v == 0)) s up_s) (ascending-filter (λ v. not (held s v == 0)) t up_t)
      (λ v. held-filter (λ w. not (held t w == 0)) s v ∙ same (held s v) (held t v) (held-small s v) (held-small t v) ∙ sym (held-filter (λ w. not (held s w == 0)) t v)) where
        same : (m n : ℕ) → m ≤ 1 → n ≤ 1 → (if not (n == 0) then m else 0) ≡ (if not (m == 0) then n else 0)
        same m n a b = grind (arith, nat_tests, a, b)

  both-parts : (s t : List Val) → total s ≡ op (total (filter (λ v. not (held t v == 0)) s)) (total (lacking t s))
  both-parts s t = parted (λ v. held t v == 0) s ∙ g.commutative (total (lacking t s)) (total (filter (λ v. not (held t v == 0)) s)) (total-in (lacking t s)) (total-in (filter (λ v. not (held t v == 0)) s))

  total-change : (s t : List Val) → AreAscending s → AreAscending t → total t ≡ op (op (total s) (inverse (total (lacking t s)))) (total (lacking s t))
  total-change s t up_s up_t =
      both-parts t s ∙ ap (λ (c : List Val). op (total c) (total (lacking s t))) (sym (kept s t up_s up_t))
      ∙ ap (λ d. op d (total (lacking s t))) (sym (undone (total (filter (λ v. not (held t v == 0)) s)) (total (lacking t s)) (total-in (filter (λ v. not (held t v == 0)) s)) (total-in (lacking t s))))
      ∙ ap (λ d. op (op d (inverse (total (lacking t s)))) (total (lacking s t))) (sym (both-parts s t))

  -- The fold of t is that of s, without what t lacks, with what s lacks.
  fold-change-all : (s t : List Val) → AreAscending s → AreAscending t
      → fold_of op neutral lift t ≡ op (op (fold_of op neutral lift s) (inverse (fold_of op neutral lift (lacking t s)))) (fold_of op neutral lift (lacking s t))
  fold-change-all s t up_s up_t =
      fold-total t ∙ total-change s t up_s up_t ∙ sym (λ i. op (op (fold-total s i) (inverse (fold-total (lacking t s) i))) (fold-total (lacking s t) i))

  inverse-neutral : inverse neutral ≡ neutral
  inverse-neutral = sym (neutral_left (inverse neutral) (g.inverse_in neutral g.neutral_in)) ∙ g.inverse_right neutral g.neutral_in

  -- corrected value by value along any list
  along : (s t : List Val) (a : A) → IsMember a → (vs : List Val)
      → fold (corrected op inverse lift s t) a vs
      ≡ op (op a (inverse (total (filter (λ v. (held t v == 0) && not (held s v == 0)) vs)))) (total (filter (λ v. (held s v == 0) && not (held t v == 0)) vs))
  along s t a m [] = sym (g.neutral_right (op a (inverse neutral)) (g.op_in a (inverse neutral) m (g.inverse_in neutral g.neutral_in)) ∙ ap (op a) inverse-neutral ∙ g.neutral_right a m)
  along s t a m (v ∷ vs) =
      ap (λ (b : Bool). fold (corrected op inverse lift s t) (if b then a else (if held s v == 0 then op a (lift v) else op a (inverse (lift v)))) vs) (alike (held s v) (held t v) (held-small s v) (held-small t v))
      ∙ by_tests (λ b n. along s t b n vs) (held s v == 0) (held t v == 0) where
        alike : (k n : ℕ) → k ≤ 1 → n ≤ 1 → (k == n) ≡ (if k == 0 then n == 0 else not (n == 0))
        alike k n p q = grind (arith, nat_tests, p, q)

        by_tests : ((b : A) → IsMember b → fold (corrected op inverse lift s t) b vs
            ≡ op (op b (inverse (total (filter (λ v. (held t v == 0) && not (held s v == 0)) vs)))) (total (filter (λ v. (held s v == 0) && not (held t v == 0)) vs)))
            → (hs ht : Bool)
            → fold (corrected op inverse lift s t) (if (if hs then ht else not ht) then a else (if hs then op a (lift v) else op a (inverse (lift v)))) vs
            ≡ op (op a (inverse (total (cond (ht && not hs) (v ∷ filter (λ v. (held t v == 0) && not (held s v == 0)) vs) (filter (λ v. (held t v == 0) && not (held s v == 0)) vs)))))
            (total (cond (hs && not ht) (v ∷ filter (λ v. (held s v == 0) && not (held t v == 0)) vs) (filter (λ v. (held s v == 0) && not (held t v == 0)) vs)))
        by_tests rest true true = rest a m
        by_tests rest false false = rest a m
        by_tests rest true false =
            let gone = filter (λ v. (held t v == 0) && not (held s v == 0)) vs in
            let fresh = filter (λ v. (held s v == 0) && not (held t v == 0)) vs in
            let i = g.inverse_in (total gone) (total-in gone) in
            rest (op a (lift v)) (g.op_in a (lift v) m (lifted v)) ∙ ap (λ d. op d (total fresh)) (swap-right a (lift v) (inverse (total gone)) m (lifted v) i)
            ∙ g.associative (op a (inverse (total gone))) (lift v) (total fresh) (g.op_in a (inverse (total gone)) m i) (lifted v) (total-in fresh)
        by_tests rest false true =
            let gone = filter (λ v. (held t v == 0) && not (held s v == 0)) vs in
            let fresh = filter (λ v. (held s v == 0) && not (held t v == 0)) vs in
            let i = g.inverse_in (total gone) (total-in gone) in
            let j = g.inverse_in (lift v) (lifted v) in
            rest (op a (inverse (lift v))) (g.op_in a (inverse (lift v)) m j) ∙ ap (λ d. op d (total fresh))
            (g.associative a (inverse (lift v)) (inverse (total gone)) m j i ∙ ap (op a) (sym (inverse-op (lift v) (total gone) (lifted v) (total-in gone))))

  -- a list with every value that only one of the two has, filtered to those, is what the one has and the other lacks
  only-there : (s t vs : List Val) → AreAscending s → AreAscending vs → ((v : Val) → held s v ≢ held t v → IsHeld vs v) → filter (λ v. (held t v == 0) && not (held s v == 0)) vs ≡ lacking t s
  only-there s t vs up_s up_vs all =
      same_from_held (filter (λ v. (held t v == 0) && not (held s v == 0)) vs) (lacking t s) (ascending-filter (λ v. (held t v == 0) && not (held s v == 0)) vs up_vs) (ascending-filter (λ v. held t v == 0) s up_s)
      (λ v. held-filter (λ w. (held t w == 0) && not (held s w == 0)) vs v ∙ same (held s v) (held t v) (held vs v) (held-small s v) (held-small t v) (all v) (held s v == held t v) refl ∙ sym (held-filter (λ w. held t w == 0) s v)) where
        same : (m n k : ℕ) → m ≤ 1 → n ≤ 1 → (m ≢ n → k ≡ 1) → (b : Bool) → (m == n) ≡ b → (if (n == 0) && not (m == 0) then k else 0) ≡ (if n == 0 then m else 0)
        same m n k p q h true e = grind (arith, nat_tests, p, q, e)
        same m n k p q h false e = let one : k ≡ 1 = h (grind (arith, nat_tests, e)) in grind (arith, nat_tests, p, q, e, one)

  -- A fold corrected along an ascending list that has every value that only one of the two sets has.
  fold-corrected-all : (s t vs : List Val) → AreAscending s → AreAscending t → AreAscending vs → ((v : Val) → held s v ≢ held t v → IsHeld vs v)
      → fold (corrected op inverse lift s t) (fold_of op neutral lift s) vs ≡ fold_of op neutral lift t
  fold-corrected-all s t vs up_s up_t up_vs all =
      along s t (fold_of op neutral lift s) (fold-in s) vs
      ∙ (λ i. op (op (fold_of op neutral lift s) (inverse (total (only-there s t vs up_s up_vs all i)))) (total (only-there t s vs up_t up_vs (λ v e. all v (λ h. e (sym h))) i)))
      ∙ (λ i. op (op (fold-total s i) (inverse (total (lacking t s)))) (total (lacking s t))) ∙ sym (fold-total t ∙ total-change s t up_s up_t)

-- Where the lifts of the values concerned are members: any other lift counts for nothing, so the neutral element may stand in its place.
module _ {A : Type 0} {member : A → Bool} {op : A → A → A} {neutral : A} {inverse : A → A} (g : IsFoldGroup member op neutral inverse) (lift : Val → A) where
  abbrev tame : Val → A
  tame v = if member (lift v) then lift v else neutral

  tame-in : (v : Val) → IsTrue (member (tame v))
  tame-in v = choose (member (lift v)) refl where
    choose : (b : Bool) → member (lift v) ≡ b → IsTrue (member (if b then lift v else neutral))
    choose true e = e
    choose false e = g.neutral_in

  same-lift : (v : Val) → IsTrue (member (lift v)) → lift v ≡ tame v
  same-lift v m = sym (ap (λ b. if b then lift v else neutral) m)

  fold-tame : (a : A) (s : List Val) → AreLifted member lift s → fold (λ b v. op b (lift v)) a s ≡ fold (λ b v. op b (tame v)) a s
  fold-tame a [] h = refl
  fold-tame a (v ∷ s) h =
      fold-tame (op a (lift v)) s (λ w k. h w (omega (arith, k, held-small (v ∷ s) w)))
      ∙ ap (λ b. fold (λ c w. op c (tame w)) (op a b) s) (same-lift v (h v (omega (arith, held-here v, held-small s v))))

  corrected-tame : (s t : List Val) → AreLifted member lift s → AreLifted member lift t → (a : A) (v : Val) → corrected op inverse lift s t a v ≡ corrected op inverse tame s t a v
  corrected-tame s t hs ht a v = choose (held s v == held t v) refl where
    choose : (b : Bool) → (held s v == held t v) ≡ b
        → (if b then a else (if held s v == 0 then op a (lift v) else op a (inverse (lift v)))) ≡ (if b then a else (if held s v == 0 then op a (tame v) else op a (inverse (tame v))))
    choose true e = refl
    choose false e = ap (λ b. if held s v == 0 then op a b else op a (inverse b)) (same-lift v (either (held s v == 1) refl)) where
      either : (b : Bool) → (held s v == 1) ≡ b → IsTrue (member (lift v))
      either true k = hs v (grind (arith, nat_tests, k))
      either false k = ht v (grind (arith, nat_tests, k, e, held-small s v, held-small t v))

  along-tame : (s t : List Val) → AreLifted member lift s → AreLifted member lift t → (a : A) (vs : List Val) → fold (corrected op inverse lift s t) a vs ≡ fold (corrected op inverse tame s t) a vs
  along-tame s t hs ht a [] = refl
  along-tame s t hs ht a (v ∷ vs) =
      along-tame s t hs ht (corrected op inverse lift s t a v) vs ∙ ap (λ b. fold (corrected op inverse tame s t) b vs) (corrected-tame s t hs ht a v)

  lifted-lacking : (s t : List Val) → AreLifted member lift t → AreLifted member lift (lacking s t)
  lifted-lacking s t h v k = h v ((IsHeld-filter (λ w. held s w == 0) t v).0 k).1

  -- The fold of t is that of s, without what t lacks, with what s lacks.
  pub fold-change : (s t : List Val) → AreLifted member lift s → AreLifted member lift t → AreAscending s → AreAscending t
      → fold_of op neutral lift t ≡ op (op (fold_of op neutral lift s) (inverse (fold_of op neutral lift (lacking t s)))) (fold_of op neutral lift (lacking s t))
  fold-change s t hs ht up_s up_t =
      fold-tame neutral t ht ∙ fold-change-all g tame tame-in s t up_s up_t
      ∙ sym (λ i. op (op (fold-tame neutral s hs i) (inverse (fold-tame neutral (lacking t s) (lifted-lacking t s hs) i))) (fold-tame neutral (lacking s t) (lifted-lacking s t ht) i))

  -- A fold corrected along an ascending list that has every value that only one of the two sets has.
  pub fold-corrected : (s t vs : List Val) → AreLifted member lift s → AreLifted member lift t → AreAscending s → AreAscending t → AreAscending vs → ((v : Val) → held s v ≢ held t v → IsHeld vs v)
      → fold (corrected op inverse lift s t) (fold_of op neutral lift s) vs ≡ fold_of op neutral lift t
  fold-corrected s t vs hs ht up_s up_t up_vs all =
      along-tame s t hs ht (fold_of op neutral lift s) vs ∙ ap (λ a. fold (corrected op inverse tame s t) a vs) (fold-tame neutral s hs)
      ∙ fold-corrected-all g tame tame-in s t vs up_s up_t up_vs all ∙ sym (fold-tame neutral t ht)

  -- The fold of a set state that grew, corrected along the values of its changed rows alone.
  pub fold-rows : (s t : List Row) → AreLifted member lift (visible s) → AreLifted member lift (visible t) → IsAscending s → IsAscending t → IsAtMost s t
      → fold (corrected op inverse lift (visible s) (visible t)) (fold_set op neutral lift s) (row_values (changed s t)) ≡ fold_set op neutral lift t
  fold-rows s t hs ht up_s up_t h =
      fold-corrected (visible s) (visible t) (row_values (changed s t)) hs ht (ascending-visible s) (ascending-visible t) (ascending-of_values (map (λ r. r.0.0) (changed s t))) (changed-values s t up_s up_t h)
