-- What comes of applying a delta, cause by cause.
use Rattle.std.proofs.Common.{◌≡◌, ℕ, zero, suc, ◌+◌, ◌≤◌, ◌<◌, ◌↔◌, Bool, true, false, if◌then◌else◌, nat_lt, List, [], ◌∷◌, Option, Some, None, Result, Ok, Err, refl, sym, ap, subst, ◌∙◌, arith, add-zero, zero-add}
use Rattle.std.proofs.lemmas.Bool.Decides.{nat_tests}
use Rattle.model_states.specs.Counts.{count_at, AreCountsAtMost}
use Rattle.model_graph.specs.Evaluation.{first_large}
use Rattle.model_graph.specs.Limit.{AreWithinLimit, IsFirstLarge}
use Rattle.model_graph.proofs.LimitLaws.{large-words, small-words}
use Rattle.model_graph.specs.Message.{Message}
use Rattle.model_deltas.specs.Delta.{Delta, carried}
use Rattle.model_deltas.specs.Applied.{Cause, Gap, TooManyRows, first_gap, IsFirstGap, joined, contents_of, small_or, limited, unless, applied}
use Rattle.model_world.proofs.StopLaws.{shifted}

-- ---- gaps, from replica q on

-- no replica has one
abbrev pub HasNone : ℕ → List ℕ → List ℕ → Type 0
HasNone q counts from = (j : ℕ) → count_at from j ≤ count_at counts (q + j)

-- replica q + i is the first that has one
pub record IsFound (q : ℕ) (counts from : List ℕ) (i : ℕ) : Type 0 where
  pub short : count_at counts (q + i) < count_at from i
  pub before : (j : ℕ) → j < i → count_at from j ≤ count_at counts (q + j)

abbrev gap_at : ℕ → List ℕ → List ℕ → ℕ → Cause
gap_at q counts from i = Gap (q + i) (count_at counts (q + i)) (count_at from i)

none-later : (q need : ℕ) (counts from : List ℕ) → need ≤ count_at counts q → HasNone (q + 1) counts from → HasNone q counts (need ∷ from)
none-later q need counts from small rest zero = subst (λ (n : ℕ). need ≤ count_at counts n) (sym (add-zero q)) small
none-later q need counts from small rest (suc j) = subst (λ (n : ℕ). count_at from j ≤ count_at counts n) (shifted q j) (rest j)

found-later : (q need : ℕ) (counts from : List ℕ) (i : ℕ) → need ≤ count_at counts q → IsFound (q + 1) counts from i → IsFound q counts (need ∷ from) (suc i)
found-later q need counts from i small rest = record { short = subst (λ (n : ℕ). count_at counts n < count_at from i) (shifted q i) rest.short; before = before } where
  before : (j : ℕ) → j < suc i → count_at (need ∷ from) j ≤ count_at counts (q + j)
  before zero low = subst (λ (n : ℕ). need ≤ count_at counts n) (sym (add-zero q)) small
  before (suc j) low = subst (λ (n : ℕ). count_at from j ≤ count_at counts n) (shifted q j) (rest.before j (omega (arith, low)))

gap-found : (q : ℕ) (counts from : List ℕ) (cause : Cause) → first_gap q counts from ≡ Some cause → (i : ℕ) × (cause ≡ gap_at q counts from i) × IsFound q counts from i
gap-found q counts [] cause e = absurd cc
gap-found q counts (need ∷ from) cause e = choose (λ h. gap-found (q + 1) counts from cause h) (nat_lt (count_at counts q) need) refl e where
  Found : Type 0
  Found = (i : ℕ) × (cause ≡ gap_at q counts (need ∷ from) i) × IsFound q counts (need ∷ from) i

  choose : (first_gap (q + 1) counts from ≡ Some cause → (i : ℕ) × (cause ≡ gap_at (q + 1) counts from i) × IsFound (q + 1) counts from i) → (b : Bool) → nat_lt (count_at counts q) need ≡ b
      → (if b then Some (Gap q (count_at counts q) need) else first_gap (q + 1) counts from) ≡ Some cause → Found
  choose later true t h =
      let same : cause ≡ Gap q (count_at counts q) need = cc in
      let short : count_at counts q < need = grind (arith, nat_tests, t) in
      (0, same ∙ ap (λ (n : ℕ). Gap n (count_at counts n) need) (sym (add-zero q)), record { short = subst (λ (n : ℕ). count_at counts n < need) (sym (add-zero q)) short; before = λ j low. absurd (omega (arith, low)) })
  choose later false t h =
      let found = later h in
      let small : need ≤ count_at counts q = grind (arith, nat_tests, t) in
      (suc found.0, found.1 ∙ ap (λ (n : ℕ). Gap n (count_at counts n) (count_at from found.0)) (shifted q found.0), found-later q need counts from found.0 small found.2)

gap-is : (q : ℕ) (counts from : List ℕ) (i : ℕ) → IsFound q counts from i → first_gap q counts from ≡ Some (gap_at q counts from i)
gap-is q counts [] zero found = absurd (let short = found.short in omega (arith, short))
gap-is q counts [] (suc i) found = absurd (let short = found.short in omega (arith, short))
gap-is q counts (need ∷ from) zero found =
    let short : count_at counts q < need = subst (λ (n : ℕ). count_at counts n < need) (add-zero q) found.short in
    let test : nat_lt (count_at counts q) need ≡ true = grind (arith, nat_tests, short) in
    ap (λ (b : Bool). if b then Some (Gap q (count_at counts q) need) else first_gap (q + 1) counts from) test ∙ ap (λ (n : ℕ). Some (Gap n (count_at counts n) need)) (sym (add-zero q))
gap-is q counts (need ∷ from) (suc i) found =
    let small : need ≤ count_at counts q = subst (λ (n : ℕ). need ≤ count_at counts n) (add-zero q) (found.before 0 (omega arith)) in
    let test : nat_lt (count_at counts q) need ≡ false = grind (arith, nat_tests, small) in
    ap (λ (b : Bool). if b then Some (Gap q (count_at counts q) need) else first_gap (q + 1) counts from) test
    ∙ gap-is (q + 1) counts from i (record {
      short = subst (λ (n : ℕ). count_at counts n < count_at from i) (sym (shifted q i)) found.short;
      before = λ j low. subst (λ (n : ℕ). count_at from j ≤ count_at counts n) (sym (shifted q j)) (found.before (suc j) (omega (arith, low)));
    }) ∙ ap (λ (n : ℕ). Some (Gap n (count_at counts n) (count_at from i))) (shifted q i)

none-found : (q : ℕ) (counts from : List ℕ) → first_gap q counts from ≡ None → HasNone q counts from
none-found q counts [] e zero = omega arith
none-found q counts [] e (suc j) = omega arith
none-found q counts (need ∷ from) e j = choose (λ h. none-found (q + 1) counts from h) (nat_lt (count_at counts q) need) refl e j where
  choose : (first_gap (q + 1) counts from ≡ None → HasNone (q + 1) counts from) → (b : Bool) → nat_lt (count_at counts q) need ≡ b
      → (if b then Some (Gap q (count_at counts q) need) else first_gap (q + 1) counts from) ≡ None → HasNone q counts (need ∷ from)
  choose later true t h = absurd cc
  choose later false t h = none-later q need counts from (grind (arith, nat_tests, t)) (later h)

none-is : (q : ℕ) (counts from : List ℕ) → HasNone q counts from → first_gap q counts from ≡ None
none-is q counts [] none = refl
none-is q counts (need ∷ from) none =
    let small : need ≤ count_at counts q = subst (λ (n : ℕ). need ≤ count_at counts n) (add-zero q) (none 0) in
    let test : nat_lt (count_at counts q) need ≡ false = grind (arith, nat_tests, small) in
    ap (λ (b : Bool). if b then Some (Gap q (count_at counts q) need) else first_gap (q + 1) counts from) test
    ∙ none-is (q + 1) counts from (λ j. subst (λ (n : ℕ). count_at from j ≤ count_at counts n) (sym (shifted q j)) (none (suc j)))

-- no count is below one that is needed
pub no-gap : (counts from : List ℕ) → first_gap 0 counts from ≡ None ↔ AreCountsAtMost from counts
no-gap counts from = (
  λ e j. subst (λ (n : ℕ). count_at from j ≤ count_at counts n) (zero-add j) (none-found 0 counts from e j),
  λ h. none-is 0 counts from (λ j. subst (λ (n : ℕ). count_at from j ≤ count_at counts n) (sym (zero-add j)) (h j)),
)

pub gap-words : (counts from : List ℕ) (q have need : ℕ) → first_gap 0 counts from ≡ Some (Gap q have need) ↔ IsFirstGap counts from q have need
gap-words counts from q have need = (forth, back) where
  parts : (i : ℕ) → Gap q have need ≡ gap_at 0 counts from i → (i ≡ q) × (count_at counts i ≡ have) × (count_at from i ≡ need)
  parts i e = plain (subst (λ (n : ℕ). Gap q have need ≡ Gap n (count_at counts n) (count_at from i)) (zero-add i) e) where
    plain : Gap q have need ≡ Gap i (count_at counts i) (count_at from i) → (i ≡ q) × (count_at counts i ≡ have) × (count_at from i ≡ need)
    plain e = (cc, cc, cc)

  forth : first_gap 0 counts from ≡ Some (Gap q have need) → IsFirstGap counts from q have need
  forth e =
      let found = gap-found 0 counts from (Gap q have need) e in
      let p = parts found.0 found.1 in
      let short : count_at counts found.0 < count_at from found.0 = subst (λ (n : ℕ). count_at counts n < count_at from found.0) (zero-add found.0) found.2.short in
      subst (λ (n : ℕ). IsFirstGap counts from n have need) p.0
      (record { has = p.1; needs = p.2; short = omega (arith, short, p.1, p.2); before = λ j low. subst (λ (n : ℕ). count_at from j ≤ count_at counts n) (zero-add j) (found.2.before j low) })

  back : IsFirstGap counts from q have need → first_gap 0 counts from ≡ Some (Gap q have need)
  back h =
      let short : count_at counts q < count_at from q = (let s = h.short in omega (arith, s, h.has, h.needs)) in
      gap-is 0 counts from q (record { short = subst (λ (n : ℕ). count_at counts n < count_at from q) (sym (zero-add q)) short; before = λ j low. subst (λ (n : ℕ). count_at from j ≤ count_at counts n) (sym (zero-add j)) (h.before j low) })
      ∙ ap (λ (n : ℕ). Some (Gap n (count_at counts n) (count_at from q))) (zero-add q) ∙ (λ i. Some (Gap q (h.has i) (h.needs i)))

-- ---- the causes

module _ (m : Message) (d : Delta) where
  abbrev all : Message
  all = joined m (carried d)

  abbrev large-or : Option ℕ → Result Message Cause
  large-or o = small_or all o

  gap-cause : (o : Option Cause) (q have need : ℕ) → unless o (limited all) ≡ Err (Gap q have need) → o ≡ Some (Gap q have need)
  gap-cause (Some cause) q have need e = cc
  gap-cause None q have need e = no-large (first_large 0 (contents_of all)) e where
    no-large : (o : Option ℕ) → small_or all o ≡ Err (Gap q have need) → None ≡ Some (Gap q have need)
    no-large None e = absurd cc
    no-large (Some i) e = absurd cc

  pub causes-gap : (q have need : ℕ) → applied m d ≡ Err (Gap q have need) ↔ IsFirstGap m.counts d.from q have need
  causes-gap q have need = (
    λ e. (gap-words m.counts d.from q have need).0 (gap-cause (first_gap 0 m.counts d.from) q have need e),
    λ h. ap (λ (o : Option Cause). unless o (limited all)) ((gap-words m.counts d.from q have need).1 h),
  )

  -- a gap that was found is of no other cause
  is-gap : (cause : Cause) → first_gap 0 m.counts d.from ≡ Some cause → (i : ℕ) × (cause ≡ gap_at 0 m.counts d.from i)
  is-gap cause e = let found = gap-found 0 m.counts d.from cause e in (found.0, found.1)

  large-cause : (o : Option Cause) (i : ℕ) → first_gap 0 m.counts d.from ≡ o → unless o (limited all) ≡ Err (TooManyRows i) → (first_gap 0 m.counts d.from ≡ None) × (limited all ≡ Err (TooManyRows i))
  large-cause None i f e = (f, e)
  large-cause (Some cause) i f e = absurd (differ (is-gap cause f)) where
    differ : (i : ℕ) × (cause ≡ gap_at 0 m.counts d.from i) → ⊥
    differ p = let same : cause ≡ gap_at 0 m.counts d.from p.0 = p.1 in absurd cc

  large-is : (o : Option ℕ) (i : ℕ) → small_or all o ≡ Err (TooManyRows i) → o ≡ Some i
  large-is None i e = absurd cc
  large-is (Some j) i e = cc

  pub causes-large : (i : ℕ) → applied m d ≡ Err (TooManyRows i) ↔ (AreCountsAtMost d.from m.counts × IsFirstLarge (contents_of (joined m (carried d))) i)
  causes-large i = (forth, back) where
    forth : applied m d ≡ Err (TooManyRows i) → AreCountsAtMost d.from m.counts × IsFirstLarge (contents_of (joined m (carried d))) i
    forth e =
        let p = large-cause (first_gap 0 m.counts d.from) i refl e in
        ((no-gap m.counts d.from).0 p.0, (large-words (contents_of all) i).0 (large-is (first_large 0 (contents_of all)) i p.1))

    back : AreCountsAtMost d.from m.counts × IsFirstLarge (contents_of (joined m (carried d))) i → applied m d ≡ Err (TooManyRows i)
    back h = ap (λ (o : Option Cause). unless o (limited all)) ((no-gap m.counts d.from).1 h.0) ∙ ap large-or ((large-words (contents_of all) i).1 h.1)

  done-cause : (o : Option Cause) (n : Message) → unless o (limited all) ≡ Ok n → (o ≡ None) × (limited all ≡ Ok n)
  done-cause None n e = (refl, e)
  done-cause (Some cause) n e = absurd cc

  done-is : (o : Option ℕ) (n : Message) → small_or all o ≡ Ok n → (o ≡ None) × (all ≡ n)
  done-is None n e = (refl, cc)
  done-is (Some i) n e = absurd cc

  pub causes-done : (n : Message) → applied m d ≡ Ok n ↔ (AreCountsAtMost d.from m.counts × AreWithinLimit (contents_of (joined m (carried d))) × (joined m (carried d) ≡ n))
  causes-done n = (forth, back) where
    forth : applied m d ≡ Ok n → AreCountsAtMost d.from m.counts × AreWithinLimit (contents_of (joined m (carried d))) × (joined m (carried d) ≡ n)
    forth e =
        let p = done-cause (first_gap 0 m.counts d.from) n e in
        let r = done-is (first_large 0 (contents_of all)) n p.1 in
        ((no-gap m.counts d.from).0 p.0, (small-words (contents_of all)).0 r.0, r.1)

    back : AreCountsAtMost d.from m.counts × AreWithinLimit (contents_of (joined m (carried d))) × (joined m (carried d) ≡ n) → applied m d ≡ Ok n
    back h = ap (λ (o : Option Cause). unless o (limited all)) ((no-gap m.counts d.from).1 h.0) ∙ ap large-or ((small-words (contents_of all)).1 h.1) ∙ ap (λ (x : Message). Ok x) h.2

pub cause-gap : (m : Message) (d : Delta) (q have need : ℕ) → applied m d ≡ Err (Gap q have need) ↔ IsFirstGap m.counts d.from q have need
cause-gap m d = causes-gap m d

pub cause-large : (m : Message) (d : Delta) (i : ℕ) → applied m d ≡ Err (TooManyRows i) ↔ (AreCountsAtMost d.from m.counts × IsFirstLarge (contents_of (joined m (carried d))) i)
cause-large m d = causes-large m d

pub cause-done : (m n : Message) (d : Delta) → applied m d ≡ Ok n ↔ (AreCountsAtMost d.from m.counts × AreWithinLimit (contents_of (joined m (carried d))) × (joined m (carried d) ≡ n))
cause-done m n d = causes-done m d n
