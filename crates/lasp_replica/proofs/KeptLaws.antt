-- What the looks at single growths tell of all, since they ascend.
use Rattle.std.proofs.Common.{◌≡◌, ℕ, zero, suc, ◌+◌, ◌-◌, ◌≤◌, ◌<◌, max, Bool, true, false, if◌then◌else◌, nat_lt, IsTrue, List, [], ◌∷◌, ◌++◌, length, take, drop, append-nil, append_assoc, ◌==◌, slice_index_or, slice_get, Option, Some, None, Result, Ok, Err, IsOk, is_ok, ◌↔◌, refl, sym, ap, subst, ◌∙◌, arith}
use Rattle.std.proofs.lemmas.Bool.Decides.{nat_tests}
use Rattle.std.proofs.lemmas.List.{drop_all, length-drop, take_all}
use Rattle.std.proofs.Math.Seq.{take-append_seam, take-append-add, drop-append_seam, drop-append-add}
use Rattle.model_values.specs.Row.{Row}
use Rattle.model_sets.specs.Rows.{IsAscending, of_rows, join}
use Rattle.model_sets.specs.Rises.{AreApart}
use Rattle.model_sets.proofs.RowLaws.{of_rows-ascending}
use Rattle.model_sets.proofs.RiseLaws.{ascending-apart, join-parts}
use Rattle.model_graph.proofs.PlaceLaws.{length-append}
use Rattle.lasp_replica.specs.History.{Growth, History, grown, version_before, rows_before, AreBelow, AscendFrom, AreSound}
use Rattle.lasp_replica.specs.Kept.{growth, CoversFirst}
use Rattle.lasp_replica.proofs.GrowthLaws.{version-below, ascend-push}

drop-none : {A : Type 0} (xs : List A) → drop 0 xs ≡ xs
drop-none [] = refl
drop-none (x ∷ xs) = refl

ascend-at : (free rows : ℕ) (gs : List Growth) (all i : ℕ) (g : Growth) → AscendFrom free rows gs all → i < length gs → g ≡ slice_index_or gs i g → (free ≤ g.entry) × (rows ≤ g.rows)
ascend-at free rows [] all i g up h is = absurd (omega (arith, h))
ascend-at free rows (f ∷ gs) all zero g up h is =
    let entries : g.entry ≡ f.entry = ap (λ (x : Growth). x.entry) is in
    let counts : g.rows ≡ f.rows = ap (λ (x : Growth). x.rows) is in
    (omega (arith, entries, up.0), omega (arith, counts, up.1))
ascend-at free rows (f ∷ gs) all (suc i) g up h is =
    let later = ascend-at (f.entry + 1) f.rows gs all i g up.2 (omega (arith, h)) is in
    (omega (arith, later.0, up.0), omega (arith, later.1, up.1))

below-at : (n : ℕ) (gs : List Growth) (i : ℕ) (g : Growth) → AreBelow n gs → i < length gs → g ≡ slice_index_or gs i g → g.entry < n
below-at n [] i g b h is = absurd (omega (arith, h))
below-at n (f ∷ gs) zero g b h is = let entries : g.entry ≡ f.entry = ap (λ (x : Growth). x.entry) is in omega (arith, entries, b.0)
below-at n (f ∷ gs) (suc i) g b h is = below-at n gs i g b.1 (omega (arith, h)) is

-- ---- a walk back from the end

version-else : (n : ℕ) (g : Growth) (gs : List Growth) → n ≤ g.entry → version_before (g ∷ gs) n ≡ version_before gs n
version-else n g gs h = choose (nat_lt g.entry n) refl where
  choose : (b : Bool) → nat_lt g.entry n ≡ b → (if b then version_before gs n + 1 else version_before gs n) ≡ version_before gs n
  choose true e = absurd (grind (arith, nat_tests, e, h))
  choose false e = refl

version-one : (n : ℕ) (g : Growth) (gs : List Growth) → g.entry < n → version_before (g ∷ gs) n ≡ version_before gs n + 1
version-one n g gs h = choose (nat_lt g.entry n) refl where
  choose : (b : Bool) → nat_lt g.entry n ≡ b → (if b then version_before gs n + 1 else version_before gs n) ≡ version_before gs n + 1
  choose true e = refl
  choose false e = absurd (grind (arith, nat_tests, e, h))

back-at : (n i : ℕ) (gs : List Growth) (g : Growth) → i < length gs → g ≡ slice_index_or gs i g → n ≤ g.entry → version_before (drop (suc i) gs) n ≡ 0 → version_before (drop i gs) n ≡ 0
back-at n i [] g h is late none = absurd (omega (arith, h))
back-at n zero (f ∷ gs) g h is late none =
    let entries : g.entry ≡ f.entry = ap (λ (x : Growth). x.entry) is in
    version-else n f gs (omega (arith, entries, late)) ∙ ap (λ (hs : List Growth). version_before hs n) (sym (drop-none gs)) ∙ none
back-at n (suc i) (f ∷ gs) g h is late none = back-at n i gs g (omega (arith, h)) is late none

stop-at : (n i free rows : ℕ) (gs : List Growth) (all : ℕ) (g : Growth) → AscendFrom free rows gs all → i < length gs → g ≡ slice_index_or gs i g → g.entry < n → version_before (drop (suc i) gs) n ≡ 0 → version_before gs n ≡ suc i
stop-at n i free rows [] all g up h is early none = absurd (omega (arith, h))
stop-at n zero free rows (f ∷ gs) all g up h is early none =
    let entries : g.entry ≡ f.entry = ap (λ (x : Growth). x.entry) is in
    let after : version_before gs n ≡ 0 = ap (λ (hs : List Growth). version_before hs n) (sym (drop-none gs)) ∙ none in
    version-one n f gs (omega (arith, entries, early)) ∙ omega (arith, after)
stop-at n (suc i) free rows (f ∷ gs) all g up h is early none =
    let later = (ascend-at (f.entry + 1) f.rows gs all i g up.2 (omega (arith, h)) is).0 in
    version-one n f gs (omega (arith, later, early)) ∙ omega (arith, stop-at n i (f.entry + 1) f.rows gs all g up.2 (omega (arith, h)) is early none)

-- a growth before the entry: it and those before it count
pub walk-stop : (n count : ℕ) (log : List Row) (gs : List Growth) (g : Growth) → AreSound log gs → 0 < count → count ≤ length gs → g ≡ slice_index_or gs (count - 1) g → g.entry < n → version_before (drop count gs) n ≡ 0 → version_before gs n ≡ count
walk-stop n zero log gs g up some small is early none = absurd (omega (arith, some))
walk-stop n (suc i) log gs g up some small is early none =
    let back : suc i - 1 ≡ i = omega arith in
    stop-at n i 0 0 gs (length log) g up (omega (arith, small)) (subst (λ (j : ℕ). g ≡ slice_index_or gs j g) back is) early none

-- before the walk
pub walk-begin : (n count : ℕ) (gs : List Growth) → count ≡ length gs → version_before (drop count gs) n ≡ 0
walk-begin n count gs e = ap (λ (i : ℕ). version_before (drop i gs) n) e ∙ ap (λ (hs : List Growth). version_before hs n) (drop_all (length gs) gs (omega arith))

-- ---- the last growth

-- an element that a look found
abbrev option_or : {A : Type 0} → A → Option A → A
option_or x None = x
option_or x (Some y) = y

found-at : {A : Type 0} (xs : List A) (i : ℕ) (x : A) → Some x ≡ slice_get xs i → (i < length xs) × (x ≡ slice_index_or xs i x)
found-at [] i x e = cc
found-at (y ∷ xs) zero x e = (omega arith, ap (option_or x) e)
found-at (y ∷ xs) (suc i) x e = let later = found-at xs i x e in (omega (arith, later.0), later.1)

last-test : (n : ℕ) (log : List Row) (gs : List Growth) (g : Growth) → AreSound log gs → 0 < length gs → g ≡ slice_index_or gs (length gs - 1) g → IsTrue (nat_lt g.entry n) ↔ (version_before gs n ≡ length gs)
last-test n log gs g up some is = (
  λ e. let early : g.entry < n = grind (arith, nat_tests, e) in
      walk-stop n (length gs) log gs g up some (omega arith) is early (walk-begin n (length gs) gs refl),
  λ e. let early = below-at n gs (length gs - 1) g (version-below n gs e) (omega (arith, some)) is in
      grind (arith, nat_tests, early),
)

pub last-tells : (n : ℕ) (log : List Row) (gs : List Growth) (g : Growth) → AreSound log gs → Some g ≡ slice_get gs (length gs - 1) → IsTrue (nat_lt g.entry n) ↔ (version_before gs n ≡ length gs)
last-tells n log gs g up e = let found = found-at gs (length gs - 1) g e in last-test n log gs g up (omega (arith, found.0)) found.1

-- ---- the rows at a growth

version-late : (n free rows : ℕ) (gs : List Growth) (all : ℕ) → AscendFrom free rows gs all → n ≤ free → version_before gs n ≡ 0
version-late n free rows [] all up h = refl
version-late n free rows (f ∷ gs) all up h = version-else n f gs (omega (arith, up.0, h)) ∙ version-late n (f.entry + 1) f.rows gs all up.2 (omega (arith, up.0, h))

pub rows-none : (n : ℕ) (gs : List Growth) → version_before gs n ≡ 0 → rows_before gs n ≡ 0
rows-none n [] e = refl
rows-none n (g ∷ gs) e = choose (nat_lt g.entry n) (λ later. rows-none n gs later) e where
  choose : (b : Bool) → (version_before gs n ≡ 0 → rows_before gs n ≡ 0) → (if b then version_before gs n + 1 else version_before gs n) ≡ 0 → (if b then max g.rows (rows_before gs n) else rows_before gs n) ≡ 0
  choose true rest e = absurd (omega (arith, e))
  choose false rest e = rest e

rows-place : (n i free rows : ℕ) (gs : List Growth) (all : ℕ) (g : Growth) → AscendFrom free rows gs all → version_before gs n ≡ suc i → i < length gs → g ≡ slice_index_or gs i g → rows_before gs n ≡ g.rows
rows-place n i free rows [] all g up e h is = absurd (omega (arith, h))
rows-place n i free rows (f ∷ gs) all g up e h is = choose (nat_lt f.entry n) refl i e h is (λ j later low at. rows-place n j (f.entry + 1) f.rows gs all g up.2 later low at) where
  choose : (b : Bool) → nat_lt f.entry n ≡ b → (i : ℕ) → (if b then version_before gs n + 1 else version_before gs n) ≡ suc i → i < length (f ∷ gs) → g ≡ slice_index_or (f ∷ gs) i g
      → ((j : ℕ) → version_before gs n ≡ suc j → j < length gs → g ≡ slice_index_or gs j g → rows_before gs n ≡ g.rows)
      → (if b then max f.rows (rows_before gs n) else rows_before gs n) ≡ g.rows
  choose true t zero e h is rest =
      let counts : g.rows ≡ f.rows = ap (λ (x : Growth). x.rows) is in
      omega (arith, counts, rows-none n gs (omega (arith, e)))
  choose true t (suc j) e h is rest =
      let least = (ascend-at (f.entry + 1) f.rows gs all j g up.2 (omega (arith, h)) is).1 in
      omega (arith, least, rest j (omega (arith, e)) (omega (arith, h)) is)
  choose false t i e h is rest =
      let late : n ≤ f.entry = grind (arith, nat_tests, t) in
      absurd (omega (arith, e, version-late n (f.entry + 1) f.rows gs all up.2 (omega (arith, late))))

pub rows-at : (n count : ℕ) (log : List Row) (gs : List Growth) (g : Growth) → AreSound log gs → 0 < count → count ≡ version_before gs n → count ≤ length gs → g ≡ slice_index_or gs (count - 1) g → rows_before gs n ≡ g.rows
rows-at n zero log gs g up some e small is = absurd (omega (arith, some))
rows-at n (suc i) log gs g up some e small is =
    let back : suc i - 1 ≡ i = omega arith in
    rows-place n i 0 0 gs (length log) g up (sym e) (omega (arith, small)) (subst (λ (j : ℕ). g ≡ slice_index_or gs j g) back is)

-- ---- one growth more

pub sound-grown : (n : ℕ) (log pending : List Row) (gs : List Growth) → AreSound log gs → AreBelow n gs → AreSound (log ++ pending) (gs ++ growth n (length (log ++ pending)) ∷ [])
sound-grown n log pending gs up below = ascend-push 0 0 n (length (log ++ pending)) gs (length log) up below (omega arith) (omega (arith, length-append log pending))

-- ---- the rows of the first growth

-- what is behind entries at which the variable grew is behind the first growth
first-left : (n held : ℕ) (log : List Row) (gs : List Growth) → AreSound log gs → CoversFirst held gs → 0 < rows_before gs n → held ≤ rows_before gs n
first-left n held log [] up covered some = absurd (omega (arith, some))
first-left n held log (g ∷ gs) up covered some = choose (nat_lt g.entry n) refl some where
  choose : (b : Bool) → nat_lt g.entry n ≡ b → 0 < (if b then max g.rows (rows_before gs n) else rows_before gs n) → held ≤ (if b then max g.rows (rows_before gs n) else rows_before gs n)
  choose true e some = omega (arith, covered)
  choose false e some =
      let late : n ≤ g.entry = grind (arith, nat_tests, e) in
      absurd (omega (arith, some, rows-none n gs (version-late n (g.entry + 1) g.rows gs (length log) up.2 (omega (arith, late)))))

-- so is what is left out, as it was counted
pub left-out : (n held left : ℕ) (log : List Row) (gs hs : List Growth) → AreSound log gs → CoversFirst held gs → gs ≡ hs → left ≡ rows_before hs n → (left ≡ 0 → ⊥) → held ≤ left
left-out n held left log gs hs up covered same exact some =
    let counted : left ≡ rows_before gs n = exact ∙ ap (λ ks. rows_before ks n) (sym same) in
    omega (arith, counted, first-left n held log gs up covered (omega (arith, counted, some)))

-- a growth behind others
pub covered-push : (held : ℕ) (gs : List Growth) (g : Growth) → 0 < length gs → CoversFirst held gs → CoversFirst held (gs ++ g ∷ [])
covered-push held [] g some covered = absurd (omega (arith, some))
covered-push held (f ∷ gs) g some covered = covered

-- before the first growth there are no rows
none-first : (first log : List Row) (gs : List Growth) → AreSound (first ++ log) gs → length gs ≡ 0 → (first ≡ []) × (log ≡ [])
none-first [] [] gs up none = (refl, refl)
none-first [] (r ∷ log) [] up none = absurd (omega (arith, up))
none-first (r ∷ first) log [] up none = absurd (omega (arith, up))
none-first first log (g ∷ gs) up none = absurd (omega (arith, none))

-- the rows that are put first, and those behind, once a growth is recorded
module _ (first log later pending : List Row) (gs : List Growth) (sound : AreSound (first ++ log) gs) (covered : CoversFirst (length first) gs) (alone : 0 < length gs → later ≡ []) where
  abbrev put : Bool → List Row
  put is_first = if is_first then later else first

  pub put-rows : (is_first : Bool) → is_first ≡ (length gs == 0) → put is_first ++ (log ++ pending) ≡ (first ++ log) ++ (later ++ pending)
  put-rows true is =
      let none = none-first first log gs sound (grind (arith, nat_tests, sym is)) in
      (λ i. later ++ (none.1 i ++ pending)) ∙ sym (λ i. (none.0 i ++ none.1 i) ++ (later ++ pending))
  put-rows false is =
      let some : 0 < length gs = grind (arith, nat_tests, sym is) in
      sym (append_assoc first log pending) ∙ ap (λ (rows : List Row). (first ++ log) ++ (rows ++ pending)) (sym (alone some))

  -- nothing is prepared as a set then
  pub put-none : (is_first : Bool) → is_first ≡ (length gs == 0) → (if is_first then first else later) ≡ []
  put-none true is = (none-first first log gs sound (grind (arith, nat_tests, sym is))).0
  put-none false is = alone (grind (arith, nat_tests, sym is))

  pub put-covers : (is_first : Bool) → is_first ≡ (length gs == 0) → (n rows : ℕ) → rows ≡ length (put is_first ++ (log ++ pending)) → CoversFirst (length (put is_first)) (gs ++ growth n rows ∷ [])
  put-covers true is n rows all =
      let none : length gs ≡ 0 = grind (arith, nat_tests, sym is) in
      first-covers gs none (omega (arith, all, length-append later (log ++ pending))) where
        first-covers : (hs : List Growth) → length hs ≡ 0 → length later ≤ rows → CoversFirst (length later) (hs ++ growth n rows ∷ [])
        first-covers [] none low = low
        first-covers (h ∷ hs) none low = absurd (omega (arith, none))
  put-covers false is n rows all =
      let some : 0 < length gs = grind (arith, nat_tests, sym is) in
      covered-push (length first) gs (growth n rows) some covered

  -- the history goes on, and is sound as it is kept
  pub record IsRecorded (n : ℕ) (first' log' : List Row) (gs' : List Growth) : Type 0 where
    pub is : record { log = first' ++ log'; growths = gs' } ≡ grown (record { log = first ++ log; growths = gs }) (later ++ pending) n
    pub sound' : AreSound (first' ++ log') gs'
    pub covered' : CoversFirst (length first') gs'

  pub recorded : (is_first : Bool) → is_first ≡ (length gs == 0) → (n : ℕ) (first' log' : List Row) (gs' : List Growth) (rows : ℕ) → first' ≡ put is_first → log' ≡ log ++ pending → rows ≡ length first' + length log' → gs' ≡ gs ++ growth n rows ∷ [] → AreBelow n gs
      → IsRecorded n first' log' gs'
  recorded is_first is n first' log' gs' rows first-is log-is rows-are growths-are below = record {
    is = same;
    sound' = subst (λ (h : History). AreSound h.log h.growths) (sym same) (sound-grown n (first ++ log) (later ++ pending) gs sound below);
    covered' = subst (λ (hs : List Growth). CoversFirst (length first') hs) (sym growths-are)
        (subst (λ (f : List Row). CoversFirst (length f) (gs ++ growth n rows ∷ [])) (sym first-is) (put-covers is_first is n rows (counted ∙ ap (λ (all : List Row). length all) split)));
  } where
    split : first' ++ log' ≡ put is_first ++ (log ++ pending)
    split = λ i. first-is i ++ log-is i

    whole : first' ++ log' ≡ (first ++ log) ++ (later ++ pending)
    whole = split ∙ put-rows is_first is

    counted : rows ≡ length (first' ++ log')
    counted = omega (arith, rows-are, length-append first' log')

    growths : gs' ≡ gs ++ growth n (length ((first ++ log) ++ (later ++ pending))) ∷ []
    growths = growths-are ∙ ap (λ (m : ℕ). gs ++ growth n m ∷ []) (counted ∙ ap (λ (all : List Row). length all) whole)

    same : record { log = first' ++ log'; growths = gs' } ≡ grown (record { log = first ++ log; growths = gs }) (later ++ pending) n
    same = λ i. record { log = whole i; growths = growths i }

-- a growth that is prepared as a set
pub taken-first : (rows more news : List Row) → rows ≡ news → more ≡ [] → IsAscending news → (of_rows (rows ++ more) ≡ news) × AreApart (rows ++ more)
taken-first rows more news is none up = subst (λ (all : List Row). (of_rows all ≡ news) × AreApart all) (sym whole) (of_rows-ascending news up, ascending-apart news up) where
  whole : rows ++ more ≡ news
  whole = (λ i. is i ++ none i) ∙ append-nil news

-- all rows: the first growth's, and those behind
pub all-joined : (first log : List Row) → IsAscending first → join first (of_rows log) ≡ of_rows (first ++ log)
all-joined first log up =
    (λ i. join (begins i) (rests i)) ∙ join-parts (first ++ log) (length first) where
      begins : first ≡ of_rows (take (length first) (first ++ log))
      begins = sym (of_rows-ascending first up) ∙ ap of_rows (sym (take-append_seam first log))

      rests : of_rows log ≡ of_rows (drop (length first) (first ++ log))
      rests = ap of_rows (sym (drop-append_seam first log))

-- the rows by entries at which the variable grew: the first growth's, and those of a part of the list
pub joined-before : (first log all : List Row) (n m : ℕ) → all ≡ log → length first ≤ n → m ≡ n - length first → IsAscending first → join first (of_rows (take m (drop 0 all))) ≡ of_rows (take n (first ++ log))
joined-before first log all n m same low is up =
    let whole : length first + m ≡ n = omega (arith, low, is) in
    ap (λ (rows : List Row). join first (of_rows (take m rows))) (drop-none all ∙ same) ∙ all-joined first (take m log) up ∙ ap of_rows (sym (take-append-add first log m) ∙ ap (λ (k : ℕ). take k (first ++ log)) whole)

-- the rows behind entries at which the variable grew are those of a part of the list
pub behind-first : (first log all : List Row) (n m : ℕ) → all ≡ log → length first ≤ n → m ≡ n - length first → take (length all - m) (drop m all) ≡ drop n (first ++ log)
behind-first first log all n m same low is =
    let whole : length first + m ≡ n = omega (arith, low, is) in
    take_all (length all - m) (drop m all) (omega (arith, length-drop m all)) ∙ ap (drop m) same ∙ sym (drop-append-add first log m) ∙ ap (λ (k : ℕ). drop k (first ++ log)) whole

-- what a call gives where it succeeds
pub where-ok : {A E X : Type 0} (r : Result A E) (new more old : X) → IsOk r → new ≡ (if is_ok r then more else old) → new ≡ more
where-ok (Ok a) new more old ok e = e
where-ok (Err b) new more old ok e = cc

-- a list is all of a pass, once nothing is left of it
pub listed : (list left all : List Row) → list ++ left ≡ all → left ≡ [] → list ≡ all
listed list left all is none = sym (append-nil list) ∙ ap (λ (rest : List Row). list ++ rest) (sym none) ∙ is

-- the history that a prepared growth is recorded in, by what the calls that write it answer
pub goes-on : {A E B F : Type 0} (appended : Result A E) (pushed : Result B F) (old : History) (first log later pending : List Row) (gs : List Growth) (sound : AreSound (first ++ log) gs) (covered : CoversFirst (length first) gs) (alone : 0 < length gs → later ≡ [])
    → record { log = first ++ log; growths = gs } ≡ old → (is_first : Bool) → is_first ≡ (length gs == 0) → (n : ℕ) (first' log' : List Row) (gs' : List Growth) (g : Growth) (rows : ℕ) → first' ≡ (if is_first then later else first)
    → IsOk appended → log' ≡ (if is_ok appended then log ++ pending else log) → rows ≡ length first' + length log' → g ≡ growth n rows → IsOk pushed → gs' ≡ (if is_ok pushed then gs ++ g ∷ [] else gs) → AreBelow n old.growths
    → IsRecorded first log later pending gs sound covered alone n first' log' gs'
goes-on appended pushed old first log later pending gs sound covered alone seen is_first is n first' log' gs' g rows first-is ok log-is rows-are g-is ok' gs-are below =
    recorded first log later pending gs sound covered alone is_first is n first' log' gs' rows first-is (where-ok appended log' (log ++ pending) log ok log-is) rows-are
    (where-ok pushed gs' (gs ++ g ∷ []) gs ok' gs-are ∙ ap (λ (h : Growth). gs ++ h ∷ []) g-is) (subst (λ (h : History). AreBelow n h.growths) (sym seen) below)
