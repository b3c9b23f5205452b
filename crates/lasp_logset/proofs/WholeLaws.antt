-- Sets whose logs and tables are shared: what their rows are after a join, an addition and a share.
use Rattle.std.proofs.Common.{◌≡◌, ℕ, zero, suc, ◌+◌, ◌<◌, ◌≤◌, ◌==◌, ◌^◌, Bool, true, false, cond, if◌then◌else◌, nat_lt, IsTrue, List, [], ◌∷◌, ◌++◌, length, map, filter, ◌↔◌, refl, sym, ap, subst, ◌∙◌, append-nil, arith}
use Rattle.std.proofs.lemmas.Bool.Decides.{nat_tests}
use Rattle.model_values.specs.Value.{Val, val_cmp}
use Rattle.model_values.specs.Row.{Row}
use Rattle.model_sets.specs.Rows.{level, mark, IsAscending, put, of_rows, join, IsAtMost, is_of, buried, remove_delta}
use Rattle.model_sets.specs.Equations.{changed}
use Rattle.std.specs.Ordering.{eq_by_cmp}
use Rattle.indexmap.specs.IndexMap.{insert_entry}
use Rattle.model_values.specs.Size.{HasSmallInts}
use Rattle.model_values.specs.Row.{Key, key_cmp}
use Rattle.model_sets.specs.Reads.{HaveSmallInts}
use Rattle.model_sets.specs.Rises.{AreRises, AreApart}
use Rattle.model_sets.proofs.RowLaws.{own_mark, mark-append, mark-put, same_from_mark, ascending-join, join-nothing, join-of_rows, join-commutative, join-at_most-right, mark-of_rows, mark-join, ascending-of_rows, of_rows-ascending, join-row, join-at_most}
use Rattle.model_sets.proofs.LoopLaws.{length-join, length-put_row}
use Rattle.model_sets.proofs.ReadLaws.{small-push}
use Rattle.model_sets.proofs.EquationLaws.{changed-mark, ascending-changed}
use Rattle.model_sets.proofs.UpdateLaws.{remove-mark, remove-ascending}
use Rattle.model_sets.specs.Loops.{new_rows}
use Rattle.model_sets.specs.Values.{IsHeld, visible}
use Rattle.model_sets.proofs.RiseLaws.{log-joined, level-some, apart-rises, nothing-changed}
use Rattle.lasp_logset.specs.Kept.{AreKept, IsPast, IsTable}
use Rattle.lasp_logset.proofs.KeptLaws.{kept-nothing, kept-insert, came-in, rises-in, apart-length, new_rows-alike, length-join as length-join-apart}

pub ruleset ascending_rows = (ascending-of_rows)

pub small-of_rows : (log : List Row) → HaveSmallInts log → HaveSmallInts (of_rows log)
small-of_rows log ints v w has = ints v w (omega (arith, has, mark-of_rows log v w))

pub ruleset small_rows = (small-of_rows)

-- ---- a log that comes in

pub joined-rows : (old new more : List Row) → new ≡ old ++ changed old more → of_rows new ≡ join (of_rows old) (of_rows more)
joined-rows old new more is = ap of_rows is ∙ log-joined old more

pub added-rows : (old new : List Row) (r : Row) → new ≡ old ++ changed old (r ∷ []) → of_rows new ≡ put r (of_rows old)
added-rows old new r is = joined-rows old new (r ∷ []) is ∙ join-row (of_rows old) r (ascending-of_rows old)

-- ---- the order

pub order-rows : (s t : List Row) → IsAtMost s t ↔ IsAtMost (of_rows s) (of_rows t)
order-rows s t = (
  λ low v w. omega (arith, low v w, mark-of_rows s v w, mark-of_rows t v w),
  λ low v w. omega (arith, low v w, mark-of_rows s v w, mark-of_rows t v w),
)

at_most-length : (s t : List Row) → IsAscending s → IsAscending t → IsAtMost s t → length s ≤ length t
at_most-length s t up_s up_t a = omega (arith, length-join s t up_s up_t, ap length (join-at_most s t up_t a))

-- a set of more rows isn't at most one of fewer
pub more-rows : (s t : List Row) (n m : ℕ) → IsAscending s → IsAscending t → n ≡ length s → m ≡ length t → m < n → (IsTrue false → IsAtMost s t) × (IsAtMost s t → IsTrue false)
more-rows s t n m up_s up_t here there less = (λ h. cc, λ low. absurd (omega (arith, here, there, less, at_most-length s t up_s up_t low)))

-- the order as a table or a pass tells it
pub order-known : (s t log set : List Row) (b : Bool) → of_rows log ≡ s → of_rows set ≡ t → (IsTrue b ↔ IsAtMost log set) → (IsTrue b → IsAtMost s t) × (IsAtMost s t → IsTrue b)
order-known s t log set b here there told =
    let order : IsAtMost log set ↔ IsAtMost s t = subst (λ (u : List Row). IsAtMost log set ↔ IsAtMost s u) there (subst (λ (u : List Row). IsAtMost log set ↔ IsAtMost u (of_rows set)) here (order-rows log set)) in
    (λ h. order.0 (told.0 h), λ low. told.1 (order.1 low))

pub order-passed : (s t log other : List Row) (b : Bool) → of_rows log ≡ s → of_rows other ≡ t → (IsTrue b ↔ (changed other log ≡ [])) → (IsTrue b → IsAtMost s t) × (IsAtMost s t → IsTrue b)
order-passed s t log other b here there told =
    order-known s t log other b here there (λ h. (nothing-changed other log).0 (told.0 h), λ low. told.1 ((nothing-changed other log).1 low))

pub known-covers : (other log : List Row) (b : Bool) → (IsTrue b ↔ (changed other log ≡ [])) → (IsTrue b → IsAtMost log other) × (IsAtMost log other → IsTrue b)
known-covers other log b told = (λ h. (nothing-changed other log).0 (told.0 h), λ low. told.1 ((nothing-changed other log).1 low))

-- ---- the least set

pub no-rows : (s : List Row) → 0 ≡ length s → s ≡ []
no-rows [] e = refl
no-rows (r ∷ s) e = absurd (omega (arith, e))

pub taken-all : (old other : List Row) → old ≡ [] → IsAscending other → other ≡ join old other
taken-all old other none up = sym (ap (λ (s : List Row). join s other) none ∙ of_rows-ascending other up)

-- ---- a table that is made of a log

pub table-none : (rows log : List Row) → rows ≡ [] → AreRises [] log → IsTable rows log log
table-none rows log none up = record { before = []; whole = refl; kept = subst (λ (s : List Row). AreKept s []) (sym none) kept-nothing; rises = up }

pub table-more : (rows rows' left rest log : List Row) (r : Row) (k : Key) (dead : Bool) → left ≡ r ∷ rest → k ≡ r.0 → dead ≡ r.1 → HaveSmallInts log → rows' ≡ insert_entry (eq_by_cmp key_cmp) rows k dead
    → IsTable rows left log → IsTable rows' rest log
table-more rows rows' left rest log r k dead next key flag ints put_in table =
    let here : (k, dead) ≡ r = λ i. (key i, flag i) in
    let up : AreRises table.before (r ∷ rest) = subst (AreRises table.before) next table.rises in
    let raised : mark rows r.0.0 r.0.1 < level r.1 = omega (arith, up.0, table.kept.marks r.0.0 r.0.1) in
    let whole : table.before ++ (r ∷ rest) ≡ log = ap (λ (s : List Row). table.before ++ s) (sym next) ∙ table.whole in
    let there : HasSmallInts r.0.0 =
    ints r.0.0 r.0.1 (omega (arith, ap (λ (s : List Row). mark s r.0.0 r.0.1) whole, mark-append table.before (r ∷ rest) r.0.0 r.0.1, own_mark r, level-some r.1)) in
    let made : AreKept (insert_entry (eq_by_cmp key_cmp) rows r.0 r.1) (table.before ++ r ∷ []) = kept-insert rows table.before r.0 r.1 there table.kept raised in
    let is : rows' ≡ insert_entry (eq_by_cmp key_cmp) rows r.0 r.1 = put_in ∙ ap (λ (q : Row). insert_entry (eq_by_cmp key_cmp) rows q.0 q.1) here in
    record {
      before = table.before ++ r ∷ [];
      whole = came-in table.before (table.before ++ r ∷ []) left rest log r next refl table.whole;
      kept = subst (λ (s : List Row). AreKept s (table.before ++ r ∷ [])) (sym is) made;
      rises = rises-in table.before (table.before ++ r ∷ []) left rest r next refl table.rises;
    }

pub table-done : (rows left log : List Row) → left ≡ [] → IsTable rows left log → AreKept rows log
table-done rows left log none table =
    subst (AreKept rows) (sym (append-nil table.before) ∙ ap (λ (s : List Row). table.before ++ s) (sym none) ∙ table.whole) table.kept

-- ---- a log alone

pub past-one : (none log : List Row) (r : Row) → none ≡ [] → log ≡ none ++ r ∷ [] → HasSmallInts r.0.0 → IsPast log 1
past-one none log r empty is ints =
    subst (λ (s : List Row). IsPast s 1) (sym (is ∙ ap (λ (s : List Row). s ++ r ∷ []) empty))
    (record { rises = (level-some r.1, tt); ints = small-push r [] ints kept-nothing.ints; counted = refl; small = omega arith })

pub past-apart : (log : List Row) (n : ℕ) → n ≡ length log → n ≤ 2 ^ 32 → AreApart log → HaveSmallInts log → IsPast log n
past-apart log n many small apart ints = record { rises = apart-rises [] log apart (λ v w some. refl); ints = ints; counted = many ∙ sym (apart-length log apart); small = small }

-- ---- more rows

-- rows that are as many as those of their state have keys of their own
pub few-rows : (s : List Row) → length (of_rows s) ≤ length s
few-rows [] = omega arith
few-rows (r ∷ s) = choose (mark (of_rows s) r.0.0 r.0.1 == 0) (length-put_row r (of_rows s) (ascending-of_rows s)) (few-rows s) where
  choose : (b : Bool) → length (of_rows (r ∷ s)) ≡ (if b then length (of_rows s) + 1 else length (of_rows s)) → length (of_rows s) ≤ length s → length (of_rows (r ∷ s)) ≤ length (r ∷ s)
  choose true e few = omega (arith, e, few)
  choose false e few = omega (arith, e, few)

pub apart-counted : (s : List Row) → length (of_rows s) ≡ length s → AreApart s
apart-counted [] e = tt
apart-counted (r ∷ s) e = choose (mark s r.0.0 r.0.1 == 0) refl (length-put_row r (of_rows s) (ascending-of_rows s) ∙ ap (λ (m : ℕ). if m == 0 then length (of_rows s) + 1 else length (of_rows s)) (mark-of_rows s r.0.0 r.0.1)) (λ h. apart-counted s h) where
  choose : (b : Bool) → (mark s r.0.0 r.0.1 == 0) ≡ b → length (of_rows (r ∷ s)) ≡ (if b then length (of_rows s) + 1 else length (of_rows s)) → (length (of_rows s) ≡ length s → AreApart s) → AreApart (r ∷ s)
  choose true none many rest = (grind (arith, nat_tests, none), rest (omega (arith, many, e)))
  choose false some many rest = absurd (omega (arith, many, e, few-rows s))

pub apart-log : (s : List Row) → AreApart s → AreRises [] s
apart-log s apart = apart-rises [] s apart (λ v w some. refl)

pub ruleset passes = (apart-log)

-- what a pass has is what the set has
pub pass-state : (near now : List Row) → of_rows near ≡ now → of_rows near ≡ of_rows now
pass-state near now is = sym (of_rows-ascending (of_rows near) (ascending-of_rows near)) ∙ ap of_rows is

pub empty-rows : (s : List Row) (n : ℕ) → n ≡ length s → n ≡ 0 → s ≡ []
empty-rows s n many none = no-rows s (omega (arith, many, none))

-- where the other has no rows
pub joined-nothing : (old other : List Row) (n : ℕ) → IsAscending old → n ≡ length other → n ≡ 0 → old ≡ join old other
joined-nothing old other n up many none = sym (ap (λ (s : List Row). join old s) (empty-rows other n many none) ∙ join-nothing old up)

-- nothing new came in
pub covered-join : (old log : List Row) (b : Bool) → (IsTrue b ↔ IsAtMost log old) → b ≡ true → of_rows old ≡ join (of_rows old) (of_rows log)
covered-join old log b told yes_it = sym (join-at_most-right (of_rows old) (of_rows log) (ascending-of_rows old) ((order-rows log old).0 (told.0 yes_it)))

pub known-row : (old : List Row) (r : Row) (b : Bool) → b ≡ nat_lt (mark old r.0.0 r.0.1) (level r.1) → b ≡ false → of_rows old ≡ put r (of_rows old)
known-row old r b is no_it = added-rows old old r (sym (ap (λ (c : Bool). old ++ cond c (r ∷ []) []) (sym is ∙ no_it) ∙ append-nil old))

-- ---- parts of a pass

none-of : (b : Bool) (n : ℕ) → n ≡ 0 → (if b then n else 0) ≡ 0
none-of true n e = e
none-of false n e = refl

abbrev dead_if : ℕ → ℕ
dead_if m = if m == 0 then 0 else 2

pub apart-changed : (known pass : List Row) → AreApart pass → AreApart (changed known pass)
apart-changed known [] apart = tt
apart-changed known (r ∷ s) apart = choose (nat_lt (mark known r.0.0 r.0.1) (level r.1)) (apart-changed known s apart.1) where
  none : mark (changed known s) r.0.0 r.0.1 ≡ 0
  none = changed-mark known s r.0.0 r.0.1 ∙ none-of (nat_lt (mark known r.0.0 r.0.1) (mark s r.0.0 r.0.1)) (mark s r.0.0 r.0.1) apart.0

  choose : (b : Bool) → AreApart (changed known s) → AreApart (cond b (r ∷ changed known s) (changed known s))
  choose true rest = (none, rest)
  choose false rest = rest

pub small-changed : (known pass now : List Row) → of_rows pass ≡ now → HaveSmallInts now → HaveSmallInts (changed known pass)
small-changed known pass now is ints v w has =
    ints v w (subst (λ (s : List Row). 0 < mark s v w) is (omega (arith, mark-of_rows pass v w, some (nat_lt (mark known v w) (mark pass v w)) (changed-mark known pass v w)))) where
      some : (b : Bool) → mark (changed known pass) v w ≡ (if b then mark pass v w else 0) → 0 < mark pass v w
      some true e = omega (arith, e, has)
      some false e = absurd (omega (arith, e, has))

news-state : (s t : List Row) → of_rows (changed s t) ≡ changed (of_rows s) (of_rows t)
news-state s t = same_from_mark (of_rows (changed s t)) (changed (of_rows s) (of_rows t)) (ascending-of_rows (changed s t)) (ascending-changed (of_rows s) (of_rows t) (ascending-of_rows t))
    (λ v w. mark-of_rows (changed s t) v w ∙ changed-mark s t v w ∙ sym (changed-mark (of_rows s) (of_rows t) v w ∙ ap (λ (m : ℕ). if nat_lt m (mark (of_rows t) v w) then mark (of_rows t) v w else 0) (mark-of_rows s v w) ∙ ap (λ (n : ℕ). if nat_lt (mark s v w) n then n else 0) (mark-of_rows t v w)))

pub changed-state : (known pass before after : List Row) → of_rows known ≡ before → of_rows pass ≡ after → of_rows (changed known pass) ≡ changed before after
changed-state known pass before after here there = news-state known pass ∙ ap (λ (s : List Row). changed s (of_rows pass)) here ∙ ap (λ (s : List Row). changed before s) there

pub apart-removed : (v : Val) (pass : List Row) → AreApart pass → AreApart (remove_delta v pass)
apart-removed v [] apart = tt
apart-removed v (r ∷ s) apart = choose (is_of v r) (apart-removed v s apart.1) where
  none : mark (remove_delta v s) r.0.0 r.0.1 ≡ 0
  none = remove-mark v s r.0.0 r.0.1 ∙ turn (eq_by_cmp val_cmp v r.0.0) where
    turn : (b : Bool) → (if b then dead_if (mark s r.0.0 r.0.1) else 0) ≡ 0
    turn true = ap dead_if apart.0
    turn false = refl

  choose : (b : Bool) → AreApart (remove_delta v s) → AreApart (map buried (cond b (r ∷ filter (is_of v) s) (filter (is_of v) s)))
  choose true rest = (none, rest)
  choose false rest = rest

pub small-removed : (v : Val) (pass now : List Row) → of_rows pass ≡ now → HaveSmallInts now → HaveSmallInts (remove_delta v pass)
small-removed v pass now is ints u w has =
    ints u w (subst (λ (s : List Row). 0 < mark s u w) is (omega (arith, mark-of_rows pass u w, some (eq_by_cmp val_cmp v u) (mark pass u w) (remove-mark v pass u w)))) where
      some : (b : Bool) (m : ℕ) → mark (remove_delta v pass) u w ≡ (if b then (if m == 0 then 0 else 2) else 0) → 0 < m
      some true zero e = absurd (omega (arith, e, has))
      some true (suc m) e = omega arith
      some false m e = absurd (omega (arith, e, has))

pub removed-state : (v : Val) (pass now : List Row) → of_rows pass ≡ now → IsAscending now → of_rows (remove_delta v pass) ≡ remove_delta v now
removed-state v pass now is up = same_from_mark (of_rows (remove_delta v pass)) (remove_delta v now) (ascending-of_rows (remove_delta v pass)) (remove-ascending v now up)
    (λ u w. mark-of_rows (remove_delta v pass) u w ∙ remove-mark v pass u w
    ∙ ap (λ (m : ℕ). if eq_by_cmp val_cmp v u then dead_if m else 0) (sym (mark-of_rows pass u w) ∙ ap (λ (s : List Row). mark s u w) is)
    ∙ sym (remove-mark v now u w))

-- ---- how many rows a join has

pub counted-join : (set other table pass : List Row) (n m : ℕ) → IsAscending set → of_rows table ≡ set → of_rows pass ≡ other → AreApart pass → n ≡ length set → m ≡ new_rows table pass → n + m ≡ length (join set other)
counted-join set other table pass n m up here there apart many new =
    let alike = new_rows-alike table set pass (λ v w. sym (mark-of_rows table v w) ∙ ap (λ (s : List Row). mark s v w) here) in
    let joined = ap (λ (s : List Row). length (join set s)) (sym there) ∙ ap length (join-of_rows set pass) in
    omega (arith, many, new, alike, length-join-apart set pass up apart, joined)

pub counted-small : (other pass : List Row) (n : ℕ) → of_rows pass ≡ other → AreApart pass → n ≡ length other → n ≤ 2 ^ 32 → length pass ≤ 2 ^ 32
counted-small other pass n is apart many small = omega (arith, apart-length pass apart, ap length is, many, small)

pub passed-join : (set other log more : List Row) (n m : ℕ) → of_rows log ≡ set → of_rows more ≡ other → n ≡ length set → m + length (of_rows log) ≡ length (of_rows (more ++ log)) → n + m ≡ length (join set other)
passed-join set other log more n m here there many counted =
    let joined : of_rows (more ++ log) ≡ join set other =
    join-commutative more log ∙ same_from_mark (join log more) (join set other) (ascending-join log more) (ascending-join set other)
    (λ v w. omega (
      arith,
      mark-join log more v w,
      mark-join set other v w,
      mark-of_rows log v w,
      mark-of_rows more v w,
      ap (λ (s : List Row). mark s v w) here,
      ap (λ (s : List Row). mark s v w) there,
    )) in
    omega (arith, many, counted, ap length here, ap length joined)

-- a join with a set without rows has those of the other one
pub alone-counted : (set other : List Row) (n m : ℕ) → IsAscending set → n ≡ length other → n ≡ 0 → m ≡ length set → m ≡ length (join set other)
alone-counted set other n m up many none is = is ∙ ap length (joined-nothing set other n up many none)

pub other-way : (s t : List Row) (n : ℕ) → n ≡ length (join t s) → n ≡ length (join s t)
other-way s t n is = is ∙ ap length (join-commutative t s)

-- what a look-up or a pass finds is so of the state
pub held-state : (log s : List Row) (v : Val) (b : Bool) → of_rows log ≡ s → (IsTrue b ↔ IsHeld (visible (of_rows log)) v) → (IsTrue b → IsHeld (visible s) v) × (IsHeld (visible s) v → IsTrue b)
held-state log s v b is told = subst (λ (t : List Row). (IsTrue b → IsHeld (visible t) v) × (IsHeld (visible t) v → IsTrue b)) is told

-- ---- a pass that has ended

pub changed-done : (known pass left log sealed : List Row) → log ++ changed known left ≡ changed known pass → left ≡ [] → sealed ≡ log → sealed ≡ changed known pass
changed-done known pass left log sealed whole none same = same ∙ sym (append-nil log) ∙ ap (λ (s : List Row). log ++ changed known s) (sym none) ∙ whole

pub removed-done : (v : Val) (pass left log sealed : List Row) → log ++ remove_delta v left ≡ remove_delta v pass → left ≡ [] → sealed ≡ log → sealed ≡ remove_delta v pass
removed-done v pass left log sealed whole none same = same ∙ sym (append-nil log) ∙ ap (λ (s : List Row). log ++ remove_delta v s) (sym none) ∙ whole

-- ---- rows that tell more than a set, put in one by one

news-put : (known news left : List Row) (r : Row) → join (put r news) (changed known left) ≡ join news (r ∷ changed known left)
news-put known news left r =
    same_from_mark (join (put r news) (changed known left)) (join news (r ∷ changed known left)) (ascending-join (put r news) (changed known left)) (ascending-join news (r ∷ changed known left))
    (λ v w. omega (arith, mark-join (put r news) (changed known left) v w, mark-join news (r ∷ changed known left) v w, mark-put r news v w))

pub news-more : (known news news' pass left left' : List Row) (r : Row) (more : Bool) → left ≡ r ∷ left' → more ≡ nat_lt (mark known r.0.0 r.0.1) (level r.1) → more ≡ true → news' ≡ put r news → join news (changed known left) ≡ of_rows (changed known pass)
    → join news' (changed known left') ≡ of_rows (changed known pass)
news-more known news news' pass left left' r more is test yes_it made h =
    ap (λ (s : List Row). join s (changed known left')) made ∙ news-put known news left' r
    ∙ ap (λ (b : Bool). join news (cond b (r ∷ changed known left') (changed known left'))) (sym yes_it ∙ test)
    ∙ ap (λ (s : List Row). join news (changed known s)) (sym is) ∙ h

pub news-skip : (known news pass left left' : List Row) (r : Row) (more : Bool) → left ≡ r ∷ left' → more ≡ nat_lt (mark known r.0.0 r.0.1) (level r.1) → more ≡ false → join news (changed known left) ≡ of_rows (changed known pass)
    → join news (changed known left') ≡ of_rows (changed known pass)
news-skip known news pass left left' r more is test no_it h =
    ap (λ (b : Bool). join news (cond b (r ∷ changed known left') (changed known left'))) (sym no_it ∙ test) ∙ ap (λ (s : List Row). join news (changed known s)) (sym is) ∙ h

pub news-end : (known news pass left : List Row) → IsAscending news → left ≡ [] → join news (changed known left) ≡ of_rows (changed known pass) → news ≡ of_rows (changed known pass)
news-end known news pass left up none h = sym (join-nothing news up) ∙ ap (λ (s : List Row). join news (changed known s)) (sym none) ∙ h
