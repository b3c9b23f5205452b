-- A table of rows and a log that tell the same: what look-ups say, how a row comes in, and how many rows there are.
use Rattle.std.proofs.Common.{◌≡◌, ◌≢◌, ℕ, zero, suc, ◌+◌, ◌<◌, ◌≤◌, ◌==◌, max, Bool, true, false, cond, ◌||◌, IsPermutation, IsSortedBy, if◌then◌else◌, nat_lt, List, [], ◌∷◌, ◌++◌, length, filter, ◌↔◌, refl, sym, ap, subst, ◌∙◌, append-nil, append_assoc, length-append, arith, Some, None, Result, Ok, Err, IsOk, OnOk}
use Rattle.std.proofs.lemmas.Bool.Decides.{nat_tests}
use Rattle.std.specs.Ordering.{is_lt, eq_by_cmp}
use Rattle.std.proofs.lemmas.List.Elements.{filter_agree}
use Rattle.std.proofs.lemmas.List.Sorted.{length_permutation}
use Rattle.std.specs.List.{IsDistinct, AllByRecursion}
use Rattle.std.specs.Map.{keys_of, lookup}
use Rattle.indexmap.specs.IndexMap.{insert_entry}
use Rattle.model_values.specs.Value.{Val}
use Rattle.model_values.specs.Token.{Tok}
use Rattle.model_values.specs.Size.{HasSmallInts}
use Rattle.model_values.specs.Row.{Key, Row, key_cmp, key_exact}
use Rattle.model_sets.specs.Rows.{level, row_mark, mark, IsAscending, put, of_rows, join, IsAtMost}
use Rattle.model_sets.specs.Equations.{changed}
use Rattle.model_sets.specs.Rises.{AreRises, AreApart}
use Rattle.model_sets.specs.Loops.{new_rows, collapse_from, collapse}
use Rattle.model_sets.proofs.RowLaws.{own_mark, is-Equal, found_level, mark-append, mark-put, mark-of_rows, same_from_mark, ascending-put, ascending-of_rows, join-append, join-row, join-nothing, join-of_rows}
use Rattle.model_sets.proofs.LoopLaws.{length-put_row, collapse-sorted}
use Rattle.model_sets.proofs.ReadLaws.{small-push}
use Rattle.model_sets.proofs.RiseLaws.{level-some, row-apart, rises-alike, news-rises, changed-alike, nothing-changed, rises-behind}
use Rattle.lasp_logset.specs.Kept.{AreKept}

-- ---- look-ups

none-of : (k : Key) (es : List Row) → AllByRecursion (λ (l : Key). eq_by_cmp key_cmp k l ≡ false) (keys_of es) → mark es k.0 k.1 ≡ 0
none-of k [] apart = refl
none-of k (e ∷ es) apart =
    let here : row_mark e k.0 k.1 ≡ 0 = ap (λ (b : Bool). if b then level e.1 else 0) apart.0 in
    omega (arith, here, none-of k es apart.1)

-- a table's rows have keys of their own
pub distinct-apart : (es : List Row) → IsDistinct (eq_by_cmp key_cmp) (keys_of es) → AreApart es
unfolding IsDistinct
distinct-apart [] one = tt
distinct-apart (e ∷ es) one = (none-of e.0 es one.0, distinct-apart es one.1)

lookup-apart : (es : List Row) (k : Key) → AreApart es → mark es k.0 k.1 ≡ found_level (lookup (eq_by_cmp key_cmp k) es)
lookup-apart [] k apart = refl
lookup-apart (e ∷ es) k apart = choose (eq_by_cmp key_cmp k e.0) refl (lookup-apart es k apart.1) where
  choose : (b : Bool) → eq_by_cmp key_cmp k e.0 ≡ b → mark es k.0 k.1 ≡ found_level (lookup (eq_by_cmp key_cmp k) es)
      → max (if b then level e.1 else 0) (mark es k.0 k.1) ≡ found_level (cond b (Some e.1) (lookup (eq_by_cmp key_cmp k) es))
  choose true same rest =
      let none : mark es k.0 k.1 ≡ 0 = subst (λ (l : Key). mark es l.0 l.1 ≡ 0) (sym (key_exact k e.0 (is-Equal (key_cmp k e.0) same))) apart.0 in
      omega (arith, none)
  choose false same rest = omega (arith, rest)

-- a look-up says what the rows say
pub lookup_mark : (es : List Row) (k : Key) → IsDistinct (eq_by_cmp key_cmp) (keys_of es) → mark es k.0 k.1 ≡ found_level (lookup (eq_by_cmp key_cmp k) es)
lookup_mark es k one = lookup-apart es k (distinct-apart es one)

pub raises_known : (es : List Row) (k : Key) (known dead more : Bool) → IsDistinct (eq_by_cmp key_cmp) (keys_of es) → lookup (eq_by_cmp key_cmp k) es ≡ Some known → more ≡ nat_lt (level known) (level dead)
    → more ≡ nat_lt (mark es k.0 k.1) (level dead)
raises_known es k known dead more one found is = is ∙ ap (λ (m : ℕ). nat_lt m (level dead)) (sym (lookup_mark es k one ∙ ap found_level found))

below-some : (n : ℕ) → 0 < n → true ≡ nat_lt 0 n
below-some n h = grind (arith, nat_tests, h)

pub raises_unknown : (es : List Row) (k : Key) (dead : Bool) → IsDistinct (eq_by_cmp key_cmp) (keys_of es) → lookup (eq_by_cmp key_cmp k) es ≡ None → true ≡ nat_lt (mark es k.0 k.1) (level dead)
raises_unknown es k dead one found = below-some (level dead) (level-some dead) ∙ ap (λ (m : ℕ). nat_lt m (level dead)) (sym (lookup_mark es k one ∙ ap found_level found))

pub ruleset look_up = (raises_known, raises_unknown)

-- a row that stands at a place says what the rows say, where it has the key that is asked for
pub level_here : (es : List Row) (k l : Key) (dead same : Bool) (n : ℕ) → IsDistinct (eq_by_cmp key_cmp) (keys_of es) → lookup (eq_by_cmp key_cmp l) es ≡ Some dead → same ≡ eq_by_cmp key_cmp l k → same ≡ true → n ≡ level dead → n ≡ mark es k.0 k.1
level_here es k l dead same n one found is yes_it told =
    let key : l ≡ k = key_exact l k (is-Equal (key_cmp l k) (sym is ∙ yes_it)) in
    told ∙ sym (ap found_level found) ∙ sym (lookup_mark es l one) ∙ ap (λ (q : Key). mark es q.0 q.1) key

pub level_known : (es : List Row) (k : Key) (dead : Bool) (n : ℕ) → IsDistinct (eq_by_cmp key_cmp) (keys_of es) → lookup (eq_by_cmp key_cmp k) es ≡ Some dead → n ≡ level dead → n ≡ mark es k.0 k.1
level_known es k dead n one found told = told ∙ sym (ap found_level found) ∙ sym (lookup_mark es k one)

pub level_unknown : (es : List Row) (k : Key) → IsDistinct (eq_by_cmp key_cmp) (keys_of es) → lookup (eq_by_cmp key_cmp k) es ≡ None → 0 ≡ mark es k.0 k.1
level_unknown es k one found = sym (lookup_mark es k one ∙ ap found_level found)

pub ruleset levels = (level_here, level_known, level_unknown)

-- ---- a row that comes in

mark-insert : (es : List Row) (k : Key) (dead : Bool) → mark es k.0 k.1 < level dead → (v : Val) (w : Tok) → mark (insert_entry (eq_by_cmp key_cmp) es k dead) v w ≡ max (mark es v w) (row_mark (k, dead) v w)
mark-insert [] k dead up v w = omega arith
mark-insert (e ∷ es) k dead up v w = choose (eq_by_cmp key_cmp k e.0) refl (λ h. mark-insert es k dead h v w) where
  choose : (b : Bool) → eq_by_cmp key_cmp k e.0 ≡ b → (mark es k.0 k.1 < level dead → mark (insert_entry (eq_by_cmp key_cmp) es k dead) v w ≡ max (mark es v w) (row_mark (k, dead) v w))
      → mark (if b then (e.0, dead) ∷ es else e ∷ insert_entry (eq_by_cmp key_cmp) es k dead) v w ≡ max (max (row_mark e v w) (mark es v w)) (row_mark (k, dead) v w)
  choose true same rest = subst (λ (l : Key). mark (e ∷ es) l.0 l.1 < level dead → max (row_mark (e.0, dead) v w) (mark es v w) ≡ max (max (row_mark e v w) (mark es v w)) (row_mark (l, dead) v w))
      (sym (key_exact k e.0 (is-Equal (key_cmp k e.0) same))) (λ h. over (eq_by_cmp key_cmp (v, w) e.0) (omega (arith, h, own_mark e))) up where
        over : (b : Bool) → level e.1 < level dead → max (if b then level dead else 0) (mark es v w) ≡ max (max (if b then level e.1 else 0) (mark es v w)) (if b then level dead else 0)
        over true h = omega (arith, h)
        over false h = omega arith
  choose false same rest = omega (arith, rest (omega (arith, up)))

length-insert : (es : List Row) (k : Key) (dead : Bool) → length (insert_entry (eq_by_cmp key_cmp) es k dead) ≤ length es + 1
length-insert [] k dead = omega arith
length-insert (e ∷ es) k dead = choose (eq_by_cmp key_cmp k e.0) (length-insert es k dead) where
  choose : (b : Bool) → length (insert_entry (eq_by_cmp key_cmp) es k dead) ≤ length es + 1 → length (if b then (e.0, dead) ∷ es else e ∷ insert_entry (eq_by_cmp key_cmp) es k dead) ≤ length (e ∷ es) + 1
  choose true rest = omega arith
  choose false rest = omega (arith, rest)

pub kept-insert : (rows log : List Row) (k : Key) (dead : Bool) → HasSmallInts k.0 → AreKept rows log → mark rows k.0 k.1 < level dead → AreKept (insert_entry (eq_by_cmp key_cmp) rows k dead) (log ++ (k, dead) ∷ [])
kept-insert rows log k dead small kept up = record {
  marks = λ v w. omega (arith, mark-append log ((k, dead) ∷ []) v w, mark-insert rows k dead up v w, kept.marks v w);
  rises = rises-behind log ((k, dead) ∷ []) kept.rises (omega (arith, up, kept.marks k.0 k.1), tt);
  ints = small-push (k, dead) log small kept.ints;
  few = omega (arith, length-insert rows k dead, length-append log ((k, dead) ∷ []), kept.few);
}

-- a row's key and flag, told apart, say what the row says
pub put-raised : (rows : List Row) (k : Key) (dead : Bool) (e coming : Row) → e ≡ coming → k ≡ e.0 → dead ≡ e.1 → mark rows coming.0.0 coming.0.1 < level coming.1 → mark rows k.0 k.1 < level dead
put-raised rows k dead e coming is key flag up =
    let here : (k, dead) ≡ e = λ i. (key i, flag i) in
    subst (λ (r : Row). mark rows r.0.0 r.0.1 < level r.1) (sym (here ∙ is)) up

-- what an insertion and a push leave, by what they are told
pub kept-put : (rows log rows' log' : List Row) (k : Key) (dead : Bool) (e coming : Row) → e ≡ coming → k ≡ e.0 → dead ≡ e.1 → HasSmallInts k.0 → AreKept rows log → mark rows coming.0.0 coming.0.1 < level coming.1
    → rows' ≡ insert_entry (eq_by_cmp key_cmp) rows k dead → log' ≡ log ++ e ∷ [] → AreKept rows' log'
kept-put rows log rows' log' k dead e coming is key flag small kept up inserted pushed =
    let here : (k, dead) ≡ e = λ i. (key i, flag i) in
    let raised = put-raised rows k dead e coming is key flag up in
    subst (λ (t : List Row). AreKept t log') (sym inserted)
    (subst (AreKept (insert_entry (eq_by_cmp key_cmp) rows k dead)) (sym (pushed ∙ ap (λ (r : Row). log ++ r ∷ []) (sym here))) (kept-insert rows log k dead small kept raised))

-- a call that succeeds did what it does where it succeeds
pub succeeded : {T E : Type 0} (r : Result T E) (P : Type 0) → IsOk r → OnOk r P → P
succeeded (Ok x) P ok p = p
succeeded (Err e) P ok p = cc

pub kept-nothing : AreKept [] []
kept-nothing = record { marks = λ v w. refl; rises = tt; ints = λ v w has. absurd (omega (arith, has)); few = omega arith }

-- ---- rows that come in one after the other

rises-next : (log rest : List Row) (r : Row) → AreRises log (r ∷ rest) → AreRises (log ++ r ∷ []) rest
rises-next log rest r up = rises-alike (put r log) (log ++ r ∷ []) rest (λ v w. omega (arith, mark-put r log v w, mark-append log (r ∷ []) v w)) up.1

pub came-in : (log log' left rest all : List Row) (r : Row) → left ≡ r ∷ rest → log' ≡ log ++ r ∷ [] → log ++ left ≡ all → log' ++ rest ≡ all
came-in log log' left rest all r next pushed whole =
    ap (λ (s : List Row). s ++ rest) pushed ∙ append_assoc log (r ∷ []) rest ∙ ap (λ (s : List Row). log ++ s) (sym next) ∙ whole

pub rises-in : (log log' left rest : List Row) (r : Row) → left ≡ r ∷ rest → log' ≡ log ++ r ∷ [] → AreRises log left → AreRises log' rest
rises-in log log' left rest r next pushed up = subst (λ (s : List Row). AreRises s rest) (sym pushed) (rises-next log rest r (subst (AreRises log) next up))

pub kept-raises : (rows log rest : List Row) (r : Row) → AreKept rows log → AreRises log (r ∷ rest) → mark rows r.0.0 r.0.1 < level r.1
kept-raises rows log rest r kept up = omega (arith, up.0, kept.marks r.0.0 r.0.1)

-- ---- what is new

pub kept-news : (rows log more : List Row) → AreKept rows log → changed rows more ≡ changed log more
kept-news rows log more kept = sym (changed-alike log rows more kept.marks)

pub joined-rises : (rows log more news : List Row) → AreKept rows log → AreRises [] more → news ≡ changed rows more → AreRises log news
joined-rises rows log more news kept up is = subst (AreRises log) (sym (is ∙ kept-news rows log more kept)) (news-rises log more up)

pub kept-order : (rows log more : List Row) → AreKept rows log → (changed rows more ≡ []) ↔ IsAtMost more log
kept-order rows log more kept = (
  λ none. (nothing-changed log more).0 (sym (kept-news rows log more kept) ∙ none),
  λ low. kept-news rows log more kept ∙ (nothing-changed log more).1 low,
)

-- a log is as it was where nothing is new, and tells more where something is
pub same-none : (log news : List Row) → news ≡ [] → log ++ news ≡ log
same-none log news none = ap (λ (s : List Row). log ++ s) none ∙ append-nil log

pub more-some : (log : List Row) (r : Row) (news : List Row) → AreRises log (r ∷ news) → of_rows (log ++ r ∷ news) ≢ of_rows log
more-some log r news up same =
    let there = ap (λ (s : List Row). mark s r.0.0 r.0.1) same in
    omega (arith, there, mark-of_rows (log ++ r ∷ news) r.0.0 r.0.1, mark-of_rows log r.0.0 r.0.1, mark-append log (r ∷ news) r.0.0 r.0.1, own_mark r, up.0)

pub more-any : (log news new : List Row) (n : ℕ) (empty : Bool) → n ≡ length news → empty ≡ (n == 0) → empty ≡ false → AreRises log news → new ≡ log ++ news → of_rows new ≢ of_rows log
more-any log [] new n empty many is some up made = absurd (let none : true ≡ false = sym (is ∙ ap (λ (m : ℕ). m == 0) many) ∙ some in cc)
more-any log (r ∷ news) new n empty many is some up made = λ same. more-some log r news up (sym (ap of_rows made) ∙ same)

-- ---- how many rows

pub apart-length : (s : List Row) → AreApart s → length (of_rows s) ≡ length s
apart-length [] apart = refl
apart-length (r ∷ s) apart =
    length-put_row r (of_rows s) (ascending-of_rows s) ∙ choose (mark (of_rows s) r.0.0 r.0.1) (mark-of_rows s r.0.0 r.0.1 ∙ apart.0) (apart-length s apart.1) where
      choose : (m : ℕ) → m ≡ 0 → length (of_rows s) ≡ length s → (if m == 0 then length (of_rows s) + 1 else length (of_rows s)) ≡ length (r ∷ s)
      choose zero e rest = omega (arith, rest)
      choose (suc m) e rest = absurd (omega (arith, e))

pub kept-length : (rows log : List Row) → AreKept rows log → IsDistinct (eq_by_cmp key_cmp) (keys_of rows) → length rows ≡ length (of_rows log)
kept-length rows log kept one =
    sym (apart-length rows (distinct-apart rows one))
    ∙ ap length (same_from_mark (of_rows rows) (of_rows log) (ascending-of_rows rows) (ascending-of_rows log) (λ v w. omega (arith, mark-of_rows rows v w, mark-of_rows log v w, kept.marks v w)))

-- the state of the table's rows is that of the log
pub kept-state : (rows log : List Row) → AreKept rows log → of_rows rows ≡ of_rows log
kept-state rows log kept = same_from_mark (of_rows rows) (of_rows log) (ascending-of_rows rows) (ascending-of_rows log) (λ v w. omega (arith, mark-of_rows rows v w, mark-of_rows log v w, kept.marks v w))

new_rows-put : (r : Row) (s t : List Row) → mark t r.0.0 r.0.1 ≡ 0 → new_rows (put r s) t ≡ new_rows s t
new_rows-put r s [] none = refl
new_rows-put r s (q ∷ t) none =
    let apart : row_mark r q.0.0 q.0.1 ≡ 0 = row-apart r (q ∷ t) none q.0.0 q.0.1 (omega (arith, own_mark q, level-some q.1)) in
    let same : mark (put r s) q.0.0 q.0.1 ≡ mark s q.0.0 q.0.1 = omega (arith, mark-put r s q.0.0 q.0.1, apart) in
    let rest = new_rows-put r s t (omega (arith, none)) in
    ap (λ (m : ℕ). length (cond (m == 0) (q ∷ filter (λ p. mark (put r s) p.0.0 p.0.1 == 0) t) (filter (λ p. mark (put r s) p.0.0 p.0.1 == 0) t))) same
    ∙ elim (mark s q.0.0 q.0.1 == 0) as (λ b. length (cond b (q ∷ filter (λ p. mark (put r s) p.0.0 p.0.1 == 0) t) (filter (λ p. mark (put r s) p.0.0 p.0.1 == 0) t))
    ≡ length (cond b (q ∷ filter (λ p. mark s p.0.0 p.0.1 == 0) t) (filter (λ p. mark s p.0.0 p.0.1 == 0) t))) [
      | true ↦ ap suc rest
      | false ↦ rest
    ]

-- a join has the rows of the first, and those of the second whose keys the first lacks, where no two of these have one key
pub length-join : (s t : List Row) → IsAscending s → AreApart t → length (join s t) ≡ length s + new_rows s t
length-join s [] up apart = ap length (join-nothing s up) ∙ omega arith
length-join s (r ∷ t) up apart =
    let step : join s (r ∷ t) ≡ join (put r s) t = join-append s (r ∷ []) t ∙ ap (λ (u : List Row). join u t) (join-row s r up) in
    let rest : length (join s (r ∷ t)) ≡ length (put r s) + new_rows s t = ap length step ∙ length-join (put r s) t (ascending-put r s up) apart.1 ∙ ap (λ (n : ℕ). length (put r s) + n) (new_rows-put r s t apart.0) in
    rest ∙ ap (λ (n : ℕ). n + new_rows s t) (length-put_row r s up)
    ∙ elim (mark s r.0.0 r.0.1 == 0) as (λ b. (if b then length s + 1 else length s) + new_rows s t ≡ length s + length (cond b (r ∷ filter (λ p. mark s p.0.0 p.0.1 == 0) t) (filter (λ p. mark s p.0.0 p.0.1 == 0) t))) [
      | true ↦ omega arith
      | false ↦ refl
    ]

pub new_rows-alike : (s s' t : List Row) → ((v : Val) (w : Tok) → mark s v w ≡ mark s' v w) → new_rows s t ≡ new_rows s' t
new_rows-alike s s' t same = ap length (filter_agree (λ (r : Row). mark s r.0.0 r.0.1 == 0) (λ (r : Row). mark s' r.0.0 r.0.1 == 0) (λ r. ap (λ (n : ℕ). n == 0) (same r.0.0 r.0.1)) t)

pub joined-length : (rows log others more : List Row) (n m : ℕ) → AreKept rows log → AreKept others more → AreApart others → n ≡ length (of_rows log) → m ≡ new_rows rows others → n + m ≡ length (join (of_rows log) (of_rows more))
joined-length rows log others more n m kept there apart here new =
    let alike = new_rows-alike rows (of_rows log) others (λ v w. omega (arith, mark-of_rows log v w, kept.marks v w)) in
    let joined = ap (λ (s : List Row). join (of_rows log) s) (sym (kept-state others more there)) ∙ join-of_rows (of_rows log) others in
    omega (arith, here, new, alike, length-join (of_rows log) others (ascending-of_rows log) apart, ap length joined)

-- ---- rows in order

collapse_from-length : (r : Row) (s : List Row) → length (collapse_from r s) ≤ length s + 1
collapse_from-length r [] = omega arith
collapse_from-length r (q ∷ s) = choose (eq_by_cmp key_cmp r.0 q.0) (collapse_from-length (r.0, r.1 || q.1) s) (collapse_from-length q s) where
  choose : (b : Bool) → length (collapse_from (r.0, r.1 || q.1) s) ≤ length s + 1 → length (collapse_from q s) ≤ length s + 1
      → length (if b then collapse_from (r.0, r.1 || q.1) s else r ∷ collapse_from q s) ≤ length (q ∷ s) + 1
  choose true here next = omega (arith, here)
  choose false here next = omega (arith, next)

-- where nothing was made one, nothing was changed
collapse_from-same : (r : Row) (s : List Row) → length (collapse_from r s) ≡ length s + 1 → collapse_from r s ≡ r ∷ s
collapse_from-same r [] e = refl
collapse_from-same r (q ∷ s) e = choose (eq_by_cmp key_cmp r.0 q.0) (collapse_from-length (r.0, r.1 || q.1) s) (λ h. collapse_from-same q s h) e where
  choose : (b : Bool) → length (collapse_from (r.0, r.1 || q.1) s) ≤ length s + 1 → (length (collapse_from q s) ≡ length s + 1 → collapse_from q s ≡ q ∷ s)
      → length (if b then collapse_from (r.0, r.1 || q.1) s else r ∷ collapse_from q s) ≡ length (q ∷ s) + 1 → (if b then collapse_from (r.0, r.1 || q.1) s else r ∷ collapse_from q s) ≡ r ∷ q ∷ s
  choose true less rest e = absurd (omega (arith, less, e))
  choose false less rest e = ap (λ (t : List Row). r ∷ t) (rest (omega (arith, e)))

collapse-same : (s : List Row) → length (collapse s) ≡ length s → collapse s ≡ s
collapse-same [] e = refl
collapse-same (r ∷ s) e = collapse_from-same r s (omega (arith, e))

-- the rows of a table, sorted, are its state
sorted-state : (log raw s : List Row) → AreApart raw → of_rows raw ≡ of_rows log → IsPermutation raw s → IsSortedBy (λ (a b : Row). is_lt (key_cmp a.0 b.0)) s → s ≡ of_rows log
sorted-state log raw s apart is order up =
    let whole = collapse-sorted raw s order up in
    let many = ap length whole ∙ apart-length raw apart ∙ sym (length_permutation raw s order) in
    sym (collapse-same s many) ∙ whole ∙ is

pub sorted-done : (log raw done left s : List Row) → done ++ left ≡ raw → left ≡ [] → AreApart raw → of_rows raw ≡ of_rows log → IsPermutation done s → IsSortedBy (λ (a b : Row). is_lt (key_cmp a.0 b.0)) s → s ≡ of_rows log
sorted-done log raw done left s whole end apart is order up =
    let all : done ≡ raw = sym (append-nil done) ∙ ap (λ (r : List Row). done ++ r) (sym end) ∙ whole in
    sorted-state log raw s apart is (subst (λ (r : List Row). IsPermutation r s) all order) up
