-- Rows behind the log of a table, and rows that are put behind a log one by one.
use Rattle.std.proofs.Common.{◌≡◌, ◌≢◌, ℕ, ◌+◌, ◌<◌, ◌≤◌, ◌==◌, ◌^◌, max, Bool, true, false, cond, if◌then◌else◌, nat_lt, IsTrue, List, [], ◌∷◌, ◌++◌, length, take, drop, get_or, ◌↔◌, refl, sym, ap, subst, ◌∙◌, append-nil, append_assoc, length-append, arith, Result, Ok, Err, OnOk, OnErr}
use Rattle.std.proofs.lemmas.Bool.Decides.{nat_tests}
use Rattle.std.proofs.lemmas.List.{take_more, drop_at}
use Rattle.model_values.specs.Value.{Val}
use Rattle.model_values.specs.Token.{Tok}
use Rattle.model_values.specs.Size.{HasSmallInts}
use Rattle.model_values.specs.Row.{Key, Row}
use Rattle.model_sets.specs.Rows.{level, mark, put, of_rows, join, remove_delta, IsAtMost}
use Rattle.model_sets.specs.Equations.{changed}
use Rattle.model_sets.specs.Rises.{AreRises, AreApart}
use Rattle.model_sets.specs.Reads.{HaveSmallInts}
use Rattle.model_sets.proofs.RowLaws.{own_mark, mark-append, mark-put, mark-of_rows, ascending-of_rows, join-commutative, join-of_rows, join-row, join-append, join-nothing, join-right}
use Rattle.model_sets.proofs.LoopLaws.{length-put_row}
use Rattle.model_sets.proofs.ReadLaws.{small-push}
use Rattle.model_sets.proofs.RiseLaws.{level-some, row-apart, rises-alike, rises-append, rises-behind, news-rises}
use Rattle.lasp_logset.specs.Kept.{IsPast}
use Rattle.lasp_logset.specs.Grown.{IsBegun, IsGrown, IsAlong}
use Rattle.lasp_logset.proofs.KeptLaws.{more-some}
use Rattle.lasp_logset.proofs.WholeLaws.{few-rows, added-rows, order-rows}

-- ---- tests of marks

less-test : (m n : ℕ) → m < n → nat_lt m n ≡ true
less-test m n h = grind (arith, nat_tests, h)

more-test : (m n : ℕ) → n ≤ m → nat_lt m n ≡ false
more-test m n h = grind (arith, nat_tests, h)

max-test : (m n o l : ℕ) → m < l → o ≡ max m n → (b : Bool) → nat_lt n l ≡ b → b ≡ nat_lt o l
max-test m n o l low most true e = let here : n < l = grind (arith, nat_tests, e) in sym (less-test o l (omega (arith, low, most, here)))
max-test m n o l low most false e = let here : l ≤ n = grind (arith, nat_tests, e) in sym (more-test o l (omega (arith, most, here)))

-- ---- a row behind a log

pub pushed-rows : (log : List Row) (r : Row) → of_rows (log ++ r ∷ []) ≡ put r (of_rows log)
pushed-rows log r = join-commutative log (r ∷ []) ∙ sym (join-of_rows (r ∷ []) log) ∙ join-commutative (r ∷ []) (of_rows log) ∙ join-row (of_rows log) r (ascending-of_rows log)

counted-more : (m n k : ℕ) → n ≡ k → (if nat_lt m 1 then n + 1 else n) ≡ (if m == 0 then k + 1 else k)
counted-more m n k e = grind (arith, nat_tests, e)

pub past-pushed : (log log' : List Row) (r : Row) (n n' m : ℕ) (fresh : Bool) → IsPast log n → mark log r.0.0 r.0.1 < level r.1 → fresh ≡ nat_lt (mark log r.0.0 r.0.1) 1 → HasSmallInts r.0.0
    → log' ≡ log ++ r ∷ [] → m ≡ length log' → m ≤ 2 ^ 32 → n' ≡ (if fresh then n + 1 else n) → IsPast log' n'
past-pushed log log' r n n' m fresh past up is ints pushed many small more =
    let counted : n' ≡ length (of_rows log') =
    more ∙ ap (λ (b : Bool). if b then n + 1 else n) is ∙ counted-more (mark log r.0.0 r.0.1) n (length (of_rows log)) past.counted
    ∙ ap (λ (k : ℕ). if k == 0 then length (of_rows log) + 1 else length (of_rows log)) (sym (mark-of_rows log r.0.0 r.0.1))
    ∙ sym (length-put_row r (of_rows log) (ascending-of_rows log)) ∙ ap length (sym (pushed-rows log r)) ∙ ap (λ (s : List Row). length (of_rows s)) (sym pushed) in
    record {
      rises = subst (AreRises []) (sym pushed) (rises-behind log (r ∷ []) past.rises (up, tt));
      ints = subst HaveSmallInts (sym pushed) (small-push r log ints past.ints);
      counted = counted;
      small = omega (arith, counted, few-rows log', many, small);
    }

-- ---- a table and what stands behind it

mark-begun : (begin log : List Row) → (begun : IsBegun begin log) → (v : Val) (w : Tok) → mark log v w ≡ max (mark begin v w) (mark begun.0 v w)
mark-begun begin log begun v w = ap (λ (s : List Row). mark s v w) begun.1 ∙ mark-append begin begun.0 v w

behind-begun : (begin log behind : List Row) (n : ℕ) → n ≡ length begin → behind ≡ drop n log → (begun : IsBegun begin log) → behind ≡ begun.0
behind-begun begin log behind n many is begun = is ∙ ap (λ (s : List Row). drop n s) begun.1 ∙ drop_at begin begun.0 n (sym many)

-- what the table has, the log has
pub raised-not : (begin log : List Row) (k : Key) (dead a : Bool) → a ≡ nat_lt (mark begin k.0 k.1) (level dead) → a ≡ false → IsBegun begin log → false ≡ nat_lt (mark log k.0 k.1) (level dead)
raised-not begin log k dead a is no_it begun = below (mark begin k.0 k.1) (mark begun.0 k.0 k.1) (mark log k.0 k.1) (level dead) (sym is ∙ no_it) (mark-begun begin log begun k.0 k.1) where
  below : (m n o l : ℕ) → nat_lt m l ≡ false → o ≡ max m n → false ≡ nat_lt o l
  below m n o l e most = let low : l ≤ m = grind (arith, nat_tests, e) in sym (more-test o l (omega (arith, low, most)))

-- what it lacks, the log has where the rows behind it have it
pub raised-then : (begin log behind : List Row) (n : ℕ) (k : Key) (dead a b : Bool) → a ≡ nat_lt (mark begin k.0 k.1) (level dead) → a ≡ true → b ≡ nat_lt (mark behind k.0 k.1) (level dead) → n ≡ length begin → behind ≡ drop n log
    → IsBegun begin log → b ≡ nat_lt (mark log k.0 k.1) (level dead)
raised-then begin log behind n k dead a b is yes_it rest many from begun =
    rest ∙ ap (λ (s : List Row). nat_lt (mark s k.0 k.1) (level dead)) (behind-begun begin log behind n many from begun)
    ∙ above (mark begin k.0 k.1) (mark begun.0 k.0 k.1) (mark log k.0 k.1) (level dead) (sym is ∙ yes_it) (mark-begun begin log begun k.0 k.1) where
      above : (m n o l : ℕ) → nat_lt m l ≡ true → o ≡ max m n → nat_lt n l ≡ nat_lt o l
      above m n o l e most = let low : m < l = grind (arith, nat_tests, e) in max-test m n o l low most (nat_lt n l) refl

rises-part : (t s before more : List Row) → ((v : Val) (w : Tok) → mark t v w ≡ max (mark s v w) (mark before v w)) → AreRises s (before ++ more) → AreRises t more
rises-part t s [] more same up = rises-alike s t more (λ v w. omega (arith, same v w)) up
rises-part t s (r ∷ before) more same up = rises-part t (put r s) before more (λ v w. omega (arith, same v w, mark-put r s v w)) up.1

pub rises-begun : (begin log behind : List Row) (n : ℕ) → n ≡ length begin → behind ≡ drop n log → IsBegun begin log → AreRises [] log → AreRises begin behind
rises-begun begin log behind n many is begun up =
    subst (AreRises begin) (sym (behind-begun begin log behind n many is begun)) (rises-part begin [] begin begun.0 (λ v w. omega arith) (subst (AreRises []) begun.1 up))

pub begun-whole : (begin log behind set : List Row) (n : ℕ) → n ≡ length begin → behind ≡ drop n log → IsBegun begin log → set ≡ begin ++ behind → set ≡ log
begun-whole begin log behind set n many is begun made = made ∙ ap (λ (s : List Row). begin ++ s) (behind-begun begin log behind n many is begun) ∙ sym begun.1

pub begun-within : (begin log : List Row) (n : ℕ) → n ≡ length begin → IsBegun begin log → n ≤ length log
begun-within begin log n many begun = omega (arith, many, ap length begun.1, length-append begin begun.0)

pub begun-more : (begin log log' more : List Row) → log' ≡ log ++ more → IsBegun begin log → IsBegun begin log'
begun-more begin log log' more is begun = (begun.0 ++ more, is ∙ ap (λ (s : List Row). s ++ more) begun.1 ∙ append_assoc begin begun.0 more)

-- a log alone
pub begun-none : (log : List Row) → IsBegun [] log
begun-none log = (log, refl)

pub begun-changed : (set begin rows log : List Row) → log ≡ set ++ changed set rows → set ≡ begin → IsBegun begin log
begun-changed set begin rows log is same = (changed set rows, is ∙ ap (λ (s : List Row). s ++ changed set rows) same)

pub begun-alike : (begin begin' log log' : List Row) → begin' ≡ begin → log' ≡ log → IsBegun begin log → IsBegun begin' log'
begun-alike begin begin' log log' same is begun = (begun.0, is ∙ begun.1 ∙ ap (λ (s : List Row). s ++ begun.0) (sym same))

pub begun-shorter : (begin log : List Row) (n m : ℕ) → n ≡ length begin → m ≡ length log → IsBegun begin log → n ≤ m
begun-shorter begin log n m many all begun = omega (arith, many, all, ap length begun.1, length-append begin begun.0)

pub begun-here : (begin log : List Row) → log ≡ begin → IsBegun begin log
begun-here begin log is = ([], is ∙ sym (append-nil begin))

-- ---- a pass of which no two rows have one key

pub along-none : (set log rows : List Row) → log ≡ set → AreApart rows → IsAlong set rows log rows
along-none set log rows is apart = record { whole = ap (λ (s : List Row). s ++ changed set rows) is; apart = apart; same = λ v w some. ap (λ (s : List Row). mark s v w) is }

-- the log says of the next row's key what the table does
pub along-mark : (set rows log left rest : List Row) (r : Row) → left ≡ r ∷ rest → IsAlong set rows log left → mark log r.0.0 r.0.1 ≡ mark set r.0.0 r.0.1
along-mark set rows log left rest r next along =
    along.same r.0.0 r.0.1 (omega (arith, ap (λ (s : List Row). mark s r.0.0 r.0.1) next, own_mark r, level-some r.1))

changed-here : (set rest : List Row) (r : Row) (b : Bool) → nat_lt (mark set r.0.0 r.0.1) (level r.1) ≡ b → changed set (r ∷ rest) ≡ cond b (r ∷ changed set rest) (changed set rest)
changed-here set rest r b e = ap (λ (c : Bool). cond c (r ∷ changed set rest) (changed set rest)) e

pub along-push : (set rows log log' left rest : List Row) (r : Row) (m : ℕ) (dead : Bool) → left ≡ r ∷ rest → m ≡ mark set r.0.0 r.0.1 → dead ≡ r.1 → m < level dead → log' ≡ log ++ r ∷ [] → IsAlong set rows log left → IsAlong set rows log' rest
along-push set rows log log' left rest r m dead next says flag less pushed along =
    let apart : AreApart (r ∷ rest) = subst AreApart next along.apart in
    let up : mark set r.0.0 r.0.1 < level r.1 = omega (arith, says, less, ap level flag) in
    record {
      whole =
          ap (λ (s : List Row). s ++ changed set rest) pushed ∙ append_assoc log (r ∷ []) (changed set rest)
          ∙ ap (λ (s : List Row). log ++ s) (sym (changed-here set rest r true (less-test (mark set r.0.0 r.0.1) (level r.1) up)) ∙ ap (changed set) (sym next)) ∙ along.whole;
      apart = apart.1;
      same = λ v w some. omega (
        arith,
        ap (λ (s : List Row). mark s v w) pushed,
        mark-append log (r ∷ []) v w,
        row-apart r rest apart.0 v w some,
        along.same v w (omega (arith, ap (λ (s : List Row). mark s v w) next, some)),
      );
    }

pub along-pass : (set rows log left rest : List Row) (r : Row) (m : ℕ) (dead : Bool) → left ≡ r ∷ rest → m ≡ mark set r.0.0 r.0.1 → dead ≡ r.1 → level dead ≤ m → IsAlong set rows log left → IsAlong set rows log rest
along-pass set rows log left rest r m dead next says flag less along =
    let apart : AreApart (r ∷ rest) = subst AreApart next along.apart in
    let low : level r.1 ≤ mark set r.0.0 r.0.1 = omega (arith, says, less, ap level flag) in
    record {
      whole = ap (λ (s : List Row). log ++ s) (sym (changed-here set rest r false (more-test (mark set r.0.0 r.0.1) (level r.1) low)) ∙ ap (changed set) (sym next)) ∙ along.whole;
      apart = apart.1;
      same = λ v w some. along.same v w (omega (arith, ap (λ (s : List Row). mark s v w) next, some));
    }

pub less-so : (m l : ℕ) (b : Bool) → b ≡ nat_lt m l → b ≡ true → m < l
less-so m l b is yes_it = let less : nat_lt m l ≡ true = sym is ∙ yes_it in grind (arith, nat_tests, less)

pub less-not : (m l : ℕ) (b : Bool) → b ≡ nat_lt m l → b ≡ false → l ≤ m
less-not m l b is no_it = let less : nat_lt m l ≡ false = sym is ∙ no_it in grind (arith, nat_tests, less)

pub along-done : (set rows log left log' : List Row) → left ≡ [] → log' ≡ log → IsAlong set rows log left → log' ≡ set ++ changed set rows
along-done set rows log left log' none is along = is ∙ sym (append-nil log) ∙ ap (λ (s : List Row). log ++ changed set s) (sym none) ∙ along.whole

pub along-fresh : (set rows log left rest : List Row) (r : Row) (m : ℕ) (fresh : Bool) → left ≡ r ∷ rest → m ≡ mark set r.0.0 r.0.1 → fresh ≡ (m == 0) → IsAlong set rows log left → fresh ≡ nat_lt (mark log r.0.0 r.0.1) 1
along-fresh set rows log left rest r m fresh next says is along = is ∙ test m (mark log r.0.0 r.0.1) (says ∙ sym (along-mark set rows log left rest r next along)) where
  test : (m n : ℕ) → m ≡ n → (m == 0) ≡ nat_lt n 1
  test m n e = grind (arith, nat_tests, e)

pub along-raises : (set rows log left rest : List Row) (r : Row) (m : ℕ) (dead : Bool) → left ≡ r ∷ rest → m ≡ mark set r.0.0 r.0.1 → dead ≡ r.1 → m < level dead → IsAlong set rows log left → mark log r.0.0 r.0.1 < level r.1
along-raises set rows log left rest r m dead next says flag less along = omega (arith, says, less, ap level flag, along-mark set rows log left rest r next along)

-- ---- live rows of a value, each dead

pub buried-rows : (v : Val) (here set delta past result : List Row) → here ≡ set → past ≡ delta → result ≡ of_rows past → join (of_rows here) delta ≡ join (of_rows here) (remove_delta v (of_rows here))
    → join (of_rows set) result ≡ join (of_rows set) (remove_delta v (of_rows set))
buried-rows v here set delta past result same kept is told =
    ap (λ (s : List Row). join (of_rows set) s) (is ∙ ap of_rows kept) ∙ join-of_rows (of_rows set) delta ∙ subst (λ (s : List Row). join (of_rows s) delta ≡ join (of_rows s) (remove_delta v (of_rows s))) same told

-- ---- what succeeds, and what it is

pub any-on_err : {T E : Type 0} (r : Result T E) (P : Type 0) → P → OnErr r P
any-on_err (Ok x) P p = tt
any-on_err (Err e) P p = p

pub made-on_ok : {T E : Type 0} (r : Result T E) (P Q : Type 0) → OnOk r P → (P → Q) → OnOk r Q
made-on_ok (Ok x) P Q p f = f p
made-on_ok (Err e) P Q p f = p

-- ---- rows put in one by one

pub grown-none : (before all : List Row) → all ≡ before → IsGrown before all
grown-none before all is = record { more = []; is = is ∙ sym (append-nil before); rises = tt }

pub grown-more : (before all all' : List Row) (r : Row) → all' ≡ all ++ changed all (r ∷ []) → IsGrown before all → IsGrown before all'
grown-more before all all' r is grown = record {
  more = grown.more ++ changed all (r ∷ []);
  is = is ∙ ap (λ (s : List Row). s ++ changed all (r ∷ [])) grown.is ∙ append_assoc before grown.more (changed all (r ∷ []));
  rises = rises-append before all grown.more (changed all (r ∷ [])) (λ v w. ap (λ (s : List Row). mark s v w) grown.is ∙ mark-append before grown.more v w) grown.rises (news-rises all (r ∷ []) (level-some r.1, tt));
}

pub joined-next : (all all' left rest : List Row) (r : Row) → left ≡ r ∷ rest → all' ≡ all ++ changed all (r ∷ []) → join (of_rows all') rest ≡ join (of_rows all) left
joined-next all all' left rest r next is =
    ap (λ (s : List Row). join s rest) (added-rows all all' r is ∙ sym (join-row (of_rows all) r (ascending-of_rows all))) ∙ sym (join-append (of_rows all) (r ∷ []) rest) ∙ ap (λ (s : List Row). join (of_rows all) s) (sym next)

pub joined-end : (all left : List Row) → left ≡ [] → of_rows all ≡ join (of_rows all) left
joined-end all left none = sym (ap (λ (s : List Row). join (of_rows all) s) none ∙ join-nothing (of_rows all) (ascending-of_rows all))

pub grown-tells : (before all : List Row) (n m : ℕ) (b : Bool) → n ≡ length before → m ≡ length all → b ≡ nat_lt n m → IsGrown before all → (IsTrue b → of_rows all ≢ of_rows before) × (of_rows all ≢ of_rows before → IsTrue b)
grown-tells before all n m b here there is grown = by grown.more grown.is grown.rises where
  by : (more : List Row) → all ≡ before ++ more → AreRises before more → (IsTrue b → of_rows all ≢ of_rows before) × (of_rows all ≢ of_rows before → IsTrue b)
  by [] made up = (
    λ yes_it. absurd (let less : nat_lt n m ≡ true = sym is ∙ yes_it in
        let same : n ≡ m = here ∙ sym (there ∙ ap length (made ∙ append-nil before)) in
        let more : n < m = grind (arith, nat_tests, less) in
        omega (arith, more, same)),
    λ differs. absurd (differs (ap of_rows (made ∙ append-nil before))),
  )
  by (r ∷ more) made up = (
    λ _ same. more-some before r more up (ap of_rows (sym made) ∙ same),
    λ _. is ∙ less-test n m (omega (arith, here, there, ap length made, length-append before (r ∷ more))),
  )

-- where a log isn't known, its join differs
pub joined-differs : (set new log other : List Row) (b : Bool) → of_rows new ≡ join (of_rows set) other → of_rows log ≡ other → (IsTrue b ↔ IsAtMost log set) → b ≡ false → of_rows new ≢ of_rows set
joined-differs set new log other b made is told no_it = λ same.
    let low : IsAtMost other (of_rows set) = subst (λ (s : List Row). IsAtMost other s) (sym made ∙ same) (join-right (of_rows set) other) in
    let known : IsTrue b = told.1 ((order-rows log set).1 (subst (λ (s : List Row). IsAtMost s (of_rows set)) (sym is) low)) in
    let clash : true ≡ false = sym known ∙ no_it in
    cc

-- ---- rows put in from the start

pub rows-more : (rows : List Row) (i : ℕ) (x r : Row) (s s' : List Row) → i < length rows → x ≡ get_or rows i x → r ≡ x → s ≡ of_rows (take i rows) → s' ≡ put r s → s' ≡ of_rows (take (i + 1) rows)
rows-more rows i x r s s' h is same before made =
    made ∙ (λ j. put (same j) (before j)) ∙ sym (pushed-rows (take i rows) x) ∙ ap (λ (y : Row). of_rows (take i rows ++ y ∷ [])) is ∙ ap of_rows (sym (take_more rows i x h))

pub small-more : (rows : List Row) (i : ℕ) (x : Row) → i < length rows → x ≡ get_or rows i x → HasSmallInts x.0.0 → HaveSmallInts (take i rows) → HaveSmallInts (take (i + 1) rows)
small-more rows i x h is ints before =
    subst HaveSmallInts (ap (λ (y : Row). take i rows ++ y ∷ []) is ∙ sym (take_more rows i x h)) (small-push x (take i rows) ints before)
