-- Rows that come into a log one by one, dead ones first: what the log says then, and which rows told more.
use Rattle.std.proofs.Common.{◌≡◌, ℕ, zero, suc, ◌<◌, ◌≤◌, max, Bool, true, false, not, cond, if◌then◌else◌, nat_lt, List, [], ◌∷◌, ◌++◌, refl, sym, ap, subst, ◌∙◌, append-nil, append_assoc, arith}
use Rattle.std.proofs.lemmas.Bool.Decides.{nat_tests}
use Rattle.std.specs.Ordering.{eq_by_cmp}
use Rattle.model_values.specs.Value.{Val}
use Rattle.model_values.specs.Token.{Tok}
use Rattle.model_values.specs.Row.{Row, key_cmp}
use Rattle.model_sets.specs.Rows.{level, row_mark, mark, of_rows, join}
use Rattle.model_sets.specs.Equations.{changed}
use Rattle.model_sets.specs.Rises.{AreRises, AreApart}
use Rattle.model_sets.proofs.RowLaws.{own_mark, mark-append, mark-of_rows, mark-join, same_from_mark, ascending-of_rows, ascending-join}
use Rattle.model_sets.proofs.EquationLaws.{changed-mark, ascending-changed}
use Rattle.model_sets.proofs.RiseLaws.{level-some, at-own, none-or, row-apart, rises-mark, rises-append}
use Rattle.lasp_logset.specs.Taken.{dead_of, live_of, dead_first, AreLive, AreDeadFirst, IsTaken, IsTaking}

-- ---- one row more

apart-push : (told : List Row) (r : Row) → AreApart told → mark told r.0.0 r.0.1 ≡ 0 → AreApart (told ++ r ∷ [])
apart-push [] r apart none = (refl, tt)
apart-push (q ∷ told) r apart none = (
  omega (arith, mark-append told (r ∷ []) q.0.0 q.0.1, apart.0, row-apart r (q ∷ told) none q.0.0 q.0.1 (omega (arith, own_mark q, level-some q.1))),
  apart-push told r apart.1 (omega (arith, none)),
)

-- a row that tells no more than a log says nothing else
row-known : (log : List Row) (r : Row) → level r.1 ≤ mark log r.0.0 r.0.1 → (v : Val) (w : Tok) → row_mark r v w ≤ mark log v w
row-known log r low v w = none-or (row_mark r v w) 0 (row_mark r v w ≤ mark log v w)
    (λ some. at-own (λ u t. row_mark r u t ≤ mark log u t) r v w some (omega (arith, low, own_mark r)))
    (λ none. omega (arith, none))

none-where : (m : ℕ) → m < 2 → (m ≡ 1 → m ≡ 0) → m ≡ 0
none-where zero low h = refl
none-where (suc zero) low h = h refl
none-where (suc (suc m)) low h = absurd (omega (arith, low))

-- a row that raises a log wasn't told before, where those that were told are all dead if it is
told-none : (dead : Bool) (told log : ℕ) → told ≤ log → log < level dead → (told ≡ 1 → level dead < 2) → told ≡ 0
told-none false told log low up once = omega (arith, low, up)
told-none true told log low up once = none-where told (omega (arith, low, up)) (λ one. absurd (omega (arith, once one)))

-- with a dead row nothing is told that is live but what was
live-before : (here dead : Bool) (m : ℕ) → dead ≡ true → max m (if here then level dead else 0) ≡ 1 → m ≡ 1
live-before true true m e one = absurd (omega (arith, one))
live-before false true m e one = omega (arith, one)
live-before here false m e one = cc

once-more : (told rest : List Row) (r : Row) → (r.1 ≡ false → AreLive rest) → ((v : Val) (w : Tok) → mark told v w ≡ 1 → AreLive (r ∷ rest)) → (v : Val) (w : Tok) → mark (told ++ r ∷ []) v w ≡ 1 → AreLive rest
once-more told rest r order once v w one = choose r.1 refl where
  choose : (dead : Bool) → r.1 ≡ dead → AreLive rest
  choose false e = order e
  choose true e =
      let was : mark told v w ≡ 1 = live-before (eq_by_cmp key_cmp (v, w) r.0) r.1 (mark told v w) e (omega (arith, mark-append told (r ∷ []) v w, one)) in
      λ u t. omega (arith, once v w was u t)

-- ---- the rows that come in

pub taking-begin : (before rows log told : List Row) → log ≡ before → told ≡ [] → AreDeadFirst rows → IsTaking before rows rows log told
taking-begin before rows log told same none order = record {
  grown = same ∙ sym (append-nil before) ∙ ap (λ (s : List Row). before ++ s) (sym none);
  rises = subst (AreRises before) (sym none) tt;
  apart = subst AreApart (sym none) tt;
  whole = λ v w. ap (λ (s : List Row). max (mark s v w) (mark rows v w)) same;
  order = order;
  once = λ v w one. absurd (omega (arith, one, ap (λ (s : List Row). mark s v w) none));
}

taking-known : (before rows rest log told : List Row) (r : Row) → level r.1 ≤ mark log r.0.0 r.0.1 → IsTaking before rows (r ∷ rest) log told → IsTaking before rows rest log told
taking-known before rows rest log told r low taking = record {
  grown = taking.grown;
  rises = taking.rises;
  apart = taking.apart;
  whole = λ v w. omega (arith, taking.whole v w, row-known log r low v w);
  order = taking.order.1;
  once = λ v w one u t. omega (arith, taking.once v w one u t);
}

taking-more : (before rows rest log told : List Row) (r : Row) → mark log r.0.0 r.0.1 < level r.1 → IsTaking before rows (r ∷ rest) log told → IsTaking before rows rest (log ++ r ∷ []) (told ++ r ∷ [])
taking-more before rows rest log told r up taking =
    let both : (v : Val) (w : Tok) → mark log v w ≡ max (mark before v w) (mark told v w) = λ v w. ap (λ (s : List Row). mark s v w) taking.grown ∙ mark-append before told v w in
    let none : mark told r.0.0 r.0.1 ≡ 0 = told-none r.1 (mark told r.0.0 r.0.1) (mark log r.0.0 r.0.1) (omega (arith, both r.0.0 r.0.1)) up (λ one. omega (arith, taking.once r.0.0 r.0.1 one r.0.0 r.0.1, own_mark r)) in
    record {
      grown = ap (λ (s : List Row). s ++ r ∷ []) taking.grown ∙ append_assoc before told (r ∷ []);
      rises = rises-append before log told (r ∷ []) both taking.rises (up, tt);
      apart = apart-push told r taking.apart none;
      whole = λ v w. omega (arith, taking.whole v w, mark-append log (r ∷ []) v w);
      order = taking.order.1;
      once = once-more told rest r taking.order.0 taking.once;
    }

taking-row : (before rows rest log told : List Row) (r : Row) → IsTaking before rows (r ∷ rest) log told → IsTaking before rows rest (log ++ changed log (r ∷ [])) (told ++ changed log (r ∷ []))
taking-row before rows rest log told r taking = choose (nat_lt (mark log r.0.0 r.0.1) (level r.1)) refl where
  choose : (b : Bool) → nat_lt (mark log r.0.0 r.0.1) (level r.1) ≡ b → IsTaking before rows rest (log ++ cond b (r ∷ []) []) (told ++ cond b (r ∷ []) [])
  choose true e = taking-more before rows rest log told r (grind (arith, nat_tests, e)) taking
  choose false e = subst (λ (s : List Row). IsTaking before rows rest (log ++ []) s) (sym (append-nil told))
      (subst (λ (s : List Row). IsTaking before rows rest s told) (sym (append-nil log)) (taking-known before rows rest log told r (grind (arith, nat_tests, e)) taking))

pub taking-next : (before rows left rest log log' told told' : List Row) (r : Row) → left ≡ r ∷ rest → log' ≡ log ++ changed log (r ∷ []) → told' ≡ told ++ changed log (r ∷ [])
    → IsTaking before rows left log told → IsTaking before rows rest log' told'
taking-next before rows left rest log log' told told' r next pushed more taking =
    let here = taking-row before rows rest log told r (subst (λ (s : List Row). IsTaking before rows s log told) next taking) in
    subst (λ (s : List Row). IsTaking before rows rest s told') (sym pushed)
    (subst (λ (s : List Row). IsTaking before rows rest (log ++ changed log (r ∷ [])) s) (sym more) here)

pub taking-done : (before rows left log told : List Row) → left ≡ [] → IsTaking before rows left log told → IsTaken before rows log told
taking-done before rows left log told none taking = record {
  grown = taking.grown;
  rises = taking.rises;
  apart = taking.apart;
  whole = λ v w. omega (arith, taking.whole v w, ap (λ (s : List Row). mark s v w) none);
}

-- ---- what the set is then, and what was told

pub taken-state : (before rows log told : List Row) → IsTaken before rows log told → of_rows log ≡ join (of_rows before) (of_rows rows)
taken-state before rows log told taken = same_from_mark (of_rows log) (join (of_rows before) (of_rows rows)) (ascending-of_rows log) (ascending-join (of_rows before) (of_rows rows))
    (λ v w. omega (arith, mark-of_rows log v w, taken.whole v w, mark-join (of_rows before) (of_rows rows) v w, mark-of_rows before v w, mark-of_rows rows v w))

told-number : (before rows told : ℕ) → max before told ≡ max before rows → (0 < told → before < told) → told ≡ (if nat_lt before rows then rows else 0)
told-number before rows zero same up = grind (arith, nat_tests, same)
told-number before rows (suc told) same up = let more : before < suc told = up (omega arith) in grind (arith, nat_tests, same, more)

pub taken-told : (before rows log told : List Row) → IsTaken before rows log told → of_rows told ≡ changed (of_rows before) (of_rows rows)
taken-told before rows log told taken = same_from_mark (of_rows told) (changed (of_rows before) (of_rows rows)) (ascending-of_rows told) (ascending-changed (of_rows before) (of_rows rows) (ascending-of_rows rows))
    (λ v w. mark-of_rows told v w
    ∙ told-number (mark before v w) (mark rows v w) (mark told v w) (omega (arith, mark-append before told v w, ap (λ (s : List Row). mark s v w) taken.grown, taken.whole v w)) (rises-mark before told taken.rises v w)
    ∙ sym (changed-mark (of_rows before) (of_rows rows) v w ∙ ap (λ (m : ℕ). if nat_lt m (mark (of_rows rows) v w) then mark (of_rows rows) v w else 0) (mark-of_rows before v w) ∙ ap (λ (n : ℕ). if nat_lt (mark before v w) n then n else 0) (mark-of_rows rows v w)))

-- ---- dead rows first

live-flag : (here dead : Bool) → dead ≡ false → (if here then level dead else 0) < 2
live-flag true false e = omega arith
live-flag false dead e = omega arith
live-flag true true e = cc

live-rows : (rows : List Row) → AreLive (live_of rows)
live-rows [] v w = omega arith
live-rows (r ∷ rows) v w = choose r.1 refl (live-rows rows v w) where
  choose : (dead : Bool) → r.1 ≡ dead → mark (live_of rows) v w < 2 → mark (cond (not dead) (r ∷ live_of rows) (live_of rows)) v w < 2
  choose true e rest = rest
  choose false e rest = omega (arith, rest, live-flag (eq_by_cmp key_cmp (v, w) r.0) r.1 e)

live-order : (rows : List Row) → AreLive rows → AreDeadFirst rows
live-order [] live = tt
live-order (r ∷ rows) live =
    let rest : AreLive rows = λ v w. omega (arith, live v w) in
    (λ e. rest, live-order rows rest)

order-behind : (rows live : List Row) → AreLive live → AreDeadFirst (dead_of rows ++ live)
order-behind [] live are = live-order live are
order-behind (r ∷ rows) live are = choose r.1 refl (order-behind rows live are) where
  choose : (dead : Bool) → r.1 ≡ dead → AreDeadFirst (dead_of rows ++ live) → AreDeadFirst (cond dead (r ∷ dead_of rows) (dead_of rows) ++ live)
  choose true e rest = (λ no. absurd (let none : true ≡ false = sym e ∙ no in cc), rest)
  choose false e rest = rest

pub order-first : (rows : List Row) → AreDeadFirst (dead_first rows)
order-first rows = order-behind rows (live_of rows) (live-rows rows)

mark-flags : (rows : List Row) (v : Val) (w : Tok) → max (mark (dead_of rows) v w) (mark (live_of rows) v w) ≡ mark rows v w
mark-flags [] v w = omega arith
mark-flags (r ∷ rows) v w = choose r.1 (mark-flags rows v w) where
  choose : (dead : Bool) → max (mark (dead_of rows) v w) (mark (live_of rows) v w) ≡ mark rows v w
      → max (mark (cond dead (r ∷ dead_of rows) (dead_of rows)) v w) (mark (cond (not dead) (r ∷ live_of rows) (live_of rows)) v w) ≡ mark (r ∷ rows) v w
  choose true rest = omega (arith, rest)
  choose false rest = omega (arith, rest)

-- rows that came in, dead ones first
pub taken-first : (before rows log told : List Row) → IsTaken before (dead_first rows) log told → IsTaken before rows log told
taken-first before rows log told taken = record {
  grown = taken.grown;
  rises = taken.rises;
  apart = taken.apart;
  whole = λ v w. omega (arith, taken.whole v w, mark-append (dead_of rows) (live_of rows) v w, mark-flags rows v w);
}

-- the same, as the calls around it tell it
pub taken-rows : (before old rows coming log log' told : List Row) → before ≡ old → coming ≡ dead_first rows → log' ≡ log → IsTaken before coming log told → IsTaken old rows log' told
taken-rows before old rows coming log log' told same is sealed taken =
    subst (λ (s : List Row). IsTaken old rows s told) (sym sealed)
    (subst (λ (s : List Row). IsTaken s rows log told) same
    (taken-first before rows log told (subst (λ (s : List Row). IsTaken before s log told) is taken)))
