-- What passes over logs find: whether a row tells more, whether a value lives, how many rows there are, and the rows that stand in the end.
use Rattle.std.proofs.Common.{◌≡◌, ℕ, zero, suc, ◌+◌, ◌<◌, ◌≤◌, ◌==◌, ◌||◌, ◌&&◌, max, Bool, true, false, cond, if◌then◌else◌, nat_lt, nat_le, IsTrue, List, [], ◌∷◌, ◌++◌, length, IsPermutation, IsSortedBy, refl, sym, ap, subst, ◌∙◌, append-nil, arith}
use Rattle.std.proofs.lemmas.Bool.Decides.{nat_tests}
use Rattle.std.proofs.lemmas.List.Elements.{filter_agree}
use Rattle.std.specs.Ordering.{is_eq, is_lt, eq_by_cmp}
use Rattle.std.specs.Cmp.{tied_itself}
use Rattle.model_values.specs.Value.{Val, val_cmp, val_total, val_exact}
use Rattle.model_values.specs.Token.{Tok}
use Rattle.model_values.specs.Row.{Key, Row, key_cmp, key_exact}
use Rattle.model_sets.specs.Rows.{level, row_mark, mark, put, of_rows, is_of}
use Rattle.model_sets.specs.Loops.{collapse}
use Rattle.model_sets.specs.Rises.{AreRises, AreApart}
use Rattle.model_sets.specs.Values.{IsHeld, visible}
use Rattle.model_sets.proofs.RowLaws.{own_mark, and-left, and-right, is-Equal, mark-small, mark-append, mark-put, mark-of_rows, same_from_mark, ascending-of_rows}
use Rattle.model_sets.proofs.LoopLaws.{length-put_row, collapse-sorted}
use Rattle.model_sets.proofs.WordLaws.{visible-live}
use Rattle.model_sets.proofs.RiseLaws.{at-own, none-or, level-some, rises-mark}
use Rattle.lasp_logset.specs.Whole.{stands, standing}
use Rattle.lasp_logset.specs.Passes.{IsSought}

-- ---- whether a row tells more

pub tell-ends : (rows rest : List Row) (r : Row) (k : Key) (dead b : Bool) → rows ≡ r ∷ rest → b ≡ (eq_by_cmp key_cmp k r.0 && nat_le (level dead) (level r.1)) → b ≡ true → false ≡ nat_lt (mark rows k.0 k.1) (level dead)
tell-ends rows rest r k dead b next is yes_it = ends (sym is ∙ yes_it) ∙ ap (λ (s : List Row). nat_lt (mark s k.0 k.1) (level dead)) (sym next) where
  choose : (c : Bool) → (c && nat_le (level dead) (level r.1)) ≡ true → false ≡ nat_lt (max (if c then level r.1 else 0) (mark rest k.0 k.1)) (level dead)
  choose true e = grind (arith, nat_tests, e)
  choose false e = cc

  ends : (eq_by_cmp key_cmp k r.0 && nat_le (level dead) (level r.1)) ≡ true → false ≡ nat_lt (mark (r ∷ rest) k.0 k.1) (level dead)
  ends e = choose (eq_by_cmp key_cmp k r.0) e

pub tell-goes : (rows rest : List Row) (r : Row) (k : Key) (dead b : Bool) → rows ≡ r ∷ rest → b ≡ (eq_by_cmp key_cmp k r.0 && nat_le (level dead) (level r.1)) → b ≡ false
    → nat_lt (mark rest k.0 k.1) (level dead) ≡ nat_lt (mark rows k.0 k.1) (level dead)
tell-goes rows rest r k dead b next is no_it = goes (sym is ∙ no_it) ∙ ap (λ (s : List Row). nat_lt (mark s k.0 k.1) (level dead)) (sym next) where
  choose : (c : Bool) → (c && nat_le (level dead) (level r.1)) ≡ false → nat_lt (mark rest k.0 k.1) (level dead) ≡ nat_lt (max (if c then level r.1 else 0) (mark rest k.0 k.1)) (level dead)
  choose true e = grind (arith, nat_tests, e)
  choose false e = grind (arith, nat_tests)

  goes : (eq_by_cmp key_cmp k r.0 && nat_le (level dead) (level r.1)) ≡ false → nat_lt (mark rest k.0 k.1) (level dead) ≡ nat_lt (mark (r ∷ rest) k.0 k.1) (level dead)
  goes e = choose (eq_by_cmp key_cmp k r.0) e

-- ---- whether a value lives

pub sought-more : (log rows rest : List Row) (r : Row) (v : Val) (b : Bool) → rows ≡ r ∷ rest → b ≡ (is_of v r && nat_lt (mark log r.0.0 r.0.1) 2) → b ≡ false → IsSought log rows v → IsSought log rest v
sought-more log rows rest r v b next is no_it sought = record {
  live = λ t e.
      let some : 0 < mark (r ∷ rest) v t = subst (λ (s : List Row). 0 < mark s v t) next (sought.live t e) in
      none-or (row_mark r v t) 0 (0 < mark rest v t)
      (λ own. absurd (at-own (λ u w. mark log u w ≡ 1 → u ≡ v → ⊥) r v t own clash e refl))
      (λ none. omega (arith, none, some));
  low = λ u t. omega (arith, subst (λ (s : List Row). mark s u t ≤ mark log u t) next (sought.low u t));
} where
  clash : mark log r.0.0 r.0.1 ≡ 1 → r.0.0 ≡ v → ⊥
  clash one same =
      let mine : is_of v r ≡ true = subst (λ (u : Val). eq_by_cmp val_cmp u r.0.0 ≡ true) same (ap is_eq (tied_itself val_total r.0.0)) in
      let both : (is_of v r && nat_lt (mark log r.0.0 r.0.1) 2) ≡ true = λ i. mine i && nat_lt (one i) 2 in
      let contrary : true ≡ false = sym both ∙ sym is ∙ no_it in
      cc

-- what was found lives
pub found-live : (log rows rest : List Row) (r : Row) (v : Val) (b : Bool) → rows ≡ r ∷ rest → b ≡ (is_of v r && nat_lt (mark log r.0.0 r.0.1) 2) → b ≡ true → IsSought log rows v
    → (IsTrue true → IsHeld (visible (of_rows log)) v) × (IsHeld (visible (of_rows log)) v → IsTrue true)
found-live log rows rest r v b next is yes_it sought = (
  λ _. (visible-live (of_rows log) (ascending-of_rows log) v).1 (r.0.1, mark-of_rows log v r.0.1 ∙ subst (λ (u : Val). mark log u r.0.1 ≡ 1) (sym same) one),
  λ _. refl,
) where
  same : v ≡ r.0.0
  same = val_exact v r.0.0 (is-Equal (val_cmp v r.0.0) (and-left (is_of v r) (nat_lt (mark log r.0.0 r.0.1) 2) (sym is ∙ yes_it)))

  one : mark log r.0.0 r.0.1 ≡ 1
  one =
      let less : nat_lt (mark log r.0.0 r.0.1) 2 ≡ true = and-right (is_of v r) (nat_lt (mark log r.0.0 r.0.1) 2) (sym is ∙ yes_it) in
      let below : mark log r.0.0 r.0.1 < 2 = grind (arith, nat_tests, less) in
      let here : mark rows r.0.0 r.0.1 ≡ mark (r ∷ rest) r.0.0 r.0.1 = ap (λ (s : List Row). mark s r.0.0 r.0.1) next in
      omega (arith, below, here, own_mark r, level-some r.1, sought.low r.0.0 r.0.1)

pub none-lives : (log left : List Row) (v : Val) → left ≡ [] → IsSought log left v → (IsTrue false → IsHeld (visible (of_rows log)) v) × (IsHeld (visible (of_rows log)) v → IsTrue false)
none-lives log left v none sought = (
  λ h. cc,
  λ held.
      let live = (visible-live (of_rows log) (ascending-of_rows log) v).0 held in
      absurd (omega (arith, subst (λ (s : List Row). 0 < mark s v live.0) none (sought.live live.0 (sym (mark-of_rows log v live.0) ∙ live.1)))),
)

-- ---- how many rows

one-more : (r : Row) (s : List Row) → length (of_rows (r ∷ s)) ≡ (if mark s r.0.0 r.0.1 == 0 then length (of_rows s) + 1 else length (of_rows s))
one-more r s = length-put_row r (of_rows s) (ascending-of_rows s) ∙ ap (λ (m : ℕ). if m == 0 then length (of_rows s) + 1 else length (of_rows s)) (mark-of_rows s r.0.0 r.0.1)

both-none : (a b m n : ℕ) → (nat_lt a 1 && nat_lt b 1) ≡ true → m ≡ max a b → m ≡ 0
both-none a b m n e is = grind (arith, nat_tests, e, is)

not-none : (a b m : ℕ) → (nat_lt a 1 && nat_lt b 1) ≡ false → m ≡ max a b → 0 < m
not-none a b m e is = grind (arith, nat_tests, e, is)

some-test : (m : ℕ) → 0 < m → (m == 0) ≡ false
some-test m h = grind (arith, nat_tests, h)

-- a row counts where it is the last of its key in both logs
pub counts-one : (log rows rest : List Row) (r : Row) (b : Bool) (n all : ℕ) → rows ≡ r ∷ rest → b ≡ (nat_lt (mark rest r.0.0 r.0.1) 1 && nat_lt (mark log r.0.0 r.0.1) 1) → b ≡ true
    → n + length (of_rows (rows ++ log)) ≡ all → (n + 1) + length (of_rows (rest ++ log)) ≡ all
counts-one log rows rest r b n all next is yes_it whole =
    let none : mark (rest ++ log) r.0.0 r.0.1 ≡ 0 = both-none (mark rest r.0.0 r.0.1) (mark log r.0.0 r.0.1) (mark (rest ++ log) r.0.0 r.0.1) 0 (sym is ∙ yes_it) (mark-append rest log r.0.0 r.0.1) in
    let more = one-more r (rest ++ log) ∙ ap (λ (m : ℕ). if m == 0 then length (of_rows (rest ++ log)) + 1 else length (of_rows (rest ++ log))) none in
    omega (arith, more, ap (λ (s : List Row). length (of_rows (s ++ log))) next, whole)

pub counts-none : (log rows rest : List Row) (r : Row) (b : Bool) (n all : ℕ) → rows ≡ r ∷ rest → b ≡ (nat_lt (mark rest r.0.0 r.0.1) 1 && nat_lt (mark log r.0.0 r.0.1) 1) → b ≡ false
    → n + length (of_rows (rows ++ log)) ≡ all → n + length (of_rows (rest ++ log)) ≡ all
counts-none log rows rest r b n all next is no_it whole =
    let some : 0 < mark (rest ++ log) r.0.0 r.0.1 = not-none (mark rest r.0.0 r.0.1) (mark log r.0.0 r.0.1) (mark (rest ++ log) r.0.0 r.0.1) (sym is ∙ no_it) (mark-append rest log r.0.0 r.0.1) in
    let same = one-more r (rest ++ log) ∙ ap (λ (c : Bool). if c then length (of_rows (rest ++ log)) + 1 else length (of_rows (rest ++ log))) (some-test (mark (rest ++ log) r.0.0 r.0.1) some) in
    omega (arith, same, ap (λ (s : List Row). length (of_rows (s ++ log))) next, whole)

pub few-more : (rows rest : List Row) (r : Row) (n all : ℕ) → rows ≡ r ∷ rest → n + length rows ≤ all → (n + 1) + length rest ≤ all
few-more rows rest r n all next few = omega (arith, ap length next, few)

pub few-same : (rows rest : List Row) (r : Row) (n all : ℕ) → rows ≡ r ∷ rest → n + length rows ≤ all → n + length rest ≤ all
few-same rows rest r n all next few = omega (arith, ap length next, few)

-- ---- changes in order

pub sorted-all : (log done left s : List Row) → done ++ left ≡ log → left ≡ [] → IsPermutation done s → IsSortedBy (λ (a b : Row). is_lt (key_cmp a.0 b.0)) s → collapse s ≡ of_rows log
sorted-all log done left s whole end order up =
    let all : done ≡ log = sym (append-nil done) ∙ ap (λ (r : List Row). done ++ r) (sym end) ∙ whole in
    collapse-sorted done s order up ∙ ap of_rows all

-- ---- the rows that stand

-- the next row of a pass that leaves out what died later
pub stands-next : (known left rest : List Row) (r : Row) (b : Bool) → left ≡ r ∷ rest → b ≡ stands known r → b ≡ true → standing known left ≡ r ∷ standing known rest
stands-next known left rest r b next is yes_it = ap (λ (s : List Row). standing known s) next ∙ ap (λ (c : Bool). cond c (r ∷ standing known rest) (standing known rest)) (sym is ∙ yes_it)

pub stands-skip : (known left rest : List Row) (r : Row) (b : Bool) → left ≡ r ∷ rest → b ≡ stands known r → b ≡ false → standing known rest ≡ standing known left
stands-skip known left rest r b next is no_it = sym (ap (λ (s : List Row). standing known s) next ∙ ap (λ (c : Bool). cond c (r ∷ standing known rest) (standing known rest)) (sym is ∙ no_it))

pub standing-mark : (log s : List Row) (v : Val) (w : Tok) → mark (standing log s) v w ≡ (if mark s v w == 1 then (if nat_lt (mark log v w) 2 then 1 else 0) else mark s v w)
standing-mark log [] v w = refl
standing-mark log (r ∷ s) v w = choose (eq_by_cmp key_cmp (v, w) r.0) refl r.1 refl (standing-mark log s v w) (mark s v w) refl (mark-small s v w) where
  here : (b : Bool) → eq_by_cmp key_cmp (v, w) r.0 ≡ b → row_mark r v w ≡ (if b then level r.1 else 0)
  here b e = ap (λ (c : Bool). if c then level r.1 else 0) e

  known : eq_by_cmp key_cmp (v, w) r.0 ≡ true → mark log r.0.0 r.0.1 ≡ mark log v w
  known e = ap (λ (k : Key). mark log k.0 k.1) (sym (key_exact (v, w) r.0 (is-Equal (key_cmp (v, w) r.0) e)))

  kept : (c : Bool) → stands log r ≡ c → mark (standing log (r ∷ s)) v w ≡ (if c then max (row_mark r v w) (mark (standing log s) v w) else mark (standing log s) v w)
  kept true e = ap (λ (c : Bool). mark (cond c (r ∷ standing log s) (standing log s)) v w) e
  kept false e = ap (λ (c : Bool). mark (cond c (r ∷ standing log s) (standing log s)) v w) e

  choose : (b : Bool) → eq_by_cmp key_cmp (v, w) r.0 ≡ b → (d : Bool) → r.1 ≡ d → mark (standing log s) v w ≡ (if mark s v w == 1 then (if nat_lt (mark log v w) 2 then 1 else 0) else mark s v w)
      → (m : ℕ) → mark s v w ≡ m → m ≤ 2
      → mark (standing log (r ∷ s)) v w ≡ (if max (row_mark r v w) (mark s v w) == 1 then (if nat_lt (mark log v w) 2 then 1 else 0) else max (row_mark r v w) (mark s v w))
  choose b same d dead rest m is small = by (stands log r) refl where
    row : row_mark r v w ≡ (if b then level d else 0)
    row = here b same ∙ ap (λ (c : Bool). if b then level c else 0) dead

    by : (c : Bool) → stands log r ≡ c → mark (standing log (r ∷ s)) v w ≡ (if max (row_mark r v w) (mark s v w) == 1 then (if nat_lt (mark log v w) 2 then 1 else 0) else max (row_mark r v w) (mark s v w))
    by c e = kept c e ∙ finish b d c same (sym (ap (λ (x : Bool). x || nat_lt (mark log r.0.0 r.0.1) 2) dead) ∙ e) row where
      finish : (x y z : Bool) → eq_by_cmp key_cmp (v, w) r.0 ≡ x → (y || nat_lt (mark log r.0.0 r.0.1) 2) ≡ z → row_mark r v w ≡ (if x then level y else 0)
          → (if z then max (row_mark r v w) (mark (standing log s) v w) else mark (standing log s) v w)
          ≡ (if max (row_mark r v w) (mark s v w) == 1 then (if nat_lt (mark log v w) 2 then 1 else 0) else max (row_mark r v w) (mark s v w))
      finish true true z k t own = grind (arith, nat_tests, t, own, rest, is, small)
      finish true false z k t own = let log_is = known k in grind (arith, nat_tests, t, own, rest, is, small, log_is)
      finish false y true k t own = grind (arith, nat_tests, own, rest)
      finish false y false k t own = grind (arith, nat_tests, own, rest)

pub still : (m : ℕ) → (if m == 1 then (if nat_lt m 2 then 1 else 0) else m) ≡ m
still zero = refl
still (suc zero) = refl
still (suc (suc m)) = grind (arith, nat_tests)

-- what is known of a log's state tells which of its rows stand
standing-known : (log known : List Row) → of_rows known ≡ of_rows log → standing known log ≡ standing log log
standing-known log known same = filter_agree (stands known) (stands log) (λ r. ap (λ (m : ℕ). r.1 || nat_lt m 2) (sym (mark-of_rows known r.0.0 r.0.1) ∙ ap (λ (s : List Row). mark s r.0.0 r.0.1) same ∙ mark-of_rows log r.0.0 r.0.1)) log

pub standing-rows : (log known left pass : List Row) → of_rows known ≡ of_rows log → left ≡ log → pass ≡ standing known left → of_rows pass ≡ of_rows log
standing-rows log known left pass same all is =
    ap of_rows (is ∙ ap (λ (s : List Row). standing known s) all ∙ standing-known log known same)
    ∙ same_from_mark (of_rows (standing log log)) (of_rows log) (ascending-of_rows (standing log log)) (ascending-of_rows log)
    (λ v w. mark-of_rows (standing log log) v w ∙ standing-mark log log v w ∙ still (mark log v w) ∙ sym (mark-of_rows log v w))

pub stands-apart : (log t s : List Row) → AreRises t s → ((v : Val) (w : Tok) → mark s v w ≤ mark log v w) → AreApart (standing log s)
stands-apart log t [] up low = tt
stands-apart log t (r ∷ s) up low = choose (stands log r) refl (stands-apart log (put r t) s up.1 (λ v w. omega (arith, low v w))) where
  bad : (d : Bool) → r.1 ≡ d → stands log r ≡ true → 0 < mark s r.0.0 r.0.1 → ⊥
  bad true e kept some = omega (arith, rises-mark (put r t) s up.1 r.0.0 r.0.1 some, mark-put r t r.0.0 r.0.1, own_mark r, ap level e, mark-small s r.0.0 r.0.1)
  bad false e kept some =
      let less : nat_lt (mark log r.0.0 r.0.1) 2 ≡ true = sym (ap (λ (x : Bool). x || nat_lt (mark log r.0.0 r.0.1) 2) e) ∙ kept in
      let below : mark log r.0.0 r.0.1 < 2 = grind (arith, nat_tests, less) in
      omega (arith, rises-mark (put r t) s up.1 r.0.0 r.0.1 some, mark-put r t r.0.0 r.0.1, own_mark r, ap level e, low r.0.0 r.0.1, below)

  none : stands log r ≡ true → mark (standing log s) r.0.0 r.0.1 ≡ 0
  none kept = none-or (mark s r.0.0 r.0.1) 0 (mark (standing log s) r.0.0 r.0.1 ≡ 0)
      (λ some. absurd (bad r.1 refl kept some))
      (λ gone. standing-mark log s r.0.0 r.0.1 ∙ ap (λ (m : ℕ). if m == 1 then (if nat_lt (mark log r.0.0 r.0.1) 2 then 1 else 0) else m) gone)

  choose : (c : Bool) → stands log r ≡ c → AreApart (standing log s) → AreApart (cond c (r ∷ standing log s) (standing log s))
  choose false e rest = rest
  choose true e rest = (none e, rest)

pub standing-apart : (log known left pass : List Row) → of_rows known ≡ of_rows log → left ≡ log → pass ≡ standing known left → AreRises [] log → AreApart pass
standing-apart log known left pass same all is up =
    subst AreApart (sym (is ∙ ap (λ (s : List Row). standing known s) all ∙ standing-known log known same)) (stands-apart log [] log up (λ v w. omega arith))
