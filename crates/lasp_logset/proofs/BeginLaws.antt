-- What a table and the rows behind it tell of a value.
use Rattle.std.proofs.Common.{◌≡◌, ◌≢◌, ℕ, ◌≤◌, ◌<◌, ◌==◌, max, Bool, true, false, cond, if◌then◌else◌, nat_lt, IsTrue, List, [], ◌∷◌, ◌++◌, map, filter, ◌↔◌, refl, sym, ap, subst, ◌∙◌, arith}
use Rattle.std.proofs.lemmas.Bool.Decides.{nat_tests}
use Rattle.std.proofs.lemmas.List.Elements.{filter-append}
use Rattle.std.specs.Ordering.{eq_by_cmp}
use Rattle.std.specs.List.{list_any}
use Rattle.model_values.specs.Value.{Val, val_cmp}
use Rattle.model_values.specs.Token.{Tok}
use Rattle.model_values.specs.Row.{Row}
use Rattle.model_sets.specs.Rows.{mark, put, of_rows, join, IsAtMost, is_of, buried, remove_delta}
use Rattle.model_sets.specs.Equations.{changed, filter_set}
use Rattle.model_sets.specs.Reads.{is_row_of, HasRowOf}
use Rattle.model_sets.specs.Rises.{AreRises, AreApart}
use Rattle.model_sets.proofs.RowLaws.{mark-small, mark-append, mark-put, mark-of_rows, mark-join, same_from_mark, ascending-of_rows, ascending-join}
use Rattle.model_sets.proofs.UpdateLaws.{remove-mark}
use Rattle.model_sets.proofs.ReadLaws.{row-words}
use Rattle.model_sets.proofs.RiseLaws.{none-or, apart-rises, rises-append}
use Rattle.model_sets.proofs.EquationLaws.{filter-mark, filter-ascending}
use Rattle.lasp_logset.specs.Whole.{stands, standing}
use Rattle.lasp_logset.proofs.PassLaws.{standing-mark, still, stands-apart}
use Rattle.lasp_logset.proofs.GrownLaws.{joined-next, joined-end}

-- ---- rows that are buried

-- rows of the table that died behind it make no difference
dead-parts : (c : Bool) (a b : ℕ) → a ≤ 2 → b ≤ 2 → max (max a b) (max (if c then (if a == 1 then 2 else 0) else 0) (if c then (if b == 0 then 0 else 2) else 0)) ≡ max (max a b) (if c then (if max a b == 0 then 0 else 2) else 0)
dead-parts true a b low high = grind (arith, nat_tests, low, high)
dead-parts false a b low high = omega arith

pub buried-parts : (v : Val) (begin behind log delta delta' : List Row) → begin ++ behind ≡ log
    → ((u : Val) (t : Tok) → mark delta u t ≡ (if eq_by_cmp val_cmp v u then (if mark begin u t == 1 then 2 else 0) else 0)) → of_rows delta' ≡ join (of_rows delta) (remove_delta v behind)
    → join (of_rows log) delta' ≡ join (of_rows log) (remove_delta v (of_rows log))
buried-parts v begin behind log delta delta' is marks made = same_from_mark (join (of_rows log) delta') (join (of_rows log) (remove_delta v (of_rows log))) (ascending-join (of_rows log) delta') (ascending-join (of_rows log) (remove_delta v (of_rows log)))
    (λ u t. mark-join (of_rows log) delta' u t
    ∙ (λ i. max (whole u t i) (parts u t i))
    ∙ dead-parts (eq_by_cmp val_cmp v u) (mark begin u t) (mark behind u t) (mark-small begin u t) (mark-small behind u t)
    ∙ sym (mark-join (of_rows log) (remove_delta v (of_rows log)) u t
    ∙ (λ i. max (whole u t i) (remove-mark v (of_rows log) u t i))
    ∙ ap (λ (m : ℕ). max (max (mark begin u t) (mark behind u t)) (if eq_by_cmp val_cmp v u then (if m == 0 then 0 else 2) else 0)) (whole u t))) where
      whole : (u : Val) (t : Tok) → mark (of_rows log) u t ≡ max (mark begin u t) (mark behind u t)
      whole u t = mark-of_rows log u t ∙ ap (λ (s : List Row). mark s u t) (sym is) ∙ mark-append begin behind u t

      parts : (u : Val) (t : Tok) → mark delta' u t ≡ max (if eq_by_cmp val_cmp v u then (if mark begin u t == 1 then 2 else 0) else 0) (if eq_by_cmp val_cmp v u then (if mark behind u t == 0 then 0 else 2) else 0)
      parts u t =
          sym (mark-of_rows delta' u t) ∙ ap (λ (s : List Row). mark s u t) made ∙ mark-join (of_rows delta) (remove_delta v behind) u t
          ∙ (λ i. max ((mark-of_rows delta u t ∙ marks u t) i) (remove-mark v behind u t i))

-- of no rows none are buried
pub buried-empty : (v u : Val) (t : Tok) (delta : List Row) → delta ≡ [] → mark delta u t ≡ (if eq_by_cmp val_cmp v u then (if mark [] u t == 1 then 2 else 0) else 0)
buried-empty v u t delta none = ap (λ (s : List Row). mark s u t) none ∙ elim (eq_by_cmp val_cmp v u) as (λ c. ◌≡◌ {A = ℕ} 0 (if c then 0 else 0)) [ true ↦ refl | false ↦ refl ]

of-row : (v : Val) (rest : List Row) (r : Row) (b : Bool) → is_of v r ≡ b → remove_delta v (r ∷ rest) ≡ map buried (cond b (r ∷ filter (is_of v) rest) (filter (is_of v) rest))
of-row v rest r b is = ap (λ (c : Bool). map buried (cond c (r ∷ filter (is_of v) rest) (filter (is_of v) rest))) is

-- a row of the value that is left of a pass is buried
pub buried-next : (v : Val) (delta delta' left rest : List Row) (r e : Row) (b : Bool) → left ≡ r ∷ rest → b ≡ is_of v r → b ≡ true → e ≡ (r.0, true) → delta' ≡ delta ++ changed delta (e ∷ [])
    → join (of_rows delta') (remove_delta v rest) ≡ join (of_rows delta) (remove_delta v left)
buried-next v delta delta' left rest r e b next is yes_it dead made =
    joined-next delta delta' (remove_delta v left) (remove_delta v rest) (r.0, true) (ap (λ (s : List Row). remove_delta v s) next ∙ of-row v rest r true (sym is ∙ yes_it)) (made ∙ ap (λ (q : Row). delta ++ changed delta (q ∷ [])) dead)

-- one of another value isn't
pub buried-skip : (v : Val) (delta left rest : List Row) (r : Row) (b : Bool) → left ≡ r ∷ rest → b ≡ is_of v r → b ≡ false → join (of_rows delta) (remove_delta v rest) ≡ join (of_rows delta) (remove_delta v left)
buried-skip v delta left rest r b next is no_it = ap (λ (s : List Row). join (of_rows delta) s) (sym (ap (λ (s : List Row). remove_delta v s) next ∙ of-row v rest r false (sym is ∙ no_it)))

pub buried-end : (v : Val) (delta left : List Row) → left ≡ [] → of_rows delta ≡ join (of_rows delta) (remove_delta v left)
buried-end v delta left none = joined-end delta (remove_delta v left) (ap (λ (s : List Row). remove_delta v s) none)

-- ---- whether a value has a row

pub no-row : (v : Val) (dead : Bool) → (IsTrue false → HasRowOf [] v dead) × (HasRowOf [] v dead → IsTrue false)
no-row v dead = (λ h. cc, λ has. absurd (none dead has)) where
  none : (d : Bool) → HasRowOf [] v d → ⊥
  none true h = omega (arith, h.1)
  none false h = omega (arith, h.1)

in-first : (v : Val) (dead : Bool) (s t : List Row) → HasRowOf s v dead → HasRowOf (s ++ t) v dead
in-first v true s t h = (h.0, omega (arith, h.1, mark-append s t v h.0, mark-small t v h.0))
in-first v false s t h = (h.0, omega (arith, h.1, mark-append s t v h.0))

in-second : (v : Val) (dead : Bool) (s t : List Row) → HasRowOf t v dead → HasRowOf (s ++ t) v dead
in-second v true s t h = (h.0, omega (arith, h.1, mark-append s t v h.0, mark-small s v h.0))
in-second v false s t h = (h.0, omega (arith, h.1, mark-append s t v h.0))

either-two : (m n o : ℕ) (P : Type 0) → o ≡ max m n → o ≡ 2 → (m ≡ 2 → P) → (n ≡ 2 → P) → P
either-two m n o P most is left right = by (m == 2) refl where
  by : (b : Bool) → (m == 2) ≡ b → P
  by true e = left (grind (arith, nat_tests, e))
  by false e = let other : m ≢ 2 = λ same. (let clash : true ≡ false = sym (ap (λ (k : ℕ). k == 2) same) ∙ e in cc) in right (omega (arith, other, most, is))

either-some : (m n o : ℕ) (P : Type 0) → o ≡ max m n → 0 < o → (0 < m → P) → (0 < n → P) → P
either-some m n o P most some left right = none-or m 0 P left (λ none. right (omega (arith, none, most, some)))

in-either : (v : Val) (dead : Bool) (s t : List Row) (P : Type 0) → HasRowOf (s ++ t) v dead → (HasRowOf s v dead → P) → (HasRowOf t v dead → P) → P
in-either v true s t P h left right = either-two (mark s v h.0) (mark t v h.0) (mark (s ++ t) v h.0) P (mark-append s t v h.0) h.1 (λ e. left (h.0, e)) (λ e. right (h.0, e))
in-either v false s t P h left right = either-some (mark s v h.0) (mark t v h.0) (mark (s ++ t) v h.0) P (mark-append s t v h.0) h.1 (λ e. left (h.0, e)) (λ e. right (h.0, e))

-- the table has it
pub row-begun : (v : Val) (dead : Bool) (begin behind log : List Row) (a : Bool) → begin ++ behind ≡ log → (IsTrue a ↔ HasRowOf begin v dead) → a ≡ true → (IsTrue true → HasRowOf log v dead) × (HasRowOf log v dead → IsTrue true)
row-begun v dead begin behind log a is told yes_it = (λ _. subst (λ (s : List Row). HasRowOf s v dead) is (in-first v dead begin behind (told.0 yes_it)), λ _. refl)

-- what the table doesn't have, the rows behind it tell
pub row-behind : (v : Val) (dead : Bool) (begin behind log : List Row) (a b : Bool) → begin ++ behind ≡ log → (IsTrue a ↔ HasRowOf begin v dead) → a ≡ false → b ≡ list_any (is_row_of v dead) behind
    → (IsTrue b → HasRowOf log v dead) × (HasRowOf log v dead → IsTrue b)
row-behind v dead begin behind log a b is told no_it here = (
  λ h. subst (λ (s : List Row). HasRowOf s v dead) is (in-second v dead begin behind (words.0 h)),
  λ has. in-either v dead begin behind (IsTrue b) (subst (λ (s : List Row). HasRowOf s v dead) (sym is) has) (λ h. absurd (let clash : true ≡ false = sym (told.1 h) ∙ no_it in cc)) words.1,
) where
  words : (IsTrue b → HasRowOf behind v dead) × (HasRowOf behind v dead → IsTrue b)
  words = row-words v dead behind b here

-- ---- a pass over the rows of a value

alike-of : (v : Val) (s t : List Row) → filter (is_of v) (of_rows s) ≡ filter (is_of v) (of_rows t) → (u : Val) (w : Tok) → (if eq_by_cmp val_cmp v u then mark s u w else 0) ≡ (if eq_by_cmp val_cmp v u then mark t u w else 0)
alike-of v s t same u w =
    sym (filter-mark (eq_by_cmp val_cmp v) (of_rows s) u w ∙ ap (λ (m : ℕ). if eq_by_cmp val_cmp v u then m else 0) (mark-of_rows s u w)) ∙ ap (λ (r : List Row). mark r u w) same
    ∙ filter-mark (eq_by_cmp val_cmp v) (of_rows t) u w ∙ ap (λ (m : ℕ). if eq_by_cmp val_cmp v u then m else 0) (mark-of_rows t u w)

-- the rows of the value in the table with all that stand behind it are those of the log
pub near-begun : (v : Val) (begin behind log near pass : List Row) → begin ++ behind ≡ log → filter (is_of v) (of_rows near) ≡ filter (is_of v) (of_rows begin) → pass ≡ standing log near ++ standing log behind
    → filter (is_of v) (of_rows pass) ≡ filter (is_of v) (of_rows log)
near-begun v begin behind log near pass whole same is =
    same_from_mark (filter_set (eq_by_cmp val_cmp v) (of_rows pass)) (filter_set (eq_by_cmp val_cmp v) (of_rows log)) (filter-ascending (eq_by_cmp val_cmp v) (of_rows pass) (ascending-of_rows pass)) (filter-ascending (eq_by_cmp val_cmp v) (of_rows log) (ascending-of_rows log))
    (λ u w. filter-mark (eq_by_cmp val_cmp v) (of_rows pass) u w
    ∙ ap (λ (m : ℕ). if eq_by_cmp val_cmp v u then m else 0) (mark-of_rows pass u w ∙ ap (λ (s : List Row). mark s u w) (is ∙ sym (filter-append (stands log) near behind)) ∙ standing-mark log (near ++ behind) u w)
    ∙ choose u w (eq_by_cmp val_cmp v u) (alike-of v near begin same u w)
    ∙ sym (filter-mark (eq_by_cmp val_cmp v) (of_rows log) u w ∙ ap (λ (m : ℕ). if eq_by_cmp val_cmp v u then m else 0) (mark-of_rows log u w))) where
      choose : (u : Val) (w : Tok) (c : Bool) → (if c then mark near u w else 0) ≡ (if c then mark begin u w else 0)
          → (if c then (if mark (near ++ behind) u w == 1 then (if nat_lt (mark log u w) 2 then 1 else 0) else mark (near ++ behind) u w) else 0) ≡ (if c then mark log u w else 0)
      choose u w false e = refl
      choose u w true e =
          let there : mark (near ++ behind) u w ≡ mark log u w =
          mark-append near behind u w ∙ ap (λ (m : ℕ). max m (mark behind u w)) e ∙ sym (ap (λ (s : List Row). mark s u w) (sym whole) ∙ mark-append begin behind u w) in
          ap (λ (m : ℕ). if m == 1 then (if nat_lt (mark log u w) 2 then 1 else 0) else m) there ∙ still (mark log u w)

rises-below : (s t log : List Row) → ((v : Val) (w : Tok) → mark t v w ≤ mark s v w) → AreRises s log → AreRises t log
rises-below s t [] low up = tt
rises-below s t (r ∷ log) low up = (omega (arith, low r.0.0 r.0.1, up.0), rises-below (put r s) (put r t) log (λ v w. omega (arith, mark-put r s v w, mark-put r t v w, low v w)) up.1)

-- no two of them have one key
pub near-begun-apart : (begin behind log near pass : List Row) → begin ++ behind ≡ log → IsAtMost near begin → AreApart near → AreRises begin behind → pass ≡ standing log near ++ standing log behind → AreApart pass
near-begun-apart begin behind log near pass whole low apart up is =
    subst AreApart (filter-append (stands log) near behind ∙ sym is)
    (stands-apart log [] (near ++ behind)
    (rises-append [] near near behind (λ v w. omega arith) (apart-rises [] near apart (λ v w some. refl)) (rises-below begin near behind low up))
    (λ v w. omega (arith, mark-append near behind v w, low v w, ap (λ (s : List Row). mark s v w) (sym whole), mark-append begin behind v w)))
