-- What a pass over rows tells of a value's rows, and that the numbers in rows stay small.
use Rattle.std.proofs.Common.{◌≡◌, ◌↔◌, ◌<◌, ◌≤◌, max, Bool, true, false, cond, not, ◌&&◌, ◌||◌, IsTrue, List, [], ◌∷◌, ◌++◌, filter, refl, sym, ap, subst, ◌∙◌, arith, if◌then◌else◌}
use Rattle.std.specs.Ordering.{is_eq, eq_by_cmp}
use Rattle.std.specs.List.{list_any}
use Rattle.std.specs.Cmp.{tied_itself}
use Rattle.model_values.specs.Value.{Val, val_cmp, val_total, val_exact}
use Rattle.model_values.specs.Size.{HasSmallInts}
use Rattle.model_values.specs.Token.{Tok}
use Rattle.model_values.specs.Row.{Key, Row, key_cmp, key_exact}
use Rattle.model_sets.specs.Rows.{is_of, level, row_mark, mark, put}
use Rattle.model_sets.specs.Reads.{is_row_of, HasRowOf, HaveSmallInts}
use Rattle.model_sets.proofs.RowLaws.{own_mark, and-left, and-right, and-both, is-Equal, mark-small, mark-append, mark-put}

any-row-filter : (v : Val) (dead : Bool) (s : List Row) → list_any (is_row_of v dead) s ≡ list_any (is_row_of v dead) (filter (is_of v) s)
any-row-filter v dead [] = refl
any-row-filter v dead (r ∷ s) =
    elim (is_of v r) as (λ b. is_of v r ≡ b → ((b && (r.1 || not dead)) || list_any (is_row_of v dead) s) ≡ list_any (is_row_of v dead) (cond b (r ∷ filter (is_of v) s) (filter (is_of v) s))) [
      | true ↦ λ e. ap (λ b. (b && (r.1 || not dead)) || list_any (is_row_of v dead) s) (sym e) ∙ ap (λ b. is_row_of v dead r || b) (any-row-filter v dead s)
      | false ↦ λ e. any-row-filter v dead s
    ] refl

-- a row of the value that is as dead as is asked for
abbrev HasLevel : Val → Bool → List Row → Type 0
HasLevel v dead s = (t : Tok) × (level dead ≤ mark s v t)

as_dead : (here dead : Bool) → IsTrue (here || not dead) → level dead ≤ level here
as_dead true true h = omega arith
as_dead true false h = omega arith
as_dead false true h = cc
as_dead false false h = omega arith

less_dead : (here dead : Bool) → (here || not dead) ≡ false → level here < level dead
less_dead true true h = cc
less_dead true false h = cc
less_dead false true h = omega arith
less_dead false false h = cc

level-here : (v : Val) (dead : Bool) (r : Row) (s : List Row) → IsTrue (is_row_of v dead r) → HasLevel v dead (r ∷ s)
level-here v dead r s h =
    let same : v ≡ r.0.0 = val_exact v r.0.0 (is-Equal (val_cmp v r.0.0) (and-left (is_of v r) (r.1 || not dead) h)) in
    let own : row_mark r v r.0.1 ≡ level r.1 = subst (λ (u : Val). row_mark r u r.0.1 ≡ level r.1) (sym same) (own_mark r) in
    (r.0.1, omega (arith, own, as_dead r.1 dead (and-right (is_of v r) (r.1 || not dead) h)))

level-from_any : (v : Val) (dead : Bool) (s : List Row) → IsTrue (list_any (is_row_of v dead) s) → HasLevel v dead s
level-from_any v dead [] h = cc
level-from_any v dead (r ∷ s) h =
    elim (is_row_of v dead r) as (λ b. is_row_of v dead r ≡ b → IsTrue (b || list_any (is_row_of v dead) s) → HasLevel v dead (r ∷ s)) [
      | true ↦ λ e k. level-here v dead r s e
      | false ↦ λ e k. let later = level-from_any v dead s k in (later.0, omega (arith, later.1))
    ] refl h

or-right : (a b : Bool) → IsTrue b → IsTrue (a || b)
or-right true b h = refl
or-right false b h = h

any-from_level : (v : Val) (dead : Bool) (s : List Row) (t : Tok) → level dead ≤ mark s v t → IsTrue (list_any (is_row_of v dead) s)
any-from_level v dead [] t h = absurd (none dead h) where
  none : (d : Bool) → level d ≤ 0 → ⊥
  none true h = omega (arith, h)
  none false h = omega (arith, h)
any-from_level v dead (r ∷ s) t h = choose (eq_by_cmp key_cmp (v, t) r.0) refl (r.1 || not dead) refl (λ k. any-from_level v dead s t k) where
  choose : (b : Bool) → eq_by_cmp key_cmp (v, t) r.0 ≡ b → (c : Bool) → (r.1 || not dead) ≡ c → (level dead ≤ mark s v t → IsTrue (list_any (is_row_of v dead) s)) → IsTrue (is_row_of v dead r || list_any (is_row_of v dead) s)
  choose false e c f later =
      let none : row_mark r v t ≡ 0 = ap (λ (b : Bool). if b then level r.1 else 0) e in
      or-right (is_row_of v dead r) (list_any (is_row_of v dead) s) (later (omega (arith, none, h)))
  choose true e true f later =
      let same : (v, t) ≡ r.0 = key_exact (v, t) r.0 (is-Equal (key_cmp (v, t) r.0) e) in
      let of : is_of v r ≡ true = subst (λ (u : Val). eq_by_cmp val_cmp v u ≡ true) (ap (λ (k : Key). k.0) same) (ap is_eq (tied_itself val_total v)) in
      ap (λ b. b || list_any (is_row_of v dead) s) (and-both (is_of v r) (r.1 || not dead) of f)
  choose true e false f later =
      let own : row_mark r v t ≡ level r.1 = ap (λ (b : Bool). if b then level r.1 else 0) e in
      or-right (is_row_of v dead r) (list_any (is_row_of v dead) s) (later (omega (arith, own, h, less_dead r.1 dead f)))

words-from_level : (v : Val) (dead : Bool) (s : List Row) → HasLevel v dead s → HasRowOf s v dead
words-from_level v true s h = (h.0, omega (arith, h.1, mark-small s v h.0))
words-from_level v false s h = (h.0, omega (arith, h.1))

level-from_words : (v : Val) (dead : Bool) (s : List Row) → HasRowOf s v dead → HasLevel v dead s
level-from_words v true s h = (h.0, omega (arith, h.1))
level-from_words v false s h = (h.0, omega (arith, h.1))

-- The value has such a row where a pass over all rows finds one.
pub row-words : (v : Val) (dead : Bool) (s : List Row) (b : Bool) → b ≡ list_any (is_row_of v dead) s → (IsTrue b → HasRowOf s v dead) × (HasRowOf s v dead → IsTrue b)
row-words v dead s b all = (λ h. words-from_level v dead s (level-from_any v dead s (subst IsTrue all h)), λ h. let l = level-from_words v dead s h in subst IsTrue (sym all) (any-from_level v dead s l.0 l.1))

pub any-words : (v : Val) (dead : Bool) (s : List Row) → IsTrue (list_any (is_row_of v dead) s) ↔ HasRowOf s v dead
any-words v dead s = row-words v dead s (list_any (is_row_of v dead) s) refl

pub ruleset reads = (any-words)

-- The same of a pass over some rows among which are all those of the value.
pub has_row-answer : (v : Val) (dead : Bool) (s near : List Row) (b : Bool) → filter (is_of v) near ≡ filter (is_of v) s → b ≡ list_any (is_row_of v dead) near
    → (IsTrue b → HasRowOf s v dead) × (HasRowOf s v dead → IsTrue b)
has_row-answer v dead s near b kept is = row-words v dead s b (is ∙ any-row-filter v dead near ∙ ap (list_any (is_row_of v dead)) kept ∙ sym (any-row-filter v dead s))

-- ---- a pass

pub row-found : (v : Val) (dead : Bool) (rows rest near : List Row) (r : Row) (same : Bool) → rows ≡ r ∷ rest → same ≡ is_row_of v dead r → same ≡ true
    → list_any (is_row_of v dead) rows ≡ list_any (is_row_of v dead) near → true ≡ list_any (is_row_of v dead) near
row-found v dead rows rest near r same next is yes_it so_far =
    ap (λ b. b || list_any (is_row_of v dead) rest) (sym yes_it ∙ is) ∙ ap (list_any (is_row_of v dead)) (sym next) ∙ so_far

pub row-none : (v : Val) (dead : Bool) (rows near : List Row) → rows ≡ [] → list_any (is_row_of v dead) rows ≡ list_any (is_row_of v dead) near → false ≡ list_any (is_row_of v dead) near
row-none v dead rows near done so_far = ap (list_any (is_row_of v dead)) (sym done) ∙ so_far

-- ---- small numbers

small-more : (r : Row) (s t : List Row) → HasSmallInts r.0.0 → HaveSmallInts s → ((v : Val) (w : Tok) → mark t v w ≡ max (row_mark r v w) (mark s v w)) → HaveSmallInts t
small-more r s t small ints more v w has = choose (eq_by_cmp key_cmp (v, w) r.0) refl where
  choose : (b : Bool) → eq_by_cmp key_cmp (v, w) r.0 ≡ b → HasSmallInts v
  choose true e = subst HasSmallInts (sym (ap (λ (k : Key). k.0) (key_exact (v, w) r.0 (is-Equal (key_cmp (v, w) r.0) e)))) small
  choose false e = let none : row_mark r v w ≡ 0 = ap (λ (b : Bool). if b then level r.1 else 0) e in ints v w (omega (arith, none, has, more v w))

pub small-put : (r : Row) (s : List Row) → HasSmallInts r.0.0 → HaveSmallInts s → HaveSmallInts (put r s)
small-put r s small ints = small-more r s (put r s) small ints (mark-put r s)

pub small-push : (r : Row) (s : List Row) → HasSmallInts r.0.0 → HaveSmallInts s → HaveSmallInts (s ++ r ∷ [])
small-push r s small ints = small-more r s (s ++ r ∷ []) small ints (λ v w. omega (arith, mark-append s (r ∷ []) v w))
