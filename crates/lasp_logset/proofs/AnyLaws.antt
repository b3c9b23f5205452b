-- Whether a value has a row, by the places of rows.
use Rattle.std.proofs.Common.{◌≡◌, ◌≢◌, ℕ, zero, suc, ◌<◌, ◌≤◌, Bool, true, false, not, ◌||◌, IsTrue, List, [], ◌∷◌, slice_get, refl, sym, ap, subst, ◌∙◌, arith, Option, Some, None}
use Rattle.std.specs.List.{list_any}
use Rattle.model_values.specs.Value.{Val, val_cmp, val_exact}
use Rattle.model_values.specs.Row.{Row}
use Rattle.model_sets.specs.Rows.{is_of}
use Rattle.model_sets.specs.Reads.{is_row_of}
use Rattle.model_sets.proofs.RowLaws.{and-left, is-Equal}
use Rattle.lasp_logset.specs.Places.{IsRowOf, is_row_as}

-- such a row is one of the value
pub as-row : (rows : List Row) (v : Val) (dead : Bool) (i : ℕ) → IsTrue (is_row_as v dead (slice_get rows i)) → IsRowOf rows v i
as-row rows v dead i h = at (slice_get rows i) refl h where
  at : (o : Option Row) → slice_get rows i ≡ o → IsTrue (is_row_as v dead o) → IsRowOf rows v i
  at None e k = cc
  at (Some r) e k =
      let same : v ≡ r.0.0 = val_exact v r.0.0 (is-Equal (val_cmp v r.0.0) (and-left (is_of v r) (r.1 || not dead) k)) in
      subst (λ (u : Val). IsRowOf rows u i) (sym same) (r.0.1, r.1, e)

-- a place with such a row isn't one without
pub not-here : (rows : List Row) (v : Val) (dead b : Bool) (i k : ℕ) → b ≡ is_row_as v dead (slice_get rows k) → b ≡ false → IsTrue (is_row_as v dead (slice_get rows i)) → i ≢ k
not-here rows v dead b i k is no_it there = λ same.
    let clash : true ≡ false = sym there ∙ ap (λ (n : ℕ). is_row_as v dead (slice_get rows n)) same ∙ sym is ∙ no_it in
    cc

or-right : (a b : Bool) → IsTrue b → IsTrue (a || b)
or-right true b h = refl
or-right false b h = h

any-at : (rows : List Row) (v : Val) (dead : Bool) (i : ℕ) → IsTrue (is_row_as v dead (slice_get rows i)) → IsTrue (list_any (is_row_of v dead) rows)
any-at [] v dead i h = cc
any-at (r ∷ rows) v dead zero h = ap (λ b. b || list_any (is_row_of v dead) rows) h
any-at (r ∷ rows) v dead (suc i) h = or-right (is_row_of v dead r) (list_any (is_row_of v dead) rows) (any-at rows v dead i h)

any-where : (rows : List Row) (v : Val) (dead : Bool) → IsTrue (list_any (is_row_of v dead) rows) → (i : ℕ) × IsTrue (is_row_as v dead (slice_get rows i))
any-where [] v dead h = cc
any-where (r ∷ rows) v dead h = choose (is_row_of v dead r) refl (λ k. any-where rows v dead k) h where
  choose : (b : Bool) → is_row_of v dead r ≡ b → (IsTrue (list_any (is_row_of v dead) rows) → (i : ℕ) × IsTrue (is_row_as v dead (slice_get rows i))) → IsTrue (b || list_any (is_row_of v dead) rows)
      → (i : ℕ) × IsTrue (is_row_as v dead (slice_get (r ∷ rows) i))
  choose true e rest k = (0, e)
  choose false e rest k = let later = rest k in (suc later.0, later.1)

-- what was found is there
pub any-found : (rows : List Row) (v : Val) (dead : Bool) → (i : ℕ) × IsTrue (is_row_as v dead (slice_get rows i)) → true ≡ list_any (is_row_of v dead) rows
any-found rows v dead found = sym (any-at rows v dead found.0 found.1)

-- where a chain leads to none, a pass over the rest tells
pub any-rest : (rows : List Row) (v : Val) (dead b : Bool) (n m : ℕ) → ((i : ℕ) → IsTrue (is_row_as v dead (slice_get rows i)) → n ≤ i) → m ≡ n → (IsTrue b → (i : ℕ) × IsTrue (is_row_as v dead (slice_get rows i)))
    → (b ≡ false → (i : ℕ) → IsTrue (is_row_as v dead (slice_get rows i)) → i < m) → b ≡ list_any (is_row_of v dead) rows
any-rest rows v dead b n m none same some past = choose b some past where
  choose : (c : Bool) → (IsTrue c → (i : ℕ) × IsTrue (is_row_as v dead (slice_get rows i))) → (c ≡ false → (i : ℕ) → IsTrue (is_row_as v dead (slice_get rows i)) → i < m) → c ≡ list_any (is_row_of v dead) rows
  choose true found low = any-found rows v dead (found refl)
  choose false found low = by (list_any (is_row_of v dead) rows) refl where
    by : (d : Bool) → list_any (is_row_of v dead) rows ≡ d → false ≡ list_any (is_row_of v dead) rows
    by true e = absurd (let there = any-where rows v dead e in omega (arith, none there.0 there.1, low refl there.0 there.1, same))
    by false e = sym e
