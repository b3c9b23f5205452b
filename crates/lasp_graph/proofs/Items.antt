-- The parts of an array as a list.
use Rattle.std.proofs.Common.{◌≡◌, ◌∙◌, ap, refl, sym, ℕ, suc, ◌+◌, ◌<◌, ◌≤◌, arith, List, [], ◌∷◌, map, length, drop, get_or, drop-cons}
use Rattle.std.proofs.lemmas.List.{length-map}
use Rattle.std.proofs.Math.ListN.{drop_of_length-le}
use Rattle.serde_json.specs.View.{view, items_view}
use Rattle.serde_json.specs.declared.value.Value.{Value}
use Rattle.model_readings.specs.Tree.{list_of}

pub list_of-items_view : (vs : List Value) → list_of (items_view vs) ≡ map view vs
list_of-items_view [] = refl
list_of-items_view (v ∷ vs) = ap (λ ds. view v ∷ ds) (list_of-items_view vs)

pub length-list_of : (vs : List Value) → length (list_of (items_view vs)) ≡ length vs
length-list_of vs = ap length (list_of-items_view vs) ∙ length-map vs view

-- what is left from a place on begins with the part there
pub next_item : (vs : List Value) (i : ℕ) (v : Value) → i < length vs → v ≡ get_or vs i v → map view (drop i vs) ≡ view v ∷ map view (drop (i + 1) vs)
next_item vs i v within is =
    let there : get_or vs i v ≡ v = sym is in
    let step : suc i ≡ i + 1 = omega arith in
    ap (map view) (drop-cons vs i v within) ∙ (λ j. view (there j) ∷ map view (drop (step j) vs))

-- past the end nothing is left
pub no_item : (vs : List Value) (i : ℕ) → length vs ≤ i → map view (drop i vs) ≡ []
no_item vs i past = ap (map view) (drop_of_length-le vs past)

pub ruleset lists = (list_of-items_view)

pub ruleset lengths = (length-list_of)
