-- What a look-up by name says of the declarations.
use Rattle.std.proofs.Common.{◌≡◌, ◌≢◌, ◌∙◌, sym, ap, refl, ℕ, ◌<◌, ◌≤◌, List, length, Bool, true, false, cond, Some, None, nat_lt, arith}
use Rattle.std.specs.List.{position_or_len, slice_get}
use Rattle.std.specs.Str.{bytes_eq}
use Rattle.std.proofs.lemmas.Bool.{false≢true}
use Rattle.std.proofs.lemmas.List.Quantifiers.{position-Some}
use Rattle.std.proofs.lemmas.List.Sums.{fails_before_first}
use Rattle.std.proofs.lemmas.Option.{slice_get_within, slice_get-get_or, get_or_from_slice_get}
use Rattle.std.proofs.lemmas.Slice.Eq.{bytes_eq-Decides}
use borrow.Author.Tests.{ltb-false}
use Rattle.model_graph.specs.Graph.{Decl, no_decl, decl_at}
use Rattle.model_readings.specs.Graph.{place_of}

pub none_before : {X : Type 0} (p : X → Bool) (xs : List X) (k : ℕ) (x : X) (b : Bool) → b ≡ nat_lt (position_or_len p xs) (length xs)
    → cond b (Some (position_or_len p xs)) None ≡ None → slice_get xs k ≡ Some x → p x ≡ false
none_before p xs k x true e h at = cc
none_before p xs k x false e h at =
    let past : length xs ≤ position_or_len p xs = ltb-false _ _ (sym e) in
    let within : k < length xs = slice_get_within xs k x at in
    let short : k < position_or_len p xs = omega arith in
    ap p (sym (get_or_from_slice_get xs k x x at)) ∙ fails_before_first p xs k x short

-- where no declaration is found, none has the name
pub none_named : (name : List ℕ) (g : List Decl) → place_of name g ≡ None → (i : ℕ) (d : Decl) → slice_get g i ≡ Some d → d.name ≢ name
unfolding place_of
none_named name g h i d at same =
    let test : bytes_eq name d.name ≡ false = none_before (λ d. bytes_eq name d.name) g i d _ refl h at in
    false≢true (sym test ∙ (bytes_eq-Decides name d.name).1 (sym same))

-- what is found is a declaration of the graph
pub found_within : (name : List ℕ) (g : List Decl) (i : ℕ) → place_of name g ≡ Some i → i < length g
unfolding place_of
found_within name g i h = (position-Some (λ d. bytes_eq name d.name) g i no_decl h).0

pub found_at : (name : List ℕ) (g : List Decl) (i : ℕ) → place_of name g ≡ Some i → slice_get g i ≡ Some (decl_at g i)
found_at name g i h = slice_get-get_or g i no_decl (found_within name g i h)
