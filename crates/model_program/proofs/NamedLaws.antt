-- What a look-up by name comes to, in the words of membership.
use Rattle.std.proofs.Common.{refl, sym, ap, subst, ◌∙◌, arith}
use Rattle.std.specs.Prelude.{◌≡◌, ℕ, ◌<◌, ◌≤◌, List, [], ◌∷◌, Bool, true, false, nat_lt, Option, Some, None, option_map, option_and_then, slice_get, get_or}
use Rattle.std.specs.List.{position}
use Rattle.std.specs.Str.{bytes_eq}
use Rattle.std.proofs.lemmas.Bool.{false≢true, ltb-true, ltb-false}
use Rattle.std.proofs.lemmas.List.Quantifiers.{position-Some}
use Rattle.std.proofs.lemmas.Option.{slice_get-get_or, get_or_from_slice_get}
use Rattle.std.proofs.lemmas.Slice.Eq.{bytes_eq-Decides}
use Rattle.model_graph.specs.Graph.{Decl, no_decl, decl_at}
use Rattle.model_readings.specs.Graph.{place_of, stored, function_named}
use Rattle.model_readings.proofs.Names.{none_before}
use Rattle.model_scripts.specs.Needs.{IsDeclared}
use Rattle.model_program.specs.Named.{IsNamed, IsStored}

-- the first element that passes, and where it stands
pub record IsFirst {X : Type 0} (p : X → Bool) (xs : List X) (i : ℕ) : Type 0 where
  pub element : X
  pub at : slice_get xs i ≡ Some element
  pub passes : p element ≡ true
  pub first : (k : ℕ) (y : X) → slice_get xs k ≡ Some y → p y ≡ true → i ≤ k

not-before : {X : Type 0} (p : X → Bool) (xs : List X) (d y : X) (i k : ℕ) (b : Bool) → nat_lt k i ≡ b → ((j : ℕ) → j < i → p (get_or xs j d) ≡ false)
    → slice_get xs k ≡ Some y → p y ≡ true → i ≤ k
not-before p xs d y i k true lt fails at passes =
    absurd (false≢true (sym (fails k (ltb-true k i lt)) ∙ ap p (get_or_from_slice_get xs k y d at) ∙ passes))
not-before p xs d y i k false ge fails at passes = ltb-false k i ge

pub position-first : {X : Type 0} (p : X → Bool) (xs : List X) (i : ℕ) → position p xs ≡ Some i → IsFirst p xs i
position-first p [] i e = absurd cc
position-first p (x ∷ xs) i e =
    let found = position-Some p (x ∷ xs) i x e in
    record {
      element = get_or (x ∷ xs) i x;
      at = slice_get-get_or (x ∷ xs) i x found.0;
      passes = found.1;
      first = λ k y at passes. not-before p (x ∷ xs) x y i k _ refl found.2 at passes;
    }

-- a name under which no declaration stands, or the first that does
pub data PlaceAnswer (g : List Decl) (name : List ℕ) : Option ℕ → Type 0 where
  absent : ¬ IsDeclared g name → PlaceAnswer g name None
  present : {i : ℕ} → IsNamed g name (decl_at g i) → PlaceAnswer g name (Some i)

named-first : (g : List Decl) (name : List ℕ) (i : ℕ) → IsFirst (λ (d : Decl). bytes_eq name d.name) g i → IsNamed g name (decl_at g i)
named-first g name i f =
    let named : IsNamed g name f.element = record {
      place = i;
      at = f.at;
      name_is = sym ((bytes_eq-Decides name f.element.name).0 f.passes);
      first = λ k e at same. f.first k e at ((bytes_eq-Decides name e.name).1 (sym same));
    } in
    subst (IsNamed g name) (sym (get_or_from_slice_get g i f.element no_decl f.at)) named

place-step : (g : List Decl) (name : List ℕ) (o : Option ℕ) → position (λ (d : Decl). bytes_eq name d.name) g ≡ o → PlaceAnswer g name o
place-step g name None e = absent (λ s. false≢true (sym (none_before (λ (d : Decl). bytes_eq name d.name) g s.place s.decl _ refl e s.at) ∙ (bytes_eq-Decides name s.decl.name).1 (sym s.name_is)))
place-step g name (Some i) e = present (named-first g name i (position-first (λ (d : Decl). bytes_eq name d.name) g i e))

pub place-answer : (g : List Decl) (name : List ℕ) → PlaceAnswer g name (place_of name g)
unfolding place_of
place-answer g name = place-step g name (position (λ (d : Decl). bytes_eq name d.name) g) refl

pub named-declared : (g : List Decl) (name : List ℕ) (decl : Decl) → IsNamed g name decl → IsDeclared g name
named-declared g name decl n = record { place = n.place; decl = decl; at = n.at; name_is = n.name_is }

same-place : (g : List Decl) (i j : ℕ) (d e : Decl) → i ≤ j → j ≤ i → slice_get g i ≡ Some d → slice_get g j ≡ Some e → d ≡ e
same-place g i j d e le ge at there =
    let place : i ≡ j = omega arith in
    let both : Some d ≡ Some e = sym at ∙ ap (slice_get g) place ∙ there in
    cc

-- one declaration alone is the first of a name
pub named-same : (g : List Decl) (name : List ℕ) (d e : Decl) → IsNamed g name d → IsNamed g name e → d ≡ e
named-same g name d e n m = same-place g n.place m.place d e (n.first m.place e m.at m.name_is) (m.first n.place d n.at n.name_is) n.at m.at

-- a name under which no function is stored, or one that is
pub data FunctionAnswer {A : Type 0} (functions : List (List ℕ × A)) (name : List ℕ) : Option (ℕ × A) → Type 0 where
  lacking : ¬ IsStored functions name → FunctionAnswer functions name None
  stored_as : {p : ℕ × A} → IsStored functions name → FunctionAnswer functions name (Some p)

function-step : {A : Type 0} (functions : List (List ℕ × A)) (name : List ℕ) (o : Option ℕ) → position (λ (f : List ℕ × A). bytes_eq name f.0) functions ≡ o
    → FunctionAnswer functions name (option_and_then (stored functions) o)
function-step {A} functions name None e =
    lacking (λ s. false≢true (sym (none_before (λ (f : List ℕ × A). bytes_eq name f.0) functions s.place s.function _ refl e s.at) ∙ (bytes_eq-Decides name s.function.0).1 (sym s.name_is)))
function-step {A} functions name (Some i) e =
    let f = position-first (λ (f : List ℕ × A). bytes_eq name f.0) functions i e in
    let kept : stored functions i ≡ Some (i, f.element.1) = ap (λ (o : Option (List ℕ × A)). option_map (λ (ops : A). (i, ops)) (option_map (λ (x : List ℕ × A). x.1) o)) f.at in
    subst (FunctionAnswer functions name) (sym kept)
    (stored_as (record { place = i; function = f.element; at = f.at; name_is = sym ((bytes_eq-Decides name f.element.0).0 f.passes) }))

pub function-answer : {A : Type 0} (functions : List (List ℕ × A)) (name : List ℕ) → FunctionAnswer functions name (function_named functions name)
unfolding function_named
function-answer {A} functions name = function-step functions name (position (λ (f : List ℕ × A). bytes_eq name f.0) functions) refl
