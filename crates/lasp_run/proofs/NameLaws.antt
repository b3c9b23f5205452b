-- The names of variables, with those that commands declare.
use Rattle.std.proofs.Common.{◌≡◌, ℕ, zero, suc, ◌+◌, ◌-◌, ◌≤◌, ◌<◌, List, [], ◌∷◌, ◌++◌, length, drop, Some, sym, ap, ◌∙◌, arith}
use Rattle.std.specs.Prelude.{slice_get}
use Rattle.std.proofs.lemmas.List.{drop_all}
use Rattle.std.proofs.lemmas.Option.{slice_get_within}
use Rattle.std.proofs.Math.Seq.{get_or-append_right}
use Rattle.model_values.proofs.ListLaws.{drop-at}
use Rattle.model_graph.specs.Graph.{Decl, no_decl, name_at}
use Rattle.model_graph.proofs.PlaceLaws.{at-append, length-append}
use Rattle.model_world.specs.Command.{Command}
use Rattle.model_scripts.specs.Progress.{grown_by, grown}
use Rattle.model_scripts.proofs.GrowthLaws.{grown-added}

-- a variable of the graph keeps its name
name-own : (g : List Decl) (ks : List Command) (x : ℕ) → x < length g → name_at (grown g ks) x ≡ name_at g x
name-own g ks x low = ap (λ (ds : List Decl). name_at ds x) (grown-added g ks) ∙ ap (λ (d : Decl). d.name) (at-append g (grown [] ks) x no_decl low)

name-found : (g : List Decl) (x : ℕ) (d : Decl) → slice_get g x ≡ Some d → d.name ≡ name_at g x
name-found [] x d at = absurd cc
name-found (e ∷ g) zero d at = let same : e ≡ d = cc in ap (λ (a : Decl). a.name) (sym same)
name-found (e ∷ g) (suc x) d at = name-found g x d at

-- the name of the graph's declaration is that of its variable
pub name-at : (g : List Decl) (ks : List Command) (x : ℕ) (d : Decl) → slice_get g x ≡ Some d → d.name ≡ name_at (grown g ks) x
name-at g ks x d at = name-found g x d at ∙ sym (name-own g ks x (slice_get_within g x d at))

-- a variable behind the graph's is one that the commands declare
pub name-declared : (g : List Decl) (ks : List Command) (x : ℕ) → length g ≤ x → name_at (grown g ks) x ≡ name_at (grown [] ks) (x - length g)
name-declared g ks x past = ap (λ (ds : List Decl). name_at ds x) (grown-added g ks) ∙ ap (λ (d : Decl). d.name) (get_or-append_right g (grown [] ks) x no_decl past)

pub declared-low : (g : List Decl) (ks : List Command) (x : ℕ) → length g ≤ x → x < length (grown g ks) → x - length g < length (grown [] ks)
declared-low g ks x past low = omega (arith, past, low, ap (λ (ds : List Decl). length ds) (grown-added g ks), length-append g (grown [] ks))

-- ---- the declarations among commands

grown-at : (ks : List Command) (i : ℕ) (k : Command) → slice_get ks i ≡ Some k → grown [] (drop i ks) ≡ grown_by [] k ++ grown [] (drop (i + 1) ks)
grown-at ks i k at = ap (λ (rest : List Command). grown [] rest) (drop-at ks i k at) ∙ grown-added (grown_by [] k) (drop (i + 1) ks)

declares-at : (ks : List Command) (i : ℕ) (k : Command) (d : Decl) → slice_get ks i ≡ Some k → grown_by [] k ≡ d ∷ [] → grown [] (drop i ks) ≡ d ∷ grown [] (drop (i + 1) ks)
declares-at ks i k d at is = grown-at ks i k at ∙ ap (λ (ds : List Decl). ds ++ grown [] (drop (i + 1) ks)) is

-- the place of a declaration among those of the commands from place i on
pub record IsLeft (ks : List Command) (number i left : ℕ) : Type 0 where
  pub low : left < length (grown [] (drop i ks))
  pub name : name_at (grown [] (drop i ks)) left ≡ name_at (grown [] ks) number

-- this command declares it
pub left-here : (ks : List Command) (number i left : ℕ) (k : Command) (d : Decl) → IsLeft ks number i left → slice_get ks i ≡ Some k → grown_by [] k ≡ d ∷ [] → left ≡ 0 → d.name ≡ name_at (grown [] ks) number
left-here ks number i left k d h at is none = ap (λ (ds : List Decl). name_at ds 0) (sym (declares-at ks i k d at is)) ∙ ap (λ (n : ℕ). name_at (grown [] (drop i ks)) n) (sym none) ∙ h.name

tail-name : (d : Decl) (ds : List Decl) (n : ℕ) → 1 ≤ n → name_at (d ∷ ds) n ≡ name_at ds (n - 1)
tail-name d ds zero some = absurd (omega (arith, some))
tail-name d ds (suc n) some = ap (λ (m : ℕ). name_at ds m) (let same : n ≡ suc n - 1 = omega arith in same)

-- a later command declares it
pub left-later : (ks : List Command) (number i left : ℕ) (k : Command) (d : Decl) → IsLeft ks number i left → slice_get ks i ≡ Some k → grown_by [] k ≡ d ∷ [] → 1 ≤ left → IsLeft ks number (i + 1) (left - 1)
left-later ks number i left k d h at is some =
    let all : grown [] (drop i ks) ≡ d ∷ grown [] (drop (i + 1) ks) = declares-at ks i k d at is in
    record {
      low = omega (arith, h.low, ap (λ (ds : List Decl). length ds) all, some);
      name = sym (tail-name d (grown [] (drop (i + 1) ks)) left some) ∙ ap (λ (ds : List Decl). name_at ds left) (sym all) ∙ h.name;
    }

-- this command declares nothing
pub left-behind : (ks : List Command) (number i left : ℕ) (k : Command) → IsLeft ks number i left → slice_get ks i ≡ Some k → grown_by [] k ≡ [] → IsLeft ks number (i + 1) left
left-behind ks number i left k h at is =
    let all : grown [] (drop i ks) ≡ grown [] (drop (i + 1) ks) = grown-at ks i k at ∙ ap (λ (ds : List Decl). ds ++ grown [] (drop (i + 1) ks)) is in
    record {
      low = omega (arith, h.low, ap (λ (ds : List Decl). length ds) all);
      name = ap (λ (ds : List Decl). name_at ds left) (sym all) ∙ h.name;
    }

-- no command is left, so it was declared by one
pub none-left : (ks : List Command) (number i left : ℕ) → IsLeft ks number i left → length ks ≤ i → ⊥
none-left ks number i left h past = omega (arith, h.low, ap (λ (rest : List Command). length (grown [] rest)) (drop_all i ks past))

pub ruleset places = (left-here, left-later, left-behind, none-left)

pub ruleset names = (name-declared, declared-low)
