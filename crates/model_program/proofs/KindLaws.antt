-- What a form comes to behind other declarations: its kind, or the first of its needs that is wanting.
use Rattle.std.proofs.Common.{refl, sym, subst, ◌∙◌}
use Rattle.std.specs.Prelude.{◌≡◌, ◌↔◌, ◌⊎◌, ℕ, List, Bool, true, false, IsTrue, IsFalse, Option, Some, None, Result, Ok, Err}
use mathlib.Core.Logic.{inl, inr}
use Rattle.std.proofs.lemmas.Bool.{false≢true}
use Rattle.model_functions.specs.Library.{Library}
use Rattle.model_graph.specs.Chain.{◌>>=◌, check, or_else}
use Rattle.model_graph.specs.Graph.{Kind, OrSet, GSet, Counter, MaxReg, Union, Product, Intersection, Map, Filter, Fold, Decl, is_set, decl_at}
use Rattle.model_readings.specs.Graph.{Form, orset, gset, counter, maxreg, union, product, intersection, map, filter, fold, place_of, known, set_checked, function_named, inputs_read, input_read, function_read, pair_read, applied_read, kind_read}
use Rattle.model_readings.specs.declared.graph_why.GraphWhy.{GraphWhy}
use Rattle.model_readings.specs.declared.graph_why.GraphWhy.TheVariants as why
use Rattle.model_scripts.specs.Needs.{IsDeclared}
use Rattle.model_program.specs.Named.{IsNamed, IsStored}
use Rattle.model_program.specs.Declaration.{Takes, AreDeclared, IsUndeclared, AreSets, IsNoSet, HasFunction}
use Rattle.model_program.proofs.NamedLaws.{PlaceAnswer, absent, present, place-answer, named-declared, named-same, FunctionAnswer, lacking, stored_as, function-answer}

-- the names that are taken are undeclared, or no sets, or the function is lacking, or there is a kind
pub data KindAnswer (before : List Decl) (names : List ℕ → Type 0) (function : Type 0) : Result Kind GraphWhy → Type 0 where
  unknown : IsUndeclared before names → KindAnswer before names function (Err why.UnknownInput)
  no_set : AreDeclared before names → IsNoSet before names → KindAnswer before names function (Err why.WrongKind)
  no_function : AreDeclared before names → AreSets before names → ¬ function → KindAnswer before names function (Err why.UnknownFunction)
  of_kind : {kind : Kind} → AreDeclared before names → AreSets before names → function → KindAnswer before names function (Ok kind)

-- an input is not declared, or is the first declaration of its name
data InputAnswer (before : List Decl) (x : List ℕ) : Result ℕ GraphWhy → Type 0 where
  undeclared : ¬ IsDeclared before x → InputAnswer before x (Err why.UnknownInput)
  declared : {i : ℕ} → IsNamed before x (decl_at before i) → InputAnswer before x (Ok i)

input-step : (before : List Decl) (x : List ℕ) (o : Option ℕ) → PlaceAnswer before x o → InputAnswer before x (or_else o why.UnknownInput)
input-step before x None (absent n) = undeclared n
input-step before x (Some i) (present n) = declared n

input-answer : (before : List Decl) (x : List ℕ) → InputAnswer before x (known before x)
input-answer before x = input-step before x (place_of x before) (place-answer before x)

-- a declaration is a set or isn't
data SetAnswer (d : Decl) : Result (Unit {0}) GraphWhy → Type 0 where
  set : IsTrue (is_set d.kind) → SetAnswer d (Ok tt)
  other : IsFalse (is_set d.kind) → SetAnswer d (Err why.WrongKind)

set-step : (d : Decl) (b : Bool) → is_set d.kind ≡ b → SetAnswer d (check b why.WrongKind)
set-step d true e = set e
set-step d false e = other e

set-answer : (before : List Decl) (i : ℕ) → SetAnswer (decl_at before i) (set_checked before i)
set-answer before i = set-step (decl_at before i) (is_set (decl_at before i).kind) refl

set-named : (before : List Decl) (x z : List ℕ) (d e : Decl) → IsNamed before x d → IsTrue (is_set d.kind) → z ≡ x → IsNamed before z e → IsTrue (is_set e.kind)
set-named before x z d e n s same m = subst (λ (k : Decl). IsTrue (is_set k.kind)) (named-same before x d e n (subst (λ (y : List ℕ). IsNamed before y e) same m)) s

declared-named : (before : List Decl) (x z : List ℕ) (d : Decl) → IsNamed before x d → z ≡ x → IsDeclared before z
declared-named before x z d n same = subst (IsDeclared before) (sym same) (named-declared before x d n)

-- two inputs
abbrev Either : List ℕ → List ℕ → List ℕ → Type 0
Either x y z = (z ≡ x) ⊎ (z ≡ y)

either-declared : (before : List Decl) (x y z : List ℕ) (d e : Decl) → IsNamed before x d → IsNamed before y e → Either x y z → IsDeclared before z
either-declared before x y z d e n m (inl same) = declared-named before x z d n same
either-declared before x y z d e n m (inr same) = declared-named before y z e m same

either-sets : (before : List Decl) (x y z : List ℕ) (d e k : Decl) → IsNamed before x d → IsTrue (is_set d.kind) → IsNamed before y e → IsTrue (is_set e.kind) → Either x y z → IsNamed before z k → IsTrue (is_set k.kind)
either-sets before x y z d e k n s m t (inl same) named = set-named before x z d k n s same named
either-sets before x y z d e k n s m t (inr same) named = set-named before y z e k m t same named

abbrev pair_made : (ℕ → ℕ → Kind) → Result (ℕ × ℕ) GraphWhy → Result Kind GraphWhy
pair_made make r = r >>= λ p. Ok (make p.0 p.1)

pair-sets : (before : List Decl) (make : ℕ → ℕ → Kind) (x y : List ℕ) (i j : ℕ) (t u : Result (Unit {0}) GraphWhy)
    → IsNamed before x (decl_at before i) → IsNamed before y (decl_at before j) → SetAnswer (decl_at before i) t → SetAnswer (decl_at before j) u
    → KindAnswer before (Either x y) (Unit {0}) (pair_made make (t >>= λ _. u >>= λ _. Ok (i, j)))
pair-sets before make x y i j (Err e) u n m (other o) v =
    no_set (λ z taken. either-declared before x y z _ _ n m taken) (record { input = x; decl = decl_at before i; taken = inl refl; named = n; kind = o })
pair-sets before make x y i j (Ok k) (Err e) n m (set s) (other o) =
    no_set (λ z taken. either-declared before x y z _ _ n m taken) (record { input = y; decl = decl_at before j; taken = inr refl; named = m; kind = o })
pair-sets before make x y i j (Ok k) (Ok l) n m (set s) (set t) =
    of_kind (λ z taken. either-declared before x y z _ _ n m taken) (λ z e taken named. either-sets before x y z _ _ e n s m t taken named) tt

pair-inputs : (before : List Decl) (make : ℕ → ℕ → Kind) (x y : List ℕ) (r s : Result ℕ GraphWhy) → InputAnswer before x r → InputAnswer before y s
    → KindAnswer before (Either x y) (Unit {0}) (pair_made make (r >>= λ i. s >>= λ j. set_checked before i >>= λ _. set_checked before j >>= λ _. Ok (i, j)))
pair-inputs before make x y (Err e) s (undeclared n) m = unknown (record { input = x; taken = inl refl; absent = n })
pair-inputs before make x y (Ok i) (Err e) (declared n) (undeclared m) = unknown (record { input = y; taken = inr refl; absent = m })
pair-inputs before make x y (Ok i) (Ok j) (declared n) (declared m) = pair-sets before make x y i j (set_checked before i) (set_checked before j) n m (set-answer before i) (set-answer before j)

pair-answer : (before : List Decl) (make : ℕ → ℕ → Kind) (x y : List ℕ) → KindAnswer before (Either x y) (Unit {0}) (pair_read before make x y)
unfolding inputs_read
pair-answer before make x y = pair-inputs before make x y (known before x) (known before y) (input-answer before x) (input-answer before y)

-- one input and a function
abbrev Only : List ℕ → List ℕ → Type 0
Only x z = z ≡ x

function-stored : {A : Type 0} (before : List Decl) (functions : List (List ℕ × A)) (make : ℕ → ℕ → A → Kind) (x f : List ℕ) (i : ℕ) (o : Option (ℕ × A))
    → IsNamed before x (decl_at before i) → IsTrue (is_set (decl_at before i).kind) → FunctionAnswer functions f o
    → KindAnswer before (Only x) (IsStored functions f) (or_else o why.UnknownFunction >>= λ p. Ok (make i p.0 p.1))
function-stored before functions make x f i None n s (lacking l) =
    no_function (λ z same. declared-named before x z _ n same) (λ z e same named. set-named before x z _ e n s same named) l
function-stored before functions make x f i (Some p) n s (stored_as h) =
    of_kind (λ z same. declared-named before x z _ n same) (λ z e same named. set-named before x z _ e n s same named) h

function-sets : {A : Type 0} (before : List Decl) (functions : List (List ℕ × A)) (make : ℕ → ℕ → A → Kind) (x f : List ℕ) (i : ℕ) (t : Result (Unit {0}) GraphWhy)
    → IsNamed before x (decl_at before i) → SetAnswer (decl_at before i) t
    → KindAnswer before (Only x) (IsStored functions f) ((t >>= λ _. Ok i) >>= λ j. or_else (function_named functions f) why.UnknownFunction >>= λ p. Ok (make j p.0 p.1))
function-sets before functions make x f i (Err e) n (other o) =
    no_set (λ z same. declared-named before x z _ n same) (record { input = x; decl = decl_at before i; taken = refl; named = n; kind = o })
function-sets before functions make x f i (Ok k) n (set s) = function-stored before functions make x f i (function_named functions f) n s (function-answer functions f)

function-inputs : {A : Type 0} (before : List Decl) (functions : List (List ℕ × A)) (make : ℕ → ℕ → A → Kind) (x f : List ℕ) (r : Result ℕ GraphWhy) → InputAnswer before x r
    → KindAnswer before (Only x) (IsStored functions f) ((r >>= λ i. set_checked before i >>= λ _. Ok i) >>= λ j. or_else (function_named functions f) why.UnknownFunction >>= λ p. Ok (make j p.0 p.1))
function-inputs before functions make x f (Err e) (undeclared n) = unknown (record { input = x; taken = refl; absent = n })
function-inputs before functions make x f (Ok i) (declared n) = function-sets before functions make x f i (set_checked before i) n (set-answer before i)

functions-answer : {A : Type 0} (before : List Decl) (functions : List (List ℕ × A)) (make : ℕ → ℕ → A → Kind) (x f : List ℕ) → KindAnswer before (Only x) (IsStored functions f) (applied_read before functions make x f)
unfolding input_read function_read
functions-answer before functions make x f = function-inputs before functions make x f (known before x) (input-answer before x)

source-answer : (before : List Decl) (kind : Kind) → KindAnswer before (λ _. ⊥) (Unit {0}) (Ok kind)
source-answer before kind = of_kind (λ z taken. absurd taken) (λ z e taken named. absurd taken) tt

pub kind-answer : (lib : Library) (before : List Decl) (form : Form) → KindAnswer before (Takes form) (HasFunction lib form) (kind_read lib before form)
kind-answer lib before orset = source-answer before OrSet
kind-answer lib before gset = source-answer before GSet
kind-answer lib before counter = source-answer before Counter
kind-answer lib before maxreg = source-answer before MaxReg
kind-answer lib before (union x y) = pair-answer before Union x y
kind-answer lib before (product x y) = pair-answer before Product x y
kind-answer lib before (intersection x y) = pair-answer before Intersection x y
kind-answer lib before (map x f) = functions-answer before lib.maps Map x f
kind-answer lib before (filter x p) = functions-answer before lib.predicates Filter x p
kind-answer lib before (fold x op l) = functions-answer before lib.lifts (λ i place lift. Fold i op place lift) x l

module _ (before : List Decl) (names : List ℕ → Type 0) (function : Type 0) where
  known_unknown : {P : Type 0} → AreDeclared before names → IsUndeclared before names → P
  known_unknown all u = absurd (u.absent (all u.input u.taken))

  set_no_set : {P : Type 0} → AreSets before names → IsNoSet before names → P
  set_no_set all n = absurd (false≢true (sym n.kind ∙ all n.input n.decl n.taken n.named))

  pub row-unknown : (r : Result Kind GraphWhy) → KindAnswer before names function r → (r ≡ Err why.UnknownInput ↔ IsUndeclared before names)
  row-unknown (Err e) (unknown u) = (λ h. u, λ v. refl)
  row-unknown (Err e) (no_set all n) = (λ h. absurd cc, λ v. known_unknown all v)
  row-unknown (Err e) (no_function all sets f) = (λ h. absurd cc, λ v. known_unknown all v)
  row-unknown (Ok k) (of_kind all sets f) = (λ h. absurd cc, λ v. known_unknown all v)

  pub row-no_set : (r : Result Kind GraphWhy) → KindAnswer before names function r → AreDeclared before names → (r ≡ Err why.WrongKind ↔ IsNoSet before names)
  row-no_set (Err e) (unknown u) all = known_unknown all u
  row-no_set (Err e) (no_set all n) _ = (λ h. n, λ v. refl)
  row-no_set (Err e) (no_function all sets f) _ = (λ h. absurd cc, λ v. set_no_set sets v)
  row-no_set (Ok k) (of_kind all sets f) _ = (λ h. absurd cc, λ v. set_no_set sets v)

  pub row-no_function : (r : Result Kind GraphWhy) → KindAnswer before names function r → AreDeclared before names → AreSets before names → (r ≡ Err why.UnknownFunction ↔ ¬ function)
  row-no_function (Err e) (unknown u) all sets = known_unknown all u
  row-no_function (Err e) (no_set all n) _ sets = set_no_set sets n
  row-no_function (Err e) (no_function all sets f) _ _ = (λ h. f, λ v. refl)
  row-no_function (Ok k) (of_kind all sets f) _ _ = (λ h. absurd cc, λ v. absurd (v f))

  pub row-kind : (r : Result Kind GraphWhy) → KindAnswer before names function r → (((kind : Kind) × (r ≡ Ok kind)) ↔ (AreDeclared before names × AreSets before names × function))
  row-kind (Err e) (unknown u) = (λ h. absurd cc, λ v. known_unknown v.0 u)
  row-kind (Err e) (no_set all n) = (λ h. absurd cc, λ v. set_no_set v.1 n)
  row-kind (Err e) (no_function all sets f) = (λ h. absurd cc, λ v. absurd (f v.2))
  row-kind (Ok k) (of_kind all sets f) = (λ h. (all, sets, f), λ v. (k, refl))
