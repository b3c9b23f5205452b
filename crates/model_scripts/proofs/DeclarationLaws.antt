-- For which causes what has the form of a declaration is refused.
use Rattle.std.proofs.Common.{subst}
use Rattle.std.specs.Prelude.{◌≡◌, ℕ, List, Bool, true, false, Option, Some, None, is_none, nat_le, Result, Ok, Err}
use Rattle.serde_json.specs.Data.{Data}
use Rattle.model_functions.specs.Library.{Library}
use Rattle.model_values.specs.Name.{is_name}
use Rattle.model_graph.specs.Chain.{◌>>=◌, check, or_else}
use Rattle.model_graph.specs.Graph.{Kind, Union, Product, Intersection, Map, Filter, Fold, Decl, is_set, decl_at}
use Rattle.model_graph.specs.Lawful.{width_limit, width_of, widths}
use Rattle.model_readings.specs.declared.graph_why.GraphWhy.{GraphWhy}
use Rattle.model_readings.specs.declared.graph_why.GraphWhy.TheVariants as why
use Rattle.model_readings.specs.Graph.{Form, orset, gset, counter, maxreg, union, product, intersection, map, filter, fold, Written, written_of, place_of, known, set_checked, function_named, inputs_read, input_read, function_read, kind_read, width_checked, decl_read}
use Rattle.model_scripts.specs.Needs.{IsDeclarationCause}

-- a refusal is for one of those causes
abbrev Refuses : {A : Type 0} → Result A GraphWhy → Type 0
Refuses (Ok a) = Unit {0}
Refuses (Err e) = IsDeclarationCause e

then-refuses : {A B : Type 0} (r : Result A GraphWhy) (f : A → Result B GraphWhy) → Refuses r → ((a : A) → Refuses (f a)) → Refuses (r >>= f)
then-refuses (Ok a) f h k = k a
then-refuses (Err e) f h k = h

check-refuses : (b : Bool) (e : GraphWhy) → IsDeclarationCause e → Refuses (check b e)
check-refuses true e h = tt
check-refuses false e h = h

or_else-refuses : {A : Type 0} (o : Option A) (e : GraphWhy) → IsDeclarationCause e → Refuses (or_else o e)
or_else-refuses (Some a) e h = tt
or_else-refuses None e h = h

known-refuses : (before : List Decl) (x : List ℕ) → Refuses (known before x)
known-refuses before x = or_else-refuses (place_of x before) why.UnknownInput tt

set-refuses : (before : List Decl) (i : ℕ) → Refuses (set_checked before i)
set-refuses before i = check-refuses (is_set (decl_at before i).kind) why.WrongKind tt

inputs-refuses : (before : List Decl) (x y : List ℕ) → Refuses (inputs_read before x y)
unfolding inputs_read
inputs-refuses before x y =
    then-refuses (known before x) _ (known-refuses before x) (λ i.
    then-refuses (known before y) _ (known-refuses before y) (λ j.
    then-refuses (set_checked before i) _ (set-refuses before i) (λ _.
    then-refuses (set_checked before j) _ (set-refuses before j) (λ _. tt))))

input-refuses : (before : List Decl) (x : List ℕ) → Refuses (input_read before x)
unfolding input_read
input-refuses before x =
    then-refuses (known before x) _ (known-refuses before x) (λ i.
    then-refuses (set_checked before i) _ (set-refuses before i) (λ _. tt))

function-refuses : {A : Type 0} (functions : List (List ℕ × A)) (name : List ℕ) → Refuses (function_read functions name)
unfolding function_read
function-refuses functions name = or_else-refuses (function_named functions name) why.UnknownFunction tt

pair-refuses : (before : List Decl) (kind : ℕ → ℕ → Kind) (x y : List ℕ) → Refuses (inputs_read before x y >>= λ p. Ok (kind p.0 p.1))
pair-refuses before kind x y = then-refuses (inputs_read before x y) _ (inputs-refuses before x y) (λ p. tt)

applied-refuses : {A : Type 0} (before : List Decl) (functions : List (List ℕ × A)) (kind : ℕ → ℕ → A → Kind) (x f : List ℕ) → Refuses (input_read before x >>= λ i. function_read functions f >>= λ p. Ok (kind i p.0 p.1))
applied-refuses before functions kind x f =
    then-refuses (input_read before x) _ (input-refuses before x) (λ i.
    then-refuses (function_read functions f) _ (function-refuses functions f) (λ p. tt))

kind-refuses : (lib : Library) (before : List Decl) (form : Form) → Refuses (kind_read lib before form)
kind-refuses lib before orset = tt
kind-refuses lib before gset = tt
kind-refuses lib before counter = tt
kind-refuses lib before maxreg = tt
kind-refuses lib before (union x y) = pair-refuses before Union x y
kind-refuses lib before (product x y) = pair-refuses before Product x y
kind-refuses lib before (intersection x y) = pair-refuses before Intersection x y
kind-refuses lib before (map x f) = applied-refuses before lib.maps Map x f
kind-refuses lib before (filter x p) = applied-refuses before lib.predicates Filter x p
kind-refuses lib before (fold x op l) = applied-refuses before lib.lifts (λ i place lift. Fold i op place lift) x l

form-refuses : (o : Option Written) (w : Written) → o ≡ Some w → Refuses (or_else o why.Shape)
form-refuses (Some v) w e = tt
form-refuses None w e = absurd cc

decl-refuses : (lib : Library) (before : List Decl) (d : Data) (w : Written) → written_of d ≡ Some w → Refuses (decl_read lib before d)
unfolding decl_read
decl-refuses lib before d w e =
    then-refuses (or_else (written_of d) why.Shape) _ (form-refuses (written_of d) w e) (λ v.
    then-refuses (check (is_name v.name) why.NameShape) _ (check-refuses (is_name v.name) why.NameShape tt) (λ _.
    then-refuses (check (is_none (place_of v.name before)) why.NameTaken) _ (check-refuses (is_none (place_of v.name before)) why.NameTaken tt) (λ _.
    then-refuses (kind_read lib before v.form) _ (kind-refuses lib before v.form) (λ kind.
    then-refuses (width_checked before kind) _ (check-refuses (nat_le (width_of kind (widths before)) width_limit) why.TooWide tt) (λ _. tt)))))

pub declaration-cause : (lib : Library) (before : List Decl) (d : Data) (w : Written) (e : GraphWhy) → written_of d ≡ Some w → decl_read lib before d ≡ Err e → IsDeclarationCause e
declaration-cause lib before d w e formed h = subst Refuses h (decl-refuses lib before d w formed)
