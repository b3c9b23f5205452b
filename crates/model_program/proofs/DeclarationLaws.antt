-- The checks of one declaration, one after the other.
use Rattle.std.proofs.Common.{refl, sym, subst, ap, ◌∙◌, arith}
use Rattle.std.specs.Prelude.{◌≡◌, ◌≢◌, ◌↔◌, ℕ, ◌<◌, ◌≤◌, List, length, Bool, true, false, nat_lt, nat_le, IsTrue, IsFalse, Option, Some, None, is_none, Result, Ok, Err}
use Rattle.std.proofs.lemmas.Bool.{leb-false, lt-leb, le-leb, ltb-false, le-ltb, lt-ltb}
use Rattle.serde_json.specs.Data.{Data}
use Rattle.model_functions.specs.Library.{Library}
use Rattle.model_graph.specs.Chain.{◌>>=◌, check, or_else}
use Rattle.model_graph.specs.Graph.{Kind, Decl}
use Rattle.model_graph.specs.Lawful.{variable_limit, width_limit, width_of, widths}
use Rattle.model_values.specs.Name.{is_name}
use Rattle.model_readings.specs.Graph.{Written, written_of, place_of, kind_read, width_checked, declaration, decl_read, next_read}
use Rattle.model_readings.specs.declared.graph_why.GraphWhy.{GraphWhy}
use Rattle.model_readings.specs.declared.graph_why.GraphWhy.TheVariants as why
use Rattle.model_scripts.specs.Needs.{IsDeclared}
use Rattle.model_program.specs.Declaration.{Takes, AreDeclared, IsUndeclared, AreSets, IsNoSet, HasFunction, IsDeclarationCause}
use Rattle.model_scripts.proofs.Failing.{via, of-same}
use Rattle.model_program.proofs.Failing.{fails-first, check-fails, or_else-fails}
use Rattle.model_program.proofs.NamedLaws.{PlaceAnswer, absent, present, place-answer, named-declared}
use Rattle.model_program.proofs.KindLaws.{KindAnswer, unknown, no_set, no_function, of_kind, kind-answer, row-unknown, row-no_set, row-no_function, row-kind}

-- when a cause is looked for
abbrev turn : GraphWhy → ℕ
turn why.NotJson = 0
turn why.TooMany = 0
turn why.Shape = 1
turn why.NameShape = 2
turn why.NameTaken = 3
turn why.UnknownInput = 4
turn why.WrongKind = 5
turn why.UnknownFunction = 6
turn why.TooWide = 7

-- whatever fails here is looked for at this turn or later
abbrev From : {A : Type 0} → ℕ → Result A GraphWhy → Type 0
From n r = (e : GraphWhy) → r ≡ Err e → n ≤ turn e

from-check : {A : Type 0} (n : ℕ) (b : Bool) (w : GraphWhy) (rest : Result A GraphWhy) → n ≤ turn w → From n rest → From n (check b w >>= λ _. rest)
from-check n true w rest le from e h = from e h
from-check {A} n false w rest le from e h = subst (λ (v : GraphWhy). n ≤ turn v) (let same : w ≡ e = cc in same) le

-- what is looked for later doesn't fail here
before-turn : {A : Type 0} (n : ℕ) (r : Result A GraphWhy) (e : GraphWhy) → From n r → turn e < n → r ≢ Err e
before-turn n r e from early h = let late : n ≤ turn e = from e h in omega arith

-- the checks of a declaration from the last to the first
abbrev at_width : List Decl → List ℕ → Kind → Result Decl GraphWhy
at_width before name kind = width_checked before kind >>= λ _. Ok (declaration name kind)

abbrev at_kind : Library → List Decl → Written → Result Decl GraphWhy
at_kind lib before w = kind_read lib before w.form >>= at_width before w.name

abbrev at_new : Library → List Decl → Written → Result Decl GraphWhy
at_new lib before w = check (is_none (place_of w.name before)) why.NameTaken >>= λ _. at_kind lib before w

abbrev at_name : Library → List Decl → Written → Result Decl GraphWhy
at_name lib before w = check (is_name w.name) why.NameShape >>= λ _. at_new lib before w

decl-checks : (lib : Library) (before : List Decl) (d : Data) → decl_read lib before d ≡ (or_else (written_of d) why.Shape >>= at_name lib before)
unfolding decl_read
decl-checks lib before d = refl

no-failure : (name : List ℕ) (kind : Kind) → From 7 (Ok (declaration name kind))
no-failure name kind e h = absurd cc

from-width : (before : List Decl) (name : List ℕ) (kind : Kind) → From 7 (at_width before name kind)
from-width before name kind = from-check 7 (nat_le (width_of kind (widths before)) width_limit) why.TooWide (Ok (declaration name kind)) (omega arith) (no-failure name kind)

from-kind-step : (before : List Decl) (name : List ℕ) (names : List ℕ → Type 0) (function : Type 0) (r : Result Kind GraphWhy) → KindAnswer before names function r → From 4 (r >>= at_width before name)
from-kind-step before name names function (Err w) (unknown u) e h = subst (λ (v : GraphWhy). 4 ≤ turn v) (let same : w ≡ e = cc in same) (omega arith)
from-kind-step before name names function (Err w) (no_set all n) e h = subst (λ (v : GraphWhy). 4 ≤ turn v) (let same : w ≡ e = cc in same) (omega arith)
from-kind-step before name names function (Err w) (no_function all sets f) e h = subst (λ (v : GraphWhy). 4 ≤ turn v) (let same : w ≡ e = cc in same) (omega arith)
from-kind-step before name names function (Ok kind) (of_kind all sets f) e h = omega (arith, from-width before name kind e h)

from-kind : (lib : Library) (before : List Decl) (w : Written) → From 4 (at_kind lib before w)
from-kind lib before w = from-kind-step before w.name (Takes w.form) (HasFunction lib w.form) (kind_read lib before w.form) (kind-answer lib before w.form)

from-new : (lib : Library) (before : List Decl) (w : Written) → From 3 (at_new lib before w)
from-new lib before w = from-check 3 (is_none (place_of w.name before)) why.NameTaken (at_kind lib before w) (omega arith) (λ e h. omega (arith, from-kind lib before w e h))

from-name : (lib : Library) (before : List Decl) (w : Written) → From 2 (at_name lib before w)
from-name lib before w = from-check 2 (is_name w.name) why.NameShape (at_new lib before w) (omega arith) (λ e h. omega (arith, from-new lib before w e h))

from-shape-step : (lib : Library) (before : List Decl) (o : Option Written) → From 1 (or_else o why.Shape >>= at_name lib before)
from-shape-step lib before None e h = subst (λ (v : GraphWhy). 1 ≤ turn v) (let same : why.Shape ≡ e = cc in same) (omega arith)
from-shape-step lib before (Some w) e h = omega (arith, from-name lib before w e h)

from-shape : (lib : Library) (before : List Decl) (d : Data) → From 1 (decl_read lib before d)
from-shape lib before d = subst (From 1) (sym (decl-checks lib before d)) (from-shape-step lib before (written_of d))

pub decl-shape : (lib : Library) (before : List Decl) (d : Data) → (decl_read lib before d ≡ Err why.Shape ↔ written_of d ≡ None)
decl-shape lib before d =
    of-same (decl_read lib before d) _ (Err why.Shape) (decl-checks lib before d)
    (via (fails-first (or_else (written_of d) why.Shape) (at_name lib before) why.Shape (λ w. before-turn 2 (at_name lib before w) why.Shape (from-name lib before w) (omega arith))) (or_else-fails (written_of d) why.Shape))

-- no declaration has the name, exactly where none is found
free-step : (g : List Decl) (name : List ℕ) (o : Option ℕ) → PlaceAnswer g name o → (is_none o ≡ false ↔ IsDeclared g name)
free-step g name None (absent n) = (λ h. absurd cc, λ s. absurd (n s))
free-step g name (Some i) (present n) = (λ h. named-declared g name _ n, λ s. refl)

new-step : (g : List Decl) (name : List ℕ) (o : Option ℕ) → PlaceAnswer g name o → ¬ IsDeclared g name → is_none o ≡ true
new-step g name None (absent n) new = refl
new-step g name (Some i) (present n) new = absurd (new (named-declared g name _ n))

module _ (lib : Library) (before : List Decl) (d : Data) (w : Written) (written : written_of d ≡ Some w) where
  to-name : decl_read lib before d ≡ at_name lib before w
  to-name = decl-checks lib before d ∙ ap (λ (o : Option Written). or_else o why.Shape >>= at_name lib before) written

  pub decl-name : (decl_read lib before d ≡ Err why.NameShape ↔ IsFalse (is_name w.name))
  decl-name =
      of-same (decl_read lib before d) (at_name lib before w) (Err why.NameShape) to-name
      (via (fails-first (check (is_name w.name) why.NameShape) (λ _. at_new lib before w) why.NameShape (λ _. before-turn 3 (at_new lib before w) why.NameShape (from-new lib before w) (omega arith))) (check-fails (is_name w.name) why.NameShape))

  to-new : IsTrue (is_name w.name) → decl_read lib before d ≡ at_new lib before w
  to-new shape = to-name ∙ ap (λ (b : Bool). check b why.NameShape >>= λ _. at_new lib before w) shape

  pub decl-taken : IsTrue (is_name w.name) → (decl_read lib before d ≡ Err why.NameTaken ↔ IsDeclared before w.name)
  decl-taken shape =
      of-same (decl_read lib before d) (at_new lib before w) (Err why.NameTaken) (to-new shape)
      (via (fails-first (check (is_none (place_of w.name before)) why.NameTaken) (λ _. at_kind lib before w) why.NameTaken (λ _. before-turn 4 (at_kind lib before w) why.NameTaken (from-kind lib before w) (omega arith)))
      (via (check-fails (is_none (place_of w.name before)) why.NameTaken) (free-step before w.name (place_of w.name before) (place-answer before w.name))))

  to-kind : IsTrue (is_name w.name) → ¬ IsDeclared before w.name → decl_read lib before d ≡ at_kind lib before w
  to-kind shape new = to-new shape ∙ ap (λ (b : Bool). check b why.NameTaken >>= λ _. at_kind lib before w) (new-step before w.name (place_of w.name before) (place-answer before w.name) new)

  -- a cause that is looked for before the width is one of the form's
  of-form : IsTrue (is_name w.name) → ¬ IsDeclared before w.name → (e : GraphWhy) → turn e < 7 → (decl_read lib before d ≡ Err e ↔ kind_read lib before w.form ≡ Err e)
  of-form shape new e early =
      of-same (decl_read lib before d) (at_kind lib before w) (Err e) (to-kind shape new)
      (fails-first (kind_read lib before w.form) (at_width before w.name) e (λ kind. before-turn 7 (at_width before w.name kind) e (from-width before w.name kind) early))

  pub decl-input : IsTrue (is_name w.name) → ¬ IsDeclared before w.name → (decl_read lib before d ≡ Err why.UnknownInput ↔ IsUndeclared before (Takes w.form))
  decl-input shape new =
      via (of-form shape new why.UnknownInput (omega arith)) (row-unknown before (Takes w.form) (HasFunction lib w.form) (kind_read lib before w.form) (kind-answer lib before w.form))

  pub decl-kind : IsTrue (is_name w.name) → ¬ IsDeclared before w.name → AreDeclared before (Takes w.form) → (decl_read lib before d ≡ Err why.WrongKind ↔ IsNoSet before (Takes w.form))
  decl-kind shape new all =
      via (of-form shape new why.WrongKind (omega arith)) (row-no_set before (Takes w.form) (HasFunction lib w.form) (kind_read lib before w.form) (kind-answer lib before w.form) all)

  pub decl-function : IsTrue (is_name w.name) → ¬ IsDeclared before w.name → AreDeclared before (Takes w.form) → AreSets before (Takes w.form)
      → (decl_read lib before d ≡ Err why.UnknownFunction ↔ ¬ HasFunction lib w.form)
  decl-function shape new all sets =
      via (of-form shape new why.UnknownFunction (omega arith)) (row-no_function before (Takes w.form) (HasFunction lib w.form) (kind_read lib before w.form) (kind-answer lib before w.form) all sets)

  to-width : (kind : Kind) → IsTrue (is_name w.name) → ¬ IsDeclared before w.name → kind_read lib before w.form ≡ Ok kind → decl_read lib before d ≡ at_width before w.name kind
  to-width kind shape new read = to-kind shape new ∙ ap (λ (r : Result Kind GraphWhy). r >>= at_width before w.name) read

  pub decl-wide : (kind : Kind) → IsTrue (is_name w.name) → ¬ IsDeclared before w.name → kind_read lib before w.form ≡ Ok kind
      → (decl_read lib before d ≡ Err why.TooWide ↔ width_limit < width_of kind (widths before))
  decl-wide kind shape new read =
      of-same (decl_read lib before d) (at_width before w.name kind) (Err why.TooWide) (to-width kind shape new read)
      (via (fails-first (width_checked before kind) (λ _. Ok (declaration w.name kind)) why.TooWide (λ _ h. absurd cc))
      (via (check-fails (nat_le (width_of kind (widths before)) width_limit) why.TooWide) (λ h. leb-false _ _ h, λ h. lt-leb _ _ h)))

  pub decl-accepted : (kind : Kind) → IsTrue (is_name w.name) → ¬ IsDeclared before w.name → kind_read lib before w.form ≡ Ok kind → width_of kind (widths before) ≤ width_limit
      → decl_read lib before d ≡ Ok (declaration w.name kind)
  decl-accepted kind shape new read narrow =
      to-width kind shape new read ∙ ap (λ (b : Bool). check b why.TooWide >>= λ _. Ok (declaration w.name kind)) (le-leb _ _ narrow)

pub form-kind : (lib : Library) (before : List Decl) (w : Written) → (((kind : Kind) × (kind_read lib before w.form ≡ Ok kind)) ↔ (AreDeclared before (Takes w.form) × AreSets before (Takes w.form) × HasFunction lib w.form))
form-kind lib before w = row-kind before (Takes w.form) (HasFunction lib w.form) (kind_read lib before w.form) (kind-answer lib before w.form)

next-checks : (lib : Library) (before : List Decl) (d : Data) → next_read lib before d ≡ (check (nat_lt (length before) variable_limit) why.TooMany >>= λ _. decl_read lib before d)
unfolding next_read
next-checks lib before d = refl

pub next-many : (lib : Library) (before : List Decl) (d : Data) → (next_read lib before d ≡ Err why.TooMany ↔ variable_limit ≤ length before)
next-many lib before d =
    of-same (next_read lib before d) _ (Err why.TooMany) (next-checks lib before d)
    (via (fails-first (check (nat_lt (length before) variable_limit) why.TooMany) (λ _. decl_read lib before d) why.TooMany (λ _. before-turn 1 (decl_read lib before d) why.TooMany (from-shape lib before d) (omega arith)))
    (via (check-fails (nat_lt (length before) variable_limit) why.TooMany) (λ h. ltb-false _ _ h, λ h. le-ltb _ _ h)))

pub next-room : (lib : Library) (before : List Decl) (d : Data) → length before < variable_limit → next_read lib before d ≡ decl_read lib before d
next-room lib before d room = next-checks lib before d ∙ ap (λ (b : Bool). check b why.TooMany >>= λ _. decl_read lib before d) (lt-ltb _ _ room)

turned : (e : GraphWhy) → 1 ≤ turn e → IsDeclarationCause e
turned why.NotJson h = absurd (omega arith)
turned why.TooMany h = absurd (omega arith)
turned why.Shape h = tt
turned why.NameShape h = tt
turned why.NameTaken h = tt
turned why.UnknownInput h = tt
turned why.WrongKind h = tt
turned why.UnknownFunction h = tt
turned why.TooWide h = tt

pub decl-only : (lib : Library) (before : List Decl) (d : Data) (e : GraphWhy) → decl_read lib before d ≡ Err e → IsDeclarationCause e
decl-only lib before d e h = turned e (from-shape lib before d e h)
