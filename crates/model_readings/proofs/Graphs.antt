-- What is read of a graph is lawful.
use Rattle.std.proofs.Common.{◌≡◌, IfSome, codes, Bool, false, if◌then◌else◌, ◌&&◌, ap, refl, subst, ℕ, zero, suc, ◌<◌, List, [], ◌∷◌, ◌++◌, length, take, true, Option, Some, None, is_none, option_map, option_and_then, Ok, nat_lt, nat_le, arith, length-append}
use Rattle.std.specs.List.{slice_get}
use borrow.Author.Tests.{ltb-true, leb-true}
use Rattle.serde_json.specs.Data.{Data}
use Rattle.serde_json.specs.Find.{at, as_array, as_u64}
use Rattle.model_functions.specs.Library.{Library, place_named, operations_at}
use Rattle.model_graph.specs.Chain.{or_else}
use Rattle.model_graph.specs.Graph.{Kind, OrSet, GSet, Counter, MaxReg, Union, Product, Intersection, Map, Filter, Fold, FoldOp, Sum, Xor, Modulo, Decl, is_set, decl_at}
use Rattle.model_graph.specs.Lawful.{variable_limit, width_limit, width_of, widths, IsFoldOp, IsKind}
use Rattle.model_values.specs.Name.{is_name}
use Rattle.model_readings.specs.declared.graph_why.GraphWhy.TheVariants as why
use Rattle.model_readings.specs.Tree.{json_of, list_of, text_at, number_at, is_word_at, has_items, two}
use Rattle.model_readings.specs.Graph.{Form, orset, gset, counter, maxreg, union, product, intersection, map, filter, fold, Written, names_of, modulo_limit, modulo_by, modulo_of, fold_op_of, operand, folded, fold_form, form_of, written, written_of, place_of, known, stored, function_named, inputs_read, input_read, function_read, pair_read, applied_read, kind_read, declaration, decl_read, next_read, numbered, decls_read, tree_read, graph_of}
use Rattle.model_readings.specs.Lawful.{IsSetAt, AreInputs, Fits, IsNext, IsGraph, FitsAll}
use Rattle.model_readings.proofs.Chains.{passed, check_passed, or_else_passed, refusing_passed}
use Rattle.model_readings.proofs.Names.{none_named, found_at}

set_at : (before : List Decl) (x : List ℕ) (i : ℕ) → known before x ≡ Ok i → is_set (decl_at before i).kind ≡ true → IsSetAt before i
set_at before x i k set = record { decl = decl_at before i; declared = found_at x before i (or_else_passed (place_of x before) why.UnknownInput i k); set = set }

-- two inputs that are read are sets
pub inputs-sets : (before : List Decl) (x y : List ℕ) (p : ℕ × ℕ) → inputs_read before x y ≡ Ok p → IsSetAt before p.0 × IsSetAt before p.1
unfolding inputs_read
inputs-sets before x y p e =
    let i = passed (known before x) _ p e in
    let j = passed (known before y) _ p i.then in
    let s = check_passed (is_set (decl_at before i.value).kind) why.WrongKind _ p j.then in
    let t = check_passed (is_set (decl_at before j.value).kind) why.WrongKind _ p s.1 in
    let read : ℕ × ℕ = (i.value, j.value) in
    let same : read ≡ p = cc in
    subst (λ (q : ℕ × ℕ). IsSetAt before q.0 × IsSetAt before q.1) same (set_at before x i.value i.first s.0, set_at before y j.value j.first t.0)

-- an input that is read is a set
pub input-set : (before : List Decl) (x : List ℕ) (i : ℕ) → input_read before x ≡ Ok i → IsSetAt before i
unfolding input_read
input-set before x i e =
    let j = passed (known before x) _ i e in
    let s = check_passed (is_set (decl_at before j.value).kind) why.WrongKind _ i j.then in
    let same : j.value ≡ i = cc in
    subst (IsSetAt before) same (set_at before x j.value j.first s.0)

-- what a process over two sets is, when it is read
record IsPairRead (before : List Decl) (make : ℕ → ℕ → Kind) (kind : Kind) : Type 0 where
  inputs : ℕ × ℕ
  made : make inputs.0 inputs.1 ≡ kind
  sets : IsSetAt before inputs.0 × IsSetAt before inputs.1

pair-read : (before : List Decl) (make : ℕ → ℕ → Kind) (x y : List ℕ) (kind : Kind) → pair_read before make x y ≡ Ok kind → IsPairRead before make kind
pair-read before make x y kind e =
    let p = passed (inputs_read before x y) _ kind e in
    let same : make p.value.0 p.value.1 ≡ kind = cc in
    record { inputs = p.value; made = same; sets = inputs-sets before x y p.value p.first }

-- what a process that applies a function is, when it is read
record IsFunctionRead {A : Type 0} (before : List Decl) (functions : List (List ℕ × A)) (make : ℕ → ℕ → A → Kind) (kind : Kind) : Type 0 where
  input : ℕ
  place : ℕ
  ops : A
  made : make input place ops ≡ kind
  set : IsSetAt before input
  stored : operations_at functions place ≡ Some ops

stored-at : {A : Type 0} (functions : List (List ℕ × A)) (place : ℕ) (o : Option A) (p : ℕ × A)
    → operations_at functions place ≡ o → option_map (λ (ops : A). (place, ops)) o ≡ Some p → operations_at functions p.0 ≡ Some p.1
stored-at functions place None p e h = cc
stored-at {A} functions place (Some ops) p e h =
    let same : (place, ops) ≡ p = cc in
    subst (λ (q : ℕ × A). operations_at functions q.0 ≡ Some q.1) same e

function-stored : {A : Type 0} (functions : List (List ℕ × A)) (o : Option ℕ) (p : ℕ × A)
    → option_and_then (stored functions) o ≡ Some p → operations_at functions p.0 ≡ Some p.1
function-stored functions None p h = cc
function-stored functions (Some place) p h = stored-at functions place (operations_at functions place) p refl h

function-read : {A : Type 0} (before : List Decl) (functions : List (List ℕ × A)) (make : ℕ → ℕ → A → Kind) (x f : List ℕ) (kind : Kind)
    → applied_read before functions make x f ≡ Ok kind → IsFunctionRead before functions make kind
unfolding function_read function_named
function-read before functions make x f kind e =
    let i = passed (input_read before x) _ kind e in
    let p = passed (or_else (option_and_then (stored functions) (place_named f functions)) why.UnknownFunction) _ kind i.then in
    let same : make i.value p.value.0 p.value.1 ≡ kind = cc in
    record {
      input = i.value;
      place = p.value.0;
      ops = p.value.1;
      made = same;
      set = input-set before x i.value i.first;
      stored = function-stored functions (place_named f functions) p.value (or_else_passed _ why.UnknownFunction p.value p.first);
    }

-- what is read of a form: its inputs are sets, and its function is the library's
pub record IsKindRead (lib : Library) (before : List Decl) (kind : Kind) : Type 0 where
  pub inputs : AreInputs before kind
  pub fits : Fits lib kind

pub kind-read : (lib : Library) (before : List Decl) (form : Form) (kind : Kind) → kind_read lib before form ≡ Ok kind → IsKindRead lib before kind
kind-read lib before orset kind e = let same : OrSet ≡ kind = cc in subst (IsKindRead lib before) same (record { inputs = tt; fits = tt })
kind-read lib before gset kind e = let same : GSet ≡ kind = cc in subst (IsKindRead lib before) same (record { inputs = tt; fits = tt })
kind-read lib before counter kind e = let same : Counter ≡ kind = cc in subst (IsKindRead lib before) same (record { inputs = tt; fits = tt })
kind-read lib before maxreg kind e = let same : MaxReg ≡ kind = cc in subst (IsKindRead lib before) same (record { inputs = tt; fits = tt })
kind-read lib before (union x y) kind e =
    let r = pair-read before Union x y kind e in
    subst (IsKindRead lib before) r.made (record { inputs = r.sets; fits = tt })
kind-read lib before (product x y) kind e =
    let r = pair-read before Product x y kind e in
    subst (IsKindRead lib before) r.made (record { inputs = r.sets; fits = tt })
kind-read lib before (intersection x y) kind e =
    let r = pair-read before Intersection x y kind e in
    subst (IsKindRead lib before) r.made (record { inputs = r.sets; fits = tt })
kind-read lib before (map x f) kind e =
    let r = function-read before lib.maps Map x f kind e in
    subst (IsKindRead lib before) r.made (record { inputs = r.set; fits = r.stored })
kind-read lib before (filter x p) kind e =
    let r = function-read before lib.predicates Filter x p kind e in
    subst (IsKindRead lib before) r.made (record { inputs = r.set; fits = r.stored })
kind-read lib before (fold x op l) kind e =
    let r = function-read before lib.lifts (λ i place lift. Fold i op place lift) x l kind e in
    subst (IsKindRead lib before) r.made (record { inputs = r.set; fits = r.stored })

-- ---- what else a form says can be done

abbrev IsDoable : Form → Type 0
IsDoable (fold x op l) = IsFoldOp op
IsDoable _ = Unit {0}

kind-sound : (lib : Library) (before : List Decl) (form : Form) (kind : Kind) → IsDoable form → kind_read lib before form ≡ Ok kind → IsKind kind
kind-sound lib before orset kind h e = let same : OrSet ≡ kind = cc in subst IsKind same tt
kind-sound lib before gset kind h e = let same : GSet ≡ kind = cc in subst IsKind same tt
kind-sound lib before counter kind h e = let same : Counter ≡ kind = cc in subst IsKind same tt
kind-sound lib before maxreg kind h e = let same : MaxReg ≡ kind = cc in subst IsKind same tt
kind-sound lib before (union x y) kind h e = subst IsKind (pair-read before Union x y kind e).made tt
kind-sound lib before (product x y) kind h e = subst IsKind (pair-read before Product x y kind e).made tt
kind-sound lib before (intersection x y) kind h e = subst IsKind (pair-read before Intersection x y kind e).made tt
kind-sound lib before (map x f) kind h e = subst IsKind (function-read before lib.maps Map x f kind e).made tt
kind-sound lib before (filter x p) kind h e = subst IsKind (function-read before lib.predicates Filter x p kind e).made tt
kind-sound lib before (fold x op l) kind h e = subst IsKind (function-read before lib.lifts (λ i place lift. Fold i op place lift) x l kind e).made h

-- whichever of two ways is taken
pub if-some : {A : Type 0} (P : A → Type 0) (b : Bool) (o p : Option A) → IfSome o P → IfSome p P → IfSome (if b then o else p) P
if-some P true o p h k = h
if-some P false o p h k = k

modulo-doable : (n : ℕ) → IfSome (modulo_by n) IsFoldOp
modulo-doable n = choose (nat_le 1 n) refl where
  choose : (b : Bool) → nat_le 1 n ≡ b → IfSome (if b && nat_le n modulo_limit then Some (Modulo n) else None) IsFoldOp
  choose true e = if-some IsFoldOp (nat_le n modulo_limit) (Some (Modulo n)) None (leb-true _ _ e) tt
  choose false e = tt

and-then-doable : {A : Type 0} (f : A → Option FoldOp) → ((a : A) → IfSome (f a) IsFoldOp) → (o : Option A) → IfSome (option_and_then f o) IsFoldOp
and-then-doable f h None = tt
and-then-doable f h (Some a) = h a

fold_op-doable : (d : Data) → IfSome (fold_op_of d) IsFoldOp
unfolding fold_op_of modulo_of
fold_op-doable d =
    if-some IsFoldOp (is_word_at 3 (codes "sum") d) (Some Sum) _ tt
    (if-some IsFoldOp (is_word_at 3 (codes "xor") d) (Some Xor) _ tt
    (and-then-doable modulo_of (λ e. if-some IsFoldOp (has_items 2 e && is_word_at 0 (codes "modulo") e) _ None (and-then-doable modulo_by modulo-doable (option_and_then as_u64 (number_at 1 e))) tt) (at 3 d)))

fold_form-doable : (d : Data) → IfSome (fold_form d) IsDoable
unfolding fold_form
fold_form-doable d = if-some IsDoable (has_items 5 d) _ None (parts (text_at 2 d) (fold_op_of d) (text_at 4 d) (fold_op-doable d)) tt where
  parts : (x : Option (List ℕ)) (op : Option FoldOp) (l : Option (List ℕ)) → IfSome op IsFoldOp → IfSome (two folded (two operand x op) l) IsDoable
  parts None op l h = tt
  parts (Some x) None l h = tt
  parts (Some x) (Some op) None h = tt
  parts (Some x) (Some op) (Some l) h = h

process-doable : (form : List ℕ → List ℕ → Form) → ((x y : List ℕ) → IsDoable (form x y)) → (o : Option (List ℕ × List ℕ)) → IfSome (option_map (λ p. form p.0 p.1) o) IsDoable
process-doable form h None = tt
process-doable form h (Some p) = h p.0 p.1

source-doable : (form : Form) → IsDoable form → (b : Bool) → IfSome (if b then Some form else None) IsDoable
source-doable form h b = if-some IsDoable b (Some form) None h tt

form-doable : (d : Data) → IfSome (form_of d) IsDoable
unfolding form_of
form-doable d =
    if-some IsDoable (is_word_at 1 (codes "orset") d) _ _ (source-doable orset tt (has_items 2 d))
    (if-some IsDoable (is_word_at 1 (codes "gset") d) _ _ (source-doable gset tt (has_items 2 d))
    (if-some IsDoable (is_word_at 1 (codes "counter") d) _ _ (source-doable counter tt (has_items 2 d))
    (if-some IsDoable (is_word_at 1 (codes "maxreg") d) _ _ (source-doable maxreg tt (has_items 2 d))
    (if-some IsDoable (is_word_at 1 (codes "union") d) _ _ (process-doable union (λ x y. tt) (names_of d))
    (if-some IsDoable (is_word_at 1 (codes "product") d) _ _ (process-doable product (λ x y. tt) (names_of d))
    (if-some IsDoable (is_word_at 1 (codes "intersection") d) _ _ (process-doable intersection (λ x y. tt) (names_of d))
    (if-some IsDoable (is_word_at 1 (codes "map") d) _ _ (process-doable map (λ x y. tt) (names_of d))
    (if-some IsDoable (is_word_at 1 (codes "filter") d) _ _ (process-doable filter (λ x y. tt) (names_of d))
    (if-some IsDoable (is_word_at 1 (codes "fold") d) _ _ (fold_form-doable d) tt)))))))))

written-doable : (d : Data) (w : Written) → written_of d ≡ Some w → IsDoable w.form
unfolding written_of
written-doable d w e = parts (text_at 0 d) (form_of d) (form-doable d) e where
  parts : (name : Option (List ℕ)) (form : Option Form) → IfSome form IsDoable → two written name form ≡ Some w → IsDoable w.form
  parts None form h e = cc
  parts (Some name) None h e = cc
  parts (Some name) (Some form) h e = let same : written name form ≡ w = cc in subst (λ (v : Written). IsDoable v.form) same h

is_none-None : {A : Type 0} (o : Option A) → is_none o ≡ true → o ≡ None
is_none-None None e = refl
is_none-None (Some x) e = cc

-- a declaration that is read may follow those before it, and its function is the library's
pub record IsDeclRead (lib : Library) (before : List Decl) (d : Decl) : Type 0 where
  pub next : IsNext before d
  pub fits : Fits lib d.kind

pub next-decl_read : (lib : Library) (before : List Decl) (d : Data) (decl : Decl) → decl_read lib before d ≡ Ok decl → IsDeclRead lib before decl
unfolding decl_read
next-decl_read lib before d decl e =
    let w = passed (or_else (written_of d) why.Shape) _ decl e in
    let shape = check_passed (is_name w.value.name) why.NameShape _ decl w.then in
    let new = check_passed (is_none (place_of w.value.name before)) why.NameTaken _ decl shape.1 in
    let k = passed (kind_read lib before w.value.form) _ decl new.1 in
    let narrow = check_passed (nat_le (width_of k.value (widths before)) width_limit) why.TooWide _ decl k.then in
    let read = kind-read lib before w.value.form k.value k.first in
    let same : declaration w.value.name k.value ≡ decl = cc in
    subst (IsDeclRead lib before) same (record {
      next = record {
        shape = shape.0;
        new = none_named w.value.name before (is_none-None (place_of w.value.name before) new.0);
        inputs = read.inputs;
        kind = kind-sound lib before w.value.form k.value (written-doable d w.value (or_else_passed (written_of d) why.Shape w.value w.first)) k.first;
        narrow = leb-true _ _ narrow.0;
      };
      fits = read.fits;
    })

-- an element of a list and one more is one of the list's, or the last
pub data Pushed {X : Type 0} (xs : List X) (y : X) (i : ℕ) (x : X) : Type 0 where
  early : slice_get xs i ≡ Some x → take i (xs ++ y ∷ []) ≡ take i xs → Pushed xs y i x
  late : y ≡ x → take i (xs ++ y ∷ []) ≡ xs → Pushed xs y i x

later : {X : Type 0} (a : X) (xs : List X) (y : X) (i : ℕ) (x : X) → Pushed xs y i x → Pushed (a ∷ xs) y (suc i) x
later a xs y i x (early at front) = early at (ap (λ l. a ∷ l) front)
later a xs y i x (late same front) = late same (ap (λ l. a ∷ l) front)

pub pushed : {X : Type 0} (xs : List X) (y : X) (i : ℕ) (x : X) → slice_get (xs ++ y ∷ []) i ≡ Some x → Pushed xs y i x
pushed [] y zero x e = let same : y ≡ x = cc in late same (refl {a = []})
pushed [] y (suc i) x e = cc
pushed {X} (a ∷ xs) y zero x e = let none : List X = [] in early e (refl {a = none})
pushed (a ∷ xs) y (suc i) x e = later a xs y i x (pushed xs y i x e)

next_pushed : (g : List Decl) (d : Decl) → IsGraph g → IsNext g d → (i : ℕ) (e : Decl) → Pushed g d i e → IsNext (take i (g ++ d ∷ [])) e
next_pushed g d good next i e (early at front) = rw front (good.each i e at)
next_pushed g d good next i e (late same front) = rw front (subst (IsNext g) same next)

-- a graph and one declaration that may follow is a graph, where there is room
pub graph-push : (g : List Decl) (d : Decl) → IsGraph g → length g < variable_limit → IsNext g d → IsGraph (g ++ d ∷ [])
graph-push g d good room next = record {
  few = rw length-append (omega arith);
  each = λ i e at. next_pushed g d good next i e (pushed g d i e at);
}

pub fits_pushed : (lib : Library) (g : List Decl) (d : Decl) → FitsAll lib g → Fits lib d.kind → (i : ℕ) (e : Decl) → Pushed g d i e → Fits lib e.kind
fits_pushed lib g d good fits i e (early at front) = good i e at
fits_pushed lib g d good fits i e (late same front) = subst (λ (e : Decl). Fits lib e.kind) same fits

-- the declarations so far
record AreRead (lib : Library) (g : List Decl) : Type 0 where
  graph : IsGraph g
  fits : FitsAll lib g

read-decls_read : (lib : Library) (before : List Decl) (ds : List Data) (g : List Decl) → AreRead lib before → decls_read lib before ds ≡ Ok g → AreRead lib g
unfolding decls_read next_read
read-decls_read lib before [] g good e = let same : before ≡ g = cc in subst (AreRead lib) same good
read-decls_read lib before (d ∷ ds) g good e =
    let decl = passed (numbered (length before) (next_read lib before d)) _ g e in
    let read = refusing_passed (λ w. (length before, w)) (next_read lib before d) decl.value decl.first in
    let room = check_passed (nat_lt (length before) variable_limit) why.TooMany _ decl.value read in
    let next = next-decl_read lib before d decl.value room.1 in
    read-decls_read lib (before ++ decl.value ∷ []) ds g
    (record {
      graph = graph-push before decl.value good.graph (ltb-true _ _ room.0) next.next;
      fits = λ i e at. fits_pushed lib before decl.value good.fits next.fits i e (pushed before decl.value i e at);
    }) decl.then

read-graph_of : (lib : Library) (bytes : List ℕ) (g : List Decl) → graph_of lib bytes ≡ Ok g → AreRead lib g
unfolding graph_of tree_read
read-graph_of lib bytes g e =
    let tree = passed (or_else (json_of bytes) (0, why.NotJson)) _ g e in
    let ds = passed (or_else (as_array tree.value) (0, why.Shape)) _ g tree.then in
    read-decls_read lib [] (list_of ds.value) g (record { graph = record { few = omega arith; each = λ i d at. cc }; fits = λ i d at. cc }) ds.then

pub graph-graph_of : (lib : Library) (bytes : List ℕ) (g : List Decl) → graph_of lib bytes ≡ Ok g → IsGraph g
graph-graph_of lib bytes g e = (read-graph_of lib bytes g e).graph

pub fits-graph_of : (lib : Library) (bytes : List ℕ) (g : List Decl) → graph_of lib bytes ≡ Ok g → FitsAll lib g
fits-graph_of lib bytes g e = (read-graph_of lib bytes g e).fits
