-- Each check decides what it is said to.
use Rattle.std.proofs.Common.{refl, sym, ap, subst, ◌∙◌}
use Rattle.std.specs.Prelude.{◌≡◌, ℕ, ◌&&◌, ◌==◌, List, [], ◌∷◌, length, get_or, slice_index_or, Bool, true, false, nat_lt, nat_le, if◌then◌else◌, Option, Some, None, is_some, is_none, option_and_then, unwrap_or, Result, Ok, Err, is_ok, Decides}
use Rattle.std.specs.List.{list_all}
use Rattle.std.specs.Str.{bytes_eq}
use Rattle.std.proofs.lemmas.Bool.{false≢true, ltb-true, leb-true, lt-ltb, le-leb}
use Rattle.std.proofs.lemmas.Bool.Decides.{Decides-not, Decides-and, Decides-ltb, Decides-eqb}
use Rattle.std.proofs.lemmas.List.Quantifiers.{position-Some}
use Rattle.std.proofs.lemmas.Option.{slice_get-get_or}
use Rattle.std.proofs.lemmas.Slice.Eq.{bytes_eq-Decides}
use Rattle.serde_json.specs.Data.{Data, Num}
use Rattle.serde_json.specs.Find.{as_u64, as_i64}
use Rattle.model_values.specs.Value.{Val}
use Rattle.model_values.specs.Json.{read_value}
use Rattle.model_values.specs.declared.value_why.ValueWhy.{ValueWhy}
use Rattle.model_states.specs.Threshold.{is_counted, has_values, has_rows}
use Rattle.model_graph.specs.Graph.{Kind, Decl, no_decl, decl_at, kind_at, is_source}
use Rattle.model_graph.specs.Lawful.{shape_of, variable_limit}
use Rattle.model_readings.specs.Graph.{place_of}
use Rattle.model_readings.proofs.Names.{none_before, none_named, found_at}
use Rattle.model_world.specs.Lawful.{mark_limit, read_limit, is_mark, is_read}
use Rattle.model_scripts.specs.Word.{Target, Bound, at_least, above, count, added, removed, Word, add, remove, insert, inc, max, print, mark, bind, send, deliver, sync, settle, read, await, declare}
use Rattle.model_scripts.specs.Progress.{Progress, next_number, mark_of}
use Rattle.model_scripts.specs.Parts.{below, in_steps, step_limit, number_below, step_of}
use Rattle.model_scripts.specs.Check.{command_limit, is_orset, is_gset, is_counter, is_maxreg, node_in, var_in, mark_in, mark_in_bound, new_mark_in, message_in, holds, has_node, has_var, has_mark, has_new_mark, was_sent, suits_bound, is_right, is_value, is_brought_bound, is_brought, count_of, has_room_beside, has_room}
use Rattle.model_scripts.specs.Needs.{Needs, IsBelow, IsDeclared, IsMarked, HasNode, HasVar, HasMark, HasNewMark, WasSent, IsOfKind, IsMarkOf, Suits, IsRight, IsValue, AreValues, IsStep, IsBroughtBound, IsBrought, HasRoomBeside, HasRoom}

always : Decides true (Unit {0})
always = (λ h. tt, λ v. refl)

holds-Decides : {A : Type 0} (test : A → Bool) (P : A → Type 0) → ((x : A) → Decides (test x) (P x)) → (o : Option A) → Decides (holds test o) (Needs P o)
holds-Decides test P h None = always
holds-Decides test P h (Some x) = h x

-- ---- nodes and messages

below-test : (limit : ℕ) (n : Num) (k : ℕ) (b : Bool) → as_u64 n ≡ Some k → nat_lt k limit ≡ b → Decides (is_some (if b then Some k else None)) (IsBelow limit n)
below-test limit n k true e lt = (λ h. record { number = k; is = e; below = ltb-true k limit lt }, λ v. refl)
below-test limit n k false e ge = (
  λ h. absurd cc,
  λ v. let same : k ≡ v.number = (let both : Some k ≡ Some v.number = sym e ∙ v.is in cc) in
      absurd (false≢true (sym ge ∙ subst (λ (q : ℕ). nat_lt q limit ≡ true) (sym same) (lt-ltb v.number limit v.below))),
)

below-step : (limit : ℕ) (n : Num) (o : Option ℕ) → as_u64 n ≡ o → Decides (is_some (option_and_then (below limit) o)) (IsBelow limit n)
below-step limit n None e = (λ h. absurd cc, λ v. let both : None ≡ Some v.number = sym e ∙ v.is in absurd cc)
below-step limit n (Some k) e = below-test limit n k (nat_lt k limit) e refl

below-Decides : (limit : ℕ) (n : Num) → Decides (is_some (number_below limit n)) (IsBelow limit n)
unfolding number_below
below-Decides limit n = below-step limit n (as_u64 n) refl

pub node-Decides : (nodes : ℕ) (w : Word) → Decides (has_node nodes w) (HasNode nodes w)
node-Decides nodes w = holds-Decides (λ n. is_some (number_below nodes n)) (IsBelow nodes) (below-Decides nodes) (node_in w)

pub sent-Decides : (sent : ℕ) (w : Word) → Decides (was_sent sent w) (WasSent sent w)
sent-Decides sent w = holds-Decides (λ n. is_some (number_below sent n)) (IsBelow sent) (below-Decides sent) (message_in w)

-- ---- variables and marks

place-named : (x : List ℕ) (g : List Decl) (i : ℕ) → place_of x g ≡ Some i → (decl_at g i).name ≡ x
unfolding place_of
place-named x g i e = sym ((bytes_eq-Decides x (decl_at g i).name).0 (position-Some (λ (d : Decl). bytes_eq x d.name) g i no_decl e).1)

place-step : (g : List Decl) (x : List ℕ) (o : Option ℕ) → place_of x g ≡ o → Decides (is_some o) (IsDeclared g x)
place-step g x None e = (λ h. absurd cc, λ v. absurd (none_named x g e v.place v.decl v.at v.name_is))
place-step g x (Some i) e = (λ h. record { place = i; decl = decl_at g i; at = found_at x g i e; name_is = place-named x g i e }, λ v. refl)

pub var-Decides : (g : List Decl) (w : Word) → Decides (has_var g w) (HasVar g w)
var-Decides g w = holds-Decides (λ x. is_some (place_of x g)) (IsDeclared g) (λ x. place-step g x (place_of x g) refl) (var_in w)

mark-step : (names : List (List ℕ)) (m : List ℕ) (o : Option ℕ) → mark_of m names ≡ o → Decides (is_some o) (IsMarked names m)
unfolding mark_of
mark-step names m None e = (λ h. absurd cc, λ v. absurd (false≢true (sym (none_before (λ (n : List ℕ). bytes_eq m n) names v.number m _ refl e v.at) ∙ (bytes_eq-Decides m m).1 refl)))
mark-step names m (Some i) e =
    let found = position-Some (λ (n : List ℕ). bytes_eq m n) names i [] e in
    let same : m ≡ get_or names i [] = (bytes_eq-Decides m (get_or names i [])).0 found.1 in
    (λ h. record { number = i; at = slice_get-get_or names i [] found.0 ∙ ap (λ (n : List ℕ). Some n) (sym same) }, λ v. refl)

marked-Decides : (names : List (List ℕ)) (m : List ℕ) → Decides (is_some (mark_of m names)) (IsMarked names m)
marked-Decides names m = mark-step names m (mark_of m names) refl

pub mark-Decides : (names : List (List ℕ)) (w : Word) → Decides (has_mark names w) (HasMark names w)
mark-Decides names w = holds-Decides (λ m. is_some (mark_of m names)) (IsMarked names) (marked-Decides names) (mark_in w)

pub new_mark-Decides : (names : List (List ℕ)) (w : Word) → Decides (has_new_mark names w) (HasNewMark names w)
new_mark-Decides names w = holds-Decides (λ m. is_none (mark_of m names)) (λ m. ¬ IsMarked names m) (λ m. Decides-not (is_some (mark_of m names)) (marked-Decides names m)) (new_mark_in w)

-- ---- what the word works on

kind-step : (g : List Decl) (x : List ℕ) (works : Kind → Bool) (o : Option ℕ) → place_of x g ≡ o → is_some o ≡ true → Decides (works (kind_at g (unwrap_or o 0))) (IsOfKind g x works)
kind-step g x works None e some = absurd cc
kind-step g x works (Some i) e some = (
  λ h. record { place = i; named = e; kind = h },
  λ v. let same : v.place ≡ i = (let both : Some v.place ≡ Some i = sym v.named ∙ e in cc) in
      subst (λ (y : ℕ). works (kind_at g y) ≡ true) same v.kind,
)

kind-Decides : (g : List Decl) (x : List ℕ) (works : Kind → Bool) → is_some (place_of x g) ≡ true → Decides (works (kind_at g (unwrap_or (place_of x g) 0))) (IsOfKind g x works)
kind-Decides g x works some = kind-step g x works (place_of x g) refl some

mark-of-step : (p : Progress) (m x : List ℕ) (n o : Option ℕ) → mark_of m p.names ≡ n → place_of x p.stage.graph ≡ o → is_some n ≡ true → is_some o ≡ true
    → Decides (slice_index_or p.stage.marked (unwrap_or n 0) 0 == unwrap_or o 0) (IsMarkOf p m x)
mark-of-step p m x None o e f marked some = absurd cc
mark-of-step p m x (Some n) None e f marked some = absurd cc
mark-of-step p m x (Some n) (Some i) e f marked some = (
  λ h. record { number = n; place = i; marked = e; named = f; same = (Decides-eqb (slice_index_or p.stage.marked n 0) i).0 h },
  λ v. let number : v.number ≡ n = (let both : Some v.number ≡ Some n = sym v.marked ∙ e in cc) in
      let place : v.place ≡ i = (let both : Some v.place ≡ Some i = sym v.named ∙ f in cc) in
      (Decides-eqb (slice_index_or p.stage.marked n 0) i).1 (ap (λ (k : ℕ). slice_index_or p.stage.marked k 0) (sym number) ∙ v.same ∙ place),
)

mark-of-Decides : (p : Progress) (m x : List ℕ) → is_some (mark_of m p.names) ≡ true → is_some (place_of x p.stage.graph) ≡ true
    → Decides (slice_index_or p.stage.marked (unwrap_or (mark_of m p.names) 0) 0 == unwrap_or (place_of x p.stage.graph) 0) (IsMarkOf p m x)
mark-of-Decides p m x marked some = mark-of-step p m x (mark_of m p.names) (place_of x p.stage.graph) refl refl marked some

suits-Decides : (nodes : ℕ) (p : Progress) (t : Target) (b : Bound) → is_some (place_of t.var p.stage.graph) ≡ true → holds (λ m. is_some (mark_of m p.names)) (mark_in_bound b) ≡ true
    → Decides (suits_bound nodes p t b) (Suits nodes p t.var b)
suits-Decides nodes p t (at_least m) some marked = mark-of-Decides p m t.var marked some
suits-Decides nodes p t (above m) some marked = mark-of-Decides p m t.var marked some
suits-Decides nodes p t (count k) some marked = kind-Decides p.stage.graph t.var (λ kind. is_counted (shape_of nodes kind)) some
suits-Decides nodes p t (added vs) some marked = kind-Decides p.stage.graph t.var (λ kind. has_values (shape_of nodes kind)) some
suits-Decides nodes p t (removed vs) some marked = kind-Decides p.stage.graph t.var (λ kind. has_rows (shape_of nodes kind)) some

pub right-Decides : (nodes : ℕ) (p : Progress) (w : Word) → has_var p.stage.graph w ≡ true → has_mark p.names w ≡ true → Decides (is_right nodes p w) (IsRight nodes p w)
right-Decides nodes p (add t v) some marked = kind-Decides p.stage.graph t.var is_orset some
right-Decides nodes p (remove t v) some marked = kind-Decides p.stage.graph t.var is_orset some
right-Decides nodes p (insert t v) some marked = kind-Decides p.stage.graph t.var is_gset some
right-Decides nodes p (inc t k) some marked = kind-Decides p.stage.graph t.var is_counter some
right-Decides nodes p (max t k) some marked = kind-Decides p.stage.graph t.var is_maxreg some
right-Decides nodes p (print t) some marked = always
right-Decides nodes p (mark t m) some marked = kind-Decides p.stage.graph t.var is_source some
right-Decides nodes p (bind t m) some marked = Decides-and _ _ (kind-Decides p.stage.graph t.var is_source some) (mark-of-Decides p m t.var marked some)
right-Decides nodes p (send n) some marked = always
right-Decides nodes p (deliver n i) some marked = always
right-Decides nodes p sync some marked = always
right-Decides nodes p settle some marked = always
right-Decides nodes p (read t b) some marked = suits-Decides nodes p t b some marked
right-Decides nodes p (await t b) some marked = suits-Decides nodes p t b some marked
right-Decides nodes p (declare d) some marked = always

-- ---- what the word brings

value-step : (d : Data) (r : Result Val ValueWhy) → read_value d ≡ r → Decides (is_ok r) (IsValue d)
value-step d (Ok v) e = (λ h. (v, e), λ v. refl)
value-step d (Err w) e = (λ h. absurd cc, λ v. let both : ◌≡◌ {A = Result Val ValueWhy} (Err w) (Ok v.0) = sym e ∙ v.1 in absurd cc)

value-Decides : (d : Data) → Decides (is_value d) (IsValue d)
value-Decides d = value-step d (read_value d) refl

values-Decides : (ds : List Data) → Decides (list_all is_value ds) (AreValues ds)
values-Decides [] = always
values-Decides (d ∷ ds) = Decides-and (is_value d) (list_all is_value ds) (value-Decides d) (values-Decides ds)

some-Decides : {A : Type 0} (o x : Option A) → x ≡ o → Decides (is_some o) ((a : A) × (x ≡ Some a))
some-Decides {A} None x e = (λ h. absurd cc, λ v. let both : ◌≡◌ {A = Option A} None (Some v.0) = sym e ∙ v.1 in absurd cc)
some-Decides (Some a) x e = (λ h. (a, e), λ v. refl)

step-tests : (n : Num) (k : ℕ) (a b : Bool) → as_u64 n ≡ Some k → nat_le 1 k ≡ a → nat_le k step_limit ≡ b → Decides (is_some (if a && b then Some k else None)) (IsStep n)
step-tests n k true true e some most = (λ h. record { step = k; is = e; some = leb-true 1 k some; most = leb-true k step_limit most }, λ v. refl)
step-tests n k true false e some most = (
  λ h. absurd cc,
  λ v. let same : k ≡ v.step = (let both : Some k ≡ Some v.step = sym e ∙ v.is in cc) in
      absurd (false≢true (sym most ∙ subst (λ (q : ℕ). nat_le q step_limit ≡ true) (sym same) (le-leb v.step step_limit v.most))),
)
step-tests n k false b e some most = (
  λ h. absurd cc,
  λ v. let same : k ≡ v.step = (let both : Some k ≡ Some v.step = sym e ∙ v.is in cc) in
      absurd (false≢true (sym some ∙ subst (λ (q : ℕ). nat_le 1 q ≡ true) (sym same) (le-leb 1 v.step v.some))),
)

step-step : (n : Num) (o : Option ℕ) → as_u64 n ≡ o → Decides (is_some (option_and_then in_steps o)) (IsStep n)
step-step n None e = (λ h. absurd cc, λ v. let both : None ≡ Some v.step = sym e ∙ v.is in absurd cc)
step-step n (Some k) e = step-tests n k (nat_le 1 k) (nat_le k step_limit) e refl refl

step-Decides : (n : Num) → Decides (is_some (step_of n)) (IsStep n)
unfolding step_of
step-Decides n = step-step n (as_u64 n) refl

bound-Decides : (b : Bound) → Decides (is_brought_bound b) (IsBroughtBound b)
bound-Decides (at_least m) = always
bound-Decides (above m) = always
bound-Decides (count k) = some-Decides (as_u64 k) (as_u64 k) refl
bound-Decides (added vs) = values-Decides vs
bound-Decides (removed vs) = values-Decides vs

pub brought-Decides : (w : Word) → Decides (is_brought w) (IsBrought w)
brought-Decides (add t v) = value-Decides v
brought-Decides (remove t v) = value-Decides v
brought-Decides (insert t v) = value-Decides v
brought-Decides (inc t k) = step-Decides k
brought-Decides (max t k) = some-Decides (as_i64 k) (as_i64 k) refl
brought-Decides (print t) = always
brought-Decides (mark t m) = always
brought-Decides (bind t m) = always
brought-Decides (send n) = always
brought-Decides (deliver n i) = always
brought-Decides sync = always
brought-Decides settle = always
brought-Decides (read t b) = bound-Decides b
brought-Decides (await t b) = bound-Decides b
brought-Decides (declare d) = always

-- ---- room

beside-Decides : (p : Progress) (w : Word) → Decides (has_room_beside p w) (HasRoomBeside p w)
beside-Decides p (add t v) = always
beside-Decides p (remove t v) = always
beside-Decides p (insert t v) = always
beside-Decides p (inc t k) = always
beside-Decides p (max t k) = always
beside-Decides p (print t) = always
beside-Decides p (mark t m) = Decides-ltb (count_of is_mark p) mark_limit
beside-Decides p (bind t m) = always
beside-Decides p (send n) = always
beside-Decides p (deliver n i) = always
beside-Decides p sync = always
beside-Decides p settle = always
beside-Decides p (read t b) = Decides-ltb (count_of is_read p) read_limit
beside-Decides p (await t b) = always
beside-Decides p (declare d) = Decides-ltb (length p.stage.graph) variable_limit

pub room-Decides : (p : Progress) (w : Word) → Decides (has_room p w) (HasRoom p w)
room-Decides p w = Decides-and _ _ (Decides-ltb (next_number p) command_limit) (beside-Decides p w)
