-- What is evaluated stays, and the first variable that is too large is the first that was met.
use Rattle.std.proofs.Common.{◌≡◌, ◌∙◌, sym, ap, refl, subst, ℕ, zero, suc, ◌+◌, ◌<◌, ◌≤◌, List, [], ◌∷◌, ◌++◌, length, take, Err, Bool, IsTrue, IsFalse, true, false, Some, None, nat_lt, if◌then◌else◌, append_assoc, length-append, Result, Ok, IfOk, arith}
use Rattle.std.proofs.lemmas.List.{append-nil, length-map, map-append}
use Rattle.std.proofs.lemmas.Bool.{lt-ltb, le-ltb}
use Rattle.std.specs.List.{slice_get}
use Rattle.std.proofs.lemmas.Option.{slice_get_within, get_or_from_slice_get}
use Rattle.model_values.proofs.ListLaws.{length-take_least}
use Rattle.model_states.specs.Content.{Content, size_of, row_limit}
use Rattle.model_states.specs.Threshold.{Shape, set}
use Rattle.model_graph.specs.Graph.{Kind, OrSet, GSet, Counter, MaxReg, Union, Product, Intersection, Map, Filter, Fold, Decl, no_decl, kind_at, is_source, is_set}
use Rattle.model_graph.specs.Evaluation.{content_at, equation, evaluated, eval_from, eval, first_large}
use Rattle.model_graph.specs.Lawful.{width_limit, width_at, width_of, widths_from, widths, IsKind}
use Rattle.model_graph.specs.Width.{HasWidth}
use Rattle.model_graph.proofs.WidthLaws.{eval-width}
use Rattle.lasp_graph.proofs.Entries.{widths-push}
use borrow.Author.Tests.{ltb-true, ltb-false}
use Rattle.model_readings.specs.Lawful.{IsSetAt, AreInputs, IsGraph}
use Rattle.lasp_graph.specs.States.{Held, held_at, contents_of}
use Rattle.lasp_graph.specs.Evaluated.{inputs_of, process, AreSmall, Becomes, Evaluates, stopped_at, AreSets, AreNarrow, derived_shape, shape_after, KeepShapes, number_by, KeepNumbers}
use Rattle.lasp_graph.specs.declared.inputs.EvalRefused.{EvalRefused}
use Rattle.lasp_graph.specs.declared.inputs.EvalRefused.TheVariants as node

-- the variables that are evaluated stay as they are
pub record Begins (done all : List Content) : Type 0 where
  pub rest : List Content
  pub is : all ≡ done ++ rest

pub begins-eval_from : (g : List Decl) (done sources : List Content) → Begins done (eval_from g done sources)
begins-eval_from [] done sources = record { rest = []; is = sym (append-nil done) }
begins-eval_from (d ∷ g) done sources =
    let tail = begins-eval_from g (done ++ evaluated d.kind done sources ∷ []) sources in
    record { rest = evaluated d.kind done sources ∷ tail.rest; is = tail.is ∙ append_assoc done (evaluated d.kind done sources ∷ []) tail.rest }

pub small-push : (done : List Content) (s : Content) → AreSmall done → size_of s ≤ row_limit → AreSmall (done ++ s ∷ [])
small-push [] s small last = (last, tt)
small-push (r ∷ done) s small last = (small.0, small-push done s small.1 last)

pub first_large-found : (x : ℕ) (done : List Content) (s : Content) (rest : List Content) → AreSmall done → row_limit < size_of s
    → first_large x (done ++ s ∷ rest) ≡ Some (x + length done)
first_large-found x [] s rest small large =
    let test : nat_lt row_limit (size_of s) ≡ true = lt-ltb _ _ large in
    rw test (ap Some (omega arith))
first_large-found x (r ∷ done) s rest small large =
    let test : nat_lt row_limit (size_of r) ≡ false = le-ltb _ _ small.0 in
    rw test (first_large-found (x + 1) done s rest small.1 large ∙ ap Some (omega arith))

-- the variable's kind is that of its declaration
pub kind_at-is : (g : List Decl) (x : ℕ) (d : Decl) → slice_get g x ≡ Some d → kind_at g x ≡ d.kind
kind_at-is g x d at = ap (λ e. e.kind) (get_or_from_slice_get g x d no_decl at)

-- the inputs of a process are earlier sets
pub record IsEarlierSet (g : List Decl) (x i : ℕ) : Type 0 where
  pub earlier : i < x
  pub set : IsTrue (is_set (kind_at g i))

nothing-at : (i : ℕ) (d : Decl) → slice_get {X = Decl} [] i ≡ Some d → ⊥
nothing-at zero d e = cc
nothing-at (suc i) d e = cc

front-at : (g : List Decl) (x i : ℕ) (d : Decl) → slice_get (take x g) i ≡ Some d → slice_get g i ≡ Some d
front-at g zero i d e = absurd (nothing-at i d e)
front-at [] (suc x) i d e = absurd (nothing-at i d e)
front-at (a ∷ g) (suc x) zero d e = e
front-at (a ∷ g) (suc x) (suc i) d e = front-at g x i d e

earlier-set : (g : List Decl) (x i : ℕ) → IsSetAt (take x g) i → IsEarlierSet g x i
earlier-set g x i s = record {
  earlier = omega (arith, slice_get_within (take x g) i s.decl s.declared, length-take_least g x);
  set = subst (λ (k : Kind). IsTrue (is_set k)) (sym (kind_at-is g i s.decl (front-at g x i s.decl s.declared))) s.set;
}

abbrev AreEarlierSets : List Decl → ℕ → ℕ × ℕ → Type 0
AreEarlierSets g x p = IsEarlierSet g x p.0 × IsEarlierSet g x p.1

inputs-sets : (g : List Decl) (x : ℕ) (k : Kind) (p : ℕ × ℕ) → AreInputs (take x g) k → inputs_of k ≡ Some p → AreEarlierSets g x p
inputs-sets g x OrSet p h e = cc
inputs-sets g x GSet p h e = cc
inputs-sets g x Counter p h e = cc
inputs-sets g x MaxReg p h e = cc
inputs-sets g x (Union i j) p h e = subst (AreEarlierSets g x) (let same : ◌≡◌ {A = ℕ × ℕ} (i, j) p = cc in same) (earlier-set g x i h.0, earlier-set g x j h.1)
inputs-sets g x (Product i j) p h e = subst (AreEarlierSets g x) (let same : ◌≡◌ {A = ℕ × ℕ} (i, j) p = cc in same) (earlier-set g x i h.0, earlier-set g x j h.1)
inputs-sets g x (Intersection i j) p h e = subst (AreEarlierSets g x) (let same : ◌≡◌ {A = ℕ × ℕ} (i, j) p = cc in same) (earlier-set g x i h.0, earlier-set g x j h.1)
inputs-sets g x (Map i place ops) p h e = subst (AreEarlierSets g x) (let same : ◌≡◌ {A = ℕ × ℕ} (i, i) p = cc in same) (earlier-set g x i h, earlier-set g x i h)
inputs-sets g x (Filter i place ops) p h e = subst (AreEarlierSets g x) (let same : ◌≡◌ {A = ℕ × ℕ} (i, i) p = cc in same) (earlier-set g x i h, earlier-set g x i h)
inputs-sets g x (Fold i op place lift) p h e = subst (AreEarlierSets g x) (let same : ◌≡◌ {A = ℕ × ℕ} (i, i) p = cc in same) (earlier-set g x i h, earlier-set g x i h)

pub inputs_before : (g : List Decl) (x : ℕ) (d : Decl) (p : ℕ × ℕ) → IsGraph g → slice_get g x ≡ Some d → inputs_of d.kind ≡ Some p → IsEarlierSet g x p.0 × IsEarlierSet g x p.1
inputs_before g x d p good at is = inputs-sets g x d.kind p (good.each x d at).inputs is

-- a set before a variable was evaluated to a set
set-derived : (k : Kind) → is_source k ≡ false → IsTrue (is_set k) → derived_shape k ≡ set
set-derived OrSet e h = refl
set-derived GSet e h = cc
set-derived Counter e h = cc
set-derived MaxReg e h = cc
set-derived (Union i j) e h = refl
set-derived (Product i j) e h = refl
set-derived (Intersection i j) e h = refl
set-derived (Map i place ops) e h = refl
set-derived (Filter i place ops) e h = refl
set-derived (Fold i op place lift) e h = cc

shape-choice : (k : Kind) (b : Bool) (s : Shape) → is_source k ≡ b → IsTrue (is_set k) → (IsTrue b → s ≡ set) → (if b then s else derived_shape k) ≡ set
shape-choice k true s e h is = is refl
shape-choice k false s e h is = set-derived k e h

pub earlier-shape : (g : List Decl) (x i : ℕ) (sources done : List Held) → x < length g → AreSets g sources → KeepShapes x g sources done → IsEarlierSet g x i → (held_at done i).shape ≡ set
earlier-shape g x i sources done within sets shapes s =
    shapes i s.earlier ∙ shape-choice (kind_at g i) (is_source (kind_at g i)) _ refl s.set (λ source. sets i (omega (arith, s.earlier, within)) source s.set)

-- what has inputs is no source
pub derived-inputs : (k : Kind) (p : ℕ × ℕ) → inputs_of k ≡ Some p → is_source k ≡ false
derived-inputs OrSet p e = cc
derived-inputs GSet p e = cc
derived-inputs Counter p e = cc
derived-inputs MaxReg p e = cc
derived-inputs (Union i j) p e = refl
derived-inputs (Product i j) p e = refl
derived-inputs (Intersection i j) p e = refl
derived-inputs (Map i place ops) p e = refl
derived-inputs (Filter i place ops) p e = refl
derived-inputs (Fold i op place lift) p e = refl

pub source-inputs : (k : Kind) → inputs_of k ≡ None → is_source k ≡ true
source-inputs OrSet e = refl
source-inputs GSet e = refl
source-inputs Counter e = refl
source-inputs MaxReg e = refl
source-inputs (Union i j) e = cc
source-inputs (Product i j) e = cc
source-inputs (Intersection i j) e = cc
source-inputs (Map i place ops) e = cc
source-inputs (Filter i place ops) e = cc
source-inputs (Fold i op place lift) e = cc

-- what a list of states has at a place
pub content-held : (states : List Held) (x : ℕ) (h : Held) → slice_get states x ≡ Some h → content_at (contents_of states) x ≡ h.content
content-held [] x h e = cc
content-held (a ∷ states) zero h e = ap (λ (h : Held). h.content) (let same : a ≡ h = cc in same)
content-held (a ∷ states) (suc x) h e = content-held states x h e

pub shape-held : (states : List Held) (x : ℕ) (h : Held) → slice_get states x ≡ Some h → (held_at states x).shape ≡ h.shape
shape-held states x h e = ap (λ (h : Held). h.shape) (get_or_from_slice_get states x h _ e)

pub length-contents : (states : List Held) → length (contents_of states) ≡ length states
length-contents states = length-map states (λ h. h.content)

-- a source is as given
pub evaluated-source : (k : Kind) (done sources : List Held) (x : ℕ) (h : Held) → inputs_of k ≡ None → length done ≡ x → slice_get sources x ≡ Some h
    → evaluated k (contents_of done) (contents_of sources) ≡ h.content
evaluated-source k done sources x h is long at =
    rw (source-inputs k is, length-contents done, long) (content-held sources x h at)

-- the equation of a variable is its process on the contents of its inputs
pub process-inputs : (k : Kind) (contents : List Content) (p : ℕ × ℕ) → inputs_of k ≡ Some p → equation k contents ≡ process k (content_at contents p.0) (content_at contents p.1)
process-inputs OrSet contents p e = cc
process-inputs GSet contents p e = cc
process-inputs Counter contents p e = cc
process-inputs MaxReg contents p e = cc
process-inputs (Union i j) contents p e = ap (λ (q : ℕ × ℕ). process (Union i j) (content_at contents q.0) (content_at contents q.1)) (let same : ◌≡◌ {A = ℕ × ℕ} (i, j) p = cc in same)
process-inputs (Product i j) contents p e = ap (λ (q : ℕ × ℕ). process (Product i j) (content_at contents q.0) (content_at contents q.1)) (let same : ◌≡◌ {A = ℕ × ℕ} (i, j) p = cc in same)
process-inputs (Intersection i j) contents p e = ap (λ (q : ℕ × ℕ). process (Intersection i j) (content_at contents q.0) (content_at contents q.1)) (let same : ◌≡◌ {A = ℕ × ℕ} (i, j) p = cc in same)
process-inputs (Map i place ops) contents p e = ap (λ (q : ℕ × ℕ). process (Map i place ops) (content_at contents q.0) (content_at contents q.1)) (let same : ◌≡◌ {A = ℕ × ℕ} (i, i) p = cc in same)
process-inputs (Filter i place ops) contents p e = ap (λ (q : ℕ × ℕ). process (Filter i place ops) (content_at contents q.0) (content_at contents q.1)) (let same : ◌≡◌ {A = ℕ × ℕ} (i, i) p = cc in same)
process-inputs (Fold i op place lift) contents p e = ap (λ (q : ℕ × ℕ). process (Fold i op place lift) (content_at contents q.0) (content_at contents q.1)) (let same : ◌≡◌ {A = ℕ × ℕ} (i, i) p = cc in same)

-- a process is that of its inputs, which were evaluated before
pub evaluated-process : (k : Kind) (done : List Held) (sources : List Content) (p : ℕ × ℕ) (s t : Held) → inputs_of k ≡ Some p → slice_get done p.0 ≡ Some s → slice_get done p.1 ≡ Some t
    → evaluated k (contents_of done) sources ≡ process k s.content t.content
evaluated-process k done sources p s t is at at' =
    rw (derived-inputs k p is)
    (process-inputs k (contents_of done) p is ∙ (λ n. process k (content-held done p.0 s at n) (content-held done p.1 t at' n)))

-- what is small is small at each place
pub small-at : (contents : List Content) (x : ℕ) → AreSmall contents → size_of (content_at contents x) ≤ row_limit
small-at [] x small = omega arith
small-at (s ∷ contents) zero small = small.0
small-at (s ∷ contents) (suc x) small = small-at contents x small.1

-- the first variable that is too large is the one that can't be evaluated
pub first_large-eval_from : (d : Decl) (g : List Decl) (done sources : List Content) → AreSmall done → row_limit < size_of (evaluated d.kind done sources)
    → first_large 0 (eval_from (d ∷ g) done sources) ≡ Some (length done)
first_large-eval_from d g done sources small large =
    let s = evaluated d.kind done sources in
    let tail = begins-eval_from g (done ++ s ∷ []) sources in
    let all : eval_from (d ∷ g) done sources ≡ done ++ s ∷ tail.rest = tail.is ∙ append_assoc done (s ∷ []) tail.rest in
    ap (first_large 0) all ∙ first_large-found 0 done s tail.rest small large ∙ ap Some (omega arith)

-- a variable that can't be evaluated stops the evaluation of all
pub stopped-eval_from : (k : Kind) (d : Decl) (g : List Decl) (done sources : List Content) (e : EvalRefused) (x : ℕ) → k ≡ d.kind → length done ≡ x → AreSmall done
    → Becomes (Err e) (evaluated k done sources) → Evaluates (Err (stopped_at x e)) (eval_from (d ∷ g) done sources)
stopped-eval_from k d g done sources node.TooManyRows x is long small large =
    first_large-eval_from d g done sources small (rw (← is) large) ∙ ap Some long
stopped-eval_from k d g done sources node.Memory x is long small large = tt

-- a source keeps its shape
pub source-shape : (k : Kind) (s : Shape) → inputs_of k ≡ None → shape_after k s ≡ s
source-shape k s none = ap (λ (b : Bool). if b then s else derived_shape k) (source-inputs k none)

pub shape-as : {A E : Type 0} (r : Result A E) (shape : A → Shape) (s t : Shape) → s ≡ t → IfOk r (λ a. shape a ≡ s) → IfOk r (λ a. shape a ≡ t)
shape-as (Ok a) shape s t e h = h ∙ e
shape-as (Err e) shape s t h k = tt

-- ---- one state more

at-before : (states : List Held) (h : Held) (x : ℕ) → x < length states → held_at (states ++ h ∷ []) x ≡ held_at states x
at-before [] h x within = absurd (omega (arith, within))
at-before (a ∷ states) h zero within = refl
at-before (a ∷ states) h (suc x) within = at-before states h x (omega (arith, within))

at-last : (states : List Held) (h : Held) → held_at (states ++ h ∷ []) (length states) ≡ h
at-last [] h = refl
at-last (a ∷ states) h = at-last states h

pub contents-push : (states : List Held) (h : Held) → contents_of (states ++ h ∷ []) ≡ contents_of states ++ h.content ∷ []
contents-push states h = map-append (λ h. h.content) states (h ∷ [])

pub shapes-push : (many : ℕ) (g : List Decl) (sources states : List Held) (h : Held) → length states ≡ many → KeepShapes many g sources states
    → h.shape ≡ shape_after (kind_at g many) (held_at sources many).shape → KeepShapes (many + 1) g sources (states ++ h ∷ [])
shapes-push many g sources states h long keep last x within = by_place (nat_lt x many) refl where
  by_place : (b : Bool) → nat_lt x many ≡ b → (held_at (states ++ h ∷ []) x).shape ≡ shape_after (kind_at g x) (held_at sources x).shape
  by_place true e =
      let before : x < many = ltb-true _ _ e in
      ap (λ (h : Held). h.shape) (at-before states h x (omega (arith, before, long))) ∙ keep x before
  by_place false e =
      let past : many ≤ x = ltb-false _ _ e in
      let is : x ≡ many = omega (arith, past, within) in
      let here : x ≡ length states = omega (arith, is, long) in
      ap (λ (n : ℕ). (held_at (states ++ h ∷ []) n).shape) here ∙ ap (λ (h : Held). h.shape) (at-last states h) ∙ last ∙ ap (λ (n : ℕ). shape_after (kind_at g n) (held_at sources n).shape) (sym is)

pub numbers-push : (many : ℕ) (g : List Decl) (states : List Held) (h : Held) → length states ≡ many → KeepNumbers many g states
    → (IsFalse (is_source (kind_at g many)) → h.number ≡ number_by (kind_at g many) h.content) → KeepNumbers (many + 1) g (states ++ h ∷ [])
numbers-push many g states h long keep last x within derived = by_place (nat_lt x many) refl where
  by_place : (b : Bool) → nat_lt x many ≡ b → (held_at (states ++ h ∷ []) x).number ≡ number_by (kind_at g x) (held_at (states ++ h ∷ []) x).content
  by_place true e =
      let before : x < many = ltb-true _ _ e in
      subst (λ (h : Held). h.number ≡ number_by (kind_at g x) h.content) (sym (at-before states h x (omega (arith, before, long)))) (keep x before derived)
  by_place false e =
      let past : many ≤ x = ltb-false _ _ e in
      let is : x ≡ many = omega (arith, past, within) in
      let here : x ≡ length states = omega (arith, is, long) in
      let it : held_at (states ++ h ∷ []) x ≡ h = ap (λ (n : ℕ). held_at (states ++ h ∷ []) n) here ∙ at-last states h in
      subst (λ (h : Held). h.number ≡ number_by (kind_at g x) h.content) (sym it)
      (subst (λ (n : ℕ). h.number ≡ number_by (kind_at g n) h.content) (sym is) (last (subst (λ (n : ℕ). IsFalse (is_source (kind_at g n))) is derived)))

-- what else a declaration says can be done
pub kind-sound : (g : List Decl) (x : ℕ) (d : Decl) → IsGraph g → slice_get g x ≡ Some d → IsKind d.kind
kind-sound g x d good at = (good.each x d at).kind

-- ---- widths

begins-widths_from : (g : List Decl) (ws : List ℕ) → (rest : List ℕ) × (widths_from g ws ≡ ws ++ rest)
begins-widths_from [] ws = ([], sym (append-nil ws))
begins-widths_from (d ∷ g) ws =
    let tail = begins-widths_from g (ws ++ width_of d.kind ws ∷ []) in
    (width_of d.kind ws ∷ tail.0, tail.1 ∙ append_assoc ws (width_of d.kind ws ∷ []) tail.0)

width-after : (ws : List ℕ) (w : ℕ) (rest : List ℕ) → width_at (ws ++ w ∷ rest) (length ws) ≡ w
width-after [] w rest = refl
width-after (a ∷ ws) w rest = width-after ws w rest

width-here : (d : Decl) (g : List Decl) (ws : List ℕ) → width_at (widths_from (d ∷ g) ws) (length ws) ≡ width_of d.kind ws
width-here d g ws =
    let tail = begins-widths_from g (ws ++ width_of d.kind ws ∷ []) in
    ap (λ (all : List ℕ). width_at all (length ws)) (tail.1 ∙ append_assoc ws (width_of d.kind ws ∷ []) tail.0) ∙ width-after ws (width_of d.kind ws) tail.0

-- no variable of a graph is wider than 16
narrow-at : (g before : List Decl) (x : ℕ) → ((i : ℕ) (d : Decl) → slice_get g i ≡ Some d → width_of d.kind (widths (before ++ take i g)) ≤ width_limit) → x < length g
    → width_at (widths_from g (widths before)) (length (widths before) + x) ≤ width_limit
narrow-at [] before x h within = absurd (omega (arith, within))
narrow-at (d ∷ g) before zero h within =
    let first = subst (λ (ds : List Decl). width_of d.kind (widths ds) ≤ width_limit) (append-nil before) (h 0 d refl) in
    let here = width-here d g (widths before) in
    let place : length (widths before) + 0 ≡ length (widths before) = omega arith in
    subst (λ (n : ℕ). width_at (widths_from (d ∷ g) (widths before)) n ≤ width_limit) (sym place) (subst (λ (w : ℕ). w ≤ width_limit) (sym here) first)
narrow-at (d ∷ g) before (suc x) h within =
    let more = widths-push before d in
    let long : length (widths (before ++ d ∷ [])) ≡ length (widths before) + 1 = ap length more ∙ length-append (widths before) (width_of d.kind (widths before) ∷ []) in
    let rest = narrow-at g (before ++ d ∷ []) x (λ i e at. subst (λ (ds : List Decl). width_of e.kind (widths ds) ≤ width_limit) (sym (append_assoc before (d ∷ []) (take i g))) (h (suc i) e at)) (omega (arith, within)) in
    let place : length (widths (before ++ d ∷ [])) + x ≡ length (widths before) + suc x = omega (arith, long) in
    subst (λ (n : ℕ). width_at (widths_from (d ∷ g) (widths before)) n ≤ width_limit) place
    (subst (λ (ws : List ℕ). width_at (widths_from g ws) (length (widths (before ++ d ∷ [])) + x) ≤ width_limit) more rest)

pub narrow-widths : (g : List Decl) (x : ℕ) → IsGraph g → x < length g → width_at (widths g) x ≤ width_limit
narrow-widths g x good within =
    let place : 0 + x ≡ x = omega arith in
    subst (λ (n : ℕ). width_at (widths g) n ≤ width_limit) place (narrow-at g [] x (λ i d at. (good.each i d at).narrow) within)

wider : (w : ℕ) (s : Content) → w ≤ 16 → HasWidth w s → HasWidth 16 s
wider w s le h = record {
  values = λ v t row. record { leaves = omega (arith, le, (h.values v t row).leaves); bytes = omega (arith, le, (h.values v t row).bytes) };
  tokens = λ v t row. omega (arith, le, h.tokens v t row);
}

content-front : (done rest : List Content) (x : ℕ) → x < length done → content_at (done ++ rest) x ≡ content_at done x
content-front [] rest x within = absurd (omega (arith, within))
content-front (a ∷ done) rest zero within = refl
content-front (a ∷ done) rest (suc x) within = content-front done rest x (omega (arith, within))

-- what is evaluated so far is of width 16 at most
pub done-width : (g more : List Decl) (sources done : List Held) (many : ℕ) → IsGraph g → AreNarrow g sources → eval_from more (contents_of done) (contents_of sources) ≡ eval g (contents_of sources)
    → length done ≡ many → many < length g → (x : ℕ) → x < many → HasWidth 16 (content_at (contents_of done) x)
done-width g more sources done many good narrow whole long within x before =
    let tail = begins-eval_from more (contents_of done) (contents_of sources) in
    let same : content_at (eval g (contents_of sources)) x ≡ content_at (contents_of done) x =
    ap (λ (all : List Content). content_at all x) (sym whole ∙ tail.is) ∙ content-front (contents_of done) tail.rest x (omega (arith, before, long, length-contents done)) in
    subst (HasWidth 16) same (wider (width_at (widths g) x) _ (narrow-widths g x good (omega (arith, before, within))) (eval-width g (contents_of sources) narrow x))
