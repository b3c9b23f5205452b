-- The states of sources by themselves and among those of all variables.
use Rattle.std.proofs.Common.{◌≡◌, ◌∙◌, refl, sym, ap, subst, ℕ, zero, suc, ◌+◌, ◌<◌, ◌≤◌, pos, Bool, true, false, IsTrue, List, [], ◌∷◌, ◌++◌, length, drop, drop-cons, Some, if◌then◌else◌, append_assoc, arith}
use Rattle.std.proofs.Math.ListN.{drop_of_length-le}
use Rattle.std.proofs.lemmas.List.{append-nil}
use Rattle.std.specs.List.{slice_get}
use Rattle.std.proofs.lemmas.Option.{get_or_from_slice_get}
use Rattle.model_states.specs.Content.{Content, least}
use Rattle.model_states.specs.Threshold.{set}
use Rattle.model_graph.specs.Graph.{Kind, Decl, no_decl, decl_at, is_source, kind_at}
use Rattle.lasp_state.specs.declared.state.State.{State}
use Rattle.lasp_state.specs.State.{content_of, shape_of, number_of}
use Rattle.model_graph.specs.Lawful.{sources_among}
use Rattle.model_graph.specs.Evaluation.{content_at, equation}
use Rattle.model_graph.specs.Width.{HasWidth}
use Rattle.lasp_graph.specs.States.{Held, held_of, held_at, contents_of}
use Rattle.lasp_graph.specs.Evaluated.{inputs_of, process, AreSets, AreNarrow}
use Rattle.lasp_graph.proofs.Evaluation.{process-inputs}
use Rattle.lasp_graph.specs.Sources.{nothing_held, by_variable, sources_of}

held-drop : (states : List Held) (n : ℕ) → held_at (drop n states) 0 ≡ held_at states n
held-drop [] zero = refl
held-drop [] (suc n) = refl
held-drop (h ∷ states) zero = refl
held-drop (h ∷ states) (suc n) = held-drop states n

drop-one : (states : List Held) (n : ℕ) → drop 1 (drop n states) ≡ drop (n + 1) states
drop-one states n =
    let is : suc n ≡ n + 1 = omega arith in
    step states n ∙ ap (λ (m : ℕ). drop m states) is
  where
    step : (states : List Held) (n : ℕ) → drop 1 (drop n states) ≡ drop (suc n) states
    step [] zero = refl
    step [] (suc n) = refl
    step (h ∷ states) zero = refl
    step (h ∷ states) (suc n) = step states n

-- ---- the sources in their order

abbrev chosen : Bool → Held → List Held → List Held
chosen b h rest = if b then h ∷ rest else rest

-- what stands in front of the sources that are left
pub source-next : (g : List Decl) (states sources : List Held) (x : ℕ) (d : Decl) (h : Held) → drop x g ≡ d ∷ drop (suc x) g → is_source d.kind ≡ true → slice_get states x ≡ Some h
    → sources ++ sources_of (drop x g) (drop x states) ≡ sources_of g states → (sources ++ h ∷ []) ++ sources_of (drop (x + 1) g) (drop (x + 1) states) ≡ sources_of g states
source-next g states sources x d h front is at whole =
    let here : held_at (drop x states) 0 ≡ h = held-drop states x ∙ get_or_from_slice_get states x h nothing_held at in
    let step : suc x ≡ x + 1 = omega arith in
    let left : sources_of (drop x g) (drop x states) ≡ h ∷ sources_of (drop (x + 1) g) (drop (x + 1) states) =
    ap (λ (ds : List Decl). sources_of ds (drop x states)) front ∙ ap (λ (b : Bool). chosen b (held_at (drop x states) 0) (sources_of (drop (suc x) g) (drop 1 (drop x states)))) is
    ∙ (λ i. here i ∷ sources_of (drop (step i) g) (drop-one states x i)) in
    append_assoc sources (h ∷ []) (sources_of (drop (x + 1) g) (drop (x + 1) states)) ∙ ap (λ (rest : List Held). sources ++ rest) (sym left) ∙ whole

pub derived-next : (g : List Decl) (states sources : List Held) (x : ℕ) (d : Decl) → drop x g ≡ d ∷ drop (suc x) g → is_source d.kind ≡ false
    → sources ++ sources_of (drop x g) (drop x states) ≡ sources_of g states → sources ++ sources_of (drop (x + 1) g) (drop (x + 1) states) ≡ sources_of g states
derived-next g states sources x d front is whole =
    let step : suc x ≡ x + 1 = omega arith in
    let left : sources_of (drop x g) (drop x states) ≡ sources_of (drop (x + 1) g) (drop (x + 1) states) =
    ap (λ (ds : List Decl). sources_of ds (drop x states)) front ∙ ap (λ (b : Bool). chosen b (held_at (drop x states) 0) (sources_of (drop (suc x) g) (drop 1 (drop x states)))) is
    ∙ (λ i. sources_of (drop (step i) g) (drop-one states x i)) in
    ap (λ (rest : List Held). sources ++ rest) (sym left) ∙ whole

-- ---- all variables

abbrev placed : Bool → List Held → List Decl → List Held
placed b sources g = if b then held_at sources 0 ∷ by_variable g (drop 1 sources) else nothing_held ∷ by_variable g sources

-- what stands in front of the variables that are left
pub placed-source : (g : List Decl) (sources states : List Held) (x n : ℕ) (d : Decl) (h : Held) → drop x g ≡ d ∷ drop (suc x) g → is_source d.kind ≡ true → slice_get sources n ≡ Some h
    → states ++ by_variable (drop x g) (drop n sources) ≡ by_variable g sources → (states ++ h ∷ []) ++ by_variable (drop (x + 1) g) (drop (n + 1) sources) ≡ by_variable g sources
placed-source g sources states x n d h front is at whole =
    let here : held_at (drop n sources) 0 ≡ h = held-drop sources n ∙ get_or_from_slice_get sources n h nothing_held at in
    let step : suc x ≡ x + 1 = omega arith in
    let left : by_variable (drop x g) (drop n sources) ≡ h ∷ by_variable (drop (x + 1) g) (drop (n + 1) sources) =
    ap (λ (ds : List Decl). by_variable ds (drop n sources)) front ∙ ap (λ (b : Bool). placed b (drop n sources) (drop (suc x) g)) is ∙ (λ i. here i ∷ by_variable (drop (step i) g) (drop-one sources n i)) in
    append_assoc states (h ∷ []) (by_variable (drop (x + 1) g) (drop (n + 1) sources)) ∙ ap (λ (rest : List Held). states ++ rest) (sym left) ∙ whole

pub placed-derived : (g : List Decl) (sources states : List Held) (x n : ℕ) (d : Decl) → drop x g ≡ d ∷ drop (suc x) g → is_source d.kind ≡ false
    → states ++ by_variable (drop x g) (drop n sources) ≡ by_variable g sources → (states ++ nothing_held ∷ []) ++ by_variable (drop (x + 1) g) (drop n sources) ≡ by_variable g sources
placed-derived g sources states x n d front is whole =
    let step : suc x ≡ x + 1 = omega arith in
    let left : by_variable (drop x g) (drop n sources) ≡ nothing_held ∷ by_variable (drop (x + 1) g) (drop n sources) =
    ap (λ (ds : List Decl). by_variable ds (drop n sources)) front ∙ ap (λ (b : Bool). placed b (drop n sources) (drop (suc x) g)) is ∙ (λ i. nothing_held ∷ by_variable (drop (step i) g) (drop n sources)) in
    append_assoc states (nothing_held ∷ []) (by_variable (drop (x + 1) g) (drop n sources)) ∙ ap (λ (rest : List Held). states ++ rest) (sym left) ∙ whole

-- how many sources are left
pub left-source : (g : List Decl) (x : ℕ) (d : Decl) → drop x g ≡ d ∷ drop (suc x) g → is_source d.kind ≡ true → length (sources_among (drop x g)) ≡ length (sources_among (drop (x + 1) g)) + 1
left-source g x d front is =
    let step : suc x ≡ x + 1 = omega arith in
    let more : suc (length (sources_among (drop (x + 1) g))) ≡ length (sources_among (drop (x + 1) g)) + 1 = omega arith in
    ap (λ (ds : List Decl). length (sources_among ds)) front ∙ ap (λ (b : Bool). length (if b then d ∷ sources_among (drop (suc x) g) else sources_among (drop (suc x) g))) is
    ∙ ap (λ (n : ℕ). suc (length (sources_among (drop n g)))) step ∙ more

pub left-derived : (g : List Decl) (x : ℕ) (d : Decl) → drop x g ≡ d ∷ drop (suc x) g → is_source d.kind ≡ false → length (sources_among (drop x g)) ≡ length (sources_among (drop (x + 1) g))
left-derived g x d front is =
    let step : suc x ≡ x + 1 = omega arith in
    ap (λ (ds : List Decl). length (sources_among ds)) front ∙ ap (λ (b : Bool). length (if b then d ∷ sources_among (drop (suc x) g) else sources_among (drop (suc x) g))) is
    ∙ ap (λ (n : ℕ). length (sources_among (drop n g))) step

-- ---- one variable more

pub held_found : (states : List Held) (n : ℕ) (h : Held) → slice_get states n ≡ Some h → h ≡ held_at states n
held_found states n h at = sym (get_or_from_slice_get states n h nothing_held at)

pub source-step : (g : List Decl) (states sources new : List Held) (x : ℕ) (k : Kind) (h : Held) → x < length g → kind_at g x ≡ k → slice_get states x ≡ Some h → new ≡ (if is_source k then sources ++ h ∷ [] else sources)
    → sources ++ sources_of (drop x g) (drop x states) ≡ sources_of g states → new ++ sources_of (drop (x + 1) g) (drop (x + 1) states) ≡ sources_of g states
source-step g states sources new x k h within kind at is whole = by (is_source k) refl is
  where
    front : drop x g ≡ decl_at g x ∷ drop (suc x) g
    front = drop-cons g x no_decl within

    by : (b : Bool) → is_source k ≡ b → new ≡ (if b then sources ++ h ∷ [] else sources) → new ++ sources_of (drop (x + 1) g) (drop (x + 1) states) ≡ sources_of g states
    by true e n = ap (λ (s : List Held). s ++ sources_of (drop (x + 1) g) (drop (x + 1) states)) n ∙ source-next g states sources x (decl_at g x) h front (ap is_source kind ∙ e) at whole
    by false e n = ap (λ (s : List Held). s ++ sources_of (drop (x + 1) g) (drop (x + 1) states)) n ∙ derived-next g states sources x (decl_at g x) front (ap is_source kind ∙ e) whole

-- how far the states of all variables have come
pub record IsPlaced (g : List Decl) (sources states : List Held) (x n : ℕ) : Type 0 where
  pub whole : states ++ by_variable (drop x g) (drop n sources) ≡ by_variable g sources
  pub left : length sources ≡ n + length (sources_among (drop x g))

pub placed-place : (g : List Decl) (sources states : List Held) (x n : ℕ) (k : Kind) → x < length g → kind_at g x ≡ k → IsPlaced g sources states x n → IsTrue (is_source k) → n < length sources
placed-place g sources states x n k within kind is source =
    let front : drop x g ≡ decl_at g x ∷ drop (suc x) g = drop-cons g x no_decl within in
    omega (arith, is.left, left-source g x (decl_at g x) front (ap is_source kind ∙ source))

at-place : (sources : List Held) (n : ℕ) → n < length sources → slice_get sources n ≡ Some (held_at sources n)
at-place [] n within = absurd (omega (arith, within))
at-place (h ∷ sources) zero within = refl
at-place (h ∷ sources) (suc n) within = at-place sources n (omega (arith, within))

pub placed-step : (g : List Decl) (sources states new : List Held) (x n m : ℕ) (k : Kind) (nothing : Held) → x < length g → kind_at g x ≡ k → nothing ≡ nothing_held
    → new ≡ states ++ (if is_source k then held_at sources n else nothing) ∷ [] → m ≡ (if is_source k then n + 1 else n) → IsPlaced g sources states x n → IsPlaced g sources new (x + 1) m
placed-step g sources states new x n m k nothing within kind none is to placed = by (is_source k) refl is to
  where
    front : drop x g ≡ decl_at g x ∷ drop (suc x) g
    front = drop-cons g x no_decl within

    by : (b : Bool) → is_source k ≡ b → new ≡ states ++ (if b then held_at sources n else nothing) ∷ [] → m ≡ (if b then n + 1 else n) → IsPlaced g sources new (x + 1) m
    by true e new-is m-is =
        let source : is_source (decl_at g x).kind ≡ true = ap is_source kind ∙ e in
        let here : n < length sources = placed-place g sources states x n k within kind placed e in
        subst (λ (p : ℕ). IsPlaced g sources new (x + 1) p) (sym m-is) (subst (λ (s : List Held). IsPlaced g sources s (x + 1) (n + 1)) (sym new-is)
        (record {
          whole = placed-source g sources states x n (decl_at g x) (held_at sources n) front source (at-place sources n here) placed.whole;
          left = omega (arith, placed.left, left-source g x (decl_at g x) front source);
        }))
    by false e new-is m-is =
        let derived : is_source (decl_at g x).kind ≡ false = ap is_source kind ∙ e in
        subst (λ (p : ℕ). IsPlaced g sources new (x + 1) p) (sym m-is) (subst (λ (s : List Held). IsPlaced g sources s (x + 1) n) (ap (λ (h : Held). states ++ h ∷ []) (sym none) ∙ sym new-is)
        (record { whole = placed-derived g sources states x n (decl_at g x) front derived placed.whole; left = omega (arith, placed.left, left-derived g x (decl_at g x) front derived) }))

-- a set without rows holds nothing
pub nothing-is : (s : State) → content_of s ≡ least → shape_of s ≡ set → number_of s ≡ pos 0 → held_of s ≡ nothing_held
nothing-is s content shape number = λ i. record { shape = shape i; content = content i; number = number i }

pub placed-start : (g : List Decl) (sources : List Held) → length sources ≡ length (sources_among g) → IsPlaced g sources [] 0 0
placed-start g sources long = record { whole = refl; left = omega (arith, long) }

pub placed-end : (g : List Decl) (sources states : List Held) (x n : ℕ) → length g ≤ x → IsPlaced g sources states x n → states ≡ by_variable g sources
placed-end g sources states x n past is =
    sym (append-nil states) ∙ ap (λ (ds : List Decl). states ++ by_variable ds (drop n sources)) (sym (drop_of_length-le g past)) ∙ is.whole

pub sources-end : (g : List Decl) (states sources : List Held) (x : ℕ) → length g ≤ x → sources ++ sources_of (drop x g) (drop x states) ≡ sources_of g states → sources ≡ sources_of g states
sources-end g states sources x past is =
    sym (append-nil sources) ∙ ap (λ (ds : List Decl). sources ++ sources_of ds (drop x states)) (sym (drop_of_length-le g past)) ∙ is

pub placed-long : (g : List Decl) (sources : List Held) → length (by_variable g sources) ≡ length g
placed-long [] sources = refl
placed-long (d ∷ g) sources = by (is_source d.kind) (placed-long g (drop 1 sources)) (placed-long g sources)
  where
    by : (b : Bool) → length (by_variable g (drop 1 sources)) ≡ length g → length (by_variable g sources) ≡ length g → length (placed b sources g) ≡ suc (length g)
    by true h k = ap suc h
    by false h k = ap suc k

-- ---- there and back

pub sources_many : (g : List Decl) (states : List Held) → length (sources_of g states) ≡ length (sources_among g)
sources_many [] states = refl
sources_many (d ∷ g) states = by (is_source d.kind) (sources_many g (drop 1 states))
  where
    by : (b : Bool) → length (sources_of g (drop 1 states)) ≡ length (sources_among g) → length (chosen b (held_at states 0) (sources_of g (drop 1 states))) ≡ length (if b then d ∷ sources_among g else sources_among g)
    by true h = ap suc h
    by false h = h

held-tail : (states : List Held) (x : ℕ) → held_at (drop 1 states) x ≡ held_at states (suc x)
held-tail [] zero = refl
held-tail [] (suc x) = refl
held-tail (h ∷ states) x = refl

pub sources_again : (g : List Decl) (states : List Held) (x : ℕ) → x < length g → IsTrue (is_source (kind_at g x)) → held_at (by_variable g (sources_of g states)) x ≡ held_at states x
sources_again [] states x within source = absurd (omega (arith, within))
sources_again (d ∷ g) states zero within source = by (is_source d.kind) source
  where
    by : (b : Bool) → IsTrue b → held_at (placed b (chosen b (held_at states 0) (sources_of g (drop 1 states))) g) 0 ≡ held_at states 0
    by true h = refl
    by false h = absurd cc
sources_again (d ∷ g) states (suc x) within source = by (is_source d.kind) (sources_again g (drop 1 states) x (omega (arith, within)) source ∙ held-tail states x)
  where
    by : (b : Bool) → held_at (by_variable g (sources_of g (drop 1 states))) x ≡ held_at states (suc x) → held_at (placed b (chosen b (held_at states 0) (sources_of g (drop 1 states))) g) (suc x) ≡ held_at states (suc x)
    by true h = h
    by false h = h

pub held-content : (states : List Held) (x : ℕ) → content_at (contents_of states) x ≡ (held_at states x).content
held-content [] zero = refl
held-content [] (suc x) = refl
held-content (h ∷ states) zero = refl
held-content (h ∷ states) (suc x) = held-content states x

pub sets_again : (g : List Decl) (states : List Held) → AreSets g states → AreSets g (by_variable g (sources_of g states))
sets_again g states sets x within source is = ap (λ (h : Held). h.shape) (sources_again g states x within source) ∙ sets x within source is

pub narrow_again : (g : List Decl) (states : List Held) → AreNarrow g states → AreNarrow g (by_variable g (sources_of g states))
narrow_again g states narrow x within source =
    subst (HasWidth 1)
    (held-content states x ∙ ap (λ (h : Held). h.content) (sym (sources_again g states x within source)) ∙ sym (held-content (by_variable g (sources_of g states)) x))
    (narrow x within source)

-- ---- what evaluation makes of a derived variable

pub equation_process : (k : Kind) (contents : List Content) (x y : ℕ) → inputs_of k ≡ Some (x, y) → equation k contents ≡ process k (content_at contents x) (content_at contents y)
equation_process k contents x y is = process-inputs k contents (x, y) is
