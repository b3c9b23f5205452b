-- Plain evaluation in words: each source as given, each derived variable its equation on the whole; and what is compared with it.
use Rattle.std.proofs.Common.{◌≡◌, ℕ, zero, suc, ◌+◌, ◌≤◌, ◌<◌, ◌⊎◌, inl, inr, Bool, true, false, if◌then◌else◌, IsTrue, List, [], ◌∷◌, ◌++◌, length, refl, sym, ap, subst, ◌∙◌, arith}
use Rattle.std.proofs.lemmas.List.{length-take}
use Rattle.model_states.specs.Content.{Content, least, IsContentAtMost, IsOrdered}
use Rattle.model_states.proofs.ContentLaws.{at_most-chain, at_most-same}
use Rattle.model_graph.specs.Graph.{Kind, Decl, is_source, IsInput, no_decl, kind_at}
use Rattle.model_graph.specs.Evaluation.{content_at, equation, evaluated, eval_from, eval}
use Rattle.model_graph.specs.Order.{ContentsAtMost}
use Rattle.model_graph.specs.Lawful.{IsGraph, IsDerived}
use Rattle.model_graph.proofs.PlaceLaws.{at-append, at-past, at-last, at-push, length-append, below-or-not, same-lists, from-nothing}
use Rattle.model_graph.proofs.EquationLaws.{equation-monotone, equation-alike, equation-ordered, equation-least}

pub eval_from-length : (g : List Decl) (done ss : List Content) → length (eval_from g done ss) ≡ length done + length g
eval_from-length [] done ss = omega arith
eval_from-length (d ∷ g) done ss = omega (arith, eval_from-length g (done ++ evaluated d.kind done ss ∷ []) ss, length-append done (evaluated d.kind done ss ∷ []))

pub eval_from-keeps : (g : List Decl) (done ss : List Content) (x : ℕ) → x < length done → content_at (eval_from g done ss) x ≡ content_at done x
eval_from-keeps [] done ss x h = refl
eval_from-keeps (d ∷ g) done ss x h =
    eval_from-keeps g (done ++ evaluated d.kind done ss ∷ []) ss x (omega (arith, h, length-append done (evaluated d.kind done ss ∷ [])))
    ∙ at-append done (evaluated d.kind done ss ∷ []) x least h

-- a declaration's content in the evaluation of the whole
abbrev value_in : Kind → List Content → List Content → ℕ → Content
value_in k env ss x = if is_source k then content_at ss x else equation k env

evaluated-in : (k : Kind) (done env ss : List Content) → ((x : ℕ) → IsInput k x → content_at done x ≡ content_at env x) → evaluated k done ss ≡ value_in k env ss (length done)
evaluated-in k done env ss h = elim (is_source k) as (λ b. (if b then content_at ss (length done) else equation k done) ≡ (if b then content_at ss (length done) else equation k env)) [
  | true ↦ refl
  | false ↦ equation-alike k done env h
]

eval_from-at : (g : List Decl) (done ss : List Content) (j : ℕ) → j < length g → ((i : ℕ) → i < length g → (x : ℕ) → IsInput (kind_at g i) x → x < length done + i)
    → content_at (eval_from g done ss) (length done + j) ≡ value_in (kind_at g j) (eval_from g done ss) ss (length done + j)
eval_from-at [] done ss j h edges = absurd (omega (arith, h))
eval_from-at (d ∷ g) done ss zero h edges =
    let here : length done + 0 ≡ length done = omega arith in
    let more = done ++ evaluated d.kind done ss ∷ [] in
    let long : length more ≡ length done + 1 = length-append done (evaluated d.kind done ss ∷ []) in
    let env = eval_from g more ss in
    subst (λ (n : ℕ). content_at env n ≡ value_in d.kind env ss n) (sym here)
    (eval_from-keeps g more ss (length done) (omega (arith, long))
    ∙ at-last done (evaluated d.kind done ss) least
    ∙ evaluated-in d.kind done env ss (λ x i. sym (eval_from-keeps (d ∷ g) done ss x (let low = edges 0 (omega arith) x i in omega (arith, low)))))
eval_from-at (d ∷ g) done ss (suc j) h edges =
    let more = done ++ evaluated d.kind done ss ∷ [] in
    let long : length more ≡ length done + 1 = length-append done (evaluated d.kind done ss ∷ []) in
    let there : length more + j ≡ length done + suc j = omega (arith, long) in
    subst (λ (n : ℕ). content_at (eval_from g more ss) n ≡ value_in (kind_at g j) (eval_from g more ss) ss n) there
    (eval_from-at g more ss j (omega (arith, h)) (λ i small x input. let low = edges (suc i) (omega (arith, small)) x input in omega (arith, low, long)))

-- inputs are earlier variables
abbrev pub HasEarlierInputs : List Decl → Type 0
HasEarlierInputs g = (y x : ℕ) → IsInput (kind_at g y) x → x < y

no-inputs-past : (g : List Decl) (y x : ℕ) → length g ≤ y → IsInput (kind_at g y) x → ⊥
no-inputs-past g y x h i = subst (λ (d : Decl). IsInput d.kind x) (at-past g y no_decl h) i

pub graph-earlier : (g : List Decl) → IsGraph g → HasEarlierInputs g
graph-earlier g ok y x i = choose (below-or-not y (length g)) where
  choose : (y < length g) ⊎ (length g ≤ y) → x < y
  choose (inl h) = let low = (ok y h).earlier x i in omega (arith, low, length-take y g)
  choose (inr h) = absurd (no-inputs-past g y x h i)

pub eval-length : (g : List Decl) (ss : List Content) → length (eval g ss) ≡ length g
eval-length g ss = omega (arith, eval_from-length g [] ss)

pub eval-at : (g : List Decl) (ss : List Content) → HasEarlierInputs g → (x : ℕ) → x < length g → content_at (eval g ss) x ≡ value_in (kind_at g x) (eval g ss) ss x
eval-at g ss edges x h =
    subst (λ (n : ℕ). content_at (eval g ss) n ≡ value_in (kind_at g x) (eval g ss) ss n) (sym (from-nothing x))
    (eval_from-at g [] ss x h (λ i small z input. let low = edges i z input in omega (arith, low)))

eval_from-given : (g : List Decl) (done ss : List Content) (j : ℕ) → j < length g → is_source (kind_at g j) ≡ true → content_at (eval_from g done ss) (length done + j) ≡ content_at ss (length done + j)
eval_from-given [] done ss j h source = absurd (omega (arith, h))
eval_from-given (d ∷ g) done ss zero h source =
    let here : length done + 0 ≡ length done = omega arith in
    let more = done ++ evaluated d.kind done ss ∷ [] in
    let long : length more ≡ length done + 1 = length-append done (evaluated d.kind done ss ∷ []) in
    subst (λ (n : ℕ). content_at (eval_from g more ss) n ≡ content_at ss n) (sym here)
    (eval_from-keeps g more ss (length done) (omega (arith, long))
    ∙ at-last done (evaluated d.kind done ss) least
    ∙ ap (λ (b : Bool). if b then content_at ss (length done) else equation d.kind done) source)
eval_from-given (d ∷ g) done ss (suc j) h source =
    let more = done ++ evaluated d.kind done ss ∷ [] in
    let there : length more + j ≡ length done + suc j = omega (arith, length-append done (evaluated d.kind done ss ∷ [])) in
    subst (λ (n : ℕ). content_at (eval_from g more ss) n ≡ content_at ss n) there (eval_from-given g more ss j (omega (arith, h)) source)

pub eval-given : (g : List Decl) (ss : List Content) (x : ℕ) → x < length g → IsTrue (is_source (kind_at g x)) → content_at (eval g ss) x ≡ content_at ss x
eval-given g ss x low source = subst (λ (n : ℕ). content_at (eval g ss) n ≡ content_at ss n) (sym (from-nothing x)) (eval_from-given g [] ss x low source)

pub eval-derived : (g : List Decl) (ss : List Content) → IsGraph g → (x : ℕ) → IsDerived g x → content_at (eval g ss) x ≡ equation (kind_at g x) (eval g ss)
eval-derived g ss ok x d = eval-at g ss (graph-earlier g ok) x d.declared ∙ ap (λ (b : Bool). if b then content_at ss x else equation (kind_at g x) (eval g ss)) d.process

-- a source is at most what is given, a derived variable is at most its equation
pub record IsBelow (g : List Decl) (env ss : List Content) : Type 0 where
  pub source : (x : ℕ) → x < length g → is_source (kind_at g x) ≡ true → IsContentAtMost (content_at env x) (content_at ss x)
  pub derived : (x : ℕ) → x < length g → is_source (kind_at g x) ≡ false → IsContentAtMost (content_at env x) (equation (kind_at g x) env)

below-at : (g : List Decl) (env ss : List Content) → HasEarlierInputs g → IsBelow g env ss → (n x : ℕ) → x < n → x < length g → IsContentAtMost (content_at env x) (content_at (eval g ss) x)
below-at g env ss edges below zero x low h = absurd (omega (arith, low))
below-at g env ss edges below (suc n) x low h =
    subst (λ (s : Content). IsContentAtMost (content_at env x) s) (sym (eval-at g ss edges x h)) (choose (λ z i. let earlier = edges x z i in below-at g env ss edges below n z (omega (arith, earlier, low)) (omega (arith, earlier, h))) (is_source (kind_at g x)) refl) where
      choose : ((z : ℕ) → IsInput (kind_at g x) z → IsContentAtMost (content_at env z) (content_at (eval g ss) z)) → (b : Bool) → is_source (kind_at g x) ≡ b → IsContentAtMost (content_at env x) (if b then content_at ss x else equation (kind_at g x) (eval g ss))
      choose inputs true e = below.source x h e
      choose inputs false e = at_most-chain (content_at env x) (equation (kind_at g x) env) (equation (kind_at g x) (eval g ss)) (below.derived x h e)
          (equation-monotone (kind_at g x) env (eval g ss) inputs)

-- so it is at most what evaluation gives
pub below-eval : (g : List Decl) (env ss : List Content) → HasEarlierInputs g → IsBelow g env ss → (x : ℕ) → x < length g → IsContentAtMost (content_at env x) (content_at (eval g ss) x)
below-eval g env ss edges below x h = below-at g env ss edges below (suc x) x (omega arith) h

pub eval-above : (g : List Decl) (ss env : List Content) → IsGraph g
    → ((x : ℕ) → x < length g → IsTrue (is_source (kind_at g x)) → IsContentAtMost (content_at env x) (content_at ss x))
    → ((x : ℕ) → IsDerived g x → IsContentAtMost (content_at env x) (equation (kind_at g x) env))
    → (x : ℕ) → x < length g → IsContentAtMost (content_at env x) (content_at (eval g ss) x)
eval-above g ss env ok source derived x low =
    below-eval g env ss (graph-earlier g ok) (record { source = source; derived = λ y small e. derived y (record { declared = small; process = e }) }) x low

pub eval-monotone : (g : List Decl) (ss ts : List Content) → IsGraph g
    → ((x : ℕ) → x < length g → IsTrue (is_source (kind_at g x)) → IsContentAtMost (content_at ss x) (content_at ts x)) → ContentsAtMost (eval g ss) (eval g ts)
eval-monotone g ss ts ok h x = choose (below-or-not x (length g)) where
  choose : (x < length g) ⊎ (length g ≤ x) → IsContentAtMost (content_at (eval g ss) x) (content_at (eval g ts) x)
  choose (inl low) = eval-above g ts (eval g ss) ok
      (λ y small source. subst (λ (s : Content). IsContentAtMost s (content_at ts y)) (sym (eval-given g ss y small source)) (h y small source))
      (λ y d. at_most-same (content_at (eval g ss) y) (equation (kind_at g y) (eval g ss)) (eval-derived g ss ok y d)) x low
  choose (inr high) = at_most-same (content_at (eval g ss) x) (content_at (eval g ts) x)
      (at-past (eval g ss) x least (omega (arith, high, eval-length g ss)) ∙ sym (at-past (eval g ts) x least (omega (arith, high, eval-length g ts))))

-- a source is what is given, a derived variable is its equation
pub record IsSettled (g : List Decl) (env ss : List Content) : Type 0 where
  pub source : (x : ℕ) → x < length g → is_source (kind_at g x) ≡ true → content_at env x ≡ content_at ss x
  pub derived : (x : ℕ) → x < length g → is_source (kind_at g x) ≡ false → content_at env x ≡ equation (kind_at g x) env

settled-at : (g : List Decl) (env ss : List Content) → HasEarlierInputs g → IsSettled g env ss → (n x : ℕ) → x < n → x < length g → content_at env x ≡ content_at (eval g ss) x
settled-at g env ss edges settled zero x low h = absurd (omega (arith, low))
settled-at g env ss edges settled (suc n) x low h = choose (λ z i. let earlier = edges x z i in settled-at g env ss edges settled n z (omega (arith, earlier, low)) (omega (arith, earlier, h))) (is_source (kind_at g x)) refl ∙ sym (eval-at g ss edges x h) where
  choose : ((z : ℕ) → IsInput (kind_at g x) z → content_at env z ≡ content_at (eval g ss) z) → (b : Bool) → is_source (kind_at g x) ≡ b → content_at env x ≡ (if b then content_at ss x else equation (kind_at g x) (eval g ss))
  choose inputs true e = settled.source x h e
  choose inputs false e = settled.derived x h e
      ∙ equation-alike (kind_at g x) env (eval g ss) inputs

-- so it is what evaluation gives
pub settled-eval : (g : List Decl) (env ss : List Content) → HasEarlierInputs g → IsSettled g env ss → length env ≡ length g → env ≡ eval g ss
settled-eval g env ss edges settled long = same-lists env (eval g ss) least (omega (arith, long, eval-length g ss)) (λ x h. settled-at g env ss edges settled (suc x) x (omega arith) (omega (arith, h, long)))

pub eval-only : (g : List Decl) (ss env : List Content) → IsGraph g → length env ≡ length g
    → ((x : ℕ) → x < length g → IsTrue (is_source (kind_at g x)) → content_at env x ≡ content_at ss x)
    → ((x : ℕ) → IsDerived g x → content_at env x ≡ equation (kind_at g x) env)
    → env ≡ eval g ss
eval-only g ss env ok long source derived =
    settled-eval g env ss (graph-earlier g ok) (record { source = source; derived = λ y small e. derived y (record { declared = small; process = e }) }) long

-- ---- what evaluation looks at, and longer graphs

same-evaluated : (k : Kind) (done ss ts : List Content) → (is_source k ≡ true → content_at ss (length done) ≡ content_at ts (length done)) → evaluated k done ss ≡ evaluated k done ts
same-evaluated k done ss ts h = choose (is_source k) h where
  choose : (b : Bool) → (b ≡ true → content_at ss (length done) ≡ content_at ts (length done)) → (if b then content_at ss (length done) else equation k done) ≡ (if b then content_at ts (length done) else equation k done)
  choose true h = h refl
  choose false h = refl

eval_from-sources : (g : List Decl) (done ss ts : List Content) → ((i : ℕ) → i < length g → is_source (kind_at g i) ≡ true → content_at ss (length done + i) ≡ content_at ts (length done + i)) → eval_from g done ss ≡ eval_from g done ts
eval_from-sources [] done ss ts same = refl
eval_from-sources (d ∷ g) done ss ts same =
    let here : length done + 0 ≡ length done = omega arith in
    let one : evaluated d.kind done ss ≡ evaluated d.kind done ts = same-evaluated d.kind done ss ts (λ e. subst (λ (n : ℕ). content_at ss n ≡ content_at ts n) here (same 0 (omega arith) e)) in
    let more = done ++ evaluated d.kind done ss ∷ [] in
    eval_from-sources g more ss ts (λ i low e.
    let there : length done + suc i ≡ length more + i = omega (arith, length-append done (evaluated d.kind done ss ∷ [])) in
    subst (λ (n : ℕ). content_at ss n ≡ content_at ts n) there (same (suc i) (omega (arith, low)) e))
    ∙ ap (λ (s : Content). eval_from g (done ++ s ∷ []) ts) one

-- evaluation looks at the sources alone
pub eval-sources : (g : List Decl) (ss ts : List Content) → ((x : ℕ) → x < length g → IsTrue (is_source (kind_at g x)) → content_at ss x ≡ content_at ts x) → eval g ss ≡ eval g ts
eval-sources g ss ts same = eval_from-sources g [] ss ts (λ i low e. subst (λ (n : ℕ). content_at ss n ≡ content_at ts n) (from-nothing i) (same i low e))

eval_from-append : (g h : List Decl) (done ss : List Content) → eval_from (g ++ h) done ss ≡ eval_from h (eval_from g done ss) ss
eval_from-append [] h done ss = refl
eval_from-append (d ∷ g) h done ss = eval_from-append g h (done ++ evaluated d.kind done ss ∷ []) ss

-- more declarations leave the earlier variables as they are
pub eval-longer : (g more : List Decl) (ss : List Content) (x : ℕ) → x < length g → content_at (eval (g ++ more) ss) x ≡ content_at (eval g ss) x
eval-longer g more ss x h =
    ap (λ (env : List Content). content_at env x) (eval_from-append g more [] ss) ∙ eval_from-keeps more (eval g ss) ss x (omega (arith, h, eval-length g ss))

evaluated-ordered : (k : Kind) (done ss : List Content) → ((x : ℕ) → IsOrdered (content_at done x)) → (is_source k ≡ true → IsOrdered (content_at ss (length done))) → IsOrdered (evaluated k done ss)
evaluated-ordered k done ss old here = choose (is_source k) here where
  choose : (b : Bool) → (b ≡ true → IsOrdered (content_at ss (length done))) → IsOrdered (if b then content_at ss (length done) else equation k done)
  choose true h = h refl
  choose false h = equation-ordered k done (λ x i. old x)

eval_from-ordered : (g : List Decl) (done ss : List Content) → ((x : ℕ) → IsOrdered (content_at done x))
    → ((i : ℕ) → i < length g → is_source (kind_at g i) ≡ true → IsOrdered (content_at ss (length done + i))) → (x : ℕ) → IsOrdered (content_at (eval_from g done ss) x)
eval_from-ordered [] done ss old given x = old x
eval_from-ordered (d ∷ g) done ss old given x =
    let here : length done + 0 ≡ length done = omega arith in
    let more = done ++ evaluated d.kind done ss ∷ [] in
    eval_from-ordered g more ss
    (at-push IsOrdered done (evaluated d.kind done ss) least old (evaluated-ordered d.kind done ss old (λ e. subst (λ (n : ℕ). IsOrdered (content_at ss n)) here (given 0 (omega arith) e))))
    (λ i low e.
    let there : length done + suc i ≡ length more + i = omega (arith, length-append done (evaluated d.kind done ss ∷ [])) in
    subst (λ (n : ℕ). IsOrdered (content_at ss n)) there (given (suc i) (omega (arith, low)) e)) x

-- where the sources are in order, every variable is
pub eval-ordered : (g : List Decl) (ss : List Content) → ((x : ℕ) → x < length g → IsTrue (is_source (kind_at g x)) → IsOrdered (content_at ss x)) → (x : ℕ) → IsOrdered (content_at (eval g ss) x)
eval-ordered g ss given = eval_from-ordered g [] ss (λ x. record { rows = refl; values = refl }) (λ i low e. subst (λ (n : ℕ). IsOrdered (content_at ss n)) (from-nothing i) (given i low e))

pub ruleset equations = (equation-monotone, equation-ordered, equation-alike, equation-least)

pub ruleset evaluation = (eval-length, eval-given, eval-derived, eval-above, eval-only)

pub ruleset growth = (eval-monotone, eval-sources, eval-longer)
