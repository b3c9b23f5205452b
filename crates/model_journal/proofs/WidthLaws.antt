-- The widths of a graph: each is that of its declaration over the widths of all, and a graph that goes on keeps them.
use Rattle.std.proofs.Common.{◌≡◌, ℕ, zero, suc, ◌+◌, ◌≤◌, ◌<◌, max, inl, inr, List, [], ◌∷◌, ◌++◌, length, take, drop, refl, sym, ap, subst, ◌∙◌, arith}
use Rattle.std.proofs.lemmas.List.{length-take, take-append-drop}
use Rattle.model_graph.specs.Graph.{Kind, OrSet, GSet, Counter, MaxReg, Union, Product, Intersection, Map, Filter, Fold, Decl, decl_at, kind_at, IsInput}
use Rattle.model_graph.specs.Lawful.{width_limit, width_at, width_of, widths_from, widths, IsGraph}
use Rattle.model_graph.proofs.PlaceLaws.{at-append, at-last, length-append, from-nothing}
use Rattle.model_graph.proofs.EvalLaws.{graph-earlier}
use Rattle.model_graph.proofs.WidthLaws.{widths-length, widths_from-append}

-- a width looks at those of the inputs alone
pub width-alike : (k : Kind) (us ws : List ℕ) → ((x : ℕ) → IsInput k x → width_at us x ≡ width_at ws x) → width_of k us ≡ width_of k ws
width-alike OrSet us ws h = refl
width-alike GSet us ws h = refl
width-alike Counter us ws h = refl
width-alike MaxReg us ws h = refl
width-alike (Union x y) us ws h = λ i. max (h x (inl refl) i) (h y (inr refl) i)
width-alike (Product x y) us ws h = λ i. h x (inl refl) i + h y (inr refl) i
width-alike (Intersection x y) us ws h = λ i. h x (inl refl) i + h y (inr refl) i
width-alike (Map x place ops) us ws h = h x refl
width-alike (Filter x place ops) us ws h = h x refl
width-alike (Fold x op place lift) us ws h = h x refl

widths-keep : (g : List Decl) (done : List ℕ) (x : ℕ) → x < length done → width_at (widths_from g done) x ≡ width_at done x
widths-keep [] done x h = refl
widths-keep (d ∷ g) done x h =
    widths-keep g (done ++ width_of d.kind done ∷ []) x (omega (arith, h, length-append done (width_of d.kind done ∷ [])))
    ∙ at-append done (width_of d.kind done ∷ []) x 0 h

widths_from-at : (g : List Decl) (done : List ℕ) (j : ℕ) → j < length g → ((i : ℕ) → i < length g → (x : ℕ) → IsInput (kind_at g i) x → x < length done + i)
    → width_at (widths_from g done) (length done + j) ≡ width_of (kind_at g j) (widths_from g done)
widths_from-at [] done j h edges = absurd (omega (arith, h))
widths_from-at (d ∷ g) done zero h edges =
    let here : length done + 0 ≡ length done = omega arith in
    let more = done ++ width_of d.kind done ∷ [] in
    let long : length more ≡ length done + 1 = length-append done (width_of d.kind done ∷ []) in
    ap (λ (n : ℕ). width_at (widths_from g more) n) here
    ∙ widths-keep g more (length done) (omega (arith, long))
    ∙ at-last done (width_of d.kind done) 0
    ∙ width-alike d.kind done (widths_from g more) (λ x i. sym (widths-keep (d ∷ g) done x (let low = edges 0 (omega arith) x i in omega (arith, low))))
widths_from-at (d ∷ g) done (suc j) h edges =
    let more = done ++ width_of d.kind done ∷ [] in
    let long : length more ≡ length done + 1 = length-append done (width_of d.kind done ∷ []) in
    let there : length more + j ≡ length done + suc j = omega (arith, long) in
    subst (λ (n : ℕ). width_at (widths_from g more) n ≡ width_of (kind_at g j) (widths_from g more)) there
    (widths_from-at g more j (omega (arith, h)) (λ i small x input. let low = edges (suc i) (omega (arith, small)) x input in omega (arith, low, long)))

pub widths-at : (g : List Decl) → IsGraph g → (x : ℕ) → x < length g → width_at (widths g) x ≡ width_of (kind_at g x) (widths g)
widths-at g ok x h =
    ap (λ (n : ℕ). width_at (widths g) n) (from-nothing x)
    ∙ widths_from-at g [] x h (λ i low z input. let earlier = graph-earlier g ok i z input in omega (arith, earlier))

-- variables that are declared alike in two graphs have one width
same-below : (g h : List Decl) → IsGraph g → IsGraph h → length g ≤ length h → ((y : ℕ) → y < length g → decl_at h y ≡ decl_at g y)
    → (n x : ℕ) → x < n → x < length g → width_at (widths g) x ≡ width_at (widths h) x
same-below g h ok_g ok_h long same zero x low small = absurd (omega (arith, low))
same-below g h ok_g ok_h long same (suc n) x low small =
    widths-at g ok_g x small
    ∙ width-alike (kind_at g x) (widths g) (widths h) (λ z i. let earlier = graph-earlier g ok_g x z i in same-below g h ok_g ok_h long same n z (omega (arith, earlier, low)) (omega (arith, earlier, small)))
    ∙ ap (λ (d : Decl). width_of d.kind (widths h)) (sym (same x small))
    ∙ sym (widths-at h ok_h x (omega (arith, small, long)))

pub widths-same : (g h : List Decl) → IsGraph g → IsGraph h → length g ≤ length h → ((y : ℕ) → y < length g → decl_at h y ≡ decl_at g y) → (x : ℕ) → x < length g → width_at (widths g) x ≡ width_at (widths h) x
widths-same g h ok_g ok_h long same x small = same-below g h ok_g ok_h long same (suc x) x (omega arith) small

-- the first declarations have the widths that they have in the whole
widths-front : (g : List Decl) (y x : ℕ) → x < y → y ≤ length g → width_at (widths (take y g)) x ≡ width_at (widths g) x
widths-front g y x low long =
    sym (ap (λ (h : List Decl). width_at (widths h) x) (sym (take-append-drop y g))
    ∙ ap (λ (ws : List ℕ). width_at ws x) (widths_from-append (take y g) (drop y g) [])
    ∙ widths-keep (drop y g) (widths (take y g)) x (omega (arith, widths-length (take y g), length-take y g, low, long)))

-- no variable of a graph is too wide
pub narrow-at : (g : List Decl) → IsGraph g → (y : ℕ) → y < length g → width_at (widths g) y ≤ width_limit
narrow-at g ok y low =
    let same : width_at (widths g) y ≡ width_of (kind_at g y) (widths (take y g)) =
    widths-at g ok y low ∙ sym (width-alike (kind_at g y) (widths (take y g)) (widths g) (λ x i. widths-front g y x (graph-earlier g ok y x i) (omega (arith, low)))) in
    omega (arith, same, (ok y low).narrow)
