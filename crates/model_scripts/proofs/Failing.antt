-- Where a table of checks fails.
use Rattle.std.proofs.Common.{refl, sym, ap, ◌∙◌}
use Rattle.std.specs.Prelude.{◌≡◌, ◌≢◌, ◌↔◌, ℕ, ◌==◌, ◌||◌, List, [], ◌∷◌, Bool, true, false, Result, Ok, Err, Decides}
use Rattle.std.proofs.lemmas.Bool.{false≢true}
use Rattle.std.proofs.lemmas.Bool.Decides.{Decides-eqb}
use Rattle.model_graph.specs.Chain.{◌>>=◌, check}
use Rattle.model_scripts.specs.declared.script_why.ScriptWhy.{ScriptWhy}
use Rattle.model_scripts.specs.declared.script_why.ScriptWhy.TheVariants as why
use Rattle.model_scripts.specs.Check.{all_checked}

-- a number for each cause
abbrev pub rank : ScriptWhy → ℕ
rank why.NotJson = 1
rank why.Shape = 2
rank why.NoSuchNode = 3
rank why.UnknownVar = 4
rank why.WrongOp = 5
rank why.ValueRefused = 6
rank why.NotSent = 7
rank why.UnknownMark = 8
rank why.TooMany = 9
rank why.MarkTaken = 10
rank why.NameShape = 11
rank why.NameTaken = 12
rank why.UnknownInput = 13
rank why.WrongKind = 14
rank why.UnknownFunction = 15
rank why.TooWide = 16

-- a table has the cause
abbrev pub has_cause : ScriptWhy → List (Bool × ScriptWhy) → Bool
has_cause e [] = false
has_cause e (c ∷ cs) = (rank c.1 == rank e) || has_cause e cs

first-differs : (b c : Bool) → (b || c) ≡ false → b ≡ false
first-differs true c h = h
first-differs false c h = refl

others-differ : (b c : Bool) → (b || c) ≡ false → c ≡ false
others-differ true c h = absurd cc
others-differ false c h = h

differs-step : (e w : ScriptWhy) (cs : List (Bool × ScriptWhy)) (b : Bool) → (rank w == rank e) ≡ false → (all_checked cs ≢ Err e) → (check b w >>= λ _. all_checked cs) ≢ Err e
differs-step e w cs true other later h = later h
differs-step e w cs false other later h =
    let same : w ≡ e = cc in
    false≢true (sym other ∙ (Decides-eqb (rank w) (rank e)).1 (ap rank same))

-- a table never fails for a cause that it doesn't have
pub differs : (e : ScriptWhy) (cs : List (Bool × ScriptWhy)) → has_cause e cs ≡ false → all_checked cs ≢ Err e
differs e [] other h = cc
differs e (c ∷ cs) other h = differs-step e c.1 cs c.0 (first-differs _ _ other) (differs e cs (others-differ _ _ other)) h

-- a table whose first check alone has the cause fails for it exactly where this check fails
pub fails-first : {P : Type 0} (e : ScriptWhy) (cs : List (Bool × ScriptWhy)) (b : Bool) → has_cause e cs ≡ false → Decides b P → (all_checked ((b, e) ∷ cs) ≡ Err e ↔ ¬ P)
fails-first e cs true other d = (λ h. absurd (differs e cs other h), λ n. absurd (n (d.0 refl)))
fails-first e cs false other d = (λ h. λ v. false≢true (d.1 v), λ n. refl)

-- a first check that passes leaves the others
pub passes-first : (e : ScriptWhy) (cs : List (Bool × ScriptWhy)) (b : Bool) → b ≡ true → all_checked ((b, e) ∷ cs) ≡ all_checked cs
passes-first e cs b h = ap (λ (x : Bool). check x e >>= λ _. all_checked cs) h

-- each check passes
abbrev pub AllPass : List (Bool × ScriptWhy) → Type 0
AllPass [] = Unit {0}
AllPass (c ∷ cs) = (c.0 ≡ true) × AllPass cs

all-step : (cs : List (Bool × ScriptWhy)) (w : ScriptWhy) (b : Bool) → (all_checked cs ≡ Ok tt → AllPass cs) → (check b w >>= λ _. all_checked cs) ≡ Ok tt → (b ≡ true) × AllPass cs
all-step cs w true later h = (refl, later h)
all-step cs w false later h = absurd cc

pub all-passed : (cs : List (Bool × ScriptWhy)) → all_checked cs ≡ Ok tt → AllPass cs
all-passed [] h = tt
all-passed (c ∷ cs) h = all-step cs c.1 c.0 (all-passed cs) h

pub all-pass : (cs : List (Bool × ScriptWhy)) → AllPass cs → all_checked cs ≡ Ok tt
all-pass [] h = refl
all-pass (c ∷ cs) h = passes-first c.1 cs c.0 h.0 ∙ all-pass cs h.1

-- what comes behind a test and never fails leaves the refusals
pub kept-refusal : {A B E : Type 0} (r : Result A E) (f : A → B) (e : E) → ((r >>= λ a. Ok (f a)) ≡ Err e ↔ r ≡ Err e)
kept-refusal (Ok a) f e = (λ h. absurd cc, λ h. absurd cc)
kept-refusal {A} {B} {E} (Err w) f e = (λ h. let same : w ≡ e = cc in ap (λ (x : E). Err x) same, λ h. let same : w ≡ e = cc in ap (λ (x : E). Err x) same)

pub via : {P Q R : Type 0} → (P ↔ Q) → (Q ↔ R) → (P ↔ R)
via f g = (λ p. g.0 (f.0 p), λ r. f.1 (g.1 r))

-- what holds of an answer holds of what is the same
pub of-same : {X P : Type 0} (x y z : X) → x ≡ y → (y ≡ z ↔ P) → (x ≡ z ↔ P)
of-same x y z e f = (λ h. f.0 (sym e ∙ h), λ p. e ∙ f.1 p)
