-- What can't be done at a list of entries can't be done where it goes on.
use Rattle.std.proofs.Common.{◌≡◌, ℕ, zero, suc, ◌+◌, ◌≤◌, ◌<◌, ◌⊎◌, inl, inr, List, [], ◌∷◌, ◌++◌, length, Some, Err, Option, refl, sym, ap, subst, ◌∙◌, append_assoc, arith}
use Rattle.std.specs.Prelude.{IsFalse, slice_get}
use Rattle.model_functions.specs.Library.{Library}
use Rattle.model_states.specs.Content.{Content, size_of, row_limit, IsContentAtMost, IsOrdered}
use Rattle.model_states.proofs.SizeLaws.{size-grows}
use Rattle.model_graph.specs.Graph.{Kind, Decl, is_source, kind_at}
use Rattle.model_graph.specs.Evaluation.{content_at, equation}
use Rattle.model_graph.specs.Lawful.{IsDerived}
use Rattle.model_graph.proofs.EquationLaws.{equation-monotone, equation-ordered}
use Rattle.model_readings.specs.Lawful.{FitsAll}
use Rattle.model_journal.specs.Entry.{Entry, Frame}
use Rattle.model_journal.specs.Journal.{graph, vals, declared_by, declared}
use Rattle.model_journal.specs.Legal.{IsLegal}
use Rattle.model_journal.proofs.JournalLaws.{vals-grow}
use Rattle.model_journal.proofs.EntryLaws.{graph-is}
use Rattle.model_journal.proofs.LegalLaws.{legal-first}
use Rattle.model_core.proofs.BaseLaws.{kind-later, graph-longer}
use Rattle.model_core.proofs.ValidLaws.{val-ordered}
use Rattle.lasp_graph.specs.Evaluated.{Becomes}
use Rattle.lasp_graph.specs.declared.inputs.EvalRefused.{EvalRefused}
use Rattle.lasp_graph.specs.declared.inputs.EvalRefused.TheVariants as refused
use Rattle.lasp_core.specs.Listed.{GoesOn}
use Rattle.lasp_workers.specs.Done.{IsTooLarge, IsDone}

get-first : {A : Type 0} (xs ys : List A) (i : ℕ) (x : A) → slice_get xs i ≡ Some x → slice_get (xs ++ ys) i ≡ Some x
get-first [] ys i x e = absurd (let none : Option.None ≡ Some x = e in cc)
get-first (z ∷ xs) ys zero x e = e
get-first (z ∷ xs) ys (suc i) x e = get-first xs ys i x e

declared-first : (h more : List Entry) → (rest : List Decl) × (declared (h ++ more) ≡ declared h ++ rest)
declared-first [] more = (declared more, refl)
declared-first (e ∷ h) more =
    let r = declared-first h more in
    (r.0, ap (λ l. declared_by e.act ++ l) r.1 ∙ sym (append_assoc (declared_by e.act) (declared h) r.0))

graph-first : (X : Frame) (h more : List Entry) → (rest : List Decl) × (graph X (h ++ more) ≡ graph X h ++ rest)
graph-first X h more =
    let r = declared-first h more in
    (r.0, graph-is X (h ++ more) ∙ ap (λ (l : List Decl). X.opening ++ l) r.1 ∙ sym (append_assoc X.opening (declared h) r.0) ∙ ap (λ (l : List Decl). l ++ r.0) (sym (graph-is X h)))

-- a library that has the functions of a graph has those of what it began with
pub fits-first : (lib : Library) (X : Frame) (h more : List Entry) → FitsAll lib (graph X (h ++ more)) → FitsAll lib (graph X h)
fits-first lib X h more fits i d at =
    let r = graph-first X h more in
    fits i d (ap (λ (g : List Decl). slice_get g i) r.1 ∙ get-first (graph X h) r.0 i d at)

-- a variable stays derived where the entries go on
pub derived-on : (X : Frame) (h more : List Entry) (y : ℕ) → IsDerived (graph X h) y → IsDerived (graph X (h ++ more)) y
derived-on X h more y d = record {
  declared = omega (arith, d.declared, graph-longer X h more);
  process = subst (λ (k : Kind). IsFalse (is_source k)) (sym (kind-later X h more y d.declared)) d.process;
}

-- what is too large stays so
pub too-large-on : (X : Frame) (h more : List Entry) (y : ℕ) → IsLegal X (h ++ more) → IsTooLarge X h y → IsTooLarge X (h ++ more) y
too-large-on X h more y legal t = record {
  derived = derived-on X h more y t.derived;
  large = let grown : size_of (equation (kind_at (graph X h) y) (vals X h)) ≤ size_of (equation (kind_at (graph X (h ++ more)) y) (vals X (h ++ more))) =
      subst (λ (k : Kind). size_of (equation (kind_at (graph X h) y) (vals X h)) ≤ size_of (equation k (vals X (h ++ more)))) (sym (kind-later X h more y t.derived.declared))
      (size-grows (equation (kind_at (graph X h) y) (vals X h)) (equation (kind_at (graph X h) y) (vals X (h ++ more)))
      (equation-ordered (kind_at (graph X h) y) (vals X h) (λ x i. val-ordered X h (legal-first X h more legal) x))
      (equation-ordered (kind_at (graph X h) y) (vals X (h ++ more)) (λ x i. val-ordered X (h ++ more) legal x))
      (equation-monotone (kind_at (graph X h) y) (vals X h) (vals X (h ++ more)) (λ x i. vals-grow X h more x))) in
      omega (arith, t.large, grown);
}

-- a replica whose graph has a function that the library lacks can't be worked on
pub unfit-done : (lib : Library) (X : Frame) (h more : List Entry) → (FitsAll lib (graph X h) → ⊥) → IsDone lib X (h ++ more)
unfit-done lib X h more lacks fits = absurd (lacks (fits-first lib X h more fits))

pub large-done : (lib : Library) (X : Frame) (h more : List Entry) (y : ℕ) → IsLegal X (h ++ more) → IsTooLarge X h y → IsDone lib X (h ++ more)
large-done lib X h more y legal t fits = inr (y, too-large-on X h more y legal t)

-- ---- the same of a replica before and after a call

pub derived-behind : (X Y : Frame) (h k : List Entry) (y z : ℕ) → Y ≡ X → GoesOn h k → z ≡ y → IsDerived (graph X h) y → IsDerived (graph Y k) z
derived-behind X Y h k y z same on is d =
    subst (λ (Z : Frame). IsDerived (graph Z k) z) (sym same)
    (subst (λ (l : List Entry). IsDerived (graph X l) z) (sym on.1) (subst (λ (w : ℕ). IsDerived (graph X (h ++ on.0)) w) (sym is) (derived-on X h on.0 y d)))

pub unfit-behind : (lib : Library) (X Y : Frame) (h k : List Entry) → Y ≡ X → GoesOn h k → (FitsAll lib (graph X h) → ⊥) → IsDone lib Y k
unfit-behind lib X Y h k same on lacks =
    subst (λ (Z : Frame). IsDone lib Z k) (sym same) (subst (λ (l : List Entry). IsDone lib X l) (sym on.1) (unfit-done lib X h on.0 lacks))

pub large-behind : (lib : Library) (X Y : Frame) (h k : List Entry) (y : ℕ) → Y ≡ X → GoesOn h k → IsLegal Y k → IsTooLarge X h y → IsDone lib Y k
large-behind lib X Y h k y same on legal large =
    let here : IsLegal X (h ++ on.0) = subst (λ (l : List Entry). IsLegal X l) on.1 (subst (λ (Z : Frame). IsLegal Z k) same legal) in
    subst (λ (Z : Frame). IsDone lib Z k) (sym same) (subst (λ (l : List Entry). IsDone lib X l) (sym on.1) (large-done lib X h on.0 y here large))

-- what was refused for its rows has too many
pub too-many : (why : EvalRefused) (content : Content) → why ≡ refused.TooManyRows → Becomes (Err why) content → row_limit < size_of content
too-many refused.TooManyRows content e large = large
too-many refused.Memory content e large = absurd cc
