-- Clean variables by their base, and how they stand to the plain evaluation of the present sources, one variable after the other.
use Rattle.std.proofs.Common.{◌≡◌, ℕ, zero, suc, ◌≤◌, ◌<◌, ◌↔◌, Bool, true, false, List, [], ◌∷◌, ◌++◌, length, take, Some, None, refl, sym, ap, subst, ◌∙◌, arith}
use Rattle.model_states.specs.Content.{Content, size_of, row_limit}
use Rattle.model_states.proofs.ContentLaws.{at_most-same}
use Rattle.model_graph.specs.Graph.{Kind, Decl, is_source, kind_at, IsInput}
use Rattle.model_graph.specs.Evaluation.{content_at, equation, eval, first_large}
use Rattle.model_graph.specs.Lawful.{IsDerived}
use Rattle.model_graph.proofs.EquationLaws.{equation-alike}
use Rattle.model_graph.proofs.EvalLaws.{graph-earlier, eval-given, eval-derived}
use Rattle.model_graph.proofs.LimitLaws.{large-words, small-words}
use Rattle.model_journal.specs.Entry.{Bind, Entry, Frame}
use Rattle.model_journal.specs.Journal.{graph, vals, val, sources}
use Rattle.model_journal.specs.Clean.{version, base, IsClean}
use Rattle.model_journal.specs.Legal.{IsLegal}
use Rattle.model_journal.proofs.JournalLaws.{journal-graph}
use Rattle.model_journal.proofs.CleanLaws.{clean-equal, all-clean}
use Rattle.model_journal.proofs.EntryLaws.{version-still}
use Rattle.model_journal.proofs.LegalLaws.{legal-first, applied-kept}
use Rattle.model_core.proofs.SourceLaws.{sources-source}
use Rattle.model_core.proofs.PeerLaws.{graph-bound}
use Rattle.model_core.proofs.ValidLaws.{val-small}
use Rattle.model_core.proofs.BaseLaws.{base-within, base-bind, take-first, kind-later, bound-derived, bind-others}
use Rattle.model_journal.proofs.WordLaws.{applied-base}

-- ---- clean by the base

pub clean-base : (X : Frame) (h : List Entry) → IsLegal X h → (y : ℕ) → IsClean X h y ↔ ((x : ℕ) → IsInput (kind_at (graph X h) y) x → version X (take (base X h y) h) x ≡ version X h x)
clean-base X h legal y = (λ clean x i. sym (applied-base X h legal y x) ∙ clean x i, λ at x i. applied-base X h legal y x ∙ at x i)

-- ---- what is clean up to a variable is evaluated up to it

-- the derived variables before b are clean
abbrev pub AreCleanBelow : Frame → List Entry → ℕ → Type 0
AreCleanBelow X h b = (y : ℕ) → y < b → IsDerived (graph X h) y → IsClean X h y

settled-step : (X : Frame) (h : List Entry) → IsLegal X h → (b : ℕ) → AreCleanBelow X h b → (n x : ℕ) → x < n → x < b → x < length (graph X h) → val X h x ≡ content_at (eval (graph X h) (sources X h)) x
settled-step X h legal b clean zero x low below small = absurd (omega (arith, low))
settled-step X h legal b clean (suc n) x low below small =
    choose (is_source (kind_at (graph X h) x)) refl
    (λ z i. let earlier = graph-earlier (graph X h) (journal-graph X h legal) x z i in
    settled-step X h legal b clean n z (omega (arith, earlier, low)) (omega (arith, earlier, below)) (omega (arith, earlier, small))) where
      choose : (s : Bool) → is_source (kind_at (graph X h) x) ≡ s → ((z : ℕ) → IsInput (kind_at (graph X h) x) z → val X h z ≡ content_at (eval (graph X h) (sources X h)) z) → val X h x ≡ content_at (eval (graph X h) (sources X h)) x
      choose true e same = sym (eval-given (graph X h) (sources X h) x small e ∙ sources-source (graph X h) (vals X h) x small e)
      choose false e same =
          let d : IsDerived (graph X h) x = record { declared = small; process = e } in
          clean-equal X h legal x d (clean x below d)
          ∙ equation-alike (kind_at (graph X h) x) (vals X h) (eval (graph X h) (sources X h)) same
          ∙ sym (eval-derived (graph X h) (sources X h) (journal-graph X h legal) x d)

pub settled-below : (X : Frame) (h : List Entry) → IsLegal X h → (b : ℕ) → ((y : ℕ) → y < b → IsDerived (graph X h) y → IsClean X h y)
    → (x : ℕ) → x < b → x < length (graph X h) → val X h x ≡ content_at (eval (graph X h) (sources X h)) x
settled-below X h legal b clean x below small = settled-step X h legal b clean (suc x) x (omega arith) below small

-- the equation of a variable over what is clean before it is what is evaluated of it
pub equation-below : (X : Frame) (h : List Entry) → IsLegal X h → (y : ℕ) → ((z : ℕ) → z < y → IsDerived (graph X h) z → IsClean X h z) → IsDerived (graph X h) y
    → equation (kind_at (graph X h) y) (vals X h) ≡ content_at (eval (graph X h) (sources X h)) y
equation-below X h legal y clean d =
    equation-alike (kind_at (graph X h) y) (vals X h) (eval (graph X h) (sources X h))
    (λ z i. let earlier = graph-earlier (graph X h) (journal-graph X h legal) y z i in settled-below X h legal y clean z earlier (omega (arith, earlier, d.declared)))
    ∙ sym (eval-derived (graph X h) (sources X h) (journal-graph X h legal) y d)

-- where it is too large, it is the first variable that is
pub large-first : (X : Frame) (h : List Entry) → IsLegal X h → (y : ℕ) → ((z : ℕ) → z < y → IsDerived (graph X h) z → IsClean X h z) → IsDerived (graph X h) y
    → row_limit < size_of (equation (kind_at (graph X h) y) (vals X h)) → first_large 0 (eval (graph X h) (sources X h)) ≡ Some y
large-first X h legal y clean d large = (large-words (eval (graph X h) (sources X h)) y).1 (record {
  large = subst (λ (s : Content). row_limit < size_of s) (equation-below X h legal y clean d) large;
  before = λ z low. subst (λ (s : Content). size_of s ≤ row_limit) (settled-below X h legal y clean z low (omega (arith, low, d.declared))) (val-small X h legal z);
})

pub settled-small : (X : Frame) (h : List Entry) → IsLegal X h → ((y : ℕ) → IsDerived (graph X h) y → IsClean X h y) → first_large 0 (eval (graph X h) (sources X h)) ≡ None
settled-small X h legal clean =
    subst (λ (ss : List Content). first_large 0 ss ≡ None) (all-clean X h legal clean) ((small-words (vals X h)).1 (val-small X h legal))

-- ---- clean after one more entry

-- a variable whose inputs an entry leaves, and which it does not bind, stays clean
pub clean-stays : (X : Frame) (h : List Entry) (e : Entry) (z : ℕ) → IsLegal X (h ++ e ∷ []) → ((n : ℕ) → e.act ≡ Bind z n → ⊥) → z < length (graph X h)
    → ((x : ℕ) → IsInput (kind_at (graph X h) z) x → val X (h ++ e ∷ []) x ≡ val X h x) → IsClean X h z → IsClean X (h ++ e ∷ []) z
clean-stays X h e z legal other low same clean x i =
    let old : IsInput (kind_at (graph X h) z) x = subst (λ (k : Kind). IsInput k x) (kind-later X h (e ∷ []) z low) i in
    applied-kept X h e legal z x other
    ∙ clean x old
    ∙ sym (version-still X h e x (at_most-same (val X (h ++ e ∷ []) x) (val X h x) (same x old)))

-- a bind of a variable that is no input of another leaves the other clean
pub clean-apart : (X : Frame) (h : List Entry) (e : Entry) (y z n : ℕ) → IsLegal X (h ++ e ∷ []) → e.act ≡ Bind y n → z < length (graph X h) → (z ≡ y → ⊥) → (IsInput (kind_at (graph X h) z) y → ⊥)
    → IsClean X h z → IsClean X (h ++ e ∷ []) z
clean-apart X h e y z n legal is low other apart clean =
    clean-stays X h e z legal (λ m bind. other (same m bind)) low (λ x i. bind-others X h before e y n is (bound-derived X h e y n legal is) x (λ here. apart (subst (λ (w : ℕ). IsInput (kind_at (graph X h) z) w) here i))) clean where
      before : IsLegal X h
      before = legal-first X h (e ∷ []) legal

      same : (m : ℕ) → e.act ≡ Bind z m → z ≡ y
      same m bind = let both : Bind y n ≡ Bind z m = sym is ∙ bind in cc

-- so a bind leaves all clean variables before its own clean
pub clean-before : (X : Frame) (h : List Entry) (e : Entry) (y z n : ℕ) → IsLegal X (h ++ e ∷ []) → e.act ≡ Bind y n → z < y → IsClean X h z → IsClean X (h ++ e ∷ []) z
clean-before X h e y z n legal is low clean =
    clean-apart X h e y z n legal is (omega (arith, low, (bound-derived X h e y n legal is).declared)) (λ same. omega (arith, same, low))
    (λ i. (let earlier = graph-earlier (graph X h) (journal-graph X h (legal-first X h (e ∷ []) legal)) z y i in omega (arith, earlier, low))) clean

-- a bind that read what stood makes its variable clean
pub clean-after-bind : (X : Frame) (h : List Entry) (e : Entry) (y : ℕ) → IsLegal X (h ++ e ∷ []) → e.act ≡ Bind y (length h) → IsClean X (h ++ e ∷ []) y
clean-after-bind X h e y legal is x i =
    applied-base X (h ++ e ∷ []) legal y x
    ∙ ap (λ (n : ℕ). version X (take n (h ++ e ∷ [])) x) here
    ∙ ap (λ (k : List Entry). version X k x) (take-first h (e ∷ []))
    ∙ sym (version-still X h e x (at_most-same (val X (h ++ e ∷ []) x) (val X h x) (bind-others X h before e y (length h) is (bound-derived X h e y (length h) legal is) x (λ same. omega (arith, same, earlier))))) where
      before : IsLegal X h
      before = legal-first X h (e ∷ []) legal

      here : base X (h ++ e ∷ []) y ≡ length h
      here = omega (arith, base-bind X h e y (length h) is, base-within X h before y)

      earlier : x < y
      earlier = graph-earlier (graph X h) (journal-graph X h before) y x (subst (λ (g : List Decl). IsInput (kind_at g y) x) (graph-bound X h e y (length h) is) i)

pub ruleset settled = (settled-below, equation-below, large-first, all-clean, settled-small)

pub ruleset clean = (applied-base, clean-base, clean-stays, clean-apart, clean-before, clean-after-bind)
