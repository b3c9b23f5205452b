-- Reads that wait: what met a threshold still does after more entries, and what a variable may be asked for stays.
use Rattle.std.proofs.Common.{◌≡◌, ℕ, ◌<◌, Bool, true, false, cond, IsTrue, IsFalse, List, [], ◌∷◌, ◌++◌, length, filter, refl, sym, ap, subst, ◌∙◌}
use Rattle.std.specs.List.{AllByRecursion}
use Rattle.model_states.specs.Content.{Content, IsContentAtMost, IsOrdered}
use Rattle.model_states.specs.Threshold.{Shape, Threshold, suits, meets}
use Rattle.model_states.proofs.ThresholdLaws.{threshold-grows}
use Rattle.model_graph.specs.Graph.{Kind, kind_at}
use Rattle.model_graph.specs.Lawful.{shape_of}
use Rattle.model_journal.specs.Entry.{Entry, Frame}
use Rattle.model_journal.specs.Journal.{graph, val}
use Rattle.model_journal.specs.Legal.{IsLegal}
use Rattle.model_journal.proofs.JournalLaws.{vals-grow}
use Rattle.model_journal.proofs.LegalLaws.{legal-first}
use Rattle.model_core.specs.Core.{Read, is_met}
use Rattle.model_core.proofs.ValidLaws.{val-ordered}
use Rattle.model_core.proofs.BaseLaws.{kind-later}

pub meets-grows : (w : Threshold) (s t : Content) → IsOrdered s → IsOrdered t → IsContentAtMost s t → meets w s ≡ true → meets w t ≡ true
meets-grows w s t up_s up_t low met = threshold-grows w s t up_s up_t low met

pub met-stays : (X : Frame) (h more : List Entry) → IsLegal X (h ++ more) → (r : Read) → is_met X h r ≡ true → is_met X (h ++ more) r ≡ true
met-stays X h more legal r met =
    threshold-grows r.threshold (val X h r.var) (val X (h ++ more) r.var) (val-ordered X h (legal-first X h more legal) r.var) (val-ordered X (h ++ more) legal r.var) (vals-grow X h more r.var) met

pub shape-stays : (X : Frame) (h more : List Entry) (x : ℕ) → x < length (graph X h) → shape_of X.nodes (kind_at (graph X (h ++ more)) x) ≡ shape_of X.nodes (kind_at (graph X h) x)
shape-stays X h more x low = ap (λ (k : Kind). shape_of X.nodes k) (kind-later X h more x low)

pub suits-stays : (X : Frame) (h more : List Entry) (x : ℕ) (w : Threshold) → x < length (graph X h) → IsTrue (suits w (shape_of X.nodes (kind_at (graph X h) x))) → IsTrue (suits w (shape_of X.nodes (kind_at (graph X (h ++ more)) x)))
suits-stays X h more x w low h' = subst (λ (s : Shape). IsTrue (suits w s)) (sym (shape-stays X h more x low)) h'

-- ---- lists of which some are kept

-- what holds of those that pass holds of each that is kept
pub each-kept : {A : Type 0} (P Q : A → Type 0) (p : A → Bool) → ((x : A) → p x ≡ true → P x → Q x) → (xs : List A) → AllByRecursion P xs → AllByRecursion Q (filter p xs)
each-kept P Q p f [] h = tt
each-kept P Q p f (x ∷ xs) h = choose (p x) refl (each-kept P Q p f xs h.1) where
  choose : (b : Bool) → p x ≡ b → AllByRecursion Q (filter p xs) → AllByRecursion Q (cond b (x ∷ filter p xs) (filter p xs))
  choose true e rest = (f x e h.0, rest)
  choose false e rest = rest

-- where all pass, all are kept
pub all-kept : {A : Type 0} (p : A → Bool) (xs : List A) → AllByRecursion (λ x. IsTrue (p x)) xs → filter p xs ≡ xs
all-kept p [] h = refl
all-kept p (x ∷ xs) h = ap (λ (b : Bool). cond b (x ∷ filter p xs) (filter p xs)) h.0 ∙ ap (λ rest. x ∷ rest) (all-kept p xs h.1)

-- where none passes, none is kept
pub none-kept : {A : Type 0} (p : A → Bool) (xs : List A) → AllByRecursion (λ x. IsFalse (p x)) xs → filter p xs ≡ []
none-kept p [] h = refl
none-kept p (x ∷ xs) h = ap (λ (b : Bool). cond b (x ∷ filter p xs) (filter p xs)) h.0 ∙ none-kept p xs h.1

pub ruleset reads = (meets-grows, met-stays, shape-stays, suits-stays)
