-- Entries of legal journals, and their lines.
use Rattle.std.proofs.Common.{◌≡◌, ℕ, ◌+◌, ◌<◌, ◌≤◌, List, [], ◌∷◌, ◌++◌, length, take, drop, Some, refl, ap, subst, ◌∙◌, arith, append_assoc, append-nil, sym}
use Rattle.std.specs.Prelude.{slice_get}
use Rattle.std.proofs.lemmas.List.{take_more, drop_more, drop_all}
use Rattle.std.proofs.lemmas.Option.{get_or_from_slice_get}
use Rattle.model_graph.specs.Graph.{Decl}
use Rattle.model_journal.specs.Entry.{Act, Update, Deliver, Bind, Extend, Entry, Frame}
use Rattle.model_journal.specs.Journal.{graph, journal}
use Rattle.model_journal.specs.Legal.{IsLegal, IsLawful}
use Rattle.model_journal.proofs.LegalLaws.{legal-last, legal-take}
use Rattle.model_core.proofs.BaseLaws.{bound-derived, graph-take}
use Rattle.model_core.specs.Trace.{updates_with, entry_line, entry_lines, NamesDeclared}

-- the entries up to one of them
up-to : (h : List Entry) (i : ℕ) (e : Entry) → i < length h → slice_get h i ≡ Some e → take (i + 1) h ≡ take i h ++ e ∷ []
up-to h i e low at = take_more h i e low ∙ ap (λ (d : Entry). take i h ++ d ∷ []) (get_or_from_slice_get h i e e at)

from : (h : List Entry) (i : ℕ) (e : Entry) → i < length h → slice_get h i ≡ Some e → drop i h ≡ e ∷ drop (i + 1) h
from h i e low at = drop_more h i e low ∙ ap (λ (d : Entry). d ∷ drop (i + 1) h) (get_or_from_slice_get h i e e at)

-- what an entry of a legal journal names is declared
pub names_declared : (X : Frame) (h : List Entry) (i : ℕ) (e : Entry) → IsLegal X h → i < length h → slice_get h i ≡ Some e → NamesDeclared (graph X h) e.act
names_declared X h i e legal low at = of-act e.act refl where
  first : IsLegal X (take i h ++ e ∷ [])
  first = subst (IsLegal X) (up-to h i e low at) (legal-take X h (i + 1) legal)

  of-act : (a : Act) → e.act ≡ a → NamesDeclared (graph X h) a
  of-act (Update x op) is = let lawful = subst (λ (a : Act). IsLawful X (journal X (take i h)) a) is (legal-last X (take i h) e first) in omega (arith, lawful.0, graph-take X h i)
  of-act (Deliver j m) is = tt
  of-act (Bind y n) is = let derived = bound-derived X (take i h) e y n first is in omega (arith, derived.declared, graph-take X h i)
  of-act (Extend d) is = tt

lines-split : (g : List Decl) (p i k : ℕ) (e : Entry) (more : List Entry) → entry_lines g p i k (e ∷ more) ≡ entry_line g p i (updates_with k e.act) e ++ entry_lines g p (i + 1) (updates_with k e.act) more
unfolding entry_lines
lines-split g p i k e more = refl

-- the lines from a place on begin with that of its entry
pub lines-next : (g : List Decl) (p i k : ℕ) (h : List Entry) (e : Entry) → i < length h → slice_get h i ≡ Some e
    → entry_lines g p i k (drop i h) ≡ entry_line g p i (updates_with k e.act) e ++ entry_lines g p (i + 1) (updates_with k e.act) (drop (i + 1) h)
lines-next g p i k h e low at = ap (entry_lines g p i k) (from h i e low at) ∙ lines-split g p i k e (drop (i + 1) h)

-- behind the last entry there is none
pub lines-done : (g : List Decl) (p i k : ℕ) (h : List Entry) → length h ≤ i → entry_lines g p i k (drop i h) ≡ []
unfolding entry_lines
lines-done g p i k h all = ap (entry_lines g p i k) (drop_all i h all)

-- a text that lacks the lines from a place on lacks those from the next one on, once it got the line of its entry
pub pushed-next : (g there : List Decl) (p i k now : ℕ) (h : List Entry) (e : Entry) (text next whole : List ℕ) → i < length h → slice_get h i ≡ Some e → now ≡ updates_with k e.act → there ≡ g
    → next ≡ text ++ entry_line there p i now e → text ++ entry_lines g p i k (drop i h) ≡ whole → next ++ entry_lines g p (i + 1) now (drop (i + 1) h) ≡ whole
pushed-next g there p i k now h e text next whole low at is same pushed had =
    let rest : List ℕ = entry_lines g p (i + 1) now (drop (i + 1) h) in
    ap (λ (l : List ℕ). l ++ rest) (pushed ∙ ap (λ (d : List Decl). text ++ entry_line d p i now e) same)
    ∙ append_assoc text (entry_line g p i now e) rest
    ∙ ap (λ (n : ℕ). text ++ (entry_line g p i n e ++ entry_lines g p (i + 1) n (drop (i + 1) h))) is
    ∙ ap (λ (l : List ℕ). text ++ l) (sym (lines-next g p i k h e low at))
    ∙ had

-- it lacks none behind the last
pub pushed-all : (g : List Decl) (p i k : ℕ) (h : List Entry) (text whole : List ℕ) → length h ≤ i → text ++ entry_lines g p i k (drop i h) ≡ whole → text ≡ whole
pushed-all g p i k h text whole all had = sym (append-nil text) ∙ ap (λ (l : List ℕ). text ++ l) (sym (lines-done g p i k h all)) ∙ had
