-- Which entries are legal after legal ones, and what one more entry does to the applied versions.
use Rattle.std.proofs.Common.{◌≡◌, ℕ, ◌≤◌, max, Bool, true, false, if◌then◌else◌, ◌==◌, List, [], ◌∷◌, ◌++◌, length, take, drop, refl, sym, ap, subst, ◌∙◌, arith}
use Rattle.std.proofs.lemmas.Bool.Decides.{nat_tests}
use Rattle.model_graph.proofs.PlaceLaws.{equal-numbers}
use Rattle.model_journal.specs.Entry.{Act, Update, Deliver, Bind, Extend, Entry, Frame}
use Rattle.model_journal.specs.Journal.{Snapshot, Journal, snapshot_at, snapshot_after, binds_after, next, run, start, journal}
use Rattle.model_journal.specs.Clean.{version, applied, greatest_bound, base}
use Rattle.model_journal.specs.Legal.{IsLawful, IsValidSnapshot, IsLegalFrom, IsLegal}
use Rattle.model_journal.proofs.PlaceLaws.{at-kept}
use Rattle.model_journal.proofs.JournalLaws.{journal-push, journal-good}
use Rattle.model_journal.proofs.CleanLaws.{take-and-drop, snapshot-take, read-is, max-version}

legal-from-parts : (X : Frame) (j : Journal) (h k : List Entry) → IsLegalFrom X j (h ++ k) → IsLegalFrom X j h × IsLegalFrom X (run X j h) k
legal-from-parts X j [] k legal = (tt, legal)
legal-from-parts X j (e ∷ h) k legal = let rest = legal-from-parts X (next X j e) h k legal.2 in ((legal.0, legal.1, rest.0), rest.1)

legal-from-both : (X : Frame) (j : Journal) (h k : List Entry) → IsLegalFrom X j h → IsLegalFrom X (run X j h) k → IsLegalFrom X j (h ++ k)
legal-from-both X j [] k first rest = rest
legal-from-both X j (e ∷ h) k first rest = (first.0, first.1, legal-from-both X (next X j e) h k first.2 rest)

pub legal-first : (X : Frame) (h k : List Entry) → IsLegal X (h ++ k) → IsLegal X h
legal-first X h k legal = record { opening = legal.opening; member = legal.member; in_turn = (legal-from-parts X (start X) h k legal.in_turn).0 }

pub legal-last : (X : Frame) (h : List Entry) (e : Entry) → IsLegal X (h ++ e ∷ []) → IsLawful X (journal X h) e.act
legal-last X h e legal = (legal-from-parts X (start X) h (e ∷ []) legal.in_turn).1.0

pub legal-valid : (X : Frame) (h : List Entry) (e : Entry) → IsLegal X (h ++ e ∷ []) → IsValidSnapshot X.nodes (journal X (h ++ e ∷ [])).now
legal-valid X h e legal = subst (λ (j : Journal). IsValidSnapshot X.nodes j.now) (sym (journal-push X h e)) (legal-from-parts X (start X) h (e ∷ []) legal.in_turn).1.1

pub legal-push : (X : Frame) (h : List Entry) (e : Entry) → IsLegal X h → IsLawful X (journal X h) e.act → IsValidSnapshot X.nodes (journal X (h ++ e ∷ [])).now → IsLegal X (h ++ e ∷ [])
legal-push X h e legal lawful small = record {
  opening = legal.opening;
  member = legal.member;
  in_turn = legal-from-both X (start X) h (e ∷ []) legal.in_turn (lawful, subst (λ (j : Journal). IsValidSnapshot X.nodes j.now) (journal-push X h e) small, tt);
}

-- ---- applied versions

bound-kept : (j : Journal) (act : Act) (y : ℕ) → ((n : ℕ) → act ≡ Bind y n → ⊥) → greatest_bound (binds_after j.binds act) y ≡ greatest_bound j.binds y
bound-kept j (Update z op) y other = refl
bound-kept j (Deliver i m) y other = refl
bound-kept j (Extend d) y other = refl
bound-kept j (Bind z n) y other = choose (z == y) refl where
  choose : (b : Bool) → (z == y) ≡ b → (if b then max n (greatest_bound j.binds y) else greatest_bound j.binds y) ≡ greatest_bound j.binds y
  choose true e = absurd (other n (ap (λ (x : ℕ). Bind x n) (equal-numbers z y e)))
  choose false e = refl

bound-greater : (j : Journal) (act : Act) (y n : ℕ) → act ≡ Bind y n → greatest_bound (binds_after j.binds act) y ≡ max n (greatest_bound j.binds y)
bound-greater j act y n is =
    let own : (y == y) ≡ true = grind (arith, nat_tests) in
    ap (λ (a : Act). greatest_bound (binds_after j.binds a) y) is ∙ ap (λ (b : Bool). if b then max n (greatest_bound j.binds y) else greatest_bound j.binds y) own

-- what was applied after one more entry, by the base after it
applied-next : (X : Frame) (h : List Entry) (e : Entry) → IsLegal X (h ++ e ∷ []) → (y x n : ℕ) → greatest_bound (binds_after (journal X h).binds e.act) y ≡ n → n ≤ length (journal X h).past
    → applied X (h ++ e ∷ []) y x ≡ (snapshot_at (journal X h) n).versions x
applied-next X h e legal y x n top low =
    read-is X (journal X (h ++ e ∷ [])) (journal-good X (h ++ e ∷ []) legal) (journal X (h ++ e ∷ [])).binds y x
    ∙ ap (λ (j : Journal). (snapshot_at j (greatest_bound j.binds y)).versions x) (journal-push X h e)
    ∙ ap (λ (i : ℕ). (snapshot_at (next X (journal X h) e) i).versions x) top
    ∙ ap (λ (s : Snapshot). s.versions x) (at-kept (journal X h).past (journal X h).now (snapshot_after X (journal X h) e.act) n low)

pub applied-kept : (X : Frame) (h : List Entry) (e : Entry) → IsLegal X (h ++ e ∷ []) → (y x : ℕ) → ((n : ℕ) → e.act ≡ Bind y n → ⊥) → applied X (h ++ e ∷ []) y x ≡ applied X h y x
applied-kept X h e legal y x other =
    let good = journal-good X h (legal-first X h (e ∷ []) legal) in
    applied-next X h e legal y x (base X h y) (bound-kept (journal X h) e.act y other) (good.within y)
    ∙ sym (read-is X (journal X h) good (journal X h).binds y x)

pub applied-bind : (X : Frame) (h : List Entry) (e : Entry) → IsLegal X (h ++ e ∷ []) → (y x n : ℕ) → e.act ≡ Bind y n → applied X (h ++ e ∷ []) y x ≡ max (version X (take n h) x) (applied X h y x)
applied-bind X h e legal y x n is =
    let good = journal-good X h (legal-first X h (e ∷ []) legal) in
    let lawful = subst (λ (a : Act). IsLawful X (journal X h) a) is (legal-last X h e legal) in
    applied-next X h e legal y x (max n (base X h y)) (bound-greater (journal X h) e.act y n is) (omega (arith, lawful.0, good.within y))
    ∙ sym (max-version X (journal X h) good n (base X h y) x)
    ∙ ap (λ (s : Snapshot). max (s.versions x) ((snapshot_at (journal X h) (base X h y)).versions x)) (snapshot-take X h n)
    ∙ ap (λ (v : ℕ). max (version X (take n h) x) v) (sym (read-is X (journal X h) good (journal X h).binds y x))

-- the first n of legal entries are legal
pub legal-take : (X : Frame) (h : List Entry) (n : ℕ) → IsLegal X h → IsLegal X (take n h)
legal-take X h n legal = legal-first X (take n h) (drop n h) (subst (λ (k : List Entry). IsLegal X k) (sym (take-and-drop h n)) legal)

pub ruleset legal = (legal-first, legal-last, legal-valid, legal-push)

pub ruleset applied_versions = (applied-bind, applied-kept)
