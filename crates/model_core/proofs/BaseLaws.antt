-- What a bind does: it raises the base of its variable, and joins in what that base had, or nothing where it read less than the base.
use Rattle.std.proofs.Common.{◌≡◌, ℕ, zero, suc, ◌≤◌, ◌<◌, max, ◌⊎◌, inl, inr, Bool, true, false, if◌then◌else◌, ◌==◌, IsFalse, List, [], ◌∷◌, ◌++◌, length, take, drop, slice_set, refl, sym, ap, subst, ◌∙◌, arith}
use Rattle.std.proofs.lemmas.Bool.Decides.{nat_tests}
use Rattle.std.proofs.lemmas.List.{take-take, take_at}
use Rattle.model_states.specs.Content.{Content, least, join_contents, IsContentAtMost, IsOrdered}
use Rattle.model_states.specs.Update.{Op}
use Rattle.model_states.proofs.ContentLaws.{join-above, join-below}
use Rattle.model_graph.specs.Graph.{Kind, Decl, is_source, decl_at, kind_at}
use Rattle.model_graph.specs.Evaluation.{content_at, equation}
use Rattle.model_graph.specs.Order.{ContentsAtMost}
use Rattle.model_graph.specs.Lawful.{IsDerived}
use Rattle.model_graph.proofs.PlaceLaws.{equal-numbers, at-set, below-or-not, at-past, set-length}
use Rattle.model_graph.proofs.EquationLaws.{equation-monotone, equation-ordered}
use Rattle.model_graph.proofs.LeastLaws.{equation-flat}
use Rattle.model_graph.specs.Message.{Message}
use Rattle.model_journal.specs.Entry.{Act, Update, Deliver, Bind, Extend, Entry, Frame}
use Rattle.model_journal.specs.Journal.{Snapshot, Journal, binds_after, journal, graph, vals, val}
use Rattle.model_journal.specs.Clean.{greatest_bound, base}
use Rattle.model_journal.specs.Legal.{IsLawful, IsLegal}
use Rattle.model_journal.proofs.PlaceLaws.{take-whole}
use Rattle.model_journal.proofs.JournalLaws.{journal-past, journal-push, journal-good, journal-later, vals-grow}
use Rattle.model_journal.proofs.CleanLaws.{take-and-drop, snapshot-take, val-based, vals-length}
use Rattle.model_journal.proofs.EntryLaws.{bind-vals}
use Rattle.model_journal.proofs.LegalLaws.{legal-last}
use Rattle.model_core.proofs.ValidLaws.{was-ordered}

-- ---- the base

bound-kept : (binds : List (ℕ × ℕ)) (act : Act) (y : ℕ) → ((n : ℕ) → act ≡ Bind y n → ⊥) → greatest_bound (binds_after binds act) y ≡ greatest_bound binds y
bound-kept binds (Update z op) y other = refl
bound-kept binds (Deliver i m) y other = refl
bound-kept binds (Extend d) y other = refl
bound-kept binds (Bind z n) y other = choose (z == y) refl where
  choose : (b : Bool) → (z == y) ≡ b → (if b then max n (greatest_bound binds y) else greatest_bound binds y) ≡ greatest_bound binds y
  choose true e = absurd (other n (ap (λ (x : ℕ). Bind x n) (equal-numbers z y e)))
  choose false e = refl

bound-greater : (binds : List (ℕ × ℕ)) (act : Act) (y n : ℕ) → act ≡ Bind y n → greatest_bound (binds_after binds act) y ≡ max n (greatest_bound binds y)
bound-greater binds act y n is =
    let own : (y == y) ≡ true = grind (arith, nat_tests) in
    ap (λ (a : Act). greatest_bound (binds_after binds a) y) is ∙ ap (λ (b : Bool). if b then max n (greatest_bound binds y) else greatest_bound binds y) own

pub base-start : (X : Frame) (y : ℕ) → base X [] y ≡ 0
base-start X y = refl

pub base-within : (X : Frame) (h : List Entry) → IsLegal X h → (y : ℕ) → base X h y ≤ length h
base-within X h legal y = omega (arith, (journal-good X h legal).within y, journal-past X h)

pub base-bind : (X : Frame) (h : List Entry) (e : Entry) (y n : ℕ) → e.act ≡ Bind y n → base X (h ++ e ∷ []) y ≡ max n (base X h y)
base-bind X h e y n is = ap (λ (j : Journal). greatest_bound j.binds y) (journal-push X h e) ∙ bound-greater (journal X h).binds e.act y n is

pub base-other : (X : Frame) (h : List Entry) (e : Entry) (y : ℕ) → ((n : ℕ) → e.act ≡ Bind y n → ⊥) → base X (h ++ e ∷ []) y ≡ base X h y
base-other X h e y other = ap (λ (j : Journal). greatest_bound j.binds y) (journal-push X h e) ∙ bound-kept (journal X h).binds e.act y other

-- a bind of one variable leaves the base of another
pub base-apart : (X : Frame) (h : List Entry) (e : Entry) (y z n : ℕ) → e.act ≡ Bind y n → (z ≡ y → ⊥) → base X (h ++ e ∷ []) z ≡ base X h z
base-apart X h e y z n is other = base-other X h e z (λ m bind. other (same m bind)) where
  same : (m : ℕ) → e.act ≡ Bind z m → z ≡ y
  same m bind = let both : Bind y n ≡ Bind z m = sym is ∙ bind in cc

pub base-updated : (X : Frame) (h : List Entry) (e : Entry) (x : ℕ) (op : Op) (y : ℕ) → e.act ≡ Update x op → base X (h ++ e ∷ []) y ≡ base X h y
base-updated X h e x op y is = base-other X h e y (λ n bind. (let both : Update x op ≡ Bind y n = sym is ∙ bind in cc))

pub base-delivered : (X : Frame) (h : List Entry) (e : Entry) (i : ℕ) (m : Message) (y : ℕ) → e.act ≡ Deliver i m → base X (h ++ e ∷ []) y ≡ base X h y
base-delivered X h e i m y is = base-other X h e y (λ n bind. (let both : Deliver i m ≡ Bind y n = sym is ∙ bind in cc))

pub base-extended : (X : Frame) (h : List Entry) (e : Entry) (d : Decl) (y : ℕ) → e.act ≡ Extend d → base X (h ++ e ∷ []) y ≡ base X h y
base-extended X h e d y is = base-other X h e y (λ n bind. (let both : Extend d ≡ Bind y n = sym is ∙ bind in cc))

-- ---- what stood earlier

-- contents only grow
pub vals-take : (X : Frame) (h : List Entry) (n : ℕ) → ContentsAtMost (vals X (take n h)) (vals X h)
vals-take X h n = subst (λ (k : List Entry). ContentsAtMost (vals X (take n h)) (vals X k)) (take-and-drop h n) (vals-grow X (take n h) (drop n h))

-- the first of longer entries
pub take-first : (h more : List Entry) → take (length h) (h ++ more) ≡ h
take-first h more = take_at h more (length h) refl

pub vals-between : (X : Frame) (h : List Entry) (m n : ℕ) → m ≤ n → ContentsAtMost (vals X (take m h)) (vals X (take n h))
vals-between X h m n low = subst (λ (k : List Entry). ContentsAtMost (vals X k) (vals X (take n h))) (take-take m n h low) (vals-take X (take n h) m)

-- a declaration stays as it was
pub decl-later : (X : Frame) (h more : List Entry) (x : ℕ) → x < length (graph X h) → decl_at (graph X (h ++ more)) x ≡ decl_at (graph X h) x
decl-later X h more x low = (journal-later X h more).kept x low

pub kind-later : (X : Frame) (h more : List Entry) (x : ℕ) → x < length (graph X h) → kind_at (graph X (h ++ more)) x ≡ kind_at (graph X h) x
kind-later X h more x low = ap (λ (d : Decl). d.kind) (decl-later X h more x low)

pub graph-longer : (X : Frame) (h more : List Entry) → length (graph X h) ≤ length (graph X (h ++ more))
graph-longer X h more = (journal-later X h more).longer

pub kind-take : (X : Frame) (h : List Entry) (n x : ℕ) → x < length (graph X (take n h)) → kind_at (graph X h) x ≡ kind_at (graph X (take n h)) x
kind-take X h n x low = subst (λ (k : List Entry). kind_at (graph X k) x ≡ kind_at (graph X (take n h)) x) (take-and-drop h n) (kind-later X (take n h) (drop n h) x low)

pub graph-take : (X : Frame) (h : List Entry) (n : ℕ) → length (graph X (take n h)) ≤ length (graph X h)
graph-take X h n = subst (λ (k : List Entry). length (graph X (take n h)) ≤ length (graph X k)) (take-and-drop h n) (graph-longer X (take n h) (drop n h))

-- a variable that was derived still is
pub derived-take : (X : Frame) (h : List Entry) (n y : ℕ) → IsDerived (graph X (take n h)) y → IsDerived (graph X h) y
derived-take X h n y d = record {
  declared = omega (arith, d.declared, graph-take X h n);
  process = subst (λ (k : Kind). IsFalse (is_source k)) (sym (kind-take X h n y d.declared)) d.process;
}

-- a legal bind is of a derived variable, and reads what stood
pub bound-derived : (X : Frame) (h : List Entry) (e : Entry) (y n : ℕ) → IsLegal X (h ++ e ∷ []) → e.act ≡ Bind y n → IsDerived (graph X h) y
bound-derived X h e y n legal is =
    let lawful = subst (λ (a : Act). IsLawful X (journal X h) a) is (legal-last X h e legal) in
    derived-take X h n y (subst (λ (s : Snapshot). IsDerived s.graph y) (snapshot-take X h n) lawful.1)

pub bound-low : (X : Frame) (h : List Entry) (e : Entry) (y n : ℕ) → IsLegal X (h ++ e ∷ []) → e.act ≡ Bind y n → n ≤ length h
bound-low X h e y n legal is =
    let lawful = subst (λ (a : Act). IsLawful X (journal X h) a) is (legal-last X h e legal) in
    omega (arith, lawful.0, journal-past X h)

-- ---- what a bind joins in

-- the equation of variable y on what stood after the first n entries
abbrev pub read_at : Frame → List Entry → ℕ → ℕ → Content
read_at X h y n = equation (kind_at (graph X h) y) (vals X (take n h))

read-grows : (X : Frame) (h : List Entry) (y m n : ℕ) → m ≤ n → IsContentAtMost (read_at X h y m) (read_at X h y n)
read-grows X h y m n low = equation-monotone (kind_at (graph X h) y) (vals X (take m h)) (vals X (take n h)) (λ x i. vals-between X h m n low x)

read-ordered : (X : Frame) (h : List Entry) → IsLegal X h → (y n : ℕ) → IsOrdered (read_at X h y n)
read-ordered X h legal y n = equation-ordered (kind_at (graph X h) y) (vals X (take n h)) (λ x i. was-ordered X h legal n x)

joins : (X : Frame) (h : List Entry) → IsLegal X h → (y n : ℕ) → IsDerived (graph X h) y → join_contents (val X h y) (read_at X h y n) ≡ join_contents (read_at X h y (base X h y)) (read_at X h y n)
joins X h legal y n d = ap (λ (s : Content). join_contents s (read_at X h y n)) (val-based X h legal y d)

pub join-later : (X : Frame) (h : List Entry) → IsLegal X h → (y n : ℕ) → IsDerived (graph X h) y → base X h y ≤ n → join_contents (val X h y) (read_at X h y n) ≡ read_at X h y n
join-later X h legal y n d late =
    joins X h legal y n d
    ∙ join-above (read_at X h y (base X h y)) (read_at X h y n) (read-ordered X h legal y n)
    (omega (arith, equation-flat (kind_at (graph X h) y) (vals X (take (base X h y) h)))) (read-grows X h y (base X h y) n late)

pub join-earlier : (X : Frame) (h : List Entry) → IsLegal X h → (y n : ℕ) → IsDerived (graph X h) y → n ≤ base X h y → join_contents (val X h y) (read_at X h y n) ≡ val X h y
join-earlier X h legal y n d early =
    joins X h legal y n d
    ∙ join-below (read_at X h y (base X h y)) (read_at X h y n) (read-ordered X h legal y (base X h y))
    (omega (arith, equation-flat (kind_at (graph X h) y) (vals X (take n h)))) (read-grows X h y n (base X h y) early)
    ∙ sym (val-based X h legal y d)

-- ---- binds

set-itself : (ss : List Content) (y : ℕ) → slice_set ss y (content_at ss y) ≡ ss
set-itself [] y = refl
set-itself (s ∷ ss) zero = refl
set-itself (s ∷ ss) (suc y) = ap (λ (rest : List Content). s ∷ rest) (set-itself ss y)

pub bind-later : (X : Frame) (h : List Entry) → IsLegal X h → (e : Entry) (y n : ℕ) → e.act ≡ Bind y n → IsDerived (graph X h) y → base X h y ≤ n
    → vals X (h ++ e ∷ []) ≡ slice_set (vals X h) y (equation (kind_at (graph X h) y) (vals X (take n h)))
bind-later X h legal e y n is d late = bind-vals X h legal e y n is d.declared ∙ ap (λ (s : Content). slice_set (vals X h) y s) (join-later X h legal y n d late)

pub bind-later-own : (X : Frame) (h : List Entry) → IsLegal X h → (e : Entry) (y n : ℕ) → e.act ≡ Bind y n → IsDerived (graph X h) y → base X h y ≤ n
    → val X (h ++ e ∷ []) y ≡ equation (kind_at (graph X h) y) (vals X (take n h))
bind-later-own X h legal e y n is d late =
    ap (λ (ss : List Content). content_at ss y) (bind-later X h legal e y n is d late)
    ∙ at-set (λ (s : Content). s ≡ read_at X h y n) (vals X h) y (read_at X h y n) least y (omega (arith, d.declared, vals-length X h legal)) (λ _. refl) (λ n. absurd (n refl))

-- a bind changes no other variable
pub bind-others : (X : Frame) (h : List Entry) → IsLegal X h → (e : Entry) (y n : ℕ) → e.act ≡ Bind y n → IsDerived (graph X h) y → (x : ℕ) → (x ≡ y → ⊥) → val X (h ++ e ∷ []) x ≡ val X h x
bind-others X h legal e y n is d x other = ap (λ (ss : List Content). content_at ss x) (bind-vals X h legal e y n is d.declared) ∙ choose (below-or-not x (length (vals X h))) where
  new : Content
  new = join_contents (val X h y) (read_at X h y n)

  choose : (x < length (vals X h)) ⊎ (length (vals X h) ≤ x) → content_at (slice_set (vals X h) y new) x ≡ val X h x
  choose (inl low) = at-set (λ (s : Content). s ≡ val X h x) (vals X h) y new least x low (λ e. absurd (other e)) (λ _. refl)
  choose (inr past) = at-past (slice_set (vals X h) y new) x least (omega (arith, past, set-length (vals X h) y new)) ∙ sym (at-past (vals X h) x least past)

pub bind-earlier : (X : Frame) (h : List Entry) → IsLegal X h → (e : Entry) (y n : ℕ) → e.act ≡ Bind y n → IsDerived (graph X h) y → n ≤ base X h y → vals X (h ++ e ∷ []) ≡ vals X h
bind-earlier X h legal e y n is d early =
    bind-vals X h legal e y n is d.declared
    ∙ ap (λ (s : Content). slice_set (vals X h) y s) (join-earlier X h legal y n d early)
    ∙ set-itself (vals X h) y

-- a bind that reads what stands
pub bind-now : (X : Frame) (h : List Entry) → IsLegal X h → (e : Entry) (y : ℕ) → e.act ≡ Bind y (length h) → IsDerived (graph X h) y
    → vals X (h ++ e ∷ []) ≡ slice_set (vals X h) y (equation (kind_at (graph X h) y) (vals X h))
bind-now X h legal e y is d =
    bind-later X h legal e y (length h) is d (base-within X h legal y)
    ∙ ap (λ (k : List Entry). slice_set (vals X h) y (equation (kind_at (graph X h) y) (vals X k))) (take-whole h (length h) (omega arith))

pub ruleset bases = (base-start, base-within, base-bind, base-other, base-apart)

pub ruleset binds = (bound-derived, bound-low, bind-later, bind-later-own, bind-others, bind-earlier, bind-now)

pub ruleset earlier = (vals-take, vals-between, decl-later, kind-later, graph-longer, kind-take, graph-take, derived-take)
