-- Variables that are as plain evaluation gives them, while binds come in whatever order.
use Rattle.std.proofs.Common.{suc, ◌≡◌, ℕ, ◌+◌, ◌≤◌, ◌<◌, ◌⊎◌, inl, inr, Bool, true, false, IsTrue, List, [], ◌∷◌, ◌++◌, length, take, Some, None, refl, sym, ap, subst, ◌∙◌, append-nil, append_assoc, arith}
use Rattle.model_states.specs.Content.{Content, size_of, row_limit, IsContentAtMost, IsOrdered}
use Rattle.model_states.proofs.ContentLaws.{same-content}
use Rattle.model_graph.specs.Graph.{Decl, is_source, kind_at}
use Rattle.model_graph.specs.Evaluation.{content_at, equation, eval, first_large}
use Rattle.model_graph.specs.Lawful.{IsDerived}
use Rattle.model_graph.proofs.EquationLaws.{equation-alike, equation-monotone}
use Rattle.model_graph.proofs.EvalLaws.{graph-earlier, eval-given, eval-derived, eval-ordered, eval-only}
use Rattle.model_graph.proofs.LimitLaws.{large-words, small-words}
use Rattle.model_world.specs.World.{Peer}
use Rattle.model_journal.specs.Entry.{Act, Update, Deliver, Bind, Extend, Entry, Frame}
use Rattle.model_journal.specs.Journal.{graph, vals, val, sources}
use Rattle.model_journal.specs.Clean.{IsClean, base}
use Rattle.model_journal.specs.Legal.{IsLegal}
use Rattle.model_journal.proofs.JournalLaws.{journal-graph, vals-grow}
use Rattle.model_journal.proofs.CleanLaws.{clean-equal, val-based, vals-below-eval, vals-length}
use Rattle.model_journal.proofs.LegalLaws.{legal-first}
use Rattle.model_journal.proofs.NextLaws.{equation-flat}
use Rattle.model_core.specs.Peer.{peer_of}
use Rattle.model_core.proofs.BaseLaws.{base-bind, bound-derived, take-first, vals-between}
use Rattle.model_core.proofs.PeerLaws.{graph-bound, peer-bound}
use Rattle.model_core.proofs.SourceLaws.{sources-source}
use Rattle.model_core.proofs.ValidLaws.{val-ordered, val-small}
use Rattle.lasp_replica.proofs.OneLaws.{same-or-apart}
use Rattle.lasp_store.specs.Settled.{IsBind, AreBinds, evaluation, AreEvaluatedBelow}

-- ---- binds keep graph, sources and counts

pub record IsKept (X : Frame) (h k : List Entry) : Type 0 where
  pub graph_is : graph X k ≡ graph X h
  pub peer : peer_of X k ≡ peer_of X h

bind-of : (act : Act) → IsBind act → (y : ℕ) × (n : ℕ) × (act ≡ Bind y n)
bind-of (Update x op) is = absurd is
bind-of (Deliver i m) is = absurd is
bind-of (Bind y n) is = (y, n, refl)
bind-of (Extend d) is = absurd is

kept-one : (X : Frame) (h : List Entry) (e : Entry) → IsLegal X (h ++ e ∷ []) → IsBind e.act → IsKept X h (h ++ e ∷ [])
kept-one X h e legal is =
    let b = bind-of e.act is in
    record {
      graph_is = graph-bound X h e b.0 b.1 b.2;
      peer = peer-bound X h (legal-first X h (e ∷ []) legal) e b.0 b.1 b.2 (bound-derived X h e b.0 b.1 legal b.2);
    }

pub kept-binds : (X : Frame) (h more : List Entry) → IsLegal X (h ++ more) → AreBinds more → IsKept X h (h ++ more)
kept-binds X h [] legal are = subst (IsKept X h) (sym (append-nil h)) (record { graph_is = refl; peer = refl })
kept-binds X h (e ∷ more) legal are =
    let same : (h ++ e ∷ []) ++ more ≡ h ++ e ∷ more = append_assoc h (e ∷ []) more in
    let all = subst (IsLegal X) (sym same) legal in
    let rest = kept-binds X (h ++ e ∷ []) more all are.1 in
    let one = kept-one X h e (legal-first X (h ++ e ∷ []) more all) are.0 in
    subst (IsKept X h) same (record { graph_is = rest.graph_is ∙ one.graph_is; peer = rest.peer ∙ one.peer })

pub same-evaluation : (X : Frame) (h k : List Entry) → IsKept X h k → evaluation X k ≡ evaluation X h
same-evaluation X h k kept i = eval (kept.graph_is i) (ap (λ (p : Peer). p.contents) kept.peer i)

-- ---- one variable

source-ordered : (X : Frame) (h : List Entry) → IsLegal X h → (x : ℕ) → x < length (graph X h) → IsTrue (is_source (kind_at (graph X h) x)) → IsOrdered (content_at (sources X h) x)
source-ordered X h legal x low source = subst IsOrdered (sym (sources-source (graph X h) (vals X h) x low source)) (val-ordered X h legal x)

-- a source is as it is given
pub source-evaluated : (X : Frame) (h : List Entry) (x : ℕ) → x < length (graph X h) → IsTrue (is_source (kind_at (graph X h) x)) → val X h x ≡ content_at (evaluation X h) x
source-evaluated X h x low source = sym (eval-given (graph X h) (sources X h) x low source ∙ sources-source (graph X h) (vals X h) x low source)

-- a derived variable is never more than it is evaluated to, so it is that where it isn't less
pub reached : (X : Frame) (h : List Entry) → IsLegal X h → (y : ℕ) → IsDerived (graph X h) y → IsContentAtMost (content_at (evaluation X h) y) (val X h y) → val X h y ≡ content_at (evaluation X h) y
reached X h legal y d above =
    same-content (val X h y) (content_at (evaluation X h) y) (val-ordered X h legal y) (eval-ordered (graph X h) (sources X h) (source-ordered X h legal) y) flat (vals-below-eval X h legal y) above where
      flat : length (val X h y).counts ≡ length (content_at (evaluation X h) y).counts
      flat =
          ap (λ (s : Content). length s.counts) (val-based X h legal y d)
          ∙ equation-flat (kind_at (graph X h) y) (vals X (take (base X h y) h))
          ∙ sym (ap (λ (s : Content). length s.counts) (eval-derived (graph X h) (sources X h) (journal-graph X h legal) y d) ∙ equation-flat (kind_at (graph X h) y) (evaluation X h))

-- the equation of a variable on what is evaluated before it
pub equation-evaluated : (X : Frame) (h : List Entry) → IsLegal X h → (y : ℕ) → IsDerived (graph X h) y → AreEvaluatedBelow X h y → equation (kind_at (graph X h) y) (vals X h) ≡ content_at (evaluation X h) y
equation-evaluated X h legal y d below =
    equation-alike (kind_at (graph X h) y) (vals X h) (evaluation X h) (λ z i. below z (graph-earlier (graph X h) (journal-graph X h legal) y z i))
    ∙ sym (eval-derived (graph X h) (sources X h) (journal-graph X h legal) y d)

one-more : (X : Frame) (h : List Entry) (y : ℕ) → AreEvaluatedBelow X h y → val X h y ≡ content_at (evaluation X h) y → AreEvaluatedBelow X h (y + 1)
one-more X h y below is z low = choose (same-or-apart z y) where
  choose : (z ≡ y) ⊎ (z ≡ y → ⊥) → val X h z ≡ content_at (evaluation X h) z
  choose (inl same) = subst (λ (w : ℕ). val X h w ≡ content_at (evaluation X h) w) (sym same) is
  choose (inr apart) = below z (omega (arith, low, apart))

-- ---- the variables from the first on

-- what is evaluated stays so where the list goes on by binds
pub evaluated-stays : (X : Frame) (h more : List Entry) (many : ℕ) → IsLegal X (h ++ more) → AreBinds more → many ≤ length (graph X h) → AreEvaluatedBelow X h many → AreEvaluatedBelow X (h ++ more) many
evaluated-stays X h more many legal are within below y low = choose (is_source (kind_at (graph X (h ++ more)) y)) refl where
  kept : IsKept X h (h ++ more)
  kept = kept-binds X h more legal are

  small : y < length (graph X (h ++ more))
  small = let long = ap (λ (g : List Decl). length g) kept.graph_is in omega (arith, low, within, long)

  choose : (s : Bool) → is_source (kind_at (graph X (h ++ more)) y) ≡ s → val X (h ++ more) y ≡ content_at (evaluation X (h ++ more)) y
  choose true source = source-evaluated X (h ++ more) y small source
  choose false process =
      reached X (h ++ more) legal y (record { declared = small; process = process })
      (subst (λ (s : Content). IsContentAtMost s (val X (h ++ more) y)) (below y low ∙ sym (ap (λ (ss : List Content). content_at ss y) (same-evaluation X h (h ++ more) kept))) (vals-grow X h more y))

-- contents that are alike place by place
same-lists : (ss ts : List Content) → length ss ≡ length ts → ((x : ℕ) → x < length ss → content_at ss x ≡ content_at ts x) → ss ≡ ts
same-lists [] [] long each = refl
same-lists [] (t ∷ ts) long each = absurd (omega (arith, long))
same-lists (s ∷ ss) [] long each = absurd (omega (arith, long))
same-lists (s ∷ ss) (t ∷ ts) long each =
    let here : s ≡ t = each 0 (omega arith) in
    let rest = same-lists ss ts (omega (arith, long)) (λ x low. each (suc x) (omega (arith, low))) in
    λ i. here i ∷ rest i

-- where all is evaluated, binds add nothing
pub evaluated-alone : (X : Frame) (h more : List Entry) → IsLegal X (h ++ more) → AreBinds more → vals X h ≡ evaluation X h → vals X (h ++ more) ≡ vals X h
evaluated-alone X h more legal are is = same-lists (vals X (h ++ more)) (vals X h) long each where
  long : length (vals X (h ++ more)) ≡ length (vals X h)
  long = vals-length X (h ++ more) legal ∙ ap (λ (g : List Decl). length g) (kept-binds X h more legal are).graph_is ∙ sym (vals-length X h (legal-first X h more legal))

  each : (y : ℕ) → y < length (vals X (h ++ more)) → content_at (vals X (h ++ more)) y ≡ content_at (vals X h) y
  each y low =
      let below : AreEvaluatedBelow X h (length (graph X h)) = λ z _. ap (λ (ss : List Content). content_at ss z) is in
      evaluated-stays X h more (length (graph X h)) legal are (omega arith) below y (omega (arith, low, long, vals-length X h (legal-first X h more legal)))
      ∙ ap (λ (ss : List Content). content_at ss y) (same-evaluation X h (h ++ more) (kept-binds X h more legal are) ∙ sym is)

-- a source comes after those that are evaluated
pub evaluated-source : (X : Frame) (h : List Entry) (y : ℕ) → y < length (graph X h) → IsTrue (is_source (kind_at (graph X h) y)) → AreEvaluatedBelow X h y → AreEvaluatedBelow X h (y + 1)
evaluated-source X h y low source below = one-more X h y below (source-evaluated X h y low source)

-- so does a clean variable
pub evaluated-clean : (X : Frame) (h : List Entry) → IsLegal X h → (y : ℕ) → IsDerived (graph X h) y → IsClean X h y → AreEvaluatedBelow X h y → AreEvaluatedBelow X h (y + 1)
evaluated-clean X h legal y d clean below = one-more X h y below (clean-equal X h legal y d clean ∙ equation-evaluated X h legal y d below)

-- so does one whose job, taken on evaluated inputs, was bound, whatever was bound between
pub evaluated-bound : (X : Frame) (h between : List Entry) (y : ℕ) (e : Entry) → e.act ≡ Bind y (length h) → IsLegal X ((h ++ between) ++ e ∷ []) → AreBinds between → IsDerived (graph X h) y
    → AreEvaluatedBelow X h y → AreEvaluatedBelow X ((h ++ between) ++ e ∷ []) (y + 1)
evaluated-bound X h between y e is legal are d below = one-more X k y stays (reached X k legal y derived above) where
  k : List Entry
  k = (h ++ between) ++ e ∷ []

  binds-one : IsBind e.act
  binds-one = subst IsBind (sym is) tt

  before : IsLegal X (h ++ between)
  before = legal-first X (h ++ between) (e ∷ []) legal

  first : IsKept X h (h ++ between)
  first = kept-binds X h between before are

  last : IsKept X (h ++ between) k
  last = kept-one X (h ++ between) e legal binds-one

  kept : IsKept X h k
  kept = record { graph_is = last.graph_is ∙ first.graph_is; peer = last.peer ∙ first.peer }

  derived : IsDerived (graph X k) y
  derived = subst (λ (g : List Decl). IsDerived g y) (sym kept.graph_is) d

  within : y ≤ length (graph X h)
  within = let low = d.declared in omega (arith, low)

  stays : AreEvaluatedBelow X k y
  stays = evaluated-stays X (h ++ between) (e ∷ []) y legal (binds-one, tt) (let long = ap (λ (g : List Decl). length g) first.graph_is in omega (arith, within, long))
      (evaluated-stays X h between y before are within below)

  front : take (length h) k ≡ h
  front = ap (λ (l : List Entry). take (length h) l) (append_assoc h between (e ∷ [])) ∙ take-first h (between ++ e ∷ [])

  later : length h ≤ base X k y
  later = omega (arith, base-bind X (h ++ between) e y (length h) is)

  grown : IsContentAtMost (equation (kind_at (graph X k) y) (vals X h)) (val X k y)
  grown = subst (λ (s : Content). IsContentAtMost (equation (kind_at (graph X k) y) (vals X h)) s) (sym (val-based X k legal y derived))
      (equation-monotone (kind_at (graph X k) y) (vals X h) (vals X (take (base X k y) k))
      (λ x i. subst (λ (l : List Entry). IsContentAtMost (val X l x) (val X (take (base X k y) k) x)) front (vals-between X k (length h) (base X k y) later x)))

  same : equation (kind_at (graph X k) y) (vals X h) ≡ content_at (evaluation X k) y
  same =
      ap (λ (g : List Decl). equation (kind_at g y) (vals X h)) kept.graph_is
      ∙ equation-evaluated X h (legal-first X h between before) y d below
      ∙ sym (ap (λ (ss : List Content). content_at ss y) (same-evaluation X h k kept))

  above : IsContentAtMost (content_at (evaluation X k) y) (val X k y)
  above = subst (λ (s : Content). IsContentAtMost s (val X k y)) same grown

-- ---- the whole of it

pub all-evaluated : (X : Frame) (h : List Entry) → IsLegal X h → AreEvaluatedBelow X h (length (graph X h)) → vals X h ≡ evaluation X h
all-evaluated X h legal below =
    eval-only (graph X h) (sources X h) (vals X h) (journal-graph X h legal) (vals-length X h legal)
    (λ x low source. sym (sources-source (graph X h) (vals X h) x low source))
    (λ y d. below y d.declared ∙ sym (equation-evaluated X h legal y d (λ z low. below z (let high = d.declared in omega (arith, low, high)))))

pub all-small : (X : Frame) (h : List Entry) → IsLegal X h → AreEvaluatedBelow X h (length (graph X h)) → first_large 0 (evaluation X h) ≡ None
all-small X h legal below = subst (λ (ss : List Content). first_large 0 ss ≡ None) (all-evaluated X h legal below) ((small-words (vals X h)).1 (val-small X h legal))

-- the first variable whose equation is too large on what is evaluated is the first that is evaluated to be too large
pub first-too-large : (X : Frame) (h : List Entry) → IsLegal X h → (y : ℕ) → IsDerived (graph X h) y → AreEvaluatedBelow X h y → row_limit < size_of (equation (kind_at (graph X h) y) (vals X h)) → first_large 0 (evaluation X h) ≡ Some y
first-too-large X h legal y d below large = (large-words (evaluation X h) y).1 (record {
  large = subst (λ (s : Content). row_limit < size_of s) (equation-evaluated X h legal y d below) large;
  before = λ z low. subst (λ (s : Content). size_of s ≤ row_limit) (below z low) (val-small X h legal z);
})
