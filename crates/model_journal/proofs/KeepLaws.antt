-- What a lawful entry that brings nothing invalid leaves in a variable that stood is valid where there is room.
use Rattle.std.proofs.Common.{◌≡◌, ℕ, zero, suc, ◌+◌, ◌≤◌, ◌<◌, ◌⊎◌, inl, inr, Bool, true, false, if◌then◌else◌, ◌==◌, IsFalse, List, [], ◌∷◌, ◌++◌, length, map, drop, take, cond, slice_set, Some, None, refl, sym, ap, subst, ◌∙◌, arith}
use Rattle.std.proofs.lemmas.List.{get_or-set_same}
use Rattle.model_states.specs.Counts.{count_at}
use Rattle.model_states.specs.Content.{Content, least, join_contents, size_of, row_limit}
use Rattle.model_states.specs.Update.{Op, delta}
use Rattle.model_states.proofs.ContentLaws.{ordered-join, join-right, join-nothing}
use Rattle.model_states.proofs.SizeLaws.{size-grows}
use Rattle.model_graph.specs.Graph.{Kind, Decl, decl_at, is_source, kind_at, IsInput}
use Rattle.model_graph.specs.Evaluation.{equation}
use Rattle.model_graph.specs.Lawful.{width_limit, width_at, width_of, widths, IsGraph, sources_among}
use Rattle.model_graph.proofs.EquationLaws.{equation-ordered}
use Rattle.model_graph.proofs.PlaceLaws.{equal-numbers}
use Rattle.model_graph.proofs.WidthLaws.{width-source}
use Rattle.model_graph.specs.Message.{Sent, sent_at, source_number, with_gain}
use Rattle.model_journal.specs.Entry.{Act, Update, Deliver, Bind, Extend, Entry, Frame}
use Rattle.model_journal.specs.Journal.{Snapshot, snapshot_at, gain, counts_after, journal, graph, val, counts}
use Rattle.model_journal.specs.Legal.{count_limit, IsValid, IsValidSnapshot, IsLawful, AreValidSources, BringsValid, IsLegal}
use Rattle.model_journal.proofs.GraphLaws.{input-declared}
use Rattle.model_journal.proofs.GoodLaws.{to-now}
use Rattle.model_journal.proofs.NextLaws.{op-of-source}
use Rattle.model_journal.proofs.JournalLaws.{journal-good, counts-length}
use Rattle.model_journal.proofs.WidthLaws.{widths-at, widths-same, narrow-at}
use Rattle.model_journal.proofs.ValidLaws.{valid-join, valid-delta}
use Rattle.model_journal.proofs.EquationLaws.{valid-equation}
use Rattle.model_journal.proofs.StandLaws.{journal-valid}
use Rattle.model_journal.proofs.CleanLaws.{snapshot-take}
use Rattle.model_journal.proofs.LegalLaws.{legal-take}

-- ---- what a message has of a source

abbrev IsSentTo : ℕ → Kind → Content → Type 0
IsSentTo nodes k s = IsValid nodes k 1 s ⊎ (s ≡ least)

sent-step : (d : Decl) (g : List Decl) (x : ℕ) (b : Bool) → is_source d.kind ≡ b → source_number (d ∷ g) (suc x) ≡ (if b then source_number g x + 1 else source_number g x)
sent-step d g x b e = ap (λ (c : Bool). if c then source_number g x + 1 else source_number g x) e

among-step : (d : Decl) (g : List Decl) (b : Bool) → is_source d.kind ≡ b → sources_among (d ∷ g) ≡ cond b (d ∷ sources_among g) (sources_among g)
among-step d g b e = ap (λ (c : Bool). cond c (d ∷ sources_among g) (sources_among g)) e

-- a source of the graph has in the message a valid content, or none
sent-valid : (nodes : ℕ) (g : List Decl) (sent : List Sent) (more : List Decl) (x : ℕ) → map (λ s. s.decl) sent ++ more ≡ sources_among g → AreValidSources nodes sent → x < length g → is_source (kind_at g x) ≡ true
    → IsSentTo nodes (kind_at g x) (sent_at sent (source_number g x))
sent-valid nodes g [] more x e valid low source = inr refl
sent-valid nodes [] (s ∷ sent) more x e valid low source = absurd (omega (arith, low))
sent-valid nodes (d ∷ g) (s ∷ sent) more zero e valid low source =
    let same : s.decl ≡ d = ap (λ (ds : List Decl). decl_at ds 0) (e ∙ among-step d g true source) in
    inl (subst (λ (c : Decl). IsValid nodes c.kind 1 s.content) same valid.0)
sent-valid nodes (d ∷ g) (s ∷ sent) more (suc x) e valid low source =
    choose (is_source d.kind) refl (λ f. sent-valid nodes g sent more x f valid.1 (omega (arith, low)) source) (λ f. sent-valid nodes g (s ∷ sent) more x f valid (omega (arith, low)) source) where
      choose : (b : Bool) → is_source d.kind ≡ b
          → (map (λ s. s.decl) sent ++ more ≡ sources_among g → IsSentTo nodes (kind_at g x) (sent_at sent (source_number g x)))
          → (map (λ s. s.decl) (s ∷ sent) ++ more ≡ sources_among g → IsSentTo nodes (kind_at g x) (sent_at (s ∷ sent) (source_number g x)))
          → IsSentTo nodes (kind_at g x) (sent_at (s ∷ sent) (source_number (d ∷ g) (suc x)))
      choose true f here skipped =
          let number : suc (source_number g x) ≡ source_number (d ∷ g) (suc x) = omega (arith, sent-step d g x true f) in
          subst (λ (n : ℕ). IsSentTo nodes (kind_at g x) (sent_at (s ∷ sent) n)) number (here (ap (λ (ds : List Decl). drop 1 ds) (e ∙ among-step d g true f)))
      choose false f here skipped = subst (λ (n : ℕ). IsSentTo nodes (kind_at g x) (sent_at (s ∷ sent) n)) (sym (sent-step d g x false f)) (skipped (e ∙ among-step d g false f))

-- ---- what a variable gains

-- what variable x holds is valid
abbrev IsValidAt : Frame → List Entry → ℕ → Content → Type 0
IsValidAt X h x s = IsValid X.nodes (kind_at (graph X h) x) (width_at (widths (graph X h)) x) s

source-width : (X : Frame) (h : List Entry) → IsLegal X h → (x : ℕ) → x < length (graph X h) → is_source (kind_at (graph X h) x) ≡ true → width_at (widths (graph X h)) x ≡ 1
source-width X h legal x low source = widths-at (graph X h) (journal-good X h legal).graph x low ∙ width-source (kind_at (graph X h) x) (widths (graph X h)) source

update-valid : (X : Frame) (h : List Entry) → IsLegal X h → (y : ℕ) (op : Op) → IsLawful X (journal X h) (Update y op) → count_at (counts_after X (counts X h) (Update y op)) X.replica ≤ count_limit
    → IsValidAt X h y (delta op (val X h y) X.replica (count_at (counts X h) X.replica + 1))
update-valid X h legal y op lawful room =
    subst (λ (w : ℕ). IsValid X.nodes k w (delta op (val X h y) X.replica number)) (sym one)
    (valid-delta X.nodes X.replica number k op (val X h y) (subst (λ (w : ℕ). IsValid X.nodes k w (val X h y)) one ((journal-valid X h legal).contents y lawful.0)) lawful.1 lawful.2 legal.member (omega arith) (omega (arith, room, raised))) where
      k : Kind
      k = kind_at (graph X h) y

      number : ℕ
      number = count_at (counts X h) X.replica + 1

      one : width_at (widths (graph X h)) y ≡ 1
      one = source-width X h legal y lawful.0 (op-of-source k op lawful.1)

      raised : count_at (slice_set (counts X h) X.replica number) X.replica ≡ number
      raised = get_or-set_same (counts X h) X.replica number 0 (omega (arith, legal.member, counts-length X h legal))

bind-valid : (X : Frame) (h : List Entry) → IsLegal X h → (y n : ℕ) → IsLawful X (journal X h) (Bind y n) → size_of (equation (kind_at (graph X h) y) (snapshot_at (journal X h) n).contents) ≤ row_limit
    → IsValidAt X h y (equation (kind_at (graph X h) y) (snapshot_at (journal X h) n).contents)
bind-valid X h legal y n lawful small =
    subst (λ (w : ℕ). IsValid X.nodes k w (equation k old.contents)) width
    (valid-equation X.nodes (λ x. kind_at old.graph x) k (widths old.graph) old.contents (subst (λ (d : Decl). IsFalse (is_source d.kind)) (sym same) lawful.1.process)
    narrow
    (λ x i. valid.contents x (input-declared old.graph ok y x (subst (λ (d : Decl). IsInput d.kind x) same i))) small) where
      k : Kind
      k = kind_at (graph X h) y

      old : Snapshot
      old = snapshot_at (journal X h) n

      before : IsLegal X (take n h)
      before = legal-take X h n legal

      valid : IsValidSnapshot X.nodes old
      valid = subst (λ (s : Snapshot). IsValidSnapshot X.nodes s) (sym (snapshot-take X h n)) (journal-valid X (take n h) before)

      ok : IsGraph old.graph
      ok = subst (λ (s : Snapshot). IsGraph s.graph) (sym (snapshot-take X h n)) (journal-good X (take n h) before).graph

      same : decl_at (graph X h) y ≡ decl_at old.graph y
      same = (to-now X (journal X h) (journal-good X h legal) n).kept y lawful.1.declared

      narrow : width_of k (widths old.graph) ≤ width_limit
      narrow = omega (arith, ap (λ (d : Decl). width_of d.kind (widths old.graph)) same, widths-at old.graph ok y lawful.1.declared, narrow-at old.graph ok y lawful.1.declared)

      width : width_of k (widths old.graph) ≡ width_at (widths (graph X h)) y
      width = ap (λ (d : Decl). width_of d.kind (widths old.graph)) same
          ∙ sym (widths-at old.graph ok y lawful.1.declared)
          ∙ widths-same old.graph (graph X h) ok (journal-good X h legal).graph (to-now X (journal X h) (journal-good X h legal) n).longer (to-now X (journal X h) (journal-good X h legal) n).kept y lawful.1.declared

-- what a variable that stood comes to hold is valid where there is room
pub gain-valid : (X : Frame) (h : List Entry) → IsLegal X h → (act : Act) → IsLawful X (journal X h) act → BringsValid X.nodes act → count_at (counts_after X (counts X h) act) X.replica ≤ count_limit
    → (x : ℕ) → x < length (graph X h) → size_of (with_gain (val X h x) (gain X (journal X h) act x)) ≤ row_limit → IsValidAt X h x (with_gain (val X h x) (gain X (journal X h) act x))
gain-valid X h legal (Update y op) lawful brings room x low = choose (x == y) refl where
  choose : (b : Bool) → (x == y) ≡ b → size_of (with_gain (val X h x) (if b then Some (delta op (val X h y) X.replica (count_at (counts X h) X.replica + 1)) else None)) ≤ row_limit
      → IsValidAt X h x (with_gain (val X h x) (if b then Some (delta op (val X h y) X.replica (count_at (counts X h) X.replica + 1)) else None))
  choose false e small = (journal-valid X h legal).contents x low
  choose true e small =
      let t = delta op (val X h y) X.replica (count_at (counts X h) X.replica + 1) in
      valid-join X.nodes (kind_at (graph X h) x) (width_at (widths (graph X h)) x) (val X h x) t ((journal-valid X h legal).contents x low)
      (subst (λ (z : ℕ). IsValidAt X h z t) (sym (equal-numbers x y e)) (update-valid X h legal y op lawful room)) small
gain-valid X h legal (Deliver i m) lawful brings room x low = choose (is_source (kind_at (graph X h) x)) refl where
  sent : Content
  sent = sent_at m.sources (source_number (graph X h) x)

  old : IsValidAt X h x (val X h x)
  old = (journal-valid X h legal).contents x low

  joined : is_source (kind_at (graph X h) x) ≡ true → IsSentTo X.nodes (kind_at (graph X h) x) sent → size_of (join_contents (val X h x) sent) ≤ row_limit → IsValidAt X h x (join_contents (val X h x) sent)
  joined e (inl valid) small = valid-join X.nodes (kind_at (graph X h) x) (width_at (widths (graph X h)) x) (val X h x) sent old (subst (λ (w : ℕ). IsValid X.nodes (kind_at (graph X h) x) w sent) (sym (source-width X h legal x low e)) valid) small
  joined e (inr nothing) small = subst (λ (s : Content). IsValidAt X h x s) (sym (ap (λ (t : Content). join_contents (val X h x) t) nothing ∙ join-nothing (val X h x) old.ordered)) old

  choose : (b : Bool) → is_source (kind_at (graph X h) x) ≡ b → size_of (with_gain (val X h x) (if b then Some sent else None)) ≤ row_limit → IsValidAt X h x (with_gain (val X h x) (if b then Some sent else None))
  choose true e small = joined e (sent-valid X.nodes (graph X h) m.sources lawful.1.0 x lawful.1.1 brings low e) small
  choose false e small = old
gain-valid X h legal (Bind y n) lawful brings room x low = choose (x == y) refl where
  t : Content
  t = equation (kind_at (graph X h) y) (snapshot_at (journal X h) n).contents

  choose : (b : Bool) → (x == y) ≡ b → size_of (with_gain (val X h x) (if b then Some t else None)) ≤ row_limit → IsValidAt X h x (with_gain (val X h x) (if b then Some t else None))
  choose false e small = (journal-valid X h legal).contents x low
  choose true e small =
      valid-join X.nodes (kind_at (graph X h) x) (width_at (widths (graph X h)) x) (val X h x) t ((journal-valid X h legal).contents x low)
      (subst (λ (z : ℕ). IsValidAt X h z t) (sym (equal-numbers x y e)) (bind-valid X h legal y n lawful (fewer small))) small where
        fewer : size_of (join_contents (val X h x) t) ≤ row_limit → size_of t ≤ row_limit
        fewer few = omega (arith, few, size-grows t (join_contents (val X h x) t) (equation-ordered (kind_at (graph X h) y) (snapshot_at (journal X h) n).contents (λ z i. (journal-good X h legal).tidy n z)) (ordered-join (val X h x) t) (join-right (val X h x) t))
gain-valid X h legal (Extend d) lawful brings room x low = λ small. (journal-valid X h legal).contents x low
