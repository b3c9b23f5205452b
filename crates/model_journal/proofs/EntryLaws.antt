-- What one more entry changes, kind by kind, and which entries are legal after legal ones.
use Rattle.std.proofs.Common.{◌≡◌, ℕ, ◌+◌, ◌<◌, Bool, true, false, IsTrue, if◌then◌else◌, ◌==◌, List, [], ◌∷◌, ◌++◌, length, take, slice_set, Option, Some, None, refl, sym, ap, subst, ◌∙◌, arith, append-nil, append_assoc}
use Rattle.std.proofs.lemmas.Bool.Decides.{nat_tests}
use Rattle.std.proofs.lemmas.List.{length-set, get_or-set_same, get_or-set_other}
use Rattle.model_states.specs.Counts.{count_at, larger}
use Rattle.model_states.specs.Content.{Content, least, join_contents, IsContentAtMost, is_content_at_most}
use Rattle.model_states.specs.Update.{Op, delta}
use Rattle.model_states.proofs.ContentLaws.{test-from-at_most, at_most-from-test}
use Rattle.model_graph.specs.Graph.{Decl, is_source, kind_at}
use Rattle.model_graph.specs.Evaluation.{least_of, content_at, equation}
use Rattle.model_graph.specs.Lawful.{IsDerived}
use Rattle.model_graph.proofs.PlaceLaws.{equal-numbers, same-lists}
use Rattle.model_graph.specs.Message.{Message, sent_at, source_number, with_gain, gained}
use Rattle.model_journal.specs.Entry.{Act, Update, Deliver, Bind, Extend, Entry, Frame}
use Rattle.model_journal.specs.Journal.{Snapshot, Journal, snapshot_at, gain, graph_after, version_after, snapshot_after, next, run, start, journal, graph, vals, val, counts, declared_by, declared}
use Rattle.model_journal.specs.Clean.{version}
use Rattle.model_journal.specs.Legal.{IsLegal}
use Rattle.model_graph.proofs.MessageLaws.{gained-length, gained-at}
use Rattle.model_journal.proofs.StepLaws.{after-at}
use Rattle.model_journal.proofs.JournalLaws.{journal-push, journal-good}
use Rattle.model_journal.proofs.CleanLaws.{snapshot-take}

-- ---- contents

one-gained : (y : ℕ) (c : Content) (ss : List Content) → y < length ss → (gains : ℕ → Option Content) → ((x : ℕ) → gains x ≡ (if x == y then Some c else None)) → gained gains 0 ss ++ [] ≡ slice_set ss y (join_contents (content_at ss y) c)
one-gained y c ss low gains only = append-nil (gained gains 0 ss) ∙ same-lists (gained gains 0 ss) (slice_set ss y (join_contents (content_at ss y) c)) least
    (gained-length gains 0 ss ∙ sym (length-set ss y (join_contents (content_at ss y) c)))
    (λ x h. at x (omega (arith, h, gained-length gains 0 ss))) where
      choose : (x : ℕ) (b : Bool) → (x == y) ≡ b → with_gain (content_at ss x) (if b then Some c else None) ≡ content_at (slice_set ss y (join_contents (content_at ss y) c)) x
      choose x true e = subst (λ (z : ℕ). with_gain (content_at ss z) (Some c) ≡ content_at (slice_set ss y (join_contents (content_at ss y) c)) z) (sym (equal-numbers x y e))
          (sym (get_or-set_same ss y (join_contents (content_at ss y) c) least low))
      choose x false e = sym (get_or-set_other ss y x (join_contents (content_at ss y) c) least (λ p. grind (arith, nat_tests, e, p)))

      at : (x : ℕ) → x < length ss → content_at (gained gains 0 ss) x ≡ content_at (slice_set ss y (join_contents (content_at ss y) c)) x
      at x h =
          let here : 0 + x ≡ x = omega arith in
          gained-at gains 0 ss x h ∙ ap (λ (i : ℕ). with_gain (content_at ss x) (gains i)) here ∙ ap (λ (o : Option Content). with_gain (content_at ss x) o) (only x) ∙ choose x (x == y) refl

none-gained : (n : ℕ) (ss : List Content) → gained (λ x. None) n ss ≡ ss
none-gained n [] = refl
none-gained n (s ∷ ss) = ap (λ (ts : List Content). s ∷ ts) (none-gained (n + 1) ss)

-- the snapshot after one more entry
pub pushed : (X : Frame) (h : List Entry) (e : Entry) (act : Act) → e.act ≡ act → (journal X (h ++ e ∷ [])).now ≡ snapshot_after X (journal X h) act
pushed X h e act is = ap (λ (j : Journal). j.now) (journal-push X h e) ∙ ap (λ (a : Act). snapshot_after X (journal X h) a) is

pub update-vals : (X : Frame) (h : List Entry) → IsLegal X h → (e : Entry) (y : ℕ) (op : Op) → e.act ≡ Update y op → y < length (graph X h)
    → vals X (h ++ e ∷ []) ≡ slice_set (vals X h) y (join_contents (val X h y) (delta op (val X h y) X.replica (count_at (counts X h) X.replica + 1)))
update-vals X h legal e y op is low =
    ap (λ (s : Snapshot). s.contents) (pushed X h e (Update y op) is)
    ∙ one-gained y (delta op (val X h y) X.replica (count_at (counts X h) X.replica + 1)) (vals X h) (omega (arith, low, (journal-good X h legal).shape)) (gain X (journal X h) (Update y op)) (λ x. refl)

pub update-counts : (X : Frame) (h : List Entry) (e : Entry) (y : ℕ) (op : Op) → e.act ≡ Update y op → counts X (h ++ e ∷ []) ≡ slice_set (counts X h) X.replica (count_at (counts X h) X.replica + 1)
update-counts X h e y op is = ap (λ (s : Snapshot). s.counts) (pushed X h e (Update y op) is)

pub bind-vals : (X : Frame) (h : List Entry) → IsLegal X h → (e : Entry) (y n : ℕ) → e.act ≡ Bind y n → y < length (graph X h)
    → vals X (h ++ e ∷ []) ≡ slice_set (vals X h) y (join_contents (val X h y) (equation (kind_at (graph X h) y) (vals X (take n h))))
bind-vals X h legal e y n is low =
    ap (λ (s : Snapshot). s.contents) (pushed X h e (Bind y n) is)
    ∙ one-gained y (equation (kind_at (graph X h) y) (snapshot_at (journal X h) n).contents) (vals X h) (omega (arith, low, (journal-good X h legal).shape)) (gain X (journal X h) (Bind y n)) (λ x. refl)
    ∙ ap (λ (s : Snapshot). slice_set (vals X h) y (join_contents (val X h y) (equation (kind_at (graph X h) y) s.contents))) (snapshot-take X h n)

pub bind-counts : (X : Frame) (h : List Entry) (e : Entry) (y n : ℕ) → e.act ≡ Bind y n → counts X (h ++ e ∷ []) ≡ counts X h
bind-counts X h e y n is = ap (λ (s : Snapshot). s.counts) (pushed X h e (Bind y n) is)

pub deliver-source : (X : Frame) (h : List Entry) → IsLegal X h → (e : Entry) (i : ℕ) (m : Message) → e.act ≡ Deliver i m → (x : ℕ) → x < length (graph X h) → IsTrue (is_source (kind_at (graph X h) x))
    → val X (h ++ e ∷ []) x ≡ join_contents (val X h x) (sent_at m.sources (source_number (graph X h) x))
deliver-source X h legal e i m is x low source =
    ap (λ (s : Snapshot). content_at s.contents x) (pushed X h e (Deliver i m) is)
    ∙ after-at X (journal X h) (Deliver i m) x (omega (arith, low, (journal-good X h legal).shape))
    ∙ ap (λ (b : Bool). with_gain (val X h x) (if b then Some (sent_at m.sources (source_number (graph X h) x)) else None)) source

pub deliver-derived : (X : Frame) (h : List Entry) → IsLegal X h → (e : Entry) (i : ℕ) (m : Message) → e.act ≡ Deliver i m → (x : ℕ) → IsDerived (graph X h) x → val X (h ++ e ∷ []) x ≡ val X h x
deliver-derived X h legal e i m is x d =
    ap (λ (s : Snapshot). content_at s.contents x) (pushed X h e (Deliver i m) is)
    ∙ after-at X (journal X h) (Deliver i m) x (omega (arith, d.declared, (journal-good X h legal).shape))
    ∙ ap (λ (b : Bool). with_gain (val X h x) (if b then Some (sent_at m.sources (source_number (graph X h) x)) else None)) d.process

pub deliver-counts : (X : Frame) (h : List Entry) (e : Entry) (i : ℕ) (m : Message) → e.act ≡ Deliver i m → counts X (h ++ e ∷ []) ≡ larger (counts X h) m.counts
deliver-counts X h e i m is = ap (λ (s : Snapshot). s.counts) (pushed X h e (Deliver i m) is)

pub extend-vals : (X : Frame) (h : List Entry) (e : Entry) (d : Decl) → e.act ≡ Extend d → vals X (h ++ e ∷ []) ≡ vals X h ++ least_of X.nodes d.kind ∷ []
extend-vals X h e d is = ap (λ (s : Snapshot). s.contents) (pushed X h e (Extend d) is) ∙ ap (λ (ss : List Content). ss ++ least_of X.nodes d.kind ∷ []) (none-gained 0 (vals X h))

pub extend-counts : (X : Frame) (h : List Entry) (e : Entry) (d : Decl) → e.act ≡ Extend d → counts X (h ++ e ∷ []) ≡ counts X h
extend-counts X h e d is = ap (λ (s : Snapshot). s.counts) (pushed X h e (Extend d) is)

-- ---- the graph

graph-next : (g : List Decl) (act : Act) → graph_after g act ≡ g ++ declared_by act
graph-next g (Update y op) = sym (append-nil g)
graph-next g (Deliver i m) = sym (append-nil g)
graph-next g (Bind y n) = sym (append-nil g)
graph-next g (Extend d) = refl

run-graph : (X : Frame) (j : Journal) (h : List Entry) → (run X j h).now.graph ≡ j.now.graph ++ declared h
run-graph X j [] = sym (append-nil j.now.graph)
run-graph X j (e ∷ h) =
    run-graph X (next X j e) h
    ∙ ap (λ (g : List Decl). g ++ declared h) (graph-next j.now.graph e.act)
    ∙ append_assoc j.now.graph (declared_by e.act) (declared h)

pub graph-is : (X : Frame) (h : List Entry) → graph X h ≡ X.opening ++ declared h
graph-is X h = run-graph X (start X) h

-- ---- versions

version-at : (X : Frame) (h : List Entry) (e : Entry) (x : ℕ) → version X (h ++ e ∷ []) x ≡ version_after (version X h x) (val X h x) (val X (h ++ e ∷ []) x)
version-at X h e x =
    let there : (journal X (h ++ e ∷ [])).now ≡ snapshot_after X (journal X h) e.act = pushed X h e e.act refl in
    ap (λ (s : Snapshot). s.versions x) there ∙ ap (λ (s : Snapshot). version_after (version X h x) (val X h x) (content_at s.contents x)) (sym there)

pub version-still : (X : Frame) (h : List Entry) (e : Entry) (x : ℕ) → IsContentAtMost (val X (h ++ e ∷ []) x) (val X h x) → version X (h ++ e ∷ []) x ≡ version X h x
version-still X h e x low =
    version-at X h e x ∙ ap (λ (b : Bool). if b then version X h x else version X h x + 1) (test-from-at_most (val X (h ++ e ∷ []) x) (val X h x) low)

pub version-up : (X : Frame) (h : List Entry) (e : Entry) (x : ℕ) → (IsContentAtMost (val X (h ++ e ∷ []) x) (val X h x) → ⊥) → version X (h ++ e ∷ []) x ≡ version X h x + 1
version-up X h e x grew = version-at X h e x ∙ choose (is_content_at_most (val X (h ++ e ∷ []) x) (val X h x)) refl where
  choose : (b : Bool) → is_content_at_most (val X (h ++ e ∷ []) x) (val X h x) ≡ b → (if b then version X h x else version X h x + 1) ≡ version X h x + 1
  choose true t = absurd (grew (at_most-from-test (val X (h ++ e ∷ []) x) (val X h x) t))
  choose false t = refl

pub version-start : (X : Frame) (x : ℕ) → version X [] x ≡ 0
version-start X x = refl

pub ruleset updates = (update-vals, update-counts)

pub ruleset deliveries = (deliver-source, deliver-derived, deliver-counts)

pub ruleset binds = (bind-vals, bind-counts)

pub ruleset declarations = (extend-vals, extend-counts, graph-is)

pub ruleset versions = (version-start, version-still, version-up)
