-- A lawful entry that brings nothing invalid leaves valid contents exactly where it stays within the limits.
use Rattle.std.proofs.Common.{◌≡◌, ℕ, ◌≤◌, ◌<◌, ◌⊎◌, inl, inr, ◌↔◌, List, [], ◌∷◌, ◌++◌, length, sym, ap, subst, ◌∙◌, arith}
use Rattle.model_states.specs.Content.{Content, least, size_of, row_limit}
use Rattle.model_graph.specs.Graph.{Decl, no_decl, decl_at, kind_at}
use Rattle.model_graph.specs.Evaluation.{least_of, content_at}
use Rattle.model_graph.specs.Lawful.{width_at, widths}
use Rattle.model_graph.proofs.PlaceLaws.{at-last, length-append, below-or-not}
use Rattle.model_graph.specs.Message.{with_gain, gained}
use Rattle.model_journal.specs.Entry.{Act, Update, Deliver, Bind, Extend, Entry, Frame}
use Rattle.model_journal.specs.Journal.{Snapshot, Journal, gain, contents_after, graph_after, snapshot_after, journal, graph, vals, val}
use Rattle.model_journal.specs.Legal.{IsValid, IsValidSnapshot, IsWithinLimits, IsLawful, BringsValid, IsLegal}
use Rattle.model_graph.proofs.MessageLaws.{gained-length}
use Rattle.model_journal.proofs.GraphLaws.{graph-keeps, graph-longer}
use Rattle.model_journal.proofs.StepLaws.{after-at}
use Rattle.model_journal.proofs.NextLaws.{next-graph}
use Rattle.model_journal.proofs.JournalLaws.{journal-push, journal-good}
use Rattle.model_journal.proofs.WidthLaws.{widths-same}
use Rattle.model_journal.proofs.ValidLaws.{valid-least_of}
use Rattle.model_journal.proofs.LegalLaws.{legal-push}
use Rattle.model_journal.proofs.KeepLaws.{gain-valid}

-- a variable that is declared has what its kind has before anything happened
new-valid : (X : Frame) (h : List Entry) → IsLegal X h → (act : Act) (x w : ℕ) → length (graph X h) ≤ x → x < length (graph_after (graph X h) act) → IsValid X.nodes (kind_at (graph_after (graph X h) act) x) w (content_at (contents_after X (journal X h) act) x)
new-valid X h legal (Update y op) x w past low = absurd (omega (arith, past, low))
new-valid X h legal (Deliver i m) x w past low = absurd (omega (arith, past, low))
new-valid X h legal (Bind y n) x w past low = absurd (omega (arith, past, low))
new-valid X h legal (Extend d) x w past low = subst (λ (c : Decl). IsValid X.nodes c.kind w (content_at (contents_after X (journal X h) (Extend d)) x)) (sym kind) (subst (λ (s : Content). IsValid X.nodes d.kind w s) (sym content) (valid-least_of X.nodes d.kind w)) where
  old : List Content
  old = gained (gain X (journal X h) (Extend d)) 0 (vals X h)

  here : x ≡ length (graph X h)
  here = omega (arith, past, low, length-append (graph X h) (d ∷ []))

  there : x ≡ length old
  there = omega (arith, here, (journal-good X h legal).shape, gained-length (gain X (journal X h) (Extend d)) 0 (vals X h))

  kind : decl_at (graph X h ++ d ∷ []) x ≡ d
  kind = ap (λ (i : ℕ). decl_at (graph X h ++ d ∷ []) i) here ∙ at-last (graph X h) d no_decl

  content : content_at (old ++ least_of X.nodes d.kind ∷ []) x ≡ least_of X.nodes d.kind
  content = ap (λ (i : ℕ). content_at (old ++ least_of X.nodes d.kind ∷ []) i) there ∙ at-last old (least_of X.nodes d.kind) least

after-valid : (X : Frame) (h : List Entry) → IsLegal X h → (act : Act) → IsLawful X (journal X h) act → BringsValid X.nodes act → IsWithinLimits (snapshot_after X (journal X h) act) → IsValidSnapshot X.nodes (snapshot_after X (journal X h) act)
after-valid X h legal act lawful brings limits = record { contents = λ x low. choose x low (below-or-not x (length g)); counts = limits.counts } where
  g : List Decl
  g = graph X h

  new : List Content
  new = contents_after X (journal X h) act

  old-valid : (x : ℕ) → x < length g → size_of (content_at new x) ≤ row_limit → IsValid X.nodes (kind_at (graph_after g act) x) (width_at (widths (graph_after g act)) x) (content_at new x)
  old-valid x low small =
      let good = journal-good X h legal in
      let stood : content_at new x ≡ with_gain (val X h x) (gain X (journal X h) act x) = after-at X (journal X h) act x (omega (arith, low, good.shape)) in
      let wide : width_at (widths g) x ≡ width_at (widths (graph_after g act)) x = widths-same g (graph_after g act) good.graph (next-graph X (journal X h) act good lawful) (graph-longer g act) (graph-keeps g act) x low in
      subst (λ (d : Decl). IsValid X.nodes d.kind (width_at (widths (graph_after g act)) x) (content_at new x)) (sym (graph-keeps g act x low))
      (subst (λ (w : ℕ). IsValid X.nodes (kind_at g x) w (content_at new x)) wide
      (subst (λ (s : Content). IsValid X.nodes (kind_at g x) (width_at (widths g) x) s) (sym stood)
      (gain-valid X h legal act lawful brings (limits.counts X.replica) x low (subst (λ (s : Content). size_of s ≤ row_limit) stood small))))

  choose : (x : ℕ) → x < length (graph_after g act) → (x < length g) ⊎ (length g ≤ x) → IsValid X.nodes (kind_at (graph_after g act) x) (width_at (widths (graph_after g act)) x) (content_at new x)
  choose x low (inl stood) = old-valid x stood (limits.few x low)
  choose x low (inr past) = new-valid X h legal act x (width_at (widths (graph_after g act)) x) past low

pub step-valid : (X : Frame) (h : List Entry) → IsLegal X h → (e : Entry) → IsLawful X (journal X h) e.act → BringsValid X.nodes e.act → IsValidSnapshot X.nodes (journal X (h ++ e ∷ [])).now ↔ IsWithinLimits (journal X (h ++ e ∷ [])).now
step-valid X h legal e lawful brings = (λ valid. record { few = λ x low. (valid.contents x low).few; counts = valid.counts }, λ limits. back limits) where
  new : (journal X (h ++ e ∷ [])).now ≡ snapshot_after X (journal X h) e.act
  new = ap (λ (j : Journal). j.now) (journal-push X h e)

  back : IsWithinLimits (journal X (h ++ e ∷ [])).now → IsValidSnapshot X.nodes (journal X (h ++ e ∷ [])).now
  back limits = subst (λ (s : Snapshot). IsValidSnapshot X.nodes s) (sym new) (after-valid X h legal e.act lawful brings (subst (λ (s : Snapshot). IsWithinLimits s) new limits))

pub step-legal : (X : Frame) (h : List Entry) → IsLegal X h → (e : Entry) → IsLawful X (journal X h) e.act → BringsValid X.nodes e.act → IsWithinLimits (journal X (h ++ e ∷ [])).now → IsLegal X (h ++ e ∷ [])
step-legal X h legal e lawful brings limits = legal-push X h e legal lawful ((step-valid X h legal e lawful brings).1 limits)
