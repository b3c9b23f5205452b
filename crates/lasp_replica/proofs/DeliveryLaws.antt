-- What a replica keeps where a message was joined in.
use Rattle.std.proofs.Common.{◌≡◌, ℕ, ◌<◌, Bool, true, false, if◌then◌else◌, List, [], ◌∷◌, ◌++◌, length, Some, None, refl, sym, ap, subst, ◌∙◌, append-nil}
use Rattle.model_states.specs.Counts.{larger}
use Rattle.model_states.specs.Content.{Content, join_contents, IsContentAtMost, is_content_at_most}
use Rattle.model_states.proofs.ContentLaws.{at_most-from-test, test-from-at_most}
use Rattle.model_graph.specs.Graph.{Decl, is_source, kind_at}
use Rattle.model_graph.specs.Message.{Message, sent_at, source_number, brought, gained}
use Rattle.model_journal.specs.Entry.{Deliver, Entry, Frame}
use Rattle.model_journal.specs.Journal.{Snapshot, graph, vals, val}
use Rattle.model_journal.specs.Legal.{IsLegal}
use Rattle.model_journal.proofs.EntryLaws.{deliver-source, deliver-derived, deliver-counts, pushed}
use Rattle.model_core.proofs.PeerLaws.{graph-delivered}
use Rattle.model_core.proofs.BaseLaws.{base-delivered}
use Rattle.lasp_replica.specs.History.{IsHistory}
use Rattle.lasp_graph.specs.States.{held_at}
use Rattle.lasp_replica.specs.Parts.{Parts, history_at, IsKept}
use Rattle.lasp_replica.specs.TakenIn.{IsTakenIn, IsInOrder}
use Rattle.lasp_replica.proofs.PartLaws.{history-alike, kept-step}
use Rattle.lasp_replica.proofs.OneLaws.{declared-there, kept-joined, kept-covered}

-- the contents after a delivery
deliver-vals : (X : Frame) (h : List Entry) (e : Entry) (i : ℕ) (m : Message) → e.act ≡ Deliver i m → vals X (h ++ e ∷ []) ≡ gained (brought (graph X h) m) 0 (vals X h)
deliver-vals X h e i m act = ap (λ (s : Snapshot). s.contents) (pushed X h e (Deliver i m) act) ∙ append-nil (gained (brought (graph X h) m) 0 (vals X h))

delivered-history : (X : Frame) (h : List Entry) → IsLegal X h → (e : Entry) (i : ℕ) (m : Message) → e.act ≡ Deliver i m → (p q : Parts) → IsKept X h p → IsInOrder m p → IsTakenIn m (length h) p q
    → (x : ℕ) → x < length p.graph → IsHistory X (h ++ e ∷ []) x (history_at q.histories x)
delivered-history X h legal e i m act p q is order taken x low = choose (is_source (kind_at p.graph x)) refl where
  sent : Content
  sent = sent_at m.sources (source_number p.graph x)

  brings : (b : Bool) → is_source (kind_at p.graph x) ≡ b → brought p.graph m x ≡ (if b then Some sent else None)
  brings b source = ap (λ (c : Bool). if c then Some sent else None) source

  joined : is_source (kind_at p.graph x) ≡ true → val X (h ++ e ∷ []) x ≡ join_contents (val X h x) sent
  joined source =
      deliver-source X h legal e i m act x (declared-there X h p is x low) (ap (λ (g : List Decl). is_source (kind_at g x)) (sym is.graph) ∙ source)
      ∙ ap (λ (g : List Decl). join_contents (val X h x) (sent_at m.sources (source_number g x))) (sym is.graph)

  only : is_source (kind_at p.graph x) ≡ true → (c : Content) → brought p.graph m x ≡ Some c → sent ≡ c
  only source c is = let both : Some sent ≡ Some c = sym (brings true source) ∙ is in cc

  test : is_source (kind_at p.graph x) ≡ true → (b : Bool) → is_content_at_most sent (held_at p.states x).content ≡ b → IsHistory X (h ++ e ∷ []) x (history_at q.histories x)
  test source true covered =
      let low-sent : IsContentAtMost sent (held_at p.states x).content = at_most-from-test sent (held_at p.states x).content covered in
      subst (IsHistory X (h ++ e ∷ []) x) (sym (taken.histories.still x low (λ c one. subst (λ (s : Content). IsContentAtMost s (held_at p.states x).content) (only source c one) low-sent)))
      (kept-covered X h legal e p is x low sent (joined source) low-sent)
  test source false more =
      let grew : IsContentAtMost sent (held_at p.states x).content → ⊥ = λ below. (let both : true ≡ false = sym (test-from-at_most sent (held_at p.states x).content below) ∙ more in cc) in
      let made = taken.histories.grew x low sent (brings true source) grew in
      subst (IsHistory X (h ++ e ∷ []) x) (sym made.2)
      (kept-joined X h e p is x low sent (joined source) grew made.0 made.1)

  choose : (b : Bool) → is_source (kind_at p.graph x) ≡ b → IsHistory X (h ++ e ∷ []) x (history_at q.histories x)
  choose true source = test source (is_content_at_most sent (held_at p.states x).content) refl
  choose false derived =
      subst (IsHistory X (h ++ e ∷ []) x) (sym (taken.histories.still x low (λ c one. absurd (let both : None ≡ Some c = sym (brings false derived) ∙ one in cc))))
      (history-alike X h e x (history_at p.histories x) (is.histories x low) (declared-there X h p is x low)
      (deliver-derived X h legal e i m act x (record { declared = declared-there X h p is x low; process = ap (λ (g : List Decl). is_source (kind_at g x)) (sym is.graph) ∙ derived })))

pub kept-delivered : (X : Frame) (h : List Entry) → IsLegal X h → (e : Entry) (i : ℕ) (m : Message) → e.act ≡ Deliver i m → (p q : Parts) → IsKept X h p → IsInOrder m p → IsTakenIn m (length h) p q → IsKept X (h ++ e ∷ []) q
kept-delivered X h legal e i m act p q is order taken =
    kept-step X h legal e p is q (graph-delivered X h e i m act) (λ y low. base-delivered X h e i m y act) taken.graph taken.bases
    (taken.counts ∙ ap (λ (cs : List ℕ). larger cs m.counts) is.counts ∙ sym (deliver-counts X h e i m act))
    (taken.contents ∙ (λ j. gained (brought (is.graph j) m) 0 (is.contents j)) ∙ sym (deliver-vals X h e i m act))
    taken.shapes taken.derived taken.histories.many
    (delivered-history X h legal e i m act p q is order taken)
