-- What a node that runs beside others is refused for: want of memory alone.
use Rattle.std.proofs.Common.{◌≡◌, ℕ, Bool, true, false, if◌then◌else◌, List, [], ◌∷◌, zero, suc, length, map, Some, None, sym, ap, subst, ◌∙◌, append-nil}
use Rattle.model_core.proofs.ValidLaws.{val-ordered}
use Rattle.model_graph.specs.Evaluation.{content_at, eval, first_large}
use Rattle.model_graph.specs.Graph.{Decl, is_source}
use Rattle.model_graph.specs.Lawful.{IsGraph}
use Rattle.model_graph.specs.Message.{Message, brought, gained}
use Rattle.model_journal.specs.Callers.{AreMadeByTheirCallers}
use Rattle.model_journal.specs.Entry.{Entry, Frame}
use Rattle.model_journal.specs.Journal.{graph, sources, sources_from, vals}
use Rattle.model_journal.specs.Legal.{IsLegal}
use Rattle.model_journal.proofs.CleanLaws.{vals-length}
use Rattle.model_journal.proofs.JournalLaws.{journal-graph}
use Rattle.model_runs.specs.Calls.{frame_of}
use Rattle.model_states.specs.Content.{Content, IsOrdered, least}
use Rattle.model_states.proofs.ContentLaws.{ordered-least}
use Rattle.model_world.specs.Command.{Script}
use Rattle.model_live.specs.Knows.{Knows}
use Rattle.model_live.specs.Letter.{IsLetter}
use Rattle.model_live.specs.Together.{too_large}
use Rattle.model_live.proofs.BoundLaws.{letter-small, settled-small}
use Rattle.model_live.proofs.EndLaws.{kept-results}
use Rattle.model_live.proofs.FullLaws.{full-ordered}
use Rattle.model_live.proofs.HearLaws.{graph-opens, vals-within}
use Rattle.model_live.proofs.KnowLaws.{knows-results}
use Rattle.lasp_replica.specs.Replica.{IsOfGraph}
use Rattle.lasp_live.specs.Turns.{AreSmall, Learns}

-- ---- settling

sources-ordered : (g : List Decl) (ss : List Content) → ((x : ℕ) → IsOrdered (content_at ss x)) → (x : ℕ) → IsOrdered (content_at (sources_from g ss) x)
sources-ordered [] ss up x = ordered-least
sources-ordered (d ∷ g) [] up x = ordered-least
sources-ordered (d ∷ g) (s ∷ ss) up zero = choose (is_source d.kind) where
  choose : (b : Bool) → IsOrdered (if b then s else least)
  choose true = up zero
  choose false = ordered-least
sources-ordered (d ∷ g) (s ∷ ss) up (suc x) = sources-ordered g ss (λ y. up (suc y)) x

-- of what such a node knows no variable is too large
pub small-known : (g : List Decl) (script : Script) (p made : ℕ) (counted : ℕ → ℕ) (X : Frame) (h : List Entry) → X ≡ frame_of g script.nodes p → too_large g script ≡ None → Knows g script p made counted h → AreSmall X h
small-known g script p made counted X h is none k = subst (λ (Z : Frame). AreSmall Z h) (sym is) small where
  opens : graph (frame_of g script.nodes p) h ≡ g
  opens = graph-opens (frame_of g script.nodes p) h k.undeclared

  small : AreSmall (frame_of g script.nodes p) h
  small = subst (λ (l : List Decl). first_large 0 (eval l (sources (frame_of g script.nodes p) h)) ≡ None) (sym opens)
      (settled-small g script (subst IsGraph opens (journal-graph (frame_of g script.nodes p) h k.legal)) none (full-ordered g script) (sources (frame_of g script.nodes p) h)
      (sources-ordered (graph (frame_of g script.nodes p) h) (vals (frame_of g script.nodes p) h) (val-ordered (frame_of g script.nodes p) h k.legal)) k.within)

-- and none comes to be by results
pub never-large : (X Y : Frame) (h new : List Entry) (x : ℕ) → Y ≡ X → Learns h new → IsLegal Y new → AreSmall X h → first_large 0 (eval (graph Y new) (sources Y new)) ≡ Some x → ⊥
never-large X Y h new x same learned legal small large =
    let kept = kept-results X h learned.more (subst (IsLegal X) learned.is (subst (λ (Z : Frame). IsLegal Z new) same legal)) learned.results in
    let still : first_large 0 (eval (graph Y new) (sources Y new)) ≡ first_large 0 (eval (graph X h) (sources X h)) =
    ap (λ (Z : Frame). first_large 0 (eval (graph Z new) (sources Z new))) same
    ∙ ap (λ (l : List Entry). first_large 0 (eval (graph X l) (sources X l))) learned.is
    ∙ (λ i. first_large 0 (eval (kept.graph_is i) (kept.peer i).contents)) in
    let both : Some x ≡ None = sym large ∙ still ∙ small in cc

-- ---- letters

module _ (g : List Decl) (script : Script) (p made : ℕ) (counted : ℕ → ℕ) (X Y : Frame) (h new : List Entry) (m : Message) where
  abbrev Z : Frame
  Z = frame_of g script.nodes p

  known-later : Y ≡ Z → Knows g script p made counted h → Learns h new → IsLegal Y new → AreMadeByTheirCallers new → Knows g script p made counted new
  known-later is k learned legal callers =
      subst (Knows g script p made counted) (sym learned.is)
      (knows-results g script p made counted h learned.more k (subst (IsLegal Z) learned.is (subst (λ (F : Frame). IsLegal F new) is legal)) (subst AreMadeByTheirCallers learned.is callers) learned.results)

  -- a letter is of the graph
  pub never-wrong : X ≡ Z → Y ≡ X → Knows g script p made counted h → Learns h new → IsLegal Y new → AreMadeByTheirCallers new → IsLetter g script m → (IsOfGraph X.nodes (graph X new) m → ⊥) → ⊥
  never-wrong is same k learned legal callers letter wrong =
      let later = known-later (same ∙ is) k learned legal callers in
      let opens : graph Z new ≡ g = graph-opens Z new later.undeclared in
      let of : IsOfGraph Z.nodes (graph Z new) m = subst (λ (l : List Decl). IsOfGraph Z.nodes l m) (sym opens) (letter.wide, ([], append-nil (map (λ s. s.decl) m.sources) ∙ letter.sources)) in
      wrong (subst (λ (F : Frame). IsOfGraph F.nodes (graph F new) m) (sym is) of)

  -- and leaves no variable too large
  pub never-full : X ≡ Z → Y ≡ X → Knows g script p made counted h → Learns h new → IsLegal Y new → AreMadeByTheirCallers new → IsLetter g script m → too_large g script ≡ None
      → (x : ℕ) → first_large 0 (gained (brought (graph X new) m) 0 (vals X new)) ≡ Some x → ⊥
  never-full is same k learned legal callers letter none x large =
      let later = known-later (same ∙ is) k learned legal callers in
      let opens : graph Z new ≡ g = graph-opens Z new later.undeclared in
      let small : first_large 0 (gained (brought g m) 0 (vals Z new)) ≡ None =
      letter-small g script none (full-ordered g script) (vals Z new) (vals-length Z new later.legal ∙ ap (λ (l : List Decl). length l) opens) (val-ordered Z new later.legal)
      (vals-within g script p new later.legal later.undeclared later.within) m letter in
      let here : first_large 0 (gained (brought (graph X new) m) 0 (vals X new)) ≡ None =
      ap (λ (F : Frame). first_large 0 (gained (brought (graph F new) m) 0 (vals F new))) is ∙ ap (λ (l : List Decl). first_large 0 (gained (brought l m) 0 (vals Z new))) opens ∙ small in
      let both : Some x ≡ None = sym large ∙ here in cc
