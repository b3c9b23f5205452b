-- What a node that hears letters goes on knowing.
use Rattle.std.proofs.Common.{◌≡◌, ℕ, ◌+◌, ◌<◌, ◌≤◌, Bool, true, false, if◌then◌else◌, List, [], ◌∷◌, ◌++◌, length, refl, sym, ap, subst, ◌∙◌, append-nil}
use Rattle.std.specs.Prelude.{◌≢◌}
use Rattle.model_states.specs.Counts.{count_at}
use Rattle.model_graph.specs.Evaluation.{content_at}
use Rattle.model_graph.specs.Graph.{Counter, Decl, kind_at}
use Rattle.model_journal.specs.Callers.{AreMadeByTheirCallers}
use Rattle.model_journal.specs.Entry.{Deliver, Entry, Frame}
use Rattle.model_journal.specs.Journal.{declared, graph, vals}
use Rattle.model_journal.specs.Legal.{IsLegal}
use Rattle.model_journal.proofs.CleanLaws.{vals-length}
use Rattle.model_journal.proofs.LegalLaws.{legal-first}
use Rattle.model_core.specs.Peer.{peer_of}
use Rattle.model_core.proofs.SourceLaws.{sources-length}
use Rattle.model_graph.specs.Message.{Message}
use Rattle.model_runs.specs.Calls.{fed, frame_of, unbound}
use Rattle.model_world.specs.Command.{Script}
use Rattle.model_world.specs.World.{Peer, delivered}
use Rattle.model_live.specs.Knows.{Knows}
use Rattle.model_live.specs.Letter.{IsLetter, IsNews}
use Rattle.model_live.specs.Lived.{numbers_of_one, first_number, is_of, heard_of, IsOfAnother, AreOfOthers}
use Rattle.model_live.specs.Together.{own_updates, AreWithin}
use Rattle.model_live.proofs.BoundLaws.{gained-below}
use Rattle.model_live.proofs.HearLaws.{results-peer, graph-opens, others-kept, delivered-peer, made-kept, totals-kept, counted-kept}
use Rattle.model_live.proofs.NumberLaws.{heard-append, own-number, one-sender}
use Rattle.model_live.proofs.StoryLaws.{declared-append, results-quiet}

-- ---- what is heard

heard-one : (q i : ℕ) (m : Message) (b : Bool) → is_of q i ≡ b → heard_of q (fed (Deliver i m) ∷ []) ≡ (if b then (i, m) ∷ [] else []) ++ []
unfolding heard_of
heard-one q i m b is = ap (λ (c : Bool). (if c then (i, m) ∷ [] else []) ++ []) is

pub heard-next : (h : List Entry) (q k : ℕ) (m : Message) → k < numbers_of_one → heard_of q (h ++ fed (Deliver (first_number q + k) m) ∷ []) ≡ heard_of q h ++ (first_number q + k, m) ∷ []
heard-next h q k m low =
    let one : heard_of q (fed (Deliver (first_number q + k) m) ∷ []) ≡ (first_number q + k, m) ∷ [] = heard-one q (first_number q + k) m true (own-number q k low) in
    heard-append q h (fed (Deliver (first_number q + k) m) ∷ []) ∙ ap (λ (l : List (ℕ × Message)). heard_of q h ++ l) one

pub heard-apart : (h : List Entry) (q r k : ℕ) (m : Message) → k < numbers_of_one → r ≢ q → heard_of r (h ++ fed (Deliver (first_number q + k) m) ∷ []) ≡ heard_of r h
heard-apart h q r k m low other =
    let none : heard_of r (fed (Deliver (first_number q + k) m) ∷ []) ≡ [] = heard-one r (first_number q + k) m false (choose (is_of r (first_number q + k)) refl) in
    heard-append r h (fed (Deliver (first_number q + k) m) ∷ []) ∙ ap (λ (l : List (ℕ × Message)). heard_of r h ++ l) none ∙ append-nil (heard_of r h) where
      choose : (b : Bool) → is_of r (first_number q + k) ≡ b → is_of r (first_number q + k) ≡ false
      choose true e = absurd (other (one-sender r q (first_number q + k) e (own-number q k low)))
      choose false e = e

-- ---- what is known

pub others-next : (nodes p : ℕ) (h : List Entry) (e : Entry) → AreOfOthers nodes p h → IsOfAnother nodes p e.act → AreOfOthers nodes p (h ++ e ∷ [])
others-next nodes p [] e others one = (one, tt)
others-next nodes p (f ∷ h) e others one = (others.0, others-next nodes p h e others.1 one)

module _ (g : List Decl) (script : Script) (p made : ℕ) (counted : ℕ → ℕ) where
  abbrev X : Frame
  X = frame_of g script.nodes p

  -- what is known of a peer of the world is known of a journal that makes it
  pub known-of : (h : List Entry) (r : Peer) → peer_of X h ≡ r → IsLegal X h → AreMadeByTheirCallers h → declared h ≡ [] → count_at r.counts p ≡ made
      → ((x : ℕ) → x < length g → kind_at g x ≡ Counter → count_at (content_at r.contents x).counts p ≡ counted x)
      → ((q : ℕ) → q < script.nodes → count_at r.counts q ≤ own_updates g script q) → AreWithin g script r.contents → AreOfOthers script.nodes p h → Knows g script p made counted h
  known-of h r is legal callers none updates totals known within others = record {
    legal = legal;
    callers = callers;
    undeclared = none;
    updates = ap (λ (t : Peer). count_at t.counts p) is ∙ updates;
    totals = λ x low counter. ap (λ (t : Peer). count_at (content_at t.contents x).counts p) is ∙ totals x low counter;
    known = λ q low. subst (λ (t : Peer). count_at t.counts q ≤ own_updates g script q) (sym is) (known q low);
    within = subst (λ (t : Peer). AreWithin g script t.contents) (sym is) within;
    others = others;
  }

  pub knows-results : (h more : List Entry) → Knows g script p made counted h → IsLegal X (h ++ more) → AreMadeByTheirCallers (h ++ more) → unbound more ≡ [] → Knows g script p made counted (h ++ more)
  knows-results h more k legal callers results =
      known-of (h ++ more) (peer_of X h) (results-peer X h more legal results) legal callers
      (declared-append h more ∙ ap (λ (l : List Decl). declared h ++ l) (results-quiet more results).1 ∙ append-nil (declared h) ∙ k.undeclared) k.updates k.totals k.known k.within (others-kept script.nodes p h more results k.others)

  pub knows-letter : (h : List Entry) (q j : ℕ) (m : Message) → Knows g script p made counted h → IsLetter g script m → IsNews g p made counted m → q < script.nodes → q ≢ p → j < numbers_of_one
      → IsLegal X (h ++ fed (Deliver (first_number q + j) m) ∷ []) → AreMadeByTheirCallers (h ++ fed (Deliver (first_number q + j) m) ∷ []) → Knows g script p made counted (h ++ fed (Deliver (first_number q + j) m) ∷ [])
  knows-letter h q j m k letter news member other low legal callers =
      let e : Entry = fed (Deliver (first_number q + j) m) in
      let r : Peer = peer_of X h in
      let opens : graph X h ≡ g = graph-opens X h k.undeclared in
      let first : IsLegal X h = legal-first X h (e ∷ []) legal in
      let size : length r.contents ≡ length g = sources-length (graph X h) (vals X h) (vals-length X h first) ∙ ap (λ (l : List Decl). length l) opens in
      known-of (h ++ e ∷ []) (delivered g m r) (delivered-peer X h (first_number q + j) m legal ∙ ap (λ (l : List Decl). delivered l m r) opens) legal callers
      (declared-append h (e ∷ []) ∙ append-nil (declared h) ∙ k.undeclared) (made-kept g p made counted m r news k.updates) (totals-kept g p made counted m r news size k.totals) (counted-kept g script m r letter k.known)
      (gained-below g script m letter r.contents size k.within) (others-next script.nodes p h e k.others (q, member, other, own-number q j low))
