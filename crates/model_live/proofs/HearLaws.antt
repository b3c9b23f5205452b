-- What a node knows as its journal goes on.
use Rattle.std.proofs.Common.{◌≡◌, ℕ, ◌+◌, ◌<◌, ◌≤◌, Bool, if◌then◌else◌, IsTrue, List, [], ◌∷◌, ◌++◌, length, Some, None, refl, sym, ap, subst, ◌∙◌, append-nil, arith}
use Rattle.model_states.specs.Content.{Content, join_contents, IsContentAtMost}
use Rattle.model_states.specs.Counts.{count_at}
use Rattle.model_states.specs.Update.{Op}
use Rattle.model_states.proofs.ContentLaws.{at_most-chain}
use Rattle.model_states.proofs.CountLaws.{count_at-larger}
use Rattle.model_graph.specs.Evaluation.{content_at, eval}
use Rattle.model_graph.specs.Graph.{Counter, Decl, is_source, kind_at}
use Rattle.model_graph.specs.Lawful.{IsGraph}
use Rattle.model_graph.proofs.EvalLaws.{eval-monotone}
use Rattle.model_journal.specs.Entry.{Act, Update, Deliver, Entry, Frame}
use Rattle.model_journal.specs.Journal.{declared, graph, sources, vals}
use Rattle.model_journal.specs.Legal.{IsLegal}
use Rattle.model_journal.proofs.CleanLaws.{vals-below-eval}
use Rattle.model_journal.proofs.EntryLaws.{graph-is}
use Rattle.model_journal.proofs.JournalLaws.{journal-graph}
use Rattle.model_journal.proofs.LegalLaws.{legal-first}
use Rattle.model_core.specs.Peer.{peer_of}
use Rattle.model_core.proofs.PeerLaws.{peer-delivered, peer-updated}
use Rattle.model_graph.specs.Message.{Message, brought, sent_at, source_number, with_gain}
use Rattle.model_graph.proofs.MessageLaws.{gained-at}
use Rattle.model_runs.specs.Calls.{fed, frame_of, unbound}
use Rattle.model_world.specs.Command.{Script}
use Rattle.model_world.specs.World.{Peer, delivered, updated}
use Rattle.model_live.specs.Letter.{IsLetter, IsNews}
use Rattle.model_live.specs.Lived.{heard_by, heard_of, IsOfAnother, AreOfOthers}
use Rattle.model_live.specs.Together.{full, own_updates, AreWithin}
use Rattle.model_live.proofs.BoundLaws.{source-most}
use Rattle.model_live.proofs.EndLaws.{kept-results, result-of}
use Rattle.model_live.proofs.NumberLaws.{heard-append}

-- ---- results

pub results-peer : (X : Frame) (h more : List Entry) → IsLegal X (h ++ more) → unbound more ≡ [] → peer_of X (h ++ more) ≡ peer_of X h
results-peer X h more legal results = (kept-results X h more legal results).peer

pub graph-opens : (X : Frame) (h : List Entry) → declared h ≡ [] → graph X h ≡ X.opening
graph-opens X h none = graph-is X h ∙ ap (λ (l : List Decl). X.opening ++ l) none ∙ append-nil X.opening

pub heard-nothing : (q : ℕ) (more : List Entry) → unbound more ≡ [] → heard_of q more ≡ []
unfolding heard_of
heard-nothing q [] results = refl
heard-nothing q (e ∷ more) results =
    let b = result-of e more results in
    ap (λ (a : Act). heard_by q a ++ heard_of q more) b.2 ∙ heard-nothing q more b.3

pub heard-kept : (q : ℕ) (h more : List Entry) → unbound more ≡ [] → heard_of q (h ++ more) ≡ heard_of q h
heard-kept q h more results = heard-append q h more ∙ ap (λ (l : List (ℕ × Message)). heard_of q h ++ l) (heard-nothing q more results) ∙ append-nil (heard_of q h)

pub others-kept : (nodes p : ℕ) (h more : List Entry) → unbound more ≡ [] → AreOfOthers nodes p h → AreOfOthers nodes p (h ++ more)
others-kept nodes p [] [] results others = tt
others-kept nodes p [] (e ∷ more) results others = let b = result-of e more results in (subst (IsOfAnother nodes p) (sym b.2) tt, others-kept nodes p [] more b.3 tt)
others-kept nodes p (e ∷ h) more results others = (others.0, others-kept nodes p h more results others.1)

-- ---- what is kept beside the sources

pub vals-within : (g : List Decl) (script : Script) (p : ℕ) (h : List Entry) → IsLegal (frame_of g script.nodes p) h → declared h ≡ [] → AreWithin g script (peer_of (frame_of g script.nodes p) h).contents
    → AreWithin g script (vals (frame_of g script.nodes p) h)
vals-within g script p h legal none within x low =
    let X : Frame = frame_of g script.nodes p in
    let most : List Content = eval g (full g script) in
    let opens : graph X h ≡ g = graph-opens X h none in
    let ok : IsGraph g = subst IsGraph opens (journal-graph X h legal) in
    at_most-chain (content_at (vals X h) x) (content_at (eval (graph X h) (sources X h)) x) (content_at most x) (vals-below-eval X h legal x)
    (subst (λ (k : List Decl). IsContentAtMost (content_at (eval k (sources X h)) x) (content_at most x)) (sym opens)
    (eval-monotone g (sources X h) (full g script) ok
    (λ y small source. subst (λ (s : Content). IsContentAtMost (content_at (sources X h) y) s) (source-most g script y small source) (within y small)) x))

-- ---- acts

pub delivered-peer : (X : Frame) (h : List Entry) (i : ℕ) (m : Message) → IsLegal X (h ++ fed (Deliver i m) ∷ []) → peer_of X (h ++ fed (Deliver i m) ∷ []) ≡ delivered (graph X h) m (peer_of X h)
delivered-peer X h i m legal = let e : Entry = fed (Deliver i m) in peer-delivered X h (legal-first X h (e ∷ []) legal) e i m refl

pub updated-peer : (X : Frame) (h : List Entry) (x : ℕ) (op : Op) → IsLegal X (h ++ fed (Update x op) ∷ []) → x < length (graph X h) → IsTrue (is_source (kind_at (graph X h) x))
    → peer_of X (h ++ fed (Update x op) ∷ []) ≡ updated X.replica x op (peer_of X h)
updated-peer X h x op legal low source = let e : Entry = fed (Update x op) in peer-updated X h (legal-first X h (e ∷ []) legal) e x op refl low source

-- ---- letters that are news

pub made-kept : (g : List Decl) (p made : ℕ) (counted : ℕ → ℕ) (m : Message) (r : Peer) → IsNews g p made counted m → count_at r.counts p ≡ made → count_at (delivered g m r).counts p ≡ made
made-kept g p made counted m r news is = let few = news.updates in omega (arith, count_at-larger r.counts m.counts p, few, is)

pub totals-kept : (g : List Decl) (p made : ℕ) (counted : ℕ → ℕ) (m : Message) (r : Peer) → IsNews g p made counted m → length r.contents ≡ length g
    → ((x : ℕ) → x < length g → kind_at g x ≡ Counter → count_at (content_at r.contents x).counts p ≡ counted x)
    → (x : ℕ) → x < length g → kind_at g x ≡ Counter → count_at (content_at (delivered g m r).contents x).counts p ≡ counted x
totals-kept g p made counted m r news size before x low counter =
    let own : Content = content_at r.contents x in
    let theirs : Content = sent_at m.sources (source_number g x) in
    let first : 0 + x ≡ x = omega arith in
    let here : content_at (delivered g m r).contents x ≡ join_contents own theirs =
    gained-at (brought g m) 0 r.contents x (omega (arith, low, size)) ∙ ap (λ (n : ℕ). with_gain own (brought g m n)) first ∙ ap (λ (b : Bool). with_gain own (if b then Some theirs else None)) (ap is_source counter) in
    let joined : count_at (join_contents own theirs).counts p ≡ count_at (content_at (delivered g m r).contents x).counts p = ap (λ (s : Content). count_at s.counts p) (sym here) in
    let few = news.totals x low counter in
    let is = before x low counter in
    omega (arith, count_at-larger own.counts theirs.counts p, joined, few, is)

pub counted-kept : (g : List Decl) (script : Script) (m : Message) (r : Peer) → IsLetter g script m → ((q : ℕ) → q < script.nodes → count_at r.counts q ≤ own_updates g script q)
    → (q : ℕ) → q < script.nodes → count_at (delivered g m r).counts q ≤ own_updates g script q
counted-kept g script m r letter before q low = let few = letter.counted q low in let own = before q low in omega (arith, count_at-larger r.counts m.counts q, few, own)
