-- What a node knows behind its own updates.
use Rattle.std.proofs.Common.{◌≡◌, ℕ, ◌+◌, ◌<◌, ◌≤◌, ◌==◌, max, min, Bool, true, false, IsTrue, List, [], ◌∷◌, ◌++◌, length, refl, sym, ap, subst, ◌∙◌, append-nil, arith}
use Rattle.std.specs.Prelude.{◌≢◌}
use Rattle.std.proofs.lemmas.Bool.Decides.{nat_tests}
use Rattle.std.proofs.lemmas.List.{get_or-set_same, get_or-set_other}
use Rattle.model_states.specs.Content.{Content, least, join_contents}
use Rattle.model_states.specs.Counts.{count_at, count_max}
use Rattle.model_states.specs.Update.{Op, delta}
use Rattle.model_states.specs.Update as op
use Rattle.model_states.proofs.CountLaws.{count_at-larger, length-zeros}
use Rattle.model_states.proofs.DeltaLaws.{inc-own}
use Rattle.model_graph.specs.Evaluation.{content_at, least_of}
use Rattle.model_graph.specs.Graph.{Kind, Counter, Decl, is_source, kind_at}
use Rattle.model_graph.specs.Lawful.{shape_of}
use Rattle.model_graph.proofs.PlaceLaws.{map-length}
use Rattle.model_states.specs.Shape.{HasShape}
use Rattle.model_journal.specs.Callers.{AreMadeByTheirCallers}
use Rattle.model_journal.specs.Entry.{Update, Entry, Frame}
use Rattle.model_journal.specs.Journal.{declared, graph, vals}
use Rattle.model_journal.specs.Legal.{IsLegal}
use Rattle.model_journal.proofs.CleanLaws.{vals-length}
use Rattle.model_journal.proofs.JournalLaws.{counts-length}
use Rattle.model_journal.proofs.LegalLaws.{legal-first, legal-last}
use Rattle.model_core.specs.Peer.{peer_of}
use Rattle.model_core.proofs.SourceLaws.{sources-length, sources-source}
use Rattle.model_core.proofs.ValidLaws.{val-shape}
use Rattle.model_runs.specs.Calls.{fed, frame_of}
use Rattle.model_world.specs.Command.{Script}
use Rattle.model_world.specs.Lawful.{IsLawful, opening_stage}
use Rattle.model_world.specs.World.{Peer, fresh_peer, updated}
use Rattle.model_live.specs.Knows.{Knows}
use Rattle.model_live.specs.Steps.{Updates, Step, Does, steps}
use Rattle.model_live.specs.Together.{after_steps, alone, own_updates}
use Rattle.model_live.proofs.AloneLaws.{Suits, holds, after-append, later-steps, steps-suited, suited-among}
use Rattle.model_live.proofs.HearLaws.{graph-opens, updated-peer}
use Rattle.model_live.proofs.KnowLaws.{known-of, others-next}
use Rattle.model_live.proofs.StoryLaws.{declared-append}
use Rattle.model_live.proofs.WithinLaws.{fresh-wide, source-suits, update-within}

-- ---- one update at two nodes that count the same of themselves

made-same : (p x : ℕ) (o : Op) (r q : Peer) → p < length r.counts → p < length q.counts → count_at r.counts p ≡ count_at q.counts p → count_at (updated p x o r).counts p ≡ count_at (updated p x o q).counts p
made-same p x o r q low there same =
    get_or-set_same r.counts p (count_at r.counts p + 1) 0 low ∙ ap (λ (n : ℕ). n + 1) same ∙ sym (get_or-set_same q.counts p (count_at q.counts p + 1) 0 there)

-- what a node counts of a counter behind its own update of it
pub inc-count : (by p k : ℕ) (s : Content) → p < length s.counts → count_at (join_contents s (delta (op.Inc by) s p k)).counts p ≡ max (count_at s.counts p) (min (count_at s.counts p + by) count_max)
inc-count by p k s low = count_at-larger s.counts (delta (op.Inc by) s p k).counts p ∙ ap (λ (n : ℕ). max (count_at s.counts p) n) (inc-own by s p k low)

joined-same : (o : Op) (p j k : ℕ) (s t : Content) → Suits o Counter → p < length s.counts → p < length t.counts → count_at s.counts p ≡ count_at t.counts p
    → count_at (join_contents s (delta o s p j)).counts p ≡ count_at (join_contents t (delta o t p k)).counts p
joined-same (op.Add v) p j k s t suits low there same = absurd cc
joined-same (op.Remove v) p j k s t suits low there same = absurd cc
joined-same (op.Insert v) p j k s t suits low there same = absurd cc
joined-same (op.Inc by) p j k s t suits low there same = inc-count by p j s low ∙ ap (λ (n : ℕ). max n (min (n + by) count_max)) same ∙ sym (inc-count by p k t there)
joined-same (op.Max n) p j k s t suits low there same = absurd cc
joined-same (op.Join u) p j k s t suits low there same = absurd suits

totals-same : (p x : ℕ) (o : Op) (r q : Peer) (y : ℕ) → (x ≡ y → Suits o Counter) → y < length r.contents → y < length q.contents → p < length (content_at r.contents y).counts → p < length (content_at q.contents y).counts
    → count_at (content_at r.contents y).counts p ≡ count_at (content_at q.contents y).counts p → count_at (content_at (updated p x o r).contents y).counts p ≡ count_at (content_at (updated p x o q).contents y).counts p
totals-same p x o r q y suits low there wide long same = choose (y == x) refl where
  choose : (b : Bool) → (y == x) ≡ b → count_at (content_at (updated p x o r).contents y).counts p ≡ count_at (content_at (updated p x o q).contents y).counts p
  choose true e =
      let is : y ≡ x = grind (arith, nat_tests, e) in
      subst (λ (z : ℕ). (z ≡ y) → count_at (content_at (updated p z o r).contents y).counts p ≡ count_at (content_at (updated p z o q).contents y).counts p) is
      (λ own. ap (λ (s : Content). count_at s.counts p) (get_or-set_same r.contents y (holds p y o r) least low)
      ∙ joined-same o p (count_at r.counts p + 1) (count_at q.counts p + 1) (content_at r.contents y) (content_at q.contents y) (suits (sym is)) wide long same
      ∙ ap (λ (s : Content). count_at s.counts p) (sym (get_or-set_same q.contents y (holds p y o q) least there))) (sym is)
  choose false e =
      let away : y ≢ x = λ is. absurd (grind (arith, nat_tests, e, is)) in
      ap (λ (s : Content). count_at s.counts p) (get_or-set_other r.contents x y (holds p x o r) least away) ∙ same ∙ ap (λ (s : Content). count_at s.counts p) (sym (get_or-set_other q.contents x y (holds p x o q) least away))

-- ---- a journal

pub knows-update : (g : List Decl) (script : Script) (p x made : ℕ) (counted : ℕ → ℕ) (o : Op) (done left : List Step) (h : List Entry) → IsLawful g script → p < script.nodes
    → steps p 1 script.commands ≡ done ++ Does (Updates x o) ∷ left → Knows g script p made counted h
    → made ≡ count_at (after_steps p done (fresh_peer g script.nodes)).counts p
    → ((y : ℕ) → y < length g → kind_at g y ≡ Counter → counted y ≡ count_at (content_at (after_steps p done (fresh_peer g script.nodes)).contents y).counts p)
    → IsLegal (frame_of g script.nodes p) (h ++ fed (Update x o) ∷ []) → AreMadeByTheirCallers (h ++ fed (Update x o) ∷ [])
    → Knows g script p (count_at (updated p x o (after_steps p done (fresh_peer g script.nodes))).counts p) (λ y. count_at (content_at (updated p x o (after_steps p done (fresh_peer g script.nodes))).contents y).counts p) (h ++ fed (Update x o) ∷ [])
unfolding after_steps
knows-update g script p x made counted o done left h lawful member is k number totals legal callers =
    let X : Frame = frame_of g script.nodes p in
    let e : Entry = fed (Update x o) in
    let r : Peer = peer_of X h in
    let fresh : Peer = fresh_peer g script.nodes in
    let q : Peer = after_steps p done fresh in
    let opens : graph X h ≡ g = graph-opens X h k.undeclared in
    let first : IsLegal X h = legal-first X h (e ∷ []) legal in
    let low : x < length g = subst (λ (l : List Decl). x < length l) opens (legal-last X h e legal).0 in
    let suits : Suits o (kind_at g x) = suited-among g (steps p 1 script.commands) done (Does (Updates x o)) left is (steps-suited g [] script.nodes p 1 (opening_stage g) (sym (append-nil g)) script.commands lawful.each) low in
    let source : IsTrue (is_source (kind_at g x)) = source-suits g script o (kind_at g x) suits in
    let size : length r.contents ≡ length g = sources-length (graph X h) (vals X h) (vals-length X h first) ∙ ap (λ (l : List Decl). length l) opens in
    let long : length q.contents ≡ length g = (later-steps p done fresh).size ∙ map-length (λ (d : Decl). least_of script.nodes d.kind) g in
    let many : length r.counts ≡ script.nodes = counts-length X h first in
    let all : length q.counts ≡ script.nodes = (later-steps p done fresh).nodes ∙ length-zeros script.nodes in
    let same : count_at r.counts p ≡ count_at q.counts p = k.updates ∙ number in
    let end : Peer = after_steps p left (updated p x o q) in
    let ends : alone g script p ≡ end = ap (λ (l : List Step). after_steps p l fresh) is ∙ after-append p done (Does (Updates x o) ∷ left) fresh in
    let made_same : count_at (updated p x o r).counts p ≡ count_at (updated p x o q).counts p = made-same p x o r q (omega (arith, many, member)) (omega (arith, all, member)) same in
    let counter : (y : ℕ) → y < length g → kind_at g y ≡ Counter → p < length (content_at r.contents y).counts =
    λ y there kind. (let is_source_y : IsTrue (is_source (kind_at (graph X h) y)) = subst (λ (l : List Decl). IsTrue (is_source (kind_at l y))) (sym opens) (ap is_source kind) in
    let held = sources-source (graph X h) (vals X h) y (subst (λ (l : List Decl). y < length l) (sym opens) there) is_source_y in
    let shape = wide X h first y (ap (λ (l : List Decl). kind_at l y) opens ∙ kind) in
    let same_length = ap (λ (s : Content). length s.counts) held in
    omega (arith, shape, same_length, member)) in
    known-of g script p (count_at (updated p x o q).counts p) (λ y. count_at (content_at (updated p x o q).contents y).counts p) (h ++ e ∷ []) (updated p x o r)
    (updated-peer X h x o legal (subst (λ (l : List Decl). x < length l) (sym opens) low) (subst (λ (l : List Decl). IsTrue (is_source (kind_at l x))) (sym opens) source)) legal callers
    (declared-append h (e ∷ []) ∙ append-nil (declared h) ∙ k.undeclared) made_same
    (λ y there kind. totals-same p x o r q y (λ own. subst (Suits o) (ap (kind_at g) own ∙ kind) suits) (omega (arith, there, size)) (omega (arith, there, long)) (counter y there kind)
    (let more = (later-steps p done fresh).wide y in let begin = fresh-wide script.nodes g y there kind in omega (arith, more, begin, member)) (k.totals y there kind ∙ totals y there kind))
    (λ n among. counts n among (n == p) refl made_same ends k) (update-within g script p x o done left r lawful member is k.within same (λ y there kind. k.totals y there kind ∙ totals y there kind))
    (others-next script.nodes p h e k.others tt) where
      wide : (X : Frame) (h : List Entry) → IsLegal X h → (y : ℕ) → kind_at (graph X h) y ≡ Counter → length (content_at (vals X h) y).counts ≡ X.nodes
      wide X h legal y kind = (subst (λ (c : Kind). HasShape (shape_of X.nodes c) (content_at (vals X h) y)) kind (val-shape X h legal y)).1

      counts : (n : ℕ) → n < script.nodes → (b : Bool) → (n == p) ≡ b → count_at (updated p x o (peer_of (frame_of g script.nodes p) h)).counts p ≡ count_at (updated p x o (after_steps p done (fresh_peer g script.nodes))).counts p
          → alone g script p ≡ after_steps p left (updated p x o (after_steps p done (fresh_peer g script.nodes))) → Knows g script p made counted h → count_at (updated p x o (peer_of (frame_of g script.nodes p) h)).counts n ≤ own_updates g script n
      counts n among true e made_same ends k =
          let is : p ≡ n = grind (arith, nat_tests, e) in
          let next : Peer = updated p x o (after_steps p done (fresh_peer g script.nodes)) in
          let last = (later-steps p left next).counted p in
          let total : count_at (after_steps p left next).counts p ≡ own_updates g script p = ap (λ (t : Peer). count_at t.counts p) (sym ends) in
          subst (λ (m : ℕ). count_at (updated p x o (peer_of (frame_of g script.nodes p) h)).counts m ≤ own_updates g script m) is (omega (arith, made_same, last, total))
      counts n among false e made_same ends k =
          let away : n ≢ p = λ is. absurd (grind (arith, nat_tests, e, is)) in
          let r : Peer = peer_of (frame_of g script.nodes p) h in
          subst (λ (c : ℕ). c ≤ own_updates g script n) (sym (get_or-set_other r.counts p n (count_at r.counts p + 1) 0 away)) (k.known n among)
