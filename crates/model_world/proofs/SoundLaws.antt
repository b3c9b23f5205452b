-- At each place of a lawful run everybody holds what is known of the counts: one record, kept by each act.
use Rattle.std.proofs.Common.{◌≡◌, ℕ, ◌≤◌, ◌<◌, ◌⊎◌, inl, inr, IsTrue, List, [], ◌∷◌, ◌++◌, length, map, slice_index_or, slice_set, replicate, refl, sym, ap, subst, ◌∙◌, arith}
use Rattle.model_states.specs.Counts.{count_at}
use Rattle.model_states.specs.Content.{Content}
use Rattle.model_states.specs.Update.{Op, Join}
use Rattle.model_graph.specs.Graph.{Decl, is_source, kind_at}
use Rattle.model_graph.specs.Evaluation.{content_at}
use Rattle.model_graph.proofs.PlaceLaws.{below-or-not, at-append, at-last, length-push}
use Rattle.model_graph.specs.Message.{Message}
use Rattle.model_world.specs.World.{Peer, Marked, Act, Update, Keep, Post, Take, Point, Show, Open, Reach, Extend, fresh_peer, peer_at, updated, delivered, extended, message_at, sent_number, no_mark, mark_at}
use Rattle.model_world.specs.Delta.{Delta, deltas_at}
use Rattle.model_world.specs.Follow.{Followed, delta_of, begin, followed}
use Rattle.model_world.specs.Holds.{Holds, Carries, Keeps}
use Rattle.model_world.specs.Owner.{AreOwned}
use Rattle.model_world.specs.Known.{Each, IsOfSource, IsKnown}
use Rattle.model_world.proofs.MeasureLaws.{each-push, each-weaker}
use Rattle.model_world.proofs.UpdateLaws.{keeps-kept}
use Rattle.model_world.proofs.HoldLaws.{keeps-longer}
use Rattle.model_world.proofs.KnowsLaws.{each-empty, known-begin, known-update, known-post, known-take, known-extend}
use Rattle.model_world.proofs.TokenLaws.{AreAllOwned, owned-kept, delta-owned, known-owned}

pub record Sound (nodes : ℕ) (g : List Decl) (peers : List Peer) (sent : List Message) (marks : List Marked) (all : List (List Delta)) (marked : List ℕ) : Type 0 where
  pub many : length peers ≡ nodes
  pub logs : length all ≡ nodes
  pub sources : Each (IsOfSource g) all
  pub owned : AreAllOwned all all
  pub holds : (p : ℕ) → p < nodes → Holds g nodes all (peer_at peers p).contents (peer_at peers p).counts
  -- each replica knows all of its own updates
  pub own : (p : ℕ) → p < nodes → count_at (peer_at peers p).counts p ≡ length (deltas_at all p)
  pub carries : (i : ℕ) → Carries g nodes all (sent_number sent i)
  pub kept : length marks ≡ length marked
  pub keeps : (m : ℕ) → m < length marked → Keeps g nodes all (slice_index_or marked m 0) (mark_at marks m).content

abbrev pub IsSound : ℕ → Followed → Type 0
IsSound nodes f = Sound nodes f.run.graph f.run.peers f.run.sent f.run.marks f.deltas f.marked

module _ (nodes : ℕ) (g : List Decl) (peers : List Peer) (sent : List Message) (marks : List Marked) (all : List (List Delta)) (marked : List ℕ) where
  -- replicas and messages, whatever the marks are
  known-of : Sound nodes g peers sent marks all marked → IsKnown nodes g peers sent all
  known-of s = record { many = s.many; logs = s.logs; sources = s.sources; holds = s.holds; own = s.own; carries = s.carries }

  sound-of : IsKnown nodes g peers sent all → AreAllOwned all all → length marks ≡ length marked → ((m : ℕ) → m < length marked → Keeps g nodes all (slice_index_or marked m 0) (mark_at marks m).content) → Sound nodes g peers sent marks all marked
  sound-of s owned kept keeps = record { many = s.many; logs = s.logs; sources = s.sources; owned = owned; holds = s.holds; own = s.own; carries = s.carries; kept = kept; keeps = keeps }

-- ---- the beginning

pub sound-begin : (g : List Decl) (nodes : ℕ) → IsSound nodes (begin g nodes)
sound-begin g nodes =
    sound-of nodes g (replicate nodes (fresh_peer g nodes)) [] [] (replicate nodes []) [] (known-begin g nodes) (each-empty (λ d. AreOwned (replicate nodes []) d.var d.content.rows) nodes) refl
    (λ m low. absurd (omega (arith, low)))

-- ---- the acts

-- what an act asks for: an update is of a source of the graph, and joins in tokens of that source alone
abbrev pub Fits : ℕ → Followed → Act → Type 0
Fits nodes f (Update p x op) = (p < nodes) × (x < length f.run.graph) × IsTrue (is_source (kind_at f.run.graph x)) × ((s : Content) → op ≡ Join s → AreOwned f.deltas x s.rows)
Fits nodes f (Keep p x) = (p < nodes) × (x < length f.run.graph)
Fits nodes f _ = Unit {0}

module _ (nodes : ℕ) (g : List Decl) (peers : List Peer) (sent : List Message) (marks : List Marked) (all : List (List Delta)) (marked : List ℕ) (s : Sound nodes g peers sent marks all marked) where
  known : IsKnown nodes g peers sent all
  known = known-of nodes g peers sent marks all marked s

  sound-update : (p x : ℕ) (op : Op) → p < nodes → x < length g → IsTrue (is_source (kind_at g x)) → ((t : Content) → op ≡ Join t → AreOwned all x t.rows)
      → Sound nodes g (slice_set peers p (updated p x op (peer_at peers p))) sent marks (slice_set all p (deltas_at all p ++ delta_of (peer_at peers p) p x op ∷ [])) marked
  sound-update p x op member low source joined =
      sound-of nodes g (slice_set peers p after) sent marks more marked (known-update nodes g peers sent all known p d member (low, source))
      (each-push (λ c. AreOwned more c.var c.content.rows) p all d
      (each-weaker (λ c. AreOwned all c.var c.content.rows) (λ c. AreOwned more c.var c.content.rows) (λ c h v t row. owned-kept all p d c.var v t (h v t row)) all s.owned)
      (delta-owned all r p x op few (s.own p member) here joined))
      s.kept
      (λ m made. keeps-kept g nodes all p d (slice_index_or marked m 0) (mark_at marks m).content (s.keeps m made))
    where
      r : Peer
      r = peer_at peers p

      d : Delta
      d = delta_of (peer_at peers p) p x op

      more : List (List Delta)
      more = slice_set all p (deltas_at all p ++ delta_of (peer_at peers p) p x op ∷ [])

      after : Peer
      after = updated p x op (peer_at peers p)

      few : p < length all
      few = omega (arith, member, s.logs)

      here : AreOwned all x (content_at (peer_at peers p).contents x).rows
      here = subst (λ (c : Content). AreOwned all x c.rows) (sym ((s.holds p member).knows x low)) (known-owned g nodes all (peer_at peers p).counts x s.owned)

  sound-keep : (p x : ℕ) (m : Marked) → m.content ≡ content_at (peer_at peers p).contents x → p < nodes → x < length g → Sound nodes g peers sent (marks ++ m ∷ []) all (marked ++ x ∷ [])
  sound-keep p x m is member low =
      sound-of nodes g peers sent (marks ++ m ∷ []) all (marked ++ x ∷ []) known s.owned (omega (arith, s.kept, length-push marks m, length-push marked x)) (λ i made. choose i made (below-or-not i (length marked)))
    where
      choose : (i : ℕ) → i < length (marked ++ x ∷ []) → (i < length marked) ⊎ (length marked ≤ i) → Keeps g nodes all (slice_index_or (marked ++ x ∷ []) i 0) (mark_at (marks ++ m ∷ []) i).content
      choose i made (inl h) =
          subst (λ (c : Marked). Keeps g nodes all (slice_index_or (marked ++ x ∷ []) i 0) c.content) (sym (at-append marks (m ∷ []) i no_mark (omega (arith, h, s.kept))))
          (subst (λ (y : ℕ). Keeps g nodes all y (mark_at marks i).content) (sym (at-append marked (x ∷ []) i 0 h)) (s.keeps i h))
      choose i made (inr h) =
          let here : length marked ≡ i = omega (arith, h, made, length-push marked x) in
          let there : length marks ≡ i = omega (arith, here, s.kept) in
          subst (λ (c : Marked). Keeps g nodes all (slice_index_or (marked ++ x ∷ []) i 0) c.content) (sym (at-last marks m no_mark) ∙ ap (λ (n : ℕ). mark_at (marks ++ m ∷ []) n) there)
          (subst (λ (y : ℕ). Keeps g nodes all y m.content) (sym (at-last marked x 0) ∙ ap (λ (n : ℕ). slice_index_or (marked ++ x ∷ []) n 0) here)
          (record { declared = low; counts = (peer_at peers p).counts; made = (s.holds p member).made; knows = is ∙ (s.holds p member).knows x low }))

  sound-post : (p : ℕ) → Sound nodes g peers (sent ++ message_at g (peer_at peers p) ∷ []) marks all marked
  sound-post p = sound-of nodes g peers (sent ++ message_at g (peer_at peers p) ∷ []) marks all marked (known-post nodes g peers sent all known p) s.owned s.kept s.keeps

  sound-take : (p i : ℕ) → Sound nodes g (slice_set peers p (delivered g (sent_number sent i) (peer_at peers p))) sent marks all marked
  sound-take p i = sound-of nodes g (slice_set peers p (delivered g (sent_number sent i) (peer_at peers p))) sent marks all marked (known-take nodes g peers sent all known p i) s.owned s.kept s.keeps

  sound-extend : (d : Decl) → Sound nodes (g ++ d ∷ []) (map (extended (length peers) d) peers) sent marks all marked
  sound-extend d =
      sound-of nodes (g ++ d ∷ []) (map (extended (length peers) d) peers) sent marks all marked (known-extend nodes g peers sent all known d) s.owned s.kept
      (λ m made. keeps-longer g nodes all d s.sources (slice_index_or marked m 0) (mark_at marks m).content (s.keeps m made))

pub sound-act : (nodes : ℕ) (f : Followed) (a : Act) → IsSound nodes f → Fits nodes f a → IsSound nodes (followed f a)
sound-act nodes f (Update p x op) s h = sound-update nodes f.run.graph f.run.peers f.run.sent f.run.marks f.deltas f.marked s p x op h.0 h.1 h.2 h.3
sound-act nodes f (Keep p x) s h = sound-keep nodes f.run.graph f.run.peers f.run.sent f.run.marks f.deltas f.marked s p x _ refl h.0 h.1
sound-act nodes f (Post p) s h = sound-post nodes f.run.graph f.run.peers f.run.sent f.run.marks f.deltas f.marked s p
sound-act nodes f (Take p i) s h = sound-take nodes f.run.graph f.run.peers f.run.sent f.run.marks f.deltas f.marked s p i
sound-act nodes f Point s h = s
sound-act nodes f (Show p x) s h = s
sound-act nodes f (Open p x until) s h = s
sound-act nodes f (Reach p x until) s h = s
sound-act nodes f (Extend d) s h = sound-extend nodes f.run.graph f.run.peers f.run.sent f.run.marks f.deltas f.marked s d
