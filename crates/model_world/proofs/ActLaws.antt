-- What is known, act by act.
use Rattle.std.proofs.Common.{◌≡◌, ℕ, ◌+◌, ◌<◌, IsTrue, List, [], ◌∷◌, ◌++◌, length, slice_set, Ok, refl, sym, ap, subst, ◌∙◌}
use Rattle.model_states.specs.Counts.{count_at}
use Rattle.model_states.specs.Content.{Content, join_contents}
use Rattle.model_states.specs.Update.{Op, delta}
use Rattle.model_graph.specs.Graph.{is_source, kind_at}
use Rattle.model_graph.specs.Evaluation.{content_at}
use Rattle.model_world.specs.World.{Peer, Run, Act, Update, Keep, Post, Take, Point, Show, Open, Reach, Extend, peer_at, updated, act, effect}
use Rattle.model_world.specs.Delta.{Delta, deltas_at}
use Rattle.model_world.specs.Known.{IsKnown}
use Rattle.model_world.proofs.EffectLaws.{act-effect}
use Rattle.model_world.proofs.KnowsLaws.{known-update, known-post, known-take, known-extend}

abbrev known-run : ℕ → Run → List (List Delta) → Type 0
known-run nodes run all = IsKnown nodes run.graph run.peers run.sent all

pub acts-update : (nodes c p x : ℕ) (op : Op) (run next : Run) (all : List (List Delta)) → IsKnown nodes run.graph run.peers run.sent all → p < nodes → x < length run.graph → IsTrue (is_source (kind_at run.graph x)) → act c run (Update p x op) ≡ Ok next
    → (d : Delta) → d.var ≡ x → join_contents (content_at (peer_at run.peers p).contents x) d.content ≡ join_contents (content_at (peer_at run.peers p).contents x) (delta op (content_at (peer_at run.peers p).contents x) p (count_at (peer_at run.peers p).counts p + 1))
    → IsKnown nodes next.graph next.peers next.sent (slice_set all p (deltas_at all p ++ d ∷ []))
acts-update nodes c p x op run next all s member low source done d var joins =
    subst (λ (r : Run). IsKnown nodes r.graph r.peers r.sent (slice_set all p (deltas_at all p ++ d ∷ []))) (sym (act-effect c run next (Update p x op) done))
    (subst (λ (r : Peer). IsKnown nodes run.graph (slice_set run.peers p r) run.sent (slice_set all p (deltas_at all p ++ d ∷ []))) same
    (known-update nodes run.graph run.peers run.sent all s p d member (subst (λ (y : ℕ). (y < length run.graph) × IsTrue (is_source (kind_at run.graph y))) (sym var) (low, source))))
  where
    r : Peer
    r = peer_at run.peers p

    after : ℕ → Content → Peer
    after y t = record { contents = slice_set (peer_at run.peers p).contents y t; counts = slice_set (peer_at run.peers p).counts p (count_at (peer_at run.peers p).counts p + 1) }

    same : after d.var (join_contents (content_at (peer_at run.peers p).contents d.var) d.content) ≡ updated p x op (peer_at run.peers p)
    same = ap (λ (y : ℕ). after y (join_contents (content_at (peer_at run.peers p).contents y) d.content)) var ∙ ap (after x) joins

effect-known : (nodes : ℕ) (a : Act) (run : Run) (all : List (List Delta)) → IsKnown nodes run.graph run.peers run.sent all → ((p x : ℕ) (op : Op) → a ≡ Update p x op → ⊥) → known-run nodes (effect run a) all
effect-known nodes (Update p x op) run all s apart = absurd (apart p x op refl)
effect-known nodes (Keep p x) run all s apart = s
effect-known nodes (Post p) run all s apart = known-post nodes run.graph run.peers run.sent all s p
effect-known nodes (Take p i) run all s apart = known-take nodes run.graph run.peers run.sent all s p i
effect-known nodes Point run all s apart = s
effect-known nodes (Show p x) run all s apart = s
effect-known nodes (Open p x until) run all s apart = s
effect-known nodes (Reach p x until) run all s apart = s
effect-known nodes (Extend d) run all s apart = known-extend nodes run.graph run.peers run.sent all s d

pub acts-others : (nodes c : ℕ) (a : Act) (run next : Run) (all : List (List Delta)) → IsKnown nodes run.graph run.peers run.sent all → ((p x : ℕ) (op : Op) → a ≡ Update p x op → ⊥) → act c run a ≡ Ok next → IsKnown nodes next.graph next.peers next.sent all
acts-others nodes c a run next all s apart done = subst (λ (r : Run). known-run nodes r all) (sym (act-effect c run next a done)) (effect-known nodes a run all s apart)
