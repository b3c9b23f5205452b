-- Acts that fit one after the other, and a round of sends and deliveries, which does.
use Rattle.std.proofs.Common.{◌≡◌, ℕ, zero, suc, ◌+◌, ◌≤◌, ◌<◌, Bool, true, false, cond, not, ◌==◌, List, [], ◌∷◌, ◌++◌, length, map, filter, flat_map, refl, sym, subst, arith}
use Rattle.std.specs.List.{range_with_len}
use Rattle.std.proofs.lemmas.List.FromFn.{length-range_with_len}
use Rattle.model_graph.proofs.PlaceLaws.{length-push}
use Rattle.model_world.specs.World as world
use Rattle.model_world.specs.World.{Peer, Run, fresh_peer, no_peer, peer_at, mark_at, message_at, takes, sync_acts, acts, act, each, step, start}
use Rattle.model_world.specs.Follow.{Followed, followed}
use Rattle.model_runs.proofs.StepLaws.{FitsLawfully, updates}

abbrev pub AllFit : ℕ → Followed → List world.Act → Type 0
AllFit nodes f [] = Unit {0}
AllFit nodes f (a ∷ rest) = FitsLawfully nodes f a × AllFit nodes (followed f a) rest

abbrev pub all_updates : List world.Act → ℕ
all_updates [] = 0
all_updates (a ∷ rest) = updates a + all_updates rest

-- ---- a round of sends and deliveries

-- sends of nodes, and deliveries of messages that were sent, where so many were sent before
abbrev pub IsRound : ℕ → ℕ → List world.Act → Type 0
IsRound nodes sent [] = Unit {0}
IsRound nodes sent (world.Post p ∷ rest) = (p < nodes) × IsRound nodes (sent + 1) rest
IsRound nodes sent (world.Take p i ∷ rest) = (i < sent) × IsRound nodes sent rest
IsRound nodes sent (a ∷ rest) = ⊥

pub round-fits : (nodes : ℕ) (f : Followed) (many : List world.Act) → IsRound nodes (length f.run.sent) many → AllFit nodes f many
round-fits nodes f [] r = tt
round-fits nodes f (world.Post p ∷ rest) r =
    (r.0, round-fits nodes (followed f (world.Post p)) rest (subst (λ (n : ℕ). IsRound nodes n rest) (sym (length-push f.run.sent (message_at f.run.graph (peer_at f.run.peers p)))) r.1))
round-fits nodes f (world.Take p i ∷ rest) r = (r.0, round-fits nodes (followed f (world.Take p i)) rest r.1)
round-fits nodes f (world.Update p x op ∷ rest) r = absurd r
round-fits nodes f (world.Keep p x ∷ rest) r = absurd r
round-fits nodes f (world.Point ∷ rest) r = absurd r
round-fits nodes f (world.Show p x ∷ rest) r = absurd r
round-fits nodes f (world.Open p x until ∷ rest) r = absurd r
round-fits nodes f (world.Reach p x until ∷ rest) r = absurd r
round-fits nodes f (world.Extend d ∷ rest) r = absurd r

pub round-updates : (nodes sent : ℕ) (many : List world.Act) → IsRound nodes sent many → all_updates many ≡ 0
round-updates nodes sent [] r = refl
round-updates nodes sent (world.Post p ∷ rest) r = omega (arith, round-updates nodes (sent + 1) rest r.1)
round-updates nodes sent (world.Take p i ∷ rest) r = omega (arith, round-updates nodes sent rest r.1)
round-updates nodes sent (world.Update p x op ∷ rest) r = absurd r
round-updates nodes sent (world.Keep p x ∷ rest) r = absurd r
round-updates nodes sent (world.Point ∷ rest) r = absurd r
round-updates nodes sent (world.Show p x ∷ rest) r = absurd r
round-updates nodes sent (world.Open p x until ∷ rest) r = absurd r
round-updates nodes sent (world.Reach p x until ∷ rest) r = absurd r
round-updates nodes sent (world.Extend d ∷ rest) r = absurd r

-- each number is below n
abbrev AreBelow : ℕ → List ℕ → Type 0
AreBelow n [] = Unit {0}
AreBelow n (x ∷ xs) = (x < n) × AreBelow n xs

below-range : (a n : ℕ) → AreBelow (a + n) (range_with_len a n)
below-range a zero = tt
below-range a (suc n) = (omega arith, subst (λ (m : ℕ). AreBelow m (range_with_len (a + 1) n)) (let there : (a + 1) + n ≡ a + suc n = omega arith in there) (below-range (a + 1) n))

below-nodes : (n : ℕ) → AreBelow n (range_with_len 0 n)
below-nodes n = subst (λ (m : ℕ). AreBelow m (range_with_len 0 n)) (let here : 0 + n ≡ n = omega arith in here) (below-range 0 n)

below-filter : (test : ℕ → Bool) (n : ℕ) (xs : List ℕ) → AreBelow n xs → AreBelow n (filter test xs)
below-filter test n [] h = tt
below-filter test n (x ∷ xs) h = choose (test x) (below-filter test n xs h.1) where
  choose : (b : Bool) → AreBelow n (filter test xs) → AreBelow n (cond b (x ∷ filter test xs) (filter test xs))
  choose true rest = (h.0, rest)
  choose false rest = rest

posts-round : (nodes sent : ℕ) (ps : List ℕ) (rest : List world.Act) → AreBelow nodes ps → IsRound nodes (sent + length ps) rest → IsRound nodes sent (map world.Post ps ++ rest)
posts-round nodes sent [] rest h r = subst (λ (n : ℕ). IsRound nodes n rest) (let none : sent + 0 ≡ sent = omega arith in none) r
posts-round nodes sent (p ∷ ps) rest h r =
    (h.0, posts-round nodes (sent + 1) ps rest h.1 (subst (λ (n : ℕ). IsRound nodes n rest) (let more : sent + suc (length ps) ≡ (sent + 1) + length ps = omega arith in more) r))

takes-round : (nodes sent p i : ℕ) (qs : List ℕ) (rest : List world.Act) → AreBelow nodes qs → i + nodes ≤ sent → IsRound nodes sent rest → IsRound nodes sent (map (λ q. world.Take p (i + q)) qs ++ rest)
takes-round nodes sent p i [] rest h low r = r
takes-round nodes sent p i (q ∷ qs) rest h low r = (omega (arith, h.0, low), takes-round nodes sent p i qs rest h.1 low r)

all-round : (nodes sent i : ℕ) (ps : List ℕ) → i + nodes ≤ sent → IsRound nodes sent (flat_map (takes nodes i) ps)
all-round nodes sent i [] low = tt
all-round nodes sent i (p ∷ ps) low =
    takes-round nodes sent p i (filter (λ q. not (q == p)) (range_with_len 0 nodes)) (flat_map (takes nodes i) ps) (below-filter (λ q. not (q == p)) nodes (range_with_len 0 nodes) (below-nodes nodes)) low (all-round nodes sent i ps low)

pub sync-round : (nodes sent : ℕ) → IsRound nodes sent (sync_acts nodes sent)
sync-round nodes sent =
    posts-round nodes sent (range_with_len 0 nodes) (flat_map (takes nodes sent) (range_with_len 0 nodes)) (below-nodes nodes)
    (all-round nodes (sent + length (range_with_len 0 nodes)) sent (range_with_len 0 nodes) (omega (arith, length-range_with_len 0 nodes)))
