-- A round of sends and deliveries: acts that change no graph, no mark and no log.
use Rattle.std.proofs.Common.{◌≡◌, ℕ, ◌+◌, List, [], ◌∷◌, ◌++◌, length, map, flat_map, filter, not, ◌==◌, refl, arith}
use Rattle.std.specs.List.{range_with_len}
use Rattle.std.proofs.lemmas.List.FromFn.{length-range_with_len}
use Rattle.model_world.specs.World.{Act, Post, Take, takes, sync_acts}

-- sends and deliveries may be done anywhere
abbrev pub IsCalm : Act → Type 0
IsCalm (Post p) = Unit {0}
IsCalm (Take p i) = Unit {0}
IsCalm _ = ⊥

abbrev pub AreCalm : List Act → Type 0
AreCalm [] = Unit {0}
AreCalm (a ∷ rest) = IsCalm a × AreCalm rest

calm-append : (many bs : List Act) → AreCalm many → AreCalm bs → AreCalm (many ++ bs)
calm-append [] bs h g = g
calm-append (a ∷ many) bs h g = (h.0, calm-append many bs h.1 g)

pub calm-posts : (ps : List ℕ) → AreCalm (map Post ps)
calm-posts [] = tt
calm-posts (p ∷ ps) = (tt, calm-posts ps)

pub calm-takes : (p i : ℕ) (qs : List ℕ) → AreCalm (map (λ q. Take p (i + q)) qs)
calm-takes p i [] = tt
calm-takes p i (q ∷ qs) = (tt, calm-takes p i qs)

pub calm-all : (nodes i : ℕ) (ps : List ℕ) → AreCalm (flat_map (takes nodes i) ps)
calm-all nodes i [] = tt
calm-all nodes i (p ∷ ps) = calm-append (takes nodes i p) (flat_map (takes nodes i) ps) (calm-takes p i _) (calm-all nodes i ps)

pub calm-sync : (nodes i : ℕ) → AreCalm (sync_acts nodes i)
calm-sync nodes i = calm-append (map Post (range_with_len 0 nodes)) (flat_map (takes nodes i) (range_with_len 0 nodes)) (calm-posts (range_with_len 0 nodes)) (calm-all nodes i (range_with_len 0 nodes))

-- how many messages acts send
abbrev pub posted : Act → ℕ
posted (Post p) = 1
posted _ = 0

abbrev pub posts : List Act → ℕ
posts [] = 0
posts (a ∷ rest) = posted a + posts rest

posts-append : (many bs : List Act) → posts (many ++ bs) ≡ posts many + posts bs
posts-append [] bs = omega arith
posts-append (a ∷ many) bs = omega (arith, posts-append many bs)

posts-each : (ps : List ℕ) → posts (map Post ps) ≡ length ps
posts-each [] = refl
posts-each (p ∷ ps) = omega (arith, posts-each ps)

posts-takes : (p i : ℕ) (qs : List ℕ) → posts (map (λ q. Take p (i + q)) qs) ≡ 0
posts-takes p i [] = refl
posts-takes p i (q ∷ qs) = omega (arith, posts-takes p i qs)

posts-all : (nodes i : ℕ) (ps : List ℕ) → posts (flat_map (takes nodes i) ps) ≡ 0
posts-all nodes i [] = refl
posts-all nodes i (p ∷ ps) = omega (arith, posts-append (takes nodes i p) (flat_map (takes nodes i) ps), posts-takes p i (filter (λ q. not (q == p)) (range_with_len 0 nodes)), posts-all nodes i ps)

pub posts-sync : (nodes i : ℕ) → posts (sync_acts nodes i) ≡ nodes
posts-sync nodes i = omega (arith, posts-append (map Post (range_with_len 0 nodes)) (flat_map (takes nodes i) (range_with_len 0 nodes)), posts-each (range_with_len 0 nodes), posts-all nodes i (range_with_len 0 nodes), length-range_with_len 0 nodes)
