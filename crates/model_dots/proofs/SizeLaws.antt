-- How much is counted along the commands.
use Rattle.std.proofs.Common.{◌≡◌, ℕ, zero, suc, ◌+◌, ◌≤◌, ◌<◌, ◌⊎◌, inl, inr, Bool, true, false, List, [], ◌∷◌, length, slice_set, replicate, refl, ap, arith}
use Rattle.std.specs.Prelude.{filter, if◌then◌else◌}
use Rattle.model_states.specs.Counts.{count_at, larger}
use Rattle.model_states.specs.Update.{Op, Add, Remove, Insert, Inc, Max, Join}
use Rattle.model_states.proofs.CountLaws.{count_at-larger, count_at-zeros}
use Rattle.model_graph.proofs.PlaceLaws.{below-or-not, at-past, at-push, at-replicate, length-replicate}
use Rattle.model_world.specs.Command as command
use Rattle.model_world.specs.Command.{Command, Script}
use Rattle.model_world.specs.Lawful.{IsWithinLimits}
use Rattle.model_world.specs.World.{Act, Update, Post, Take, sync_acts}
use Rattle.model_world.proofs.RoundLaws.{AreCalm, calm-sync}
use Rattle.model_dots.specs.Dots.{Dots, no_dots, join_dots, raised, count_limit}
use Rattle.model_dots.specs.DotWorld.{DotWorld, dots_at, dot_start, dot_acts, dots_updated, dot_act, dot_each, dot_play}
use Rattle.model_dots.specs.Sizes.{is_update, updates, CountAtMost}

-- ---- counts

-- a count that was set
count-set : (counts : List ℕ) (node n q : ℕ) → (count_at (slice_set counts node n) q ≡ n) ⊎ (count_at (slice_set counts node n) q ≡ count_at counts q)
count-set [] node n q = inr refl
count-set (c ∷ counts) zero n zero = inl refl
count-set (c ∷ counts) zero n (suc q) = inr refl
count-set (c ∷ counts) (suc node) n zero = inr refl
count-set (c ∷ counts) (suc node) n (suc q) = count-set counts node n q

raised-few : (counts : List ℕ) (node many q : ℕ) → ((q : ℕ) → count_at counts q ≤ many) → count_at (raised counts node) q ≤ many + 1
raised-few counts node many q few = choose (count-set counts node (count_at counts node + 1) q) where
  choose : (count_at (raised counts node) q ≡ count_at counts node + 1) ⊎ (count_at (raised counts node) q ≡ count_at counts q) → count_at (raised counts node) q ≤ many + 1
  choose (inl e) = omega (arith, e, few node)
  choose (inr e) = omega (arith, e, few q)

larger-few : (s t : List ℕ) (many q : ℕ) → count_at s q ≤ many → count_at t q ≤ many → count_at (larger s t) q ≤ many
larger-few s t many q few less = omega (arith, count_at-larger s t q, few, less)

-- what holds of every place holds of it after one was set
at-any : (P : Dots → Type 0) (states : List Dots) (p : ℕ) (new : Dots) → ((q : ℕ) → P (dots_at states q)) → P new → (q : ℕ) → P (dots_at (slice_set states p new) q)
at-any P [] p new old here q = old q
at-any P (d ∷ states) zero new old here zero = here
at-any P (d ∷ states) zero new old here (suc q) = old (suc q)
at-any P (d ∷ states) (suc p) new old here zero = old zero
at-any P (d ∷ states) (suc p) new old here (suc q) = at-any P states p new (λ i. old (suc i)) here q

-- a state counts at most so many
abbrev IsFew : ℕ → Dots → Type 0
IsFew many d = (q : ℕ) → count_at d.counts q ≤ many

few-more : (many more : ℕ) (w : DotWorld) → many ≤ more → CountAtMost many w → CountAtMost more w
few-more many more w less h = record { nodes = λ p q. omega (arith, less, h.nodes p q); sent = λ i q. omega (arith, less, h.sent i q) }

-- the nodes with one set
with-node : (many p : ℕ) (w : DotWorld) (new : Dots) → CountAtMost many w → IsFew many new → CountAtMost many (record { nodes = slice_set w.nodes p new; sent = w.sent })
with-node many p w new h few = record { nodes = at-any (IsFew many) w.nodes p new h.nodes few; sent = h.sent }

update-few : (many p x : ℕ) (op : Op) (w : DotWorld) → CountAtMost many w → CountAtMost (many + 1) (dot_act w (Update p x op))
update-few many p x op w h = with-node (many + 1) p w (dots_updated p op (dots_at w.nodes p)) (few-more many (many + 1) w (omega arith) h) (new op) where
  new : (op : Op) → IsFew (many + 1) (dots_updated p op (dots_at w.nodes p))
  new (Add v) q = raised-few (dots_at w.nodes p).counts p many q (h.nodes p)
  new (Remove v) q = raised-few (dots_at w.nodes p).counts p many q (h.nodes p)
  new (Insert v) q = omega (arith, h.nodes p q)
  new (Inc n) q = omega (arith, h.nodes p q)
  new (Max n) q = omega (arith, h.nodes p q)
  new (Join s) q = omega (arith, h.nodes p q)

post-few : (many p : ℕ) (w : DotWorld) → CountAtMost many w → CountAtMost many (dot_act w (Post p))
post-few many p w h = record { nodes = h.nodes; sent = at-push (IsFew many) w.sent (dots_at w.nodes p) (no_dots 0) h.sent (h.nodes p) }

take-few : (many p i : ℕ) (w : DotWorld) → CountAtMost many w → CountAtMost many (dot_act w (Take p i))
take-few many p i w h = with-node many p w (join_dots (dots_at w.nodes p) (dots_at w.sent i)) h (λ q. larger-few (dots_at w.nodes p).counts (dots_at w.sent i).counts many q (h.nodes p q) (h.sent i q))

calm-few : (many : ℕ) (w : DotWorld) (acts : List Act) → AreCalm acts → CountAtMost many w → CountAtMost many (dot_each w acts)
calm-few many w [] calm h = h
calm-few many w (Post p ∷ rest) calm h = calm-few many (dot_act w (Post p)) rest calm.1 (post-few many p w h)
calm-few many w (Take p i ∷ rest) calm h = calm-few many (dot_act w (Take p i)) rest calm.1 (take-few many p i w h)
calm-few many w (a ∷ rest) calm h = absurd calm.0

-- how many updates a command makes
abbrev made_by : Command → ℕ
made_by k = updates (k ∷ [])

step-few : (many : ℕ) (w : DotWorld) (k : Command) → CountAtMost many w → CountAtMost (many + made_by k) (dot_each w (dot_acts w k))
step-few many w (command.Add p x v) h = update-few many p x (Add v) w h
step-few many w (command.Remove p x v) h = update-few many p x (Remove v) w h
step-few many w (command.Send p) h = few-more many (many + 0) (dot_act w (Post p)) (omega arith) (post-few many p w h)
step-few many w (command.Deliver p i) h = few-more many (many + 0) (dot_act w (Take p i)) (omega arith) (take-few many p i w h)
step-few many w command.Sync h = few-more many (many + 0) (dot_each w (dot_acts w command.Sync)) (omega arith) (calm-few many w (sync_acts (length w.nodes) (length w.sent)) (calm-sync (length w.nodes) (length w.sent)) h)
step-few many w command.Settle h = few-more many (many + 0) w (omega arith) h
step-few many w (command.Print p x) h = few-more many (many + 0) w (omega arith) h
step-few many w (command.Insert p x v) h = few-more many (many + 0) w (omega arith) h
step-few many w (command.Inc p x k) h = few-more many (many + 0) w (omega arith) h
step-few many w (command.Max p x n) h = few-more many (many + 0) w (omega arith) h
step-few many w (command.Mark p x) h = few-more many (many + 0) w (omega arith) h
step-few many w (command.Bind p x m) h = few-more many (many + 0) w (omega arith) h
step-few many w (command.Read p x until) h = few-more many (many + 0) w (omega arith) h
step-few many w (command.Await p x until) h = few-more many (many + 0) w (omega arith) h
step-few many w (command.Declare d) h = few-more many (many + 0) w (omega arith) h

-- how many commands a list has where this one may stand before it
abbrev with_first : Command → List Command → Bool → ℕ
with_first k rest b = length (if b then k ∷ rest else rest)

first-more : (k : Command) (rest : List Command) (b : Bool) → with_first k rest b ≡ with_first k [] b + length rest
first-more k rest true = omega arith
first-more k rest false = omega arith

first-few : (k : Command) (b : Bool) → with_first k [] b ≤ 1
first-few k true = omega arith
first-few k false = omega arith

pub step-more : (many : ℕ) (w : DotWorld) (k : Command) → CountAtMost many w → CountAtMost (many + 1) (dot_each w (dot_acts w k))
step-more many w k h = few-more (many + made_by k) (many + 1) (dot_each w (dot_acts w k)) (omega (arith, first-few k (is_update k))) (step-few many w k h)

updates-more : (k : Command) (rest : List Command) → updates (k ∷ rest) ≡ made_by k + updates rest
updates-more k rest = first-more k (filter is_update rest) (is_update k)

play-few : (many : ℕ) (w : DotWorld) (commands : List Command) → CountAtMost many w → CountAtMost (many + updates commands) (dot_play w commands)
unfolding dot_play
play-few many w [] h = few-more many (many + 0) w (omega arith) h
play-few many w (k ∷ rest) h =
    few-more (many + made_by k + updates rest) (many + updates (k ∷ rest)) (dot_play (dot_each w (dot_acts w k)) rest) (omega (arith, updates-more k rest)) (play-few (many + made_by k) (dot_each w (dot_acts w k)) rest (step-few many w k h))

pub start-few : (nodes : ℕ) → CountAtMost 0 (dot_start nodes)
start-few nodes = record { nodes = λ p q. first p q (below-or-not p nodes); sent = λ i q. omega arith } where
  first : (p q : ℕ) → (p < nodes) ⊎ (nodes ≤ p) → count_at (dots_at (replicate nodes (no_dots nodes)) p).counts q ≤ 0
  first p q (inl low) = omega (arith, ap (λ (d : Dots). count_at d.counts q) (at-replicate nodes p (no_dots nodes) (no_dots 0) low), count_at-zeros nodes q)
  first p q (inr high) = omega (arith, ap (λ (d : Dots). count_at d.counts q) (at-past (replicate nodes (no_dots nodes)) p (no_dots 0) (omega (arith, high, length-replicate nodes (no_dots nodes)))))

pub counted-made : (nodes : ℕ) (commands : List Command) (p q : ℕ) → count_at (dots_at (dot_play (dot_start nodes) commands).nodes p).counts q ≤ updates commands
counted-made nodes commands p q = omega (arith, (play-few 0 (dot_start nodes) commands (start-few nodes)).nodes p q)

updates-few : (commands : List Command) → updates commands ≤ length commands
updates-few [] = omega arith
updates-few (k ∷ rest) = omega (arith, updates-more k rest, first-few k (is_update k), updates-few rest)

pub counted-limit : (script : Script) → IsWithinLimits script → (p q : ℕ) → count_at (dots_at (dot_play (dot_start script.nodes) script.commands).nodes p).counts q < count_limit
counted-limit script limits p q = omega (arith, counted-made script.nodes script.commands p q, updates-few script.commands, limits.few)

pub ruleset sizes = (counted-made, counted-limit)
