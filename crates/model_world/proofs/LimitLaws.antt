-- How many nodes, marks and reads a run has: those of its commands.
use Rattle.std.proofs.Common.{◌≡◌, ℕ, ◌+◌, ◌≤◌, Bool, true, false, cond, if◌then◌else◌, List, [], ◌∷◌, ◌++◌, length, filter, Ok, refl, sym, ap, subst, ◌∙◌, arith}
use Rattle.model_graph.specs.Graph.{Decl}
use Rattle.model_graph.proofs.PlaceLaws.{map-length, length-push, set-length, length-replicate}
use Rattle.model_world.specs.Command as command
use Rattle.model_world.specs.Command.{Command, Script}
use Rattle.model_world.specs.Lawful.{node_limit, mark_limit, read_limit, is_mark, is_read, IsWithinLimits}
use Rattle.model_world.specs.World.{Run, Act, Update, Keep, Post, Take, Point, Show, Open, Reach, Extend, acts, act, each, step, start, fresh_peer, peer_at, updated, delivered, extended, sent_number, sync_acts, effect}
use Rattle.model_world.specs.Stops.{IsAfter, none, more}
use Rattle.model_world.proofs.EffectLaws.{act-effect}
use Rattle.model_world.proofs.FollowLaws.{bound}
use Rattle.model_world.proofs.RoundLaws.{AreCalm, calm-sync}

-- as many nodes as before, and so many more marks and reads
record IsMore (marks reads : ℕ) (run next : Run) : Type 0 where
  nodes : length next.peers ≡ length run.peers
  marked : length next.marks ≡ length run.marks + marks
  opened : length next.reads ≡ length run.reads + reads

same : (run : Run) → IsMore 0 0 run run
same run = record { nodes = refl; marked = omega arith; opened = omega arith }

further : (m n k l : ℕ) (a b c : Run) → IsMore m k a b → IsMore n l b c → IsMore (m + n) (k + l) a c
further m n k l a b c p q = record { nodes = q.nodes ∙ p.nodes; marked = omega (arith, p.marked, q.marked); opened = omega (arith, p.opened, q.opened) }

-- ---- acts

abbrev keeps : Act → ℕ
keeps (Keep p x) = 1
keeps _ = 0

abbrev opens : Act → ℕ
opens (Open p x until) = 1
opens _ = 0

abbrev all_keeps : List Act → ℕ
all_keeps [] = 0
all_keeps (a ∷ rest) = keeps a + all_keeps rest

abbrev all_opens : List Act → ℕ
all_opens [] = 0
all_opens (a ∷ rest) = opens a + all_opens rest

effect-more : (run : Run) (a : Act) → IsMore (keeps a) (opens a) run (effect run a)
effect-more run (Update p x op) = record { nodes = set-length run.peers p (updated p x op (peer_at run.peers p)); marked = omega arith; opened = omega arith }
effect-more run (Keep p x) = record { nodes = refl; marked = length-push run.marks _; opened = omega arith }
effect-more run (Post p) = record { nodes = refl; marked = omega arith; opened = omega arith }
effect-more run (Take p i) = record { nodes = set-length run.peers p (delivered run.graph (sent_number run.sent i) (peer_at run.peers p)); marked = omega arith; opened = omega arith }
effect-more run Point = same run
effect-more run (Show p x) = record { nodes = refl; marked = omega arith; opened = omega arith }
effect-more run (Open p x until) = record { nodes = refl; marked = omega arith; opened = length-push run.reads _ }
effect-more run (Reach p x until) = same run
effect-more run (Extend d) = record { nodes = map-length (extended (length run.peers) d) run.peers; marked = omega arith; opened = omega arith }

each-more : (c : ℕ) (run last : Run) (many : List Act) → each c run many ≡ Ok last → IsMore (all_keeps many) (all_opens many) run last
each-more c run last [] e = subst (λ (r : Run). IsMore 0 0 run r) (let is : run ≡ last = cc in is) (same run)
each-more c run last (a ∷ rest) e =
    let both = bound (act c run a) (λ next. each c next rest) last e in
    let first = subst (λ (r : Run). IsMore (keeps a) (opens a) run r) (sym (act-effect c run both.0 a both.1)) (effect-more run a) in
    further (keeps a) (all_keeps rest) (opens a) (all_opens rest) run both.0 last first (each-more c both.0 last rest both.2)

-- ---- commands

calm-none : (many : List Act) → AreCalm many → (all_keeps many ≡ 0) × (all_opens many ≡ 0)
calm-none [] h = (refl, refl)
calm-none (Post p ∷ rest) h = let r = calm-none rest h.1 in (omega (arith, r.0), omega (arith, r.1))
calm-none (Take p i ∷ rest) h = let r = calm-none rest h.1 in (omega (arith, r.0), omega (arith, r.1))
calm-none (Update p x op ∷ rest) h = absurd h.0
calm-none (Keep p x ∷ rest) h = absurd h.0
calm-none (Point ∷ rest) h = absurd h.0
calm-none (Show p x ∷ rest) h = absurd h.0
calm-none (Open p x until ∷ rest) h = absurd h.0
calm-none (Reach p x until ∷ rest) h = absurd h.0
calm-none (Extend d ∷ rest) h = absurd h.0

abbrev once : Bool → ℕ
once b = if b then 1 else 0

command-more : (run : Run) (k : Command) → (all_keeps (acts run k) ≡ once (is_mark k)) × (all_opens (acts run k) ≡ once (is_read k))
command-more run (command.Add p x v) = (refl, refl)
command-more run (command.Remove p x v) = (refl, refl)
command-more run (command.Insert p x v) = (refl, refl)
command-more run (command.Inc p x k) = (refl, refl)
command-more run (command.Max p x n) = (refl, refl)
command-more run (command.Mark p x) = (refl, refl)
command-more run (command.Bind p x m) = (refl, refl)
command-more run (command.Send p) = (refl, refl)
command-more run (command.Deliver p i) = (refl, refl)
command-more run command.Sync = calm-none (sync_acts (length run.peers) (length run.sent)) (calm-sync (length run.peers) (length run.sent))
command-more run command.Settle = (refl, refl)
command-more run (command.Print p x) = (refl, refl)
command-more run (command.Read p x until) = (refl, refl)
command-more run (command.Await p x until) = (refl, refl)
command-more run (command.Declare d) = (refl, refl)

step-more : (c : ℕ) (run next : Run) (k : Command) → step c run k ≡ Ok next → IsMore (once (is_mark k)) (once (is_read k)) run next
step-more c run next k e =
    let made = command-more run k in
    subst (λ (n : ℕ). IsMore n (once (is_read k)) run next) made.0 (subst (λ (n : ℕ). IsMore (all_keeps (acts run k)) n run next) made.1 (each-more c run next (acts run k) e))

-- how many commands pass a test
abbrev among : (Command → Bool) → List Command → ℕ
among p commands = length (filter p commands)

among-first : (p : Command → Bool) (k : Command) (rest : List Command) → among p (k ∷ rest) ≡ once (p k) + among p rest
among-first p k rest = elim (p k) as (λ b. length (cond b (k ∷ filter p rest) (filter p rest)) ≡ once b + among p rest) [ true ↦ omega arith | false ↦ omega arith ]

among-append : (p : Command → Bool) (first rest : List Command) → among p (first ++ rest) ≡ among p first + among p rest
among-append p [] rest = omega arith
among-append p (k ∷ first) rest = omega (arith, among-first p k (first ++ rest), among-append p first rest, among-first p k first)

after-more : (c : ℕ) (run last : Run) (done : List Command) → IsAfter c run done last → IsMore (among is_mark done) (among is_read done) run last
after-more c run last [] none = same run
after-more c run last (k ∷ rest) (more {next = next} e after) =
    subst (λ (n : ℕ). IsMore n (among is_read (k ∷ rest)) run last) (sym (among-first is_mark k rest))
    (subst (λ (n : ℕ). IsMore (once (is_mark k) + among is_mark rest) n run last) (sym (among-first is_read k rest))
    (further (once (is_mark k)) (among is_mark rest) (once (is_read k)) (among is_read rest) run next last (step-more c run next k e) (after-more (c + 1) next last rest after)))

-- ---- scripts

module _ (g : List Decl) (script : Script) (limits : IsWithinLimits script) (done rest : List Command) (all : done ++ rest ≡ script.commands) (last : Run) (after : IsAfter 1 (start g script.nodes) done last) where
  counts : IsMore (among is_mark done) (among is_read done) (start g script.nodes) last
  counts = after-more 1 (start g script.nodes) last done after

  pub few-nodes : length last.peers ≤ node_limit
  few-nodes = omega (arith, counts.nodes, length-replicate script.nodes (fresh_peer g script.nodes), limits.nodes)

  pub few-marks : length last.marks ≤ mark_limit
  few-marks = omega (arith, counts.marked, among-append is_mark done rest, ap (λ (ks : List Command). among is_mark ks) all, limits.marks)

  pub few-reads : length last.reads ≤ read_limit
  few-reads = omega (arith, counts.opened, among-append is_read done rest, ap (λ (ks : List Command). among is_read ks) all, limits.reads)

pub marked-count : (c : ℕ) (run last : Run) (done : List Command) → IsAfter c run done last → length last.marks ≡ length run.marks + length (filter is_mark done)
marked-count c run last done after = (after-more c run last done after).marked

pub opened-count : (c : ℕ) (run last : Run) (done : List Command) → IsAfter c run done last → length last.reads ≡ length run.reads + length (filter is_read done)
opened-count c run last done after = (after-more c run last done after).opened
