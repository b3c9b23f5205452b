-- The variable at which a run stops is one that the script has declared by then.
use Rattle.std.proofs.Common.{◌≡◌, ℕ, zero, suc, ◌+◌, ◌≤◌, ◌<◌, Bool, true, false, if◌then◌else◌, not, ◌==◌, nat_lt, List, [], ◌∷◌, ◌++◌, length, map, filter, Option, Some, None, Result, Ok, Err, replicate, slice_set, refl, sym, ap, subst, ◌∙◌, arith}
use Rattle.std.specs.Prelude.{flat_map}
use Rattle.std.specs.List.{AllByRecursion, range_with_len}
use Rattle.model_states.specs.Content.{Content, join_contents, size_of, row_limit}
use Rattle.model_states.specs.Counts.{count_at}
use Rattle.model_states.specs.Update.{delta}
use Rattle.model_states.specs.Threshold.{meets}
use Rattle.model_graph.specs.Chain.{◌>>=◌}
use Rattle.model_graph.specs.Evaluation.{content_at, first_large, least_of}
use Rattle.model_graph.specs.Graph.{Decl}
use Rattle.model_graph.proofs.EvalLaws.{eval-length}
use Rattle.model_graph.proofs.PlaceLaws.{length-append, length-push, map-length, set-length}
use Rattle.model_graph.specs.Message.{brought}
use Rattle.model_graph.proofs.MessageLaws.{gained-length}
use Rattle.model_world.specs.Command as command
use Rattle.model_world.specs.Command.{Command, Script}
use Rattle.model_world.specs.Lawful.{Stage, opening_stage, stage_after, MayBeDone, AreLawful, IsLawful}
use Rattle.model_world.specs.declared.stop.Stop.{Stop}
use Rattle.model_world.specs.declared.stop.Stop.TheVariants.{TooLarge, NetworkFull, NotReached}
use Rattle.model_world.specs.World.{Peer, Run, Act, Update, Keep, Post, Take, Point, Show, Open, Reach, Extend, fresh_peer, no_peer, peer_at, start, updated, delivered, extended, message_at, sent_number, network_size, network_limit, threshold_of, shown_at, shown_content_at, with_peer, with_decl, stop_from, point_from, takes, sync_acts, act, acts, each, step, play, ended}
use Rattle.model_scripts.specs.Progress.{stage_behind, grown}
use Rattle.model_scripts.proofs.GrowthLaws.{graph-stage_behind, grown-added}
use Rattle.model_runs.proofs.EachLaws.{each-append, each-replicate, each-set}

-- a run over a graph: no replica has more contents than there are variables
record IsOver (g : List Decl) (run : Run) : Type 0 where
  graph : run.graph ≡ g
  few : AllByRecursion (λ r. length r.contents ≤ length g) run.peers

-- what came of a run: a run over the graph, or a stop at a variable of the graph, or another stop
abbrev Comes : List Decl → Result Run Stop → Type 0
Comes g (Ok next) = IsOver g next
Comes g (Err (TooLarge c p x)) = x < length g
Comes g (Err (NetworkFull c)) = Unit {0}
Comes g (Err (NotReached c)) = Unit {0}

-- an act that declares nothing, and updates one of so many variables if it updates one
abbrev IsLow : ℕ → Act → Type 0
IsLow n (Update p x op) = x < n
IsLow n (Extend d) = ⊥
IsLow n _ = Unit {0}

-- ---- lists

pub first-low : (n : ℕ) (ss : List Content) (x : ℕ) → first_large n ss ≡ Some x → x < n + length ss
first-low n [] x e = absurd cc
first-low n (s ∷ ss) x e = choose (λ h. first-low (n + 1) ss x h) (nat_lt row_limit (size_of s)) e where
  choose : (first_large (n + 1) ss ≡ Some x → x < (n + 1) + length ss) → (b : Bool) → (if b then Some n else first_large (n + 1) ss) ≡ Some x → x < n + length (s ∷ ss)
  choose later true h = let same : n ≡ x = cc in omega (arith, same)
  choose later false h = omega (arith, later h)

-- a variable that shows too much is one of the graph
pub shown-low : (g : List Decl) (r : Peer) (x : ℕ) → first_large 0 (shown_at g r) ≡ Some x → x < length g
shown-low g r x large = omega (arith, first-low 0 (shown_at g r) x large, eval-length g r.contents)

each-at : (n : ℕ) (peers : List Peer) (p : ℕ) → AllByRecursion (λ r. length r.contents ≤ n) peers → length (peer_at peers p).contents ≤ n
each-at n [] zero h = omega arith
each-at n [] (suc p) h = omega arith
each-at n (r ∷ peers) zero h = h.0
each-at n (r ∷ peers) (suc p) h = each-at n peers p h.1

each-map : {A B : Type 0} (P : A → Type 0) (f : B → A) → ((y : B) → P (f y)) → (ys : List B) → AllByRecursion P (map f ys)
each-map P f h [] = tt
each-map P f h (y ∷ ys) = (h y, each-map P f h ys)

each-flat : {A B : Type 0} (P : A → Type 0) (f : B → List A) → ((y : B) → AllByRecursion P (f y)) → (ys : List B) → AllByRecursion P (flat_map f ys)
each-flat P f h [] = tt
each-flat P f h (y ∷ ys) = each-append P (f y) (flat_map f ys) (h y) (each-flat P f h ys)

each-through : {A B : Type 0} (P : A → Type 0) (Q : B → Type 0) (f : A → B) → ((x : A) → P x → Q (f x)) → (xs : List A) → AllByRecursion P xs → AllByRecursion Q (map f xs)
each-through P Q f h [] all = tt
each-through P Q f h (x ∷ xs) all = (h x all.0, each-through P Q f h xs all.1)

-- ---- acts

over-peer : (g : List Decl) (run : Run) (p : ℕ) (r : Peer) → IsOver g run → length r.contents ≤ length g → IsOver g (with_peer run p r)
over-peer g run p r h few = record { graph = h.graph; few = each-set (λ r. length r.contents ≤ length g) run.peers p r h.few few }

update-comes : (g : List Decl) (c p x : ℕ) (run : Run) (r : Peer) → IsOver g run → length r.contents ≤ length g → x < length g → (b : Bool) → Comes g (if b then Err (TooLarge c p x) else Ok (with_peer run p r))
update-comes g c p x run r h few low true = low
update-comes g c p x run r h few low false = over-peer g run p r h few

take-comes : (g : List Decl) (c p : ℕ) (run : Run) (r : Peer) → IsOver g run → length r.contents ≤ length g → (large : Option ℕ) → first_large 0 r.contents ≡ large → Comes g (stop_from large c p (Ok (with_peer run p r)))
take-comes g c p run r h few None e = over-peer g run p r h few
take-comes g c p run r h few (Some x) e = omega (arith, first-low 0 r.contents x e, few)

node-comes : (g : List Decl) (c p : ℕ) (ss : List Content) (rest : Result Run Stop) → length ss ≡ length g → Comes g rest → (large : Option ℕ) → first_large 0 ss ≡ large → Comes g (stop_from large c p rest)
node-comes g c p ss rest long h None e = h
node-comes g c p ss rest long h (Some x) e = omega (arith, first-low 0 ss x e, long)

point-comes : (g : List Decl) (c p : ℕ) (peers : List Peer) (run : Run) → IsOver g run → Comes g (point_from c p peers run)
point-comes g c p [] run h = h
point-comes g c p (r ∷ peers) run h =
    node-comes g c p (shown_at run.graph r) (point_from c (p + 1) peers run) (eval-length run.graph r.contents ∙ ap (λ (ds : List Decl). length ds) h.graph) (point-comes g c (p + 1) peers run h)
    (first_large 0 (shown_at run.graph r)) refl

act-comes : (g : List Decl) (c : ℕ) (run : Run) (a : Act) → IsOver g run → IsLow (length g) a → Comes g (act c run a)
act-comes g c run (Update p x op) h low = update-comes g c p x run after h few low (nat_lt row_limit (size_of (content_at after.contents x))) where
  before : Peer
  before = peer_at run.peers p

  after : Peer
  after = updated p x op before

  few : length (updated p x op (peer_at run.peers p)).contents ≤ length g
  few = omega (arith, set-length before.contents x (join_contents (content_at before.contents x) (delta op (content_at before.contents x) p (count_at before.counts p + 1))), each-at (length g) run.peers p h.few)
act-comes g c run (Keep p x) h low = record { graph = h.graph; few = h.few }
act-comes g c run (Post p) h low = choose (nat_lt network_limit (network_size (run.sent ++ message_at run.graph (peer_at run.peers p) ∷ []))) where
  choose : (b : Bool) → Comes g (if b then Err (NetworkFull c) else Ok (record { graph = run.graph; peers = run.peers; sent = run.sent ++ message_at run.graph (peer_at run.peers p) ∷ []; marks = run.marks; reads = run.reads; text = run.text }))
  choose true = tt
  choose false = record { graph = h.graph; few = h.few }
act-comes g c run (Take p i) h low =
    take-comes g c p run (delivered run.graph (sent_number run.sent i) (peer_at run.peers p)) h
    (omega (arith, gained-length (brought run.graph (sent_number run.sent i)) 0 (peer_at run.peers p).contents, each-at (length g) run.peers p h.few)) (first_large 0 (delivered run.graph (sent_number run.sent i) (peer_at run.peers p)).contents) refl
act-comes g c run Point h low = point-comes g c 0 run.peers run h
act-comes g c run (Show p x) h low = record { graph = h.graph; few = h.few }
act-comes g c run (Open p x until) h low = record { graph = h.graph; few = h.few }
act-comes g c run (Reach p x until) h low = choose (meets (threshold_of run.marks until) (shown_content_at run p x)) where
  choose : (b : Bool) → Comes g (if b then Ok run else Err (NotReached c))
  choose true = h
  choose false = tt
act-comes g c run (Extend d) h low = absurd low

-- ---- commands

later-comes : (g longer : List Decl) (r : Result Run Stop) (f : Run → Result Run Stop) → length g ≤ length longer → Comes g r → ((next : Run) → IsOver g next → Comes longer (f next)) → Comes longer (r >>= f)
later-comes g longer (Ok next) f more h goes = goes next h
later-comes g longer (Err (TooLarge c p x)) f more h goes = omega (arith, h, more)
later-comes g longer (Err (NetworkFull c)) f more h goes = tt
later-comes g longer (Err (NotReached c)) f more h goes = tt

each-comes : (g : List Decl) (c : ℕ) (run : Run) (all : List Act) → IsOver g run → AllByRecursion (IsLow (length g)) all → Comes g (each c run all)
each-comes g c run [] h low = h
each-comes g c run (a ∷ rest) h low =
    later-comes g g (act c run a) (λ next. each c next rest) (omega arith) (act-comes g c run a h low.0) (λ next over. each-comes g c next rest over low.1)

sync-low : (n nodes i : ℕ) → AllByRecursion (IsLow n) (sync_acts nodes i)
sync-low n nodes i =
    each-append (IsLow n) (map Post (range_with_len 0 nodes)) (flat_map (takes nodes i) (range_with_len 0 nodes))
    (each-map (IsLow n) Post (λ p. tt) (range_with_len 0 nodes))
    (each-flat (IsLow n) (takes nodes i) (λ p. each-map (IsLow n) (λ q. Take p (i + q)) (λ q. tt) (filter (λ q. not (q == p)) (range_with_len 0 nodes))) (range_with_len 0 nodes))

over-decl : (g : List Decl) (run : Run) (d : Decl) → IsOver g run → IsOver (g ++ d ∷ []) (with_decl run d)
over-decl g run d h = record {
  graph = ap (λ (ds : List Decl). ds ++ d ∷ []) h.graph;
  few = each-through (λ r. length r.contents ≤ length g) (λ r. length r.contents ≤ length (g ++ d ∷ [])) (extended (length run.peers) d)
      (λ r few. omega (arith, few, length-push r.contents (least_of (length run.peers) d.kind), length-push g d)) run.peers h.few;
}

step-comes : (nodes : ℕ) (s : Stage) (c : ℕ) (run : Run) (k : Command) → IsOver s.graph run → MayBeDone nodes s k → Comes (stage_after nodes s k).graph (step c run k)
step-comes nodes s c run (command.Add p x v) h may = each-comes s.graph c run (acts run (command.Add p x v)) h (may.0.1, tt)
step-comes nodes s c run (command.Remove p x v) h may = each-comes s.graph c run (acts run (command.Remove p x v)) h (may.0.1, tt)
step-comes nodes s c run (command.Insert p x v) h may = each-comes s.graph c run (acts run (command.Insert p x v)) h (may.0.1, tt)
step-comes nodes s c run (command.Inc p x n) h may = each-comes s.graph c run (acts run (command.Inc p x n)) h (may.0.1, tt)
step-comes nodes s c run (command.Max p x n) h may = each-comes s.graph c run (acts run (command.Max p x n)) h (may.0.1, tt)
step-comes nodes s c run (command.Mark p x) h may = each-comes s.graph c run (acts run (command.Mark p x)) h (tt, tt)
step-comes nodes s c run (command.Bind p x m) h may = each-comes s.graph c run (acts run (command.Bind p x m)) h (may.0.1, tt)
step-comes nodes s c run (command.Send p) h may = each-comes s.graph c run (acts run (command.Send p)) h (tt, tt)
step-comes nodes s c run (command.Deliver p i) h may = each-comes s.graph c run (acts run (command.Deliver p i)) h (tt, tt)
step-comes nodes s c run command.Sync h may = each-comes s.graph c run (acts run command.Sync) h (sync-low (length s.graph) (length run.peers) (length run.sent))
step-comes nodes s c run command.Settle h may = each-comes s.graph c run (acts run command.Settle) h (tt, tt)
step-comes nodes s c run (command.Print p x) h may = each-comes s.graph c run (acts run (command.Print p x)) h (tt, (tt, tt))
step-comes nodes s c run (command.Read p x until) h may = each-comes s.graph c run (acts run (command.Read p x until)) h (tt, tt)
step-comes nodes s c run (command.Await p x until) h may = each-comes s.graph c run (acts run (command.Await p x until)) h (tt, (tt, tt))
step-comes nodes s c run (command.Declare d) h may =
    later-comes s.graph (s.graph ++ d ∷ []) (act c run Point) (λ next. each c next (Extend d ∷ [])) (omega (arith, length-push s.graph d)) (act-comes s.graph c run Point h tt) (λ next over. over-decl s.graph next d over)

-- ---- scripts

behind-longer : (nodes : ℕ) (s : Stage) (ks : List Command) → length s.graph ≤ length (stage_behind nodes s ks).graph
behind-longer nodes s ks = omega (arith, longer, length-append s.graph (grown [] ks)) where
  longer : length (stage_behind nodes s ks).graph ≡ length (s.graph ++ grown [] ks)
  longer = ap (λ (g : List Decl). length g) (graph-stage_behind nodes s ks ∙ grown-added s.graph ks)

play-comes : (nodes : ℕ) (s : Stage) (c : ℕ) (run : Run) (ks : List Command) → IsOver s.graph run → AreLawful nodes s ks → Comes (stage_behind nodes s ks).graph (play c run ks)
unfolding play
play-comes nodes s c run [] h lawful = act-comes s.graph c run Point h tt
play-comes nodes s c run (k ∷ ks) h lawful =
    let after : Stage = stage_after nodes s k in
    later-comes after.graph (stage_behind nodes after ks).graph (step c run k) (λ next. play (c + 1) next ks) (behind-longer nodes after ks) (step-comes nodes s c run k h lawful.0)
    (λ next over. play-comes nodes after (c + 1) next ks over lawful.1)

over-start : (g : List Decl) (nodes : ℕ) → IsOver g (start g nodes)
over-start g nodes = record { graph = refl; few = each-replicate (λ r. length r.contents ≤ length g) nodes (fresh_peer g nodes) (omega (arith, map-length (λ (d : Decl). least_of nodes d.kind) g)) }

-- a lawful script stops at a variable of the graph that its commands leave behind
pub stop-declared : (g : List Decl) (script : Script) (c p x : ℕ) → IsLawful g script → ended g script ≡ Err (TooLarge c p x) → x < length (grown g script.commands)
stop-declared g script c p x lawful e =
    subst (Comes (grown g script.commands)) e
    (subst (λ (ds : List Decl). Comes ds (ended g script)) (graph-stage_behind script.nodes (opening_stage g) script.commands)
    (play-comes script.nodes (opening_stage g) 1 (start g script.nodes) script.commands (over-start g script.nodes) lawful.each))

pub ruleset stop_laws = (stop-declared)
