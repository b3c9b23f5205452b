-- Each lawful command that is done keeps every node tied to the journal of its calls, and so does a whole run.
use Rattle.std.proofs.Common.{◌≡◌, ℕ, suc, ◌+◌, ◌≤◌, ◌<◌, IsTrue, List, [], ◌∷◌, ◌++◌, length, Result, Ok, Err, refl, sym, ap, subst, ◌∙◌, arith}
use Rattle.model_states.specs.Content.{Content}
use Rattle.model_states.specs.Update.{Op, Add, Remove, Insert, Inc, Max, Join}
use Rattle.model_graph.specs.Chain.{◌>>=◌}
use Rattle.model_graph.specs.Graph.{Kind, Decl, is_source, kind_at}
use Rattle.model_graph.specs.Graph as graph
use Rattle.model_graph.specs.Lawful.{IsGraph}
use Rattle.model_graph.proofs.PlaceLaws.{at-replicate}
use Rattle.model_world.specs.Command as command
use Rattle.model_world.specs.Command.{Command}
use Rattle.model_world.specs.Lawful.{Stage, opening_stage, stage_after, MayBeDone, AreLawful}
use Rattle.model_world.specs.World as world
use Rattle.model_world.specs.World.{Peer, Run, fresh_peer, no_peer, peer_at, mark_at, message_at, takes, sync_acts, acts, act, each, step, start}
use Rattle.model_world.specs.declared.stop.Stop.{Stop}
use Rattle.model_world.specs.Follow.{Followed, with_run, follow_act, follow_each, follow_step, follow, begin, followed}
use Rattle.model_world.specs.Holds.{IsPlaceOf}
use Rattle.model_world.specs.Owner.{AreOwned}
use Rattle.model_world.proofs.EffectLaws.{follow-effect}
use Rattle.model_world.proofs.KnowsLaws.{no-deltas}
use Rattle.model_world.proofs.SoundLaws.{sound-begin}
use Rattle.model_world.proofs.FollowLaws.{bound, each-run}
use Rattle.model_world.proofs.PlayLaws.{stage_of, mark-owned, source-of, step-sound}
use Rattle.model_journal.specs.Entry.{Entry}
use Rattle.model_journal.specs.Legal.{count_limit, IsValid}
use Rattle.model_runs.specs.Calls.{frame_of, call_of, when_done, calls_of_acts, calls}
use Rattle.model_runs.proofs.MatchLaws.{append-again}
use Rattle.model_runs.proofs.TieLaws.{Ties, Tied}
use Rattle.model_runs.proofs.StepLaws.{FitsLawfully, updates, nothing-new, tied-update, tied-take, tied-keep, tied-post, tied-extend}
use Rattle.model_runs.proofs.RoundLaws.{AllFit, IsRound, all_updates, round-fits, round-updates, sync-round}

-- ---- one act

same-done : (opening : List Decl) (nodes done : ℕ) (h : ℕ → List Entry) (f : Followed) → Tied opening nodes done h f → Tied opening nodes (done + 0) h f
same-done opening nodes done h f t = subst (λ (n : ℕ). Tied opening nodes n h f) (let e : done ≡ done + 0 = omega arith in e) t

tied-effect : (opening : List Decl) (nodes done c : ℕ) (h : ℕ → List Entry) (f : Followed) (a : world.Act) (next : Run) → Tied opening nodes done h f → FitsLawfully nodes f a → act c f.run a ≡ Ok next → done + updates a ≤ count_limit
    → Tied opening nodes (done + updates a) (λ q. h q ++ call_of f.run q a) (followed f a)
tied-effect opening nodes done c h f (world.Update p x op) next t may e limit = tied-update opening nodes done h f t c p x op next may e limit
tied-effect opening nodes done c h f (world.Keep p x) next t may e limit = same-done opening nodes done (λ q. h q ++ []) (followed f (world.Keep p x)) (tied-keep opening nodes done h f t p x may.0 may.1)
tied-effect opening nodes done c h f (world.Post p) next t may e limit = same-done opening nodes done (λ q. h q ++ []) (followed f (world.Post p)) (tied-post opening nodes done h f t p may)
tied-effect opening nodes done c h f (world.Take p i) next t may e limit =
    same-done opening nodes done (λ q. h q ++ call_of f.run q (world.Take p i)) (followed f (world.Take p i)) (tied-take opening nodes done h f t c p i next may e (omega (arith, limit)))
tied-effect opening nodes done c h f world.Point next t may e limit = same-done opening nodes done (λ q. h q ++ []) f (nothing-new opening nodes done h f t f t)
tied-effect opening nodes done c h f (world.Show p x) next t may e limit = same-done opening nodes done (λ q. h q ++ []) (followed f (world.Show p x)) (still (nothing-new opening nodes done h f t f t)) where
  still : Tied opening nodes done (λ q. h q ++ []) f → Tied opening nodes done (λ q. h q ++ []) (followed f (world.Show p x))
  still s = record { sound = s.sound; ties = s.ties; sent = s.sent; marks = s.marks; few = s.few }
tied-effect opening nodes done c h f (world.Open p x until) next t may e limit = same-done opening nodes done (λ q. h q ++ []) (followed f (world.Open p x until)) (still (nothing-new opening nodes done h f t f t)) where
  still : Tied opening nodes done (λ q. h q ++ []) f → Tied opening nodes done (λ q. h q ++ []) (followed f (world.Open p x until))
  still s = record { sound = s.sound; ties = s.ties; sent = s.sent; marks = s.marks; few = s.few }
tied-effect opening nodes done c h f (world.Reach p x until) next t may e limit = same-done opening nodes done (λ q. h q ++ []) f (nothing-new opening nodes done h f t f t)
tied-effect opening nodes done c h f (world.Extend d) next t may e limit =
    same-done opening nodes done (λ q. h q ++ call_of f.run q (world.Extend d)) (followed f (world.Extend d)) (tied-extend opening nodes done h f t d may (omega (arith, limit)))

-- ---- acts one after the other

tied-each : (opening : List Decl) (nodes done c : ℕ) (h : ℕ → List Entry) (f last : Followed) (many : List world.Act) → Tied opening nodes done h f → AllFit nodes f many → follow_each c f many ≡ Ok last → done + all_updates many ≤ count_limit
    → Tied opening nodes (done + all_updates many) (λ q. h q ++ calls_of_acts c f.run q many) last
tied-each opening nodes done c h f last [] t may e limit =
    subst (λ (g : Followed). Tied opening nodes (done + 0) (λ q. h q ++ []) g) (let same : f ≡ last = cc in same) (same-done opening nodes done (λ q. h q ++ []) f (nothing-new opening nodes done h f t f t))
tied-each opening nodes done c h f last (a ∷ rest) t may e limit =
    let both = bound (follow_act c f a) (λ mid. follow_each c mid rest) last e in
    let mid = both.0 in
    let acted = bound (act c f.run a) (λ next. Ok (with_run f a next)) mid both.1 in
    let is : mid ≡ followed f a = follow-effect c f mid a both.1 in
    let same : acted.0 ≡ mid.run = ap (λ (g : Followed). g.run) (let both_ways : with_run f a acted.0 ≡ mid = cc in both_ways) in
    let first : Tied opening nodes (done + updates a) (λ q. h q ++ call_of f.run q a) mid =
    subst (λ (g : Followed). Tied opening nodes (done + updates a) (λ q. h q ++ call_of f.run q a) g) (sym is) (tied-effect opening nodes done c h f a acted.0 t may.0 acted.1 (omega (arith, limit))) in
    let later = tied-each opening nodes (done + updates a) c (λ q. h q ++ call_of f.run q a) mid last rest first (subst (λ (g : Followed). AllFit nodes g rest) (sym is) may.1) both.2 (omega (arith, limit)) in
    let whole : (q : ℕ) → (h q ++ call_of f.run q a) ++ calls_of_acts c mid.run q rest ≡ h q ++ (call_of f.run q a ++ when_done (act c f.run a) (λ next. calls_of_acts c next q rest)) =
    λ q. append-again (h q) (call_of f.run q a) (calls_of_acts c mid.run q rest)
    ∙ ap (λ (r : Result Run Stop). h q ++ (call_of f.run q a ++ when_done r (λ next. calls_of_acts c next q rest))) (sym (acted.1 ∙ ap (λ (run : Run). Ok run) same)) in
    let count : (done + updates a) + all_updates rest ≡ done + (updates a + all_updates rest) = omega arith in
    subst (λ (k : ℕ → List Entry). Tied opening nodes (done + (updates a + all_updates rest)) k last) (λ i q. whole q i) (subst (λ (n : ℕ). Tied opening nodes n (λ q. (h q ++ call_of f.run q a) ++ calls_of_acts c mid.run q rest) last) count later)

-- ---- the commands

record CommandFits (nodes : ℕ) (f : Followed) (many : List world.Act) : Type 0 where
  all : AllFit nodes f many
  one : all_updates many ≤ 1

update-fits : (nodes : ℕ) (f : Followed) (p x : ℕ) (op : Op) → FitsLawfully nodes f (world.Update p x op) → CommandFits nodes f (world.Update p x op ∷ [])
update-fits nodes f p x op h = record { all = (h, tt); one = omega arith }

command-fits : (opening : List Decl) (nodes done : ℕ) (h : ℕ → List Entry) (f : Followed) (k : Command) → Tied opening nodes done h f → MayBeDone nodes (stage_of f) k → CommandFits nodes f (acts f.run k)
command-fits opening nodes done h f (command.Add p x v) t m = update-fits nodes f p x (Add v) (m.0.0, m.0.1, source-of f.run.graph x graph.OrSet refl m.1, λ s e. absurd cc, m.1, m.2)
command-fits opening nodes done h f (command.Remove p x v) t m = update-fits nodes f p x (Remove v) (m.0.0, m.0.1, source-of f.run.graph x graph.OrSet refl m.1, λ s e. absurd cc, m.1, m.2)
command-fits opening nodes done h f (command.Insert p x v) t m = update-fits nodes f p x (Insert v) (m.0.0, m.0.1, source-of f.run.graph x graph.GSet refl m.1, λ s e. absurd cc, m.1, m.2)
command-fits opening nodes done h f (command.Inc p x n) t m = update-fits nodes f p x (Inc n) (m.0.0, m.0.1, source-of f.run.graph x graph.Counter refl m.1, λ s e. absurd cc, m.1, tt)
command-fits opening nodes done h f (command.Max p x n) t m = update-fits nodes f p x (Max n) (m.0.0, m.0.1, source-of f.run.graph x graph.MaxReg refl m.1, λ s e. absurd cc, m.1, m.2)
command-fits opening nodes done h f (command.Mark p x) t m = record { all = ((m.0.0, m.0.1), tt); one = omega arith }
command-fits opening nodes done h f (command.Bind p x b) t m = update-fits nodes f p x (Join content) (m.0.0, m.0.1, m.1, owned, m.1, valid) where
  content : Content
  content = (mark_at f.run.marks b).content

  joined : (s u : Content) → Join s ≡ Join u → s ≡ u
  joined s u e = cc

  owned : (s : Content) → Join (mark_at f.run.marks b).content ≡ Join s → AreOwned f.deltas x s.rows
  owned s e = subst (λ (c : Content). AreOwned f.deltas x c.rows) (joined content s e) (mark-owned nodes f x b t.sound m.2.0 m.2.1)

  valid : IsValid nodes (kind_at f.run.graph x) 1 (mark_at f.run.marks b).content
  valid = subst (λ (y : ℕ). IsTrue (is_source (kind_at f.run.graph y)) → IsValid nodes (kind_at f.run.graph y) 1 (mark_at f.run.marks b).content) m.2.1 (t.marks b m.2.0).valid m.1
command-fits opening nodes done h f (command.Send p) t m = record { all = (m, tt); one = omega arith }
command-fits opening nodes done h f (command.Deliver p i) t m = record { all = (m.1, tt); one = omega arith }
command-fits opening nodes done h f command.Sync t m =
    let round : IsRound nodes (length f.run.sent) (sync_acts (length f.run.peers) (length f.run.sent)) = subst (λ (n : ℕ). IsRound nodes (length f.run.sent) (sync_acts n (length f.run.sent))) (sym t.sound.many) (sync-round nodes (length f.run.sent)) in
    record {
      all = round-fits nodes f (sync_acts (length f.run.peers) (length f.run.sent)) round;
      one = omega (arith, round-updates nodes (length f.run.sent) (sync_acts (length f.run.peers) (length f.run.sent)) round);
    }
command-fits opening nodes done h f command.Settle t m = record { all = (tt, tt); one = omega arith }
command-fits opening nodes done h f (command.Print p x) t m = record { all = (tt, (tt, tt)); one = omega arith }
command-fits opening nodes done h f (command.Read p x until) t m = record { all = (tt, tt); one = omega arith }
command-fits opening nodes done h f (command.Await p x until) t m = record { all = (tt, (tt, tt)); one = omega arith }
command-fits opening nodes done h f (command.Declare d) t m = record { all = (tt, (m, tt)); one = omega arith }

tied-more : (opening : List Decl) (nodes done more : ℕ) (h : ℕ → List Entry) (f : Followed) → done ≤ more → Tied opening nodes done h f → Tied opening nodes more h f
tied-more opening nodes done more h f le t = record { sound = t.sound; ties = t.ties; sent = t.sent; marks = t.marks; few = λ q. omega (arith, le, t.few q) }

-- a command that is done in the followed run is done in the run
pub done-is : (c : ℕ) (f next : Followed) (k : Command) → follow_step c f k ≡ Ok next → step c f.run k ≡ Ok next.run
done-is c f next k e = sym (all (each c f.run (acts f.run k))) ∙ sym (each-run c f (acts f.run k) (λ run. Ok run)) ∙ ap (λ (r : Result Followed Stop). r >>= (λ g. Ok g.run)) e where
  all : (r : Result Run Stop) → (r >>= (λ run. Ok run)) ≡ r
  all (Ok run) = refl
  all (Err stop) = refl

pub tied-run : (opening : List Decl) (nodes done c : ℕ) (stage : Stage) (h : ℕ → List Entry) (f last : Followed) (commands : List Command) → Tied opening nodes done h f → stage ≡ stage_of f → AreLawful nodes stage commands
    → follow c f commands ≡ Ok last → done + length commands ≤ count_limit → Tied opening nodes (done + length commands) (λ q. h q ++ calls c f.run q commands) last
unfolding follow calls
tied-run opening nodes done c stage h f last [] t at lawful e limit =
    subst (λ (g : Followed). Tied opening nodes (done + 0) (λ q. h q ++ []) g) (let same : f ≡ last = cc in same) (same-done opening nodes done (λ q. h q ++ []) f (nothing-new opening nodes done h f t f t))
tied-run opening nodes done c stage h f last (k ∷ rest) t at lawful e limit =
    let both = bound (follow_step c f k) (λ next. follow (c + 1) next rest) last e in
    let mid = both.0 in
    let may : MayBeDone nodes (stage_of f) k = subst (λ (z : Stage). MayBeDone nodes z k) at lawful.0 in
    let fits = command-fits opening nodes done h f k t may in
    let first = tied-more opening nodes (done + all_updates (acts f.run k)) (done + 1) (λ q. h q ++ calls_of_acts c f.run q (acts f.run k)) mid (omega (arith, fits.one))
    (tied-each opening nodes done c h f mid (acts f.run k) t fits.all both.1 (omega (arith, fits.one, limit))) in
    let stands = (step-sound nodes c stage f mid k (record { sound = t.sound; stands = at }) lawful.0 both.1).stands in
    let later = tied-run opening nodes (done + 1) (c + 1) (stage_after nodes stage k) (λ q. h q ++ calls_of_acts c f.run q (acts f.run k)) mid last rest first stands lawful.1 both.2 (omega (arith, limit)) in
    let whole : (q : ℕ) → (h q ++ calls_of_acts c f.run q (acts f.run k)) ++ calls (c + 1) mid.run q rest ≡ h q ++ (calls_of_acts c f.run q (acts f.run k) ++ when_done (step c f.run k) (λ next. calls (c + 1) next q rest)) =
    λ q. append-again (h q) (calls_of_acts c f.run q (acts f.run k)) (calls (c + 1) mid.run q rest)
    ∙ ap (λ (r : Result Run Stop). h q ++ (calls_of_acts c f.run q (acts f.run k) ++ when_done r (λ next. calls (c + 1) next q rest))) (sym (done-is c f mid k both.1)) in
    let count : (done + 1) + length rest ≡ done + suc (length rest) = omega arith in
    subst (λ (z : ℕ → List Entry). Tied opening nodes (done + suc (length rest)) z last) (λ i q. whole q i)
    (subst (λ (n : ℕ). Tied opening nodes n (λ q. (h q ++ calls_of_acts c f.run q (acts f.run k)) ++ calls (c + 1) mid.run q rest) last) count later)

pub tied-begin : (opening : List Decl) (nodes : ℕ) → IsGraph opening → Tied opening nodes 0 (λ q. []) (begin opening nodes)
tied-begin opening nodes ok = record {
  sound = sound-begin opening nodes;
  ties = λ p low. subst (λ (r : Peer). Ties (frame_of opening nodes p) [] opening r) (sym (at-replicate nodes p (fresh_peer opening nodes) no_peer low))
      (record { legal = record { opening = ok; member = low; in_turn = tt }; same = record { graph_is = refl; contents_are = refl; counts_are = refl } });
  sent = λ i made. absurd (omega (arith, made));
  marks = λ m made. absurd (omega (arith, made));
  few = λ q. omega (arith, no-deltas nodes q);
}

-- so at each place of a lawful run each node is tied to the journal of its calls
pub place-ties : (g : List Decl) (nodes : ℕ) (commands : List Command) (f : Followed) → IsGraph g → length commands ≤ count_limit → IsPlaceOf g nodes commands f → (p : ℕ) → p < nodes
    → Ties (frame_of g nodes p) (calls 1 (start g nodes) p commands) f.run.graph (peer_at f.run.peers p)
place-ties g nodes commands f ok few place p low =
    (tied-run g nodes 0 1 (opening_stage g) (λ q. []) (begin g nodes) f commands (tied-begin g nodes ok) refl place.lawful place.reached (omega (arith, few))).ties p low
