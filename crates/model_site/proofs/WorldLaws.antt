-- A site is a replica of a world: what it takes in and its updates are acts there.
use Rattle.std.proofs.Common.{refl, sym, ap, subst, ◌∙◌, arith}
use Rattle.std.specs.Prelude.{◌≡◌, ◌<◌, ◌≤◌, ℕ, ◌+◌, ◌++◌, Bool, nat_lt, nat_le, if◌then◌else◌, List, [], ◌∷◌, length, map, Option, None, Result, Ok, Err}
use Rattle.std.specs.List.{range_with_len}
use Rattle.std.proofs.lemmas.Bool.{leb-true, le-ltb}
use Rattle.std.proofs.lemmas.List.{append_assoc}
use Rattle.model_states.specs.Content.{size_of, row_limit}
use Rattle.model_states.specs.Counts.{count_at}
use Rattle.model_states.specs.Update.{Op}
use Rattle.model_graph.specs.Chain.{◌>>=◌, check}
use Rattle.model_graph.specs.Evaluation.{content_at, first_large}
use Rattle.model_graph.specs.Graph.{Decl, name_at}
use Rattle.model_graph.proofs.PlaceLaws.{at-set, set-length, at-replicate, length-replicate, length-push}
use Rattle.model_graph.specs.Message.{Message}
use Rattle.model_world.specs.Command.{Command}
use Rattle.model_world.specs.World.{Peer, Run, Act, Update, Take, fresh_peer, no_peer, peer_at, sent_number, updated, delivered, shown_at, with_peer, stop_from, checked_update, checked_delivery, act, acts, each, step}
use Rattle.model_world.specs.declared.stop.Stop.{Stop}
use Rattle.model_world.specs.declared.stop.Stop.TheVariants.{TooLarge}
use Rattle.model_program.specs.Merge.{taking}
use Rattle.model_program.specs.declared.refusal.Refusal.TheVariants as shared
use Rattle.model_site.specs.Site.{own, IsOwn, adds, removes, inserts, counts, raises, AreOwn, update_limit, update_done, done_by, updates_done}
use Rattle.model_site.specs.Told.{heard, AreTaken, nothing, state, more}
use Rattle.model_site.specs.World.{sent_world, played, IsSiteWorld}
use Rattle.model_site.specs.declared.site_refusal.SiteRefusal.{SiteRefusal}
use Rattle.model_site.specs.declared.site_refusal.SiteRefusal.TheVariants.{Shared, UpdatesFull}
use Rattle.model_site.proofs.SiteLaws.{own-told, check-passed, ok-same, one-more, none-left}

-- a run over the graph, of so many nodes, in which these messages were sent and replica p is so
pub record IsRunOf (p nodes : ℕ) (g : List Decl) (sent : List Message) (r : Peer) (run : Run) : Type 0 where
  pub graph : run.graph ≡ g
  pub many : length run.peers ≡ nodes
  pub peer : peer_at run.peers p ≡ r
  pub sent_is : run.sent ≡ sent

with-replica : (p nodes : ℕ) (g : List Decl) (sent : List Message) (r new : Peer) (run : Run) → p < nodes → IsRunOf p nodes g sent r run → IsRunOf p nodes g sent new (with_peer run p new)
with-replica p nodes g sent r new run member is = record {
  graph = is.graph;
  many = set-length run.peers p new ∙ is.many;
  peer = at-set (λ (x : Peer). x ≡ new) run.peers p new no_peer p (omega (arith, member, is.many)) (λ _. refl) (λ other. absurd (other refl));
  sent_is = is.sent_is;
}

start-run : (p nodes : ℕ) (g : List Decl) (sent : List Message) → p < nodes → IsRunOf p nodes g sent (fresh_peer g nodes) (sent_world g nodes sent)
start-run p nodes g sent member = record { graph = refl; many = length-replicate nodes (fresh_peer g nodes); peer = at-replicate nodes p (fresh_peer g nodes) no_peer member; sent_is = refl }

-- ---- deliveries

-- each message leaves no source too large
abbrev pub AreSmall : List Decl → Peer → List Message → Type 0
AreSmall g r [] = Unit {0}
AreSmall g r (m ∷ ms) = (first_large 0 (delivered g m r).contents ≡ None) × AreSmall g (delivered g m r) ms

small-more : (g : List Decl) (r : Peer) (ms : List Message) (m : Message) → AreSmall g r ms → first_large 0 (delivered g m (taking g r ms)).contents ≡ None → AreSmall g r (ms ++ m ∷ [])
small-more g r [] m all small = (small, tt)
small-more g r (k ∷ ms) m all small = (all.0, small-more g (delivered g k r) ms m all.1 small)

pub taken-small : (content : List ℕ → Option (List ℕ)) (words : List (List ℕ)) (g : List Decl) (nodes f : ℕ) (ms : List Message) → AreTaken content words g nodes f ms → AreSmall g (fresh_peer g nodes) ms
taken-small content words g nodes _ _ (nothing file) = tt
taken-small content words g nodes _ _ (state {m = m} some taken) = (taken.small, tt)
taken-small content words g nodes _ _ (more {f = f} {ms = ms} {m = m} before taken) = small-more g (fresh_peer g nodes) ms m (taken-small content words g nodes f ms before) taken.small

-- message number i is there
there : (before rest : List Message) (m : Message) → sent_number (before ++ m ∷ rest) (length before) ≡ m
there [] rest m = refl
there (k ∷ before) rest m = there before rest m

take-done : (p nodes : ℕ) (g : List Decl) (before rest : List Message) (m : Message) (r : Peer) (run : Run) → IsRunOf p nodes g (before ++ m ∷ rest) r run → first_large 0 (delivered g m r).contents ≡ None
    → act 0 run (Take p (length before)) ≡ Ok (with_peer run p (delivered g m r))
take-done p nodes g before rest m r run is small =
    ap (λ (x : Peer). checked_delivery 0 p run x) same ∙ ap (λ (o : Option ℕ). stop_from o 0 p (Ok (with_peer run p (delivered g m r)))) small
  where
    number : sent_number run.sent (length before) ≡ m
    number = ap (λ (ms : List Message). sent_number ms (length before)) is.sent_is ∙ there before rest m

    same : delivered run.graph (sent_number run.sent (length before)) (peer_at run.peers p) ≡ delivered g m r
    same = ap (λ (h : List Decl). delivered h (sent_number run.sent (length before)) (peer_at run.peers p)) is.graph
        ∙ ap (λ (k : Message). delivered g k (peer_at run.peers p)) number
        ∙ ap (λ (x : Peer). delivered g m x) is.peer

-- replica p took all messages that are left
pub takes-done : (p nodes : ℕ) (g : List Decl) (before rest : List Message) (r : Peer) (run : Run) → p < nodes → IsRunOf p nodes g (before ++ rest) r run → AreSmall g r rest
    → (last : Run) × (each 0 run (map (Take p) (range_with_len (length before) (length rest))) ≡ Ok last) × IsRunOf p nodes g (before ++ rest) (taking g r rest) last
takes-done p nodes g before [] r run member is small = (run, refl, is)
takes-done p nodes g before (m ∷ ms) r run member is small =
    let next : Run = with_peer run p (delivered g m r) in
    let one : act 0 run (Take p (length before)) ≡ Ok next = take-done p nodes g before ms m r run is small.0 in
    let again : (before ++ m ∷ []) ++ ms ≡ before ++ m ∷ ms = append_assoc before (m ∷ []) ms in
    let later : IsRunOf p nodes g ((before ++ m ∷ []) ++ ms) (delivered g m r) next =
    subst (λ (sent : List Message). IsRunOf p nodes g sent (delivered g m r) next) (sym again) (with-replica p nodes g (before ++ m ∷ ms) r (delivered g m r) run member is) in
    let all = takes-done p nodes g (before ++ m ∷ []) ms (delivered g m r) next member later small.1 in (
      all.0,
      ap (λ (a : Result Run Stop). a >>= (λ mid. each 0 mid (map (Take p) (range_with_len (length before + 1) (length ms))))) one
          ∙ ap (λ (n : ℕ). each 0 next (map (Take p) (range_with_len n (length ms)))) (let long : length before + 1 ≡ length (before ++ m ∷ []) = omega (arith, length-push before m) in long)
          ∙ all.1,
      subst (λ (sent : List Message). IsRunOf p nodes g sent (taking g (delivered g m r) ms) all.0) again all.2,
    )

-- ---- updates

own-acts : (p : ℕ) (k : Command) (x : ℕ) (op : Op) (run : Run) → IsOwn p k x op → acts run k ≡ Update p x op ∷ []
own-acts p _ _ _ run adds = refl
own-acts p _ _ _ run removes = refl
own-acts p _ _ _ run inserts = refl
own-acts p _ _ _ run counts = refl
own-acts p _ _ _ run raises = refl

pub update-passed : (p : ℕ) (g : List Decl) (c : ℕ) (r next : Peer) (u : ℕ × Op) → update_done p g c r u ≡ Ok next → (next ≡ updated p u.0 u.1 r) × (size_of (content_at (updated p u.0 u.1 r).contents u.0) ≤ row_limit)
update-passed p g c r next u h =
    let first = check-passed (nat_lt (count_at r.counts p) update_limit) (UpdatesFull c p) (λ _. check (nat_le (size_of (content_at (updated p u.0 u.1 r).contents u.0)) row_limit) (Shared (shared.TooLarge c p (name_at g u.0))) >>= λ _. Ok (updated p u.0 u.1 r)) next h in
    let second = check-passed (nat_le (size_of (content_at (updated p u.0 u.1 r).contents u.0)) row_limit) (Shared (shared.TooLarge c p (name_at g u.0))) (λ _. Ok (updated p u.0 u.1 r)) next first.1 in
    (sym (ok-same (updated p u.0 u.1 r) next second.1), leb-true (size_of (content_at (updated p u.0 u.1 r).contents u.0)) row_limit second.0)

step-done : (p nodes : ℕ) (g : List Decl) (sent : List Message) (c x : ℕ) (op : Op) (k : Command) (r next : Peer) (run : Run) → IsRunOf p nodes g sent r run → IsOwn p k x op → update_done p g c r (x, op) ≡ Ok next
    → step c run k ≡ Ok (with_peer run p next)
step-done p nodes g sent c x op k r next run is mine done =
    ap (λ (many : List Act). each c run many) (own-acts p k x op run mine)
    ∙ ap (λ (y : Peer). checked_update c p x run (updated p x op y) >>= (λ mid. each c mid [])) is.peer
    ∙ ap (λ (b : Bool). (if b then Err (TooLarge c p x) else Ok (with_peer run p (updated p x op r))) >>= (λ mid. each c mid [])) (le-ltb row_limit (size_of (content_at (updated p x op r).contents x)) parts.1)
    ∙ ap (λ (y : Peer). Ok (with_peer run p y)) (sym parts.0)
  where
    parts : (next ≡ updated p x op r) × (size_of (content_at (updated p x op r).contents x) ≤ row_limit)
    parts = update-passed p g c r next (x, op) done

played-none : (c : ℕ) (run : Run) → played c run [] ≡ Ok run
unfolding played
played-none c run = refl

played-more : (c : ℕ) (run : Run) (k : Command) (rest : List Command) → played c run (k ∷ rest) ≡ (step c run k >>= (λ next. played (c + 1) next rest))
unfolding played
played-more c run k rest = refl

pub bound-ok : {A B : Type 0} (r : Result A SiteRefusal) (f : A → Result B SiteRefusal) (b : B) → (r >>= f) ≡ Ok b → (a : A) × (r ≡ Ok a) × (f a ≡ Ok b)
bound-ok (Ok a) f b e = (a, refl, e)
bound-ok (Err x) f b e = absurd cc

-- the commands were done in the world
pub updates-played : (p nodes : ℕ) (g : List Decl) (sent : List Message) (c : ℕ) (r last : Peer) (run : Run) (commands : List Command) → p < nodes → IsRunOf p nodes g sent r run → AreOwn p commands → updates_done p g c r commands ≡ Ok last
    → (end : Run) × (played c run commands ≡ Ok end) × IsRunOf p nodes g sent last end
updates-played p nodes g sent c r last run [] member is all e =
    (run, played-none c run, subst (λ (x : Peer). IsRunOf p nodes g sent x run) (ok-same r last (sym (none-left p g c r) ∙ e)) is)
updates-played p nodes g sent c r last run (k ∷ rest) member is all e =
    let mine = all.0 in
    let both = bound-ok (done_by p g c r (own p k)) (λ next. updates_done p g (c + 1) next rest) last (sym (one-more p g c r k rest) ∙ e) in
    let done : update_done p g c r (mine.0, mine.1) ≡ Ok both.0 = ap (λ (o : Option (ℕ × Op)). done_by p g c r o) (sym (own-told p k mine.0 mine.1 mine.2)) ∙ both.1 in
    let next : Run = with_peer run p both.0 in
    let rest_done = updates-played p nodes g sent (c + 1) both.0 last next rest member (with-replica p nodes g sent r both.0 run member is) all.1 both.2 in (
      rest_done.0,
      played-more c run k rest ∙ ap (λ (a : Result Run Stop). a >>= (λ mid. played (c + 1) mid rest)) (step-done p nodes g sent c mine.0 mine.1 k r both.0 run is mine.2 done) ∙ rest_done.1,
      rest_done.2,
    )

-- ---- the whole

pub site-world : (content : List ℕ → Option (List ℕ)) (words : List (List ℕ)) (p : ℕ) (g : List Decl) (nodes f : ℕ) (ms : List Message) (commands : List Command) (last : Peer) → p < nodes → AreOwn p commands → AreTaken content words g nodes f ms
    → updates_done p g 1 (heard g nodes ms) commands ≡ Ok last → first_large 0 (shown_at g last) ≡ None
    → (run : Run) × IsSiteWorld p g nodes ms commands run × (peer_at run.peers p ≡ last)
site-world content words p g nodes f ms commands last member mine taken done small =
    let heard_all = takes-done p nodes g [] ms (fresh_peer g nodes) (sent_world g nodes ms) member (start-run p nodes g ms member) (taken-small content words g nodes f ms taken) in
    let all = updates-played p nodes g ms 1 (heard g nodes ms) last heard_all.0 commands member heard_all.2 mine done in (
      all.0,
      record {
        received = heard_all.0;
        takes = heard_all.1;
        updates = all.1;
        shown = ap (λ (h : List Decl). first_large 0 (shown_at h (peer_at all.0.peers p))) all.2.graph ∙ ap (λ (x : Peer). first_large 0 (shown_at g x)) all.2.peer ∙ small;
      },
      all.2.peer,
    )
