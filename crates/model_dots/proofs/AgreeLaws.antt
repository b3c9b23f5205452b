-- Replicas without tombstones and those of the run agree at each place: each state stands for what its replica knows.
use Rattle.std.proofs.Common.{◌≡◌, ℕ, ◌+◌, ◌≤◌, ◌<◌, ◌⊎◌, inl, inr, not, List, [], ◌∷◌, ◌++◌, length, filter, slice_set, replicate, refl, sym, ap, subst, ◌∙◌, arith}
use Rattle.model_values.specs.Value.{Val}
use Rattle.model_values.specs.Token.{Tok}
use Rattle.model_values.specs.Row.{Row}
use Rattle.model_sets.specs.Rows.{mark, IsAscending, join, add_delta, remove_delta}
use Rattle.model_sets.specs.Values.{visible}
use Rattle.model_states.specs.Counts.{count_at, zeros, larger}
use Rattle.model_states.specs.Content.{Content, least, join_contents}
use Rattle.model_states.specs.Update.{Op, Add, Remove}
use Rattle.model_graph.specs.Graph.{Decl, kind_at}
use Rattle.model_graph.specs.Evaluation.{content_at, rows_at, least_of}
use Rattle.model_graph.proofs.PlaceLaws.{below-or-not, at-past, at-set, at-replicate, set-length, pairs-push, length-push, length-replicate}
use Rattle.model_graph.proofs.LeastLaws.{least_of-rows}
use Rattle.model_graph.specs.Message.{Message}
use Rattle.model_world.specs.Command as command
use Rattle.model_world.specs.Command.{Command}
use Rattle.model_world.specs.Lawful.{Stage, opening_stage, stage_after, MayBeDone, AreLawful}
use Rattle.model_world.specs.World.{Peer, Run, Act, Update, Post, Take, no_peer, fresh_peer, peer_at, updated, delivered, message_at, no_message, sent_number, sync_acts, acts}
use Rattle.model_world.specs.Delta.{Delta, deltas_at, brought_to, join_all, known}
use Rattle.model_world.specs.Follow.{Followed, delta_of, begin, followed, afters}
use Rattle.model_world.proofs.VariableLaws.{known-ordered}
use Rattle.model_world.proofs.UpdateLaws.{known-kept, own-holds}
use Rattle.model_world.proofs.KnownLaws.{known-larger, known-nothing}
use Rattle.model_world.proofs.KnowsLaws.{first-empty}
use Rattle.model_world.proofs.SoundLaws.{IsSound, sound-act}
use Rattle.model_world.proofs.RoundLaws.{AreCalm, calm-sync}
use Rattle.model_world.proofs.PlayLaws.{IsAt, stage_of}
use Rattle.model_dots.specs.Dots.{Dots, is_counted, no_dots, join_dots, raised, dots_of}
use Rattle.model_dots.proofs.StandLaws.{live_of, live-mark, stands-add, stands-remove, stands-join, live-visible}
use Rattle.model_dots.specs.Unlimited.{IsUnlimited}
use Rattle.model_dots.specs.Counted.{IsFree, AreFree}
use Rattle.model_dots.specs.DotWorld.{one_set, DotWorld, dots_at, StandsFor, LacksTheRemoved, dot_start, IsDotCommand, AreDotCommands, dot_acts, dots_updated, dot_act, dot_each, dot_play}
use Rattle.model_dots.proofs.UnlimitedLaws.{followed_all, all-run, step-stands, begin-at, all-sound, rows-ascend}
use Rattle.model_dots.proofs.CountedLaws.{Counted, counted-take, counted-post, counted-begin, counted-step, has-counted, rows-removed}

-- what stands for all that is known of the set by these counts
abbrev pub dots_known : List Decl → ℕ → List (List Delta) → List ℕ → Dots
dots_known g nodes all counts = dots_of (known g nodes all counts 0).rows counts

pub record Agrees (nodes : ℕ) (f : Followed) (w : DotWorld) : Type 0 where
  pub graph : f.run.graph ≡ one_set
  pub reads : f.run.reads ≡ []
  pub many : length w.nodes ≡ nodes
  pub posted : length w.sent ≡ length f.run.sent
  pub peers : (p : ℕ) → p < nodes → dots_at w.nodes p ≡ dots_known f.run.graph nodes f.deltas (peer_at f.run.peers p).counts
  pub messages : (i : ℕ) → dots_at w.sent i ≡ dots_known f.run.graph nodes f.deltas (sent_number f.run.sent i).counts

known-none : (g : List Decl) (nodes : ℕ) (all : List (List Delta)) → no_dots 0 ≡ dots_known g nodes all []
known-none g nodes all = ap (λ (rows : List Row). dots_of rows []) (sym (ap (λ (s : Content). s.rows) (known-nothing g nodes all 0) ∙ least_of-rows nodes (kind_at g 0)))

module _ (nodes : ℕ) (f : Followed) (w : DotWorld) (s : IsSound nodes f) (c : Counted nodes f) (a : Agrees nodes f w) where
  declared : 0 < length f.run.graph
  declared = omega (arith, ap (λ (g : List Decl). length g) a.graph)

  up : (cs : List ℕ) → IsAscending (known f.run.graph nodes f.deltas cs 0).rows
  up cs = (known-ordered f.run.graph nodes f.deltas cs 0).rows

  -- the states after an update of node p that leads its own state to this one
  update-agrees : (p : ℕ) (op : Op) → p < nodes → dots_updated p op (dots_known f.run.graph nodes f.deltas (peer_at f.run.peers p).counts)
      ≡ dots_of (join (rows_at (peer_at f.run.peers p).contents 0) (delta_of (peer_at f.run.peers p) p 0 op).content.rows) (raised (peer_at f.run.peers p).counts p)
      → Agrees nodes (followed f (Update p 0 op)) (dot_act w (Update p 0 op))
  update-agrees p op member stands = record {
    graph = a.graph;
    reads = a.reads;
    many = set-length w.nodes p new ∙ a.many;
    posted = a.posted;
    peers = λ q in_range. at-set (λ (z : Peer). dots_at (slice_set w.nodes p new) q ≡ dots_known f.run.graph nodes more z.counts) f.run.peers p (updated p 0 op r) no_peer q (omega (arith, in_range, s.many))
        (λ e. at-set (λ (z : Dots). z ≡ dots_known f.run.graph nodes more (raised r.counts p)) w.nodes p new (no_dots 0) q (omega (arith, in_range, a.many)) (λ _. own) (λ n. absurd (n e)))
        (λ n. at-set (λ (z : Dots). z ≡ dots_known f.run.graph nodes more (peer_at f.run.peers q).counts) w.nodes p new (no_dots 0) q (omega (arith, in_range, a.many)) (λ e. absurd (n e))
        (λ _. a.peers q in_range ∙ ap (λ (k : Content). dots_of k.rows (peer_at f.run.peers q).counts) (sym (known-kept f.run.graph nodes f.deltas p d (peer_at f.run.peers q).counts (s.holds q in_range).made 0))));
    messages = λ i. a.messages i ∙ ap (λ (k : Content). dots_of k.rows (sent_number f.run.sent i).counts) (sym (known-kept f.run.graph nodes f.deltas p d (sent_number f.run.sent i).counts (s.carries i).made 0));
  } where
    r : Peer
    r = peer_at f.run.peers p

    d : Delta
    d = delta_of (peer_at f.run.peers p) p 0 op

    more : List (List Delta)
    more = slice_set f.deltas p (deltas_at f.deltas p ++ delta_of (peer_at f.run.peers p) p 0 op ∷ [])

    new : Dots
    new = dots_updated p op (dots_at w.nodes p)

    few : p < length f.deltas
    few = omega (arith, member, s.logs)

    after : content_at (updated p 0 op (peer_at f.run.peers p)).contents 0 ≡ known f.run.graph nodes more (raised (peer_at f.run.peers p).counts p) 0
    after = (own-holds f.run.graph nodes f.deltas p (delta_of (peer_at f.run.peers p) p 0 op) (peer_at f.run.peers p).contents (peer_at f.run.peers p).counts (s.holds p member) few member (s.own p member)).knows 0 declared

    first : content_at (updated p 0 op (peer_at f.run.peers p)).contents 0 ≡ join_contents (content_at (peer_at f.run.peers p).contents 0) (delta_of (peer_at f.run.peers p) p 0 op).content
    first = at-set (λ (z : Content). z ≡ join_contents (content_at (peer_at f.run.peers p).contents 0) (delta_of (peer_at f.run.peers p) p 0 op).content) (peer_at f.run.peers p).contents 0
        (join_contents (content_at (peer_at f.run.peers p).contents 0) (delta_of (peer_at f.run.peers p) p 0 op).content) least 0 (omega (arith, declared, (s.holds p member).long)) (λ _. refl) (λ n. absurd (n refl))

    own : dots_updated p op (dots_at w.nodes p) ≡ dots_known f.run.graph nodes more (raised (peer_at f.run.peers p).counts p)
    own = ap (dots_updated p op) (a.peers p member) ∙ stands ∙ ap (λ (k : Content). dots_of k.rows (raised (peer_at f.run.peers p).counts p)) (sym first ∙ after)

  held : (p : ℕ) → p < nodes → rows_at (peer_at f.run.peers p).contents 0 ≡ (known f.run.graph nodes f.deltas (peer_at f.run.peers p).counts 0).rows
  held p member = ap (λ (k : Content). k.rows) ((s.holds p member).knows 0 declared)

  add-agrees : (p : ℕ) (v : Val) → p < nodes → Agrees nodes (followed f (Update p 0 (Add v))) (dot_act w (Update p 0 (Add v)))
  add-agrees p v member = update-agrees p (Add v) member
      (sym (stands-add v p (known f.run.graph nodes f.deltas (peer_at f.run.peers p).counts 0).rows (peer_at f.run.peers p).counts (up (peer_at f.run.peers p).counts) (c.peers p member 0 declared))
      ∙ ap (λ (rows : List Row). dots_of (join rows (add_delta v p (count_at (peer_at f.run.peers p).counts p + 1))) (raised (peer_at f.run.peers p).counts p)) (sym (held p member)))

  remove-agrees : (p : ℕ) (v : Val) → p < nodes → Agrees nodes (followed f (Update p 0 (Remove v))) (dot_act w (Update p 0 (Remove v)))
  remove-agrees p v member = update-agrees p (Remove v) member
      (sym (stands-remove v p (known f.run.graph nodes f.deltas (peer_at f.run.peers p).counts 0).rows (peer_at f.run.peers p).counts (up (peer_at f.run.peers p).counts))
      ∙ ap (λ (rows : List Row). dots_of (join rows (remove_delta v rows)) (raised (peer_at f.run.peers p).counts p)) (sym (held p member)))

  take-agrees : (p i : ℕ) → Agrees nodes (followed f (Take p i)) (dot_act w (Take p i))
  take-agrees p i = record {
    graph = a.graph;
    reads = a.reads;
    many = set-length w.nodes p new ∙ a.many;
    posted = a.posted;
    peers = λ q in_range. at-set (λ (z : Peer). dots_at (slice_set w.nodes p new) q ≡ dots_known f.run.graph nodes f.deltas z.counts) f.run.peers p (delivered f.run.graph m r) no_peer q (omega (arith, in_range, s.many))
        (λ e. at-set (λ (z : Dots). z ≡ dots_known f.run.graph nodes f.deltas (larger r.counts m.counts)) w.nodes p new (no_dots 0) q (omega (arith, in_range, a.many)) (λ _. own (omega (arith, in_range, e))) (λ n. absurd (n e)))
        (λ n. at-set (λ (z : Dots). z ≡ dots_known f.run.graph nodes f.deltas (peer_at f.run.peers q).counts) w.nodes p new (no_dots 0) q (omega (arith, in_range, a.many)) (λ e. absurd (n e)) (λ _. a.peers q in_range));
    messages = a.messages;
  } where
    r : Peer
    r = peer_at f.run.peers p

    m : Message
    m = sent_number f.run.sent i

    new : Dots
    new = join_dots (dots_at w.nodes p) (dots_at w.sent i)

    own : p < nodes → join_dots (dots_at w.nodes p) (dots_at w.sent i) ≡ dots_known f.run.graph nodes f.deltas (larger (peer_at f.run.peers p).counts (sent_number f.run.sent i).counts)
    own member =
        let cs = (peer_at f.run.peers p).counts in
        let ds = (sent_number f.run.sent i).counts in
        (λ k. join_dots (a.peers p member k) (a.messages i k))
        ∙ sym (stands-join (known f.run.graph nodes f.deltas cs 0).rows cs (known f.run.graph nodes f.deltas ds 0).rows ds (up cs) (up ds) (c.peers p member 0 declared) (c.messages i 0 declared)
        (has-counted nodes f cs ds 0 s c (s.holds p member).made) (has-counted nodes f ds cs 0 s c (s.carries i).made))
        ∙ ap (λ (k : Content). dots_of k.rows (larger cs ds)) (sym (known-larger f.run.graph nodes f.deltas cs ds 0))

  post-agrees : (p : ℕ) → Agrees nodes (followed f (Post p)) (dot_act w (Post p))
  post-agrees p = record {
    graph = a.graph;
    reads = a.reads;
    many = a.many;
    posted = omega (arith, a.posted, length-push w.sent (dots_at w.nodes p), length-push f.run.sent (message_at f.run.graph (peer_at f.run.peers p)));
    peers = a.peers;
    messages = pairs-push (λ (d : Dots) (m : Message). d ≡ dots_known f.run.graph nodes f.deltas m.counts) w.sent f.run.sent (dots_at w.nodes p) (no_dots 0) (message_at f.run.graph (peer_at f.run.peers p)) no_message a.posted a.messages
        (choose (below-or-not p nodes));
  } where
    choose : (p < nodes) ⊎ (nodes ≤ p) → dots_at w.nodes p ≡ dots_known f.run.graph nodes f.deltas (peer_at f.run.peers p).counts
    choose (inl h) = a.peers p h
    choose (inr h) = at-past w.nodes p (no_dots 0) (omega (arith, h, a.many)) ∙ known-none f.run.graph nodes f.deltas
        ∙ ap (λ (z : Peer). dots_known f.run.graph nodes f.deltas z.counts) (sym (at-past f.run.peers p no_peer (omega (arith, h, s.many))))

-- ---- commands

calm-agrees : (nodes : ℕ) (f : Followed) (w : DotWorld) (many : List Act) → AreCalm many → IsSound nodes f → Counted nodes f → Agrees nodes f w → Agrees nodes (afters f many) (dot_each w many)
calm-agrees nodes f w [] h s c a = a
calm-agrees nodes f w (Post p ∷ rest) h s c a =
    calm-agrees nodes (followed f (Post p)) (dot_act w (Post p)) rest h.1 (sound-act nodes f (Post p) s tt) (counted-post nodes f s c p) (post-agrees nodes f w s c a p)
calm-agrees nodes f w (Take p i ∷ rest) h s c a =
    calm-agrees nodes (followed f (Take p i)) (dot_act w (Take p i)) rest h.1 (sound-act nodes f (Take p i) s tt) (counted-take nodes f s c p i) (take-agrees nodes f w s c a p i)
calm-agrees nodes f w (b ∷ rest) h s c a = absurd h.0

first-variable : (nodes x : ℕ) (f : Followed) (w : DotWorld) → Agrees nodes f w → x < length f.run.graph → 0 ≡ x
first-variable nodes x f w a low = omega (arith, low, ap (λ (g : List Decl). length g) a.graph)

pub step-agrees : (nodes : ℕ) (f : Followed) (w : DotWorld) (k : Command) → IsSound nodes f → Counted nodes f → MayBeDone nodes (stage_of f) k → IsDotCommand k → Agrees nodes f w → Agrees nodes (afters f (acts f.run k)) (dot_each w (dot_acts w k))
step-agrees nodes f w (command.Add p x v) s c h dot a =
    subst (λ (y : ℕ). Agrees nodes (followed f (Update p y (Add v))) (dot_act w (Update p y (Add v)))) (first-variable nodes x f w a h.0.1) (add-agrees nodes f w s c a p v h.0.0)
step-agrees nodes f w (command.Remove p x v) s c h dot a =
    subst (λ (y : ℕ). Agrees nodes (followed f (Update p y (Remove v))) (dot_act w (Update p y (Remove v)))) (first-variable nodes x f w a h.0.1) (remove-agrees nodes f w s c a p v h.0.0)
step-agrees nodes f w (command.Send p) s c h dot a = post-agrees nodes f w s c a p
step-agrees nodes f w (command.Deliver p i) s c h dot a = take-agrees nodes f w s c a p i
step-agrees nodes f w command.Sync s c h dot a =
    subst (λ (many : List Act). Agrees nodes (afters f (sync_acts (length f.run.peers) (length f.run.sent))) (dot_each w many))
    (λ i. sync_acts ((s.many ∙ sym a.many) (i)) (sym a.posted i))
    (calm-agrees nodes f w (sync_acts (length f.run.peers) (length f.run.sent)) (calm-sync (length f.run.peers) (length f.run.sent)) s c a)
step-agrees nodes f w command.Settle s c h dot a = record { graph = a.graph; reads = a.reads; many = a.many; posted = a.posted; peers = a.peers; messages = a.messages }
step-agrees nodes f w (command.Print p x) s c h dot a = record { graph = a.graph; reads = a.reads; many = a.many; posted = a.posted; peers = a.peers; messages = a.messages }
step-agrees nodes f w (command.Insert p x v) s c h dot a = absurd dot
step-agrees nodes f w (command.Inc p x k) s c h dot a = absurd dot
step-agrees nodes f w (command.Max p x n) s c h dot a = absurd dot
step-agrees nodes f w (command.Mark p x) s c h dot a = absurd dot
step-agrees nodes f w (command.Bind p x m) s c h dot a = absurd dot
step-agrees nodes f w (command.Read p x until) s c h dot a = absurd dot
step-agrees nodes f w (command.Await p x until) s c h dot a = absurd dot
step-agrees nodes f w (command.Declare d) s c h dot a = absurd dot

pub free-command : (k : Command) → IsDotCommand k → IsFree k
free-command (command.Bind p x m) h = h
free-command (command.Add p x v) h = tt
free-command (command.Remove p x v) h = tt
free-command (command.Insert p x v) h = tt
free-command (command.Inc p x k) h = tt
free-command (command.Max p x n) h = tt
free-command (command.Mark p x) h = tt
free-command (command.Send p) h = tt
free-command (command.Deliver p i) h = tt
free-command command.Sync h = tt
free-command command.Settle h = tt
free-command (command.Print p x) h = tt
free-command (command.Read p x until) h = tt
free-command (command.Await p x until) h = tt
free-command (command.Declare d) h = tt

all-agrees : (nodes : ℕ) (stage : Stage) (f : Followed) (w : DotWorld) (commands : List Command) → IsAt nodes stage f → AreLawful nodes stage commands → AreDotCommands commands → Counted nodes f → Agrees nodes f w
    → Agrees nodes (followed_all f commands) (dot_play w commands)
unfolding dot_play
all-agrees nodes stage f w [] at lawful dots counted a = a
all-agrees nodes stage f w (k ∷ rest) at lawful dots counted a =
    let may : MayBeDone nodes (stage_of f) k = subst (λ (z : Stage). MayBeDone nodes z k) at.stands lawful.0 in
    all-agrees nodes (stage_after nodes stage k) (afters f (acts f.run k)) (dot_each w (dot_acts w k)) rest (step-stands nodes stage f k at lawful.0) lawful.1 dots.1
    (counted-step nodes f k at.sound may (free-command k dots.0) counted) (step-agrees nodes f w k at.sound counted may dots.0 a)

pub begin-agrees : (nodes : ℕ) → Agrees nodes (begin one_set nodes) (dot_start nodes)
begin-agrees nodes = record {
  graph = refl;
  reads = refl;
  many = length-replicate nodes (no_dots nodes);
  posted = refl;
  peers = λ p low. at-replicate nodes p (no_dots nodes) (no_dots 0) low
      ∙ subst (λ (z : Peer). no_dots nodes ≡ dots_known one_set nodes (replicate nodes []) z.counts) (sym (at-replicate nodes p (fresh_peer one_set nodes) no_peer low))
      (ap (λ (ds : List Delta). dots_of (join_all (least_of nodes (kind_at one_set 0)) (brought_to 0 ds)).rows (zeros nodes)) (sym (first-empty nodes (zeros nodes))));
  messages = λ i. known-none one_set nodes (replicate nodes []);
}

-- ---- the run in which nothing stops

module _ (nodes : ℕ) (commands : List Command) (lawful : AreLawful nodes (opening_stage one_set) commands) (dots : AreDotCommands commands) where
  abbrev at_end : Followed
  at_end = followed_all (begin one_set nodes) commands

  pub end-agrees : Agrees nodes (followed_all (begin one_set nodes) commands) (dot_play (dot_start nodes) commands)
  end-agrees = all-agrees nodes (opening_stage one_set) (begin one_set nodes) (dot_start nodes) commands (begin-at one_set nodes) lawful dots (counted-begin one_set nodes) (begin-agrees nodes)

  pub end-stands : (p : ℕ) → p < nodes → StandsFor (dots_at (dot_play (dot_start nodes) commands).nodes p) (peer_at (followed_all (begin one_set nodes) commands).run.peers p)
  end-stands p member =
      let low : 0 < length at_end.run.graph = omega (arith, ap (λ (g : List Decl). length g) end-agrees.graph) in
      end-agrees.peers p member ∙ ap (λ (k : Content). dots_of k.rows (peer_at at_end.run.peers p).counts) (sym (((all-sound one_set nodes commands lawful).holds p member).knows 0 low))

pub each-stands : (nodes : ℕ) (commands : List Command) (run : Run) → IsUnlimited one_set nodes commands run → AreDotCommands commands → (p : ℕ) → p < nodes → StandsFor (dots_at (dot_play (dot_start nodes) commands).nodes p) (peer_at run.peers p)
each-stands nodes commands run is dots p member =
    subst (λ (r : Run). StandsFor (dots_at (dot_play (dot_start nodes) commands).nodes p) (peer_at r.peers p)) (all-run (begin one_set nodes) commands ∙ sym is.reached) (end-stands nodes commands is.lawful dots p member)

pub each-visible : (nodes : ℕ) (commands : List Command) (run : Run) → IsUnlimited one_set nodes commands run → AreDotCommands commands → (p : ℕ) → p < nodes
    → visible (dots_at (dot_play (dot_start nodes) commands).nodes p).rows ≡ visible (rows_at (peer_at run.peers p).contents 0)
each-visible nodes commands run is dots p member =
    ap (λ (d : Dots). visible d.rows) (each-stands nodes commands run is dots p member) ∙ live-visible (rows_at (peer_at run.peers p).contents 0)

free-all : (commands : List Command) → AreDotCommands commands → AreFree commands
free-all [] dots = tt
free-all (k ∷ rest) dots = (free-command k dots.0, free-all rest dots.1)

first-declared : (nodes : ℕ) (commands : List Command) (run : Run) → IsUnlimited one_set nodes commands run → AreDotCommands commands → 0 < length run.graph
first-declared nodes commands run is dots =
    subst (λ (r : Run). 0 < length r.graph) (all-run (begin one_set nodes) commands ∙ sym is.reached)
    (let graph = (end-agrees nodes commands is.lawful dots).graph in omega (arith, ap (λ (g : List Decl). length g) graph))

-- where no live row is left there was none
not-live : (rows : List Row) (v : Val) (t : Tok) → IsAscending rows → mark (filter (λ r. not r.1) rows) v t ≡ 0 → mark rows v t ≡ 1 → ⊥
not-live rows v t up none one = absurd (omega (arith, none, live-mark rows up v t, ap live_of one))

pub each-lacks : (nodes : ℕ) (commands : List Command) (run : Run) → IsUnlimited one_set nodes commands run → AreDotCommands commands → (p q : ℕ) → p < nodes → q < nodes
    → LacksTheRemoved (dots_at (dot_play (dot_start nodes) commands).nodes p) (peer_at run.peers p) (peer_at run.peers q)
each-lacks nodes commands run is dots p q member other v t some counted none =
    let stands = each-stands nodes commands run is dots p member in
    let low = first-declared nodes commands run is dots in
    rows-removed one_set nodes commands run is (free-all commands dots) p q 0 member other low v t some (sym (ap (λ (d : Dots). is_counted d.counts t) stands) ∙ counted)
    (not-live (rows_at (peer_at run.peers p).contents 0) v t (rows-ascend one_set nodes commands run is p 0 member low) (sym (ap (λ (d : Dots). mark d.rows v t) stands) ∙ none))

pub ruleset agreement = (each-stands, each-visible)
