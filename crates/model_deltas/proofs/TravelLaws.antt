-- Each act keeps what holds at a place: what nodes told last, and the deltas as which messages travel.
use Rattle.std.proofs.Common.{◌≡◌, ℕ, zero, suc, ◌≤◌, ◌<◌, ◌⊎◌, inl, inr, List, [], ◌∷◌, ◌++◌, length, Option, Some, None, Result, Ok, Err, refl, sym, ap, subst, ◌∙◌, arith, slice_index_or, slice_set}
use Rattle.std.specs.Prelude.{IfSome, replicate}
use Rattle.model_states.specs.Counts.{AreCountsAtMost}
use Rattle.model_states.proofs.CountLaws.{count_at-zeros}
use Rattle.model_graph.specs.Chain.{◌>>=◌}
use Rattle.model_graph.specs.Graph.{Decl}
use Rattle.model_graph.proofs.PlaceLaws.{below-or-not, at-append, at-last, at-set, length-replicate, length-push, set-length}
use Rattle.model_graph.specs.Message.{Message}
use Rattle.model_world.specs.Command.{Command}
use Rattle.model_world.specs.Command as command
use Rattle.model_world.specs.Lawful.{Stage, opening_stage, stage_after, MayBeDone}
use Rattle.model_world.specs.World.{fresh_peer, Run, Act, Update, Keep, Post, Take, Point, Show, Open, Reach, Extend, peer_at, start, message_at, sent_number, no_message, act, acts, each, effect}
use Rattle.model_world.specs.declared.stop.Stop.{Stop}
use Rattle.model_world.specs.Follow.{Followed, begin, followed, afters}
use Rattle.model_world.specs.Holds.{Holds, Carries}
use Rattle.model_world.proofs.EffectLaws.{act-effect}
use Rattle.model_world.proofs.HoldLaws.{sends-known}
use Rattle.model_world.proofs.PlayLaws.{IsAt, stage_of, step-at}
use Rattle.model_world.proofs.SoundLaws.{sound-begin, sound-act}
use Rattle.model_runs.specs.Held.{IsSentTo}
use Rattle.model_runs.specs.Part.{BringsAsMuch}
use Rattle.model_wire.specs.Lawful.{IsMessage}
use Rattle.model_deltas.specs.Delta.{Delta, delta_of, carried}
use Rattle.model_deltas.specs.Applied.{first_gap, joined, limited, unless, applied}
use Rattle.model_deltas.specs.Before.{IsBefore, AreAlike}
use Rattle.model_deltas.proofs.BeginLaws.{alike-from, before-from, nothing-carries}
use Rattle.model_deltas.proofs.RiseLaws.{counts-itself, counts-rise, peers-stay}
use Rattle.model_deltas.proofs.JoinedLaws.{message-ordered}
use Rattle.model_deltas.proofs.WorldLaws.{delta-known, holds-more}
use Rattle.model_deltas.specs.Gossip.{Gossip, nothing_told, told_in, told_by, last_told, no_delta, delta_number, gossip_after, gossip_each, gossip_start}
use Rattle.model_deltas.specs.Going.{IsSentNumber, IsTold, IsDeltaTo, Travels, IsGoing}
use Rattle.model_deltas.proofs.SourceLaws.{decls-changed, begins-by}
use Rattle.model_deltas.proofs.BringLaws.{delta-brings}

-- ---- acts that send nothing

-- an act by which nothing is sent and nothing taken
abbrev pub IsQuiet : Act → Type 0
IsQuiet (Post p) = ⊥
IsQuiet (Take p i) = ⊥
IsQuiet _ = Unit {0}

abbrev pub AreQuiet : List Act → Type 0
AreQuiet [] = Unit {0}
AreQuiet (a ∷ rest) = IsQuiet a × AreQuiet rest

-- the same messages and deltas in a later run
abbrev pub with_later : Gossip → Run → Gossip
with_later s next = record { run = next; last = s.last; deltas = s.deltas; deliveries = s.deliveries; gaps = s.gaps }

quiet-after : (s : Gossip) (a : Act) (next : Run) → IsQuiet a → gossip_after s a next ≡ with_later s next
quiet-after s (Update p x op) next h = refl
quiet-after s (Keep p x) next h = refl
quiet-after s (Post p) next h = absurd h
quiet-after s (Take p i) next h = absurd h
quiet-after s Point next h = refl
quiet-after s (Show p x) next h = refl
quiet-after s (Open p x until) next h = refl
quiet-after s (Reach p x until) next h = refl
quiet-after s (Extend d) next h = refl

quiet-sent : (run : Run) (a : Act) → IsQuiet a → (effect run a).sent ≡ run.sent
quiet-sent run (Update p x op) h = refl
quiet-sent run (Keep p x) h = refl
quiet-sent run (Post p) h = absurd h
quiet-sent run (Take p i) h = absurd h
quiet-sent run Point h = refl
quiet-sent run (Show p x) h = refl
quiet-sent run (Open p x until) h = refl
quiet-sent run (Reach p x until) h = refl
quiet-sent run (Extend d) h = refl

-- what was told is told of a later run over the same messages
told-same : (run next : Run) (number : Option ℕ) → next.sent ≡ run.sent → length next.peers ≡ length run.peers → told_by run number ≡ told_by next number
told-same run next number sent many = λ i. told_in (sym many i) (sym sent i) number

number-same : (run next : Run) (number : Option ℕ) → next.sent ≡ run.sent → IsSentNumber run number → IsSentNumber next number
number-same run next number sent h = subst (λ (ms : List Message). IfSome number (λ i. i < length ms)) (sym sent) h

pub travels-on : (s : Gossip) (next : Run) → Travels s → next.sent ≡ s.run.sent → length next.peers ≡ length s.run.peers → ((q : ℕ) → q < length s.run.peers → AreCountsAtMost (peer_at s.run.peers q).counts (peer_at next.peers q).counts) → Travels (with_later s next)
travels-on s next t sent many rise = record {
  nodes = t.nodes ∙ sym many;
  told = λ p low.
      let within : p < length s.run.peers = omega (arith, low, many) in
      let h = t.told p within in
      let number = slice_index_or s.last p None in
      record {
        there = number-same s.run next number sent h.there;
        counted = subst (λ (m : Message). AreCountsAtMost m.counts (peer_at next.peers p).counts) (told-same s.run next number sent many)
            (λ q. omega (arith, h.counted q, rise p within q));
      };
  many = t.many ∙ ap (λ (ms : List Message). length ms) (sym sent);
  deltas = λ i low.
      let h = t.deltas i (omega (arith, low, ap (λ (ms : List Message). length ms) sent)) in
      let same = told-same s.run next h.number sent many in
      let here : sent_number s.run.sent i ≡ sent_number next.sent i = ap (λ (ms : List Message). sent_number ms i) (sym sent) in
      record {
        number = h.number;
        there = number-same s.run next h.number sent h.there;
        lawful = subst IsMessage same h.lawful;
        whole = subst IsMessage here h.whole;
        earlier = subst (λ (m : Message). IsBefore m (sent_number next.sent i)) same (subst (λ (m : Message). IsBefore (told_by s.run h.number) m) here h.earlier);
        delta = h.delta ∙ (λ k. delta_of (same k) (here k));
      };
}

quiet-one : (s : Gossip) (a : Act) → IsQuiet a → Travels s → Travels (with_later s (effect s.run a))
quiet-one s a quiet t = travels-on s (effect s.run a) t (quiet-sent s.run a quiet) (peers-stay s.run a) (counts-rise s.run a)

-- what quiet acts lead to
pub record GoesQuietly (c : ℕ) (s : Gossip) (f : Followed) (many : List Act) (next : Run) : Type 0 where
  pub gossip : gossip_each c s many ≡ Ok (with_later s next)
  pub travels : Travels (with_later s next)
  pub followed : (afters f many).run ≡ next

pub bound-act : (c : ℕ) (run last : Run) (a : Act) (rest : List Act) → each c run (a ∷ rest) ≡ Ok last → (next : Run) × (act c run a ≡ Ok next) × (each c next rest ≡ Ok last)
bound-act c run last a rest e = choose (act c run a) refl e where
  choose : (r : Result Run Stop) → act c run a ≡ r → (r >>= (λ n. each c n rest)) ≡ Ok last → (next : Run) × (act c run a ≡ Ok next) × (each c next rest ≡ Ok last)
  choose (Ok next) is h = (next, is, h)
  choose (Err stop) is h = absurd cc

pub goes-quietly : (c : ℕ) (s : Gossip) (f : Followed) (many : List Act) (next : Run) → AreQuiet many → f.run ≡ s.run → Travels s → each c s.run many ≡ Ok next → GoesQuietly c s f many next
goes-quietly c s f [] next quiet same t e =
    let here : s.run ≡ next = ok-of next e in
    record {
      gossip = ap (λ (r : Run). Ok (with_later s r)) here;
      travels = subst (λ (r : Run). Travels (with_later s r)) here t;
      followed = same ∙ here;
    } where
      ok-of : (b : Run) → each c s.run [] ≡ Ok b → s.run ≡ b
      ok-of b e = cc
goes-quietly c s f (a ∷ rest) next quiet same t e =
    let first = bound-act c s.run next a rest e in
    let mid = first.0 in
    let is : mid ≡ effect s.run a = act-effect c s.run mid a first.1 in
    let on : Travels (with_later s mid) = subst (λ (r : Run). Travels (with_later s r)) (sym is) (quiet-one s a quiet.0 t) in
    let beside : (followed f a).run ≡ mid = ap (λ (r : Run). effect r a) same ∙ sym is in
    let later = goes-quietly c (with_later s mid) (followed f a) rest next quiet.1 beside on first.2 in
    record {
      gossip = ap (λ (r : Result Run Stop). (r >>= (λ n. Ok (gossip_after s a n))) >>= (λ n. gossip_each c n rest)) first.1 ∙ ap (λ (n : Gossip). gossip_each c n rest) (quiet-after s a mid quiet.0) ∙ later.gossip;
      travels = later.travels;
      followed = later.followed;
    }

-- ---- a command that sends and takes nothing

abbrev pub IsQuietCommand : Command → Type 0
IsQuietCommand (command.Send p) = ⊥
IsQuietCommand (command.Deliver p i) = ⊥
IsQuietCommand command.Sync = ⊥
IsQuietCommand _ = Unit {0}

quiet-acts : (run : Run) (k : Command) → IsQuietCommand k → AreQuiet (acts run k)
quiet-acts run (command.Add p x v) h = (tt, tt)
quiet-acts run (command.Remove p x v) h = (tt, tt)
quiet-acts run (command.Insert p x v) h = (tt, tt)
quiet-acts run (command.Inc p x by) h = (tt, tt)
quiet-acts run (command.Max p x n) h = (tt, tt)
quiet-acts run (command.Mark p x) h = (tt, tt)
quiet-acts run (command.Bind p x m) h = (tt, tt)
quiet-acts run (command.Send p) h = absurd h
quiet-acts run (command.Deliver p i) h = absurd h
quiet-acts run command.Sync h = absurd h
quiet-acts run command.Settle h = (tt, tt)
quiet-acts run (command.Print p x) h = (tt, (tt, tt))
quiet-acts run (command.Read p x until) h = (tt, tt)
quiet-acts run (command.Await p x until) h = (tt, (tt, tt))
quiet-acts run (command.Declare d) h = (tt, (tt, tt))

-- the place behind such a command
pub record Went (nodes c : ℕ) (stage : Stage) (s : Gossip) (many : List Act) (next : Run) : Type 0 where
  pub gossip : gossip_each c s many ≡ Ok (with_later s next)
  pub going : IsGoing nodes stage (with_later s next)

pub going-quiet : (nodes c : ℕ) (stage : Stage) (s : Gossip) (k : Command) (next : Run) → IsQuietCommand k → IsGoing nodes stage s → MayBeDone nodes stage k → each c s.run (acts s.run k) ≡ Ok next
    → Went nodes c (stage_after nodes stage k) s (acts s.run k) next
going-quiet nodes c stage s k next quiet going may e =
    let f = going.followed in
    let many = acts s.run k in
    let way = goes-quietly c s f many next (quiet-acts s.run k quiet) going.run going.travels e in
    let same : acts f.run k ≡ many = ap (λ (r : Run). acts r k) going.run in
    let at = step-at nodes f k going.at.sound (subst (λ (z : Stage). MayBeDone nodes z k) going.at.stands may) in
    record {
      gossip = way.gossip;
      going = record {
        followed = afters f many;
        run = way.followed;
        at = subst (λ (z : Stage). IsAt nodes (stage_after nodes z k) (afters f many)) (sym going.at.stands) (subst (λ (all : List Act). IsAt nodes (stage_after nodes (stage_of f) k) (afters f all)) same at);
        travels = way.travels;
      };
    }

-- ---- a delivery

pub going-take : (nodes c p i : ℕ) (stage : Stage) (s : Gossip) (next : Run) → IsGoing nodes stage s → act c s.run (Take p i) ≡ Ok next → IsGoing nodes stage (gossip_after s (Take p i) next)
going-take nodes c p i stage s next going e =
    let f = going.followed in
    let is : next ≡ effect s.run (Take p i) = act-effect c s.run next (Take p i) e in
    let on : Travels (with_later s next) = subst (λ (r : Run). Travels (with_later s r)) (sym is) (travels-on s (effect s.run (Take p i)) going.travels refl (peers-stay s.run (Take p i)) (counts-rise s.run (Take p i))) in
    record {
      followed = followed f (Take p i);
      run = ap (λ (r : Run). effect r (Take p i)) going.run ∙ sym is;
      at = record { sound = sound-act nodes f (Take p i) going.at.sound tt; stands = going.at.stands };
      travels = record { nodes = on.nodes; told = on.told; many = on.many; deltas = on.deltas };
    }

-- an act by which nothing is sent
pub travels-else : (c : ℕ) (s : Gossip) (a : Act) (next : Run) → Travels s → ((p : ℕ) → a ≡ Post p → ⊥) → act c s.run a ≡ Ok next → Travels (gossip_after s a next)
travels-else c s a next t none e = subst (λ (r : Run). Travels (gossip_after s a r)) (sym (act-effect c s.run next a e)) (on a none) where
  on : (b : Act) → ((p : ℕ) → b ≡ Post p → ⊥) → Travels (gossip_after s b (effect s.run b))
  on (Post p) never = absurd (never p refl)
  on (Take p i) never =
      let way : Travels (with_later s (effect s.run (Take p i))) = travels-on s (effect s.run (Take p i)) t refl (peers-stay s.run (Take p i)) (counts-rise s.run (Take p i)) in
      record { nodes = way.nodes; told = way.told; many = way.many; deltas = way.deltas }
  on (Update p x op) never = quiet-one s (Update p x op) tt t
  on (Keep p x) never = quiet-one s (Keep p x) tt t
  on Point never = quiet-one s Point tt t
  on (Show p x) never = quiet-one s (Show p x) tt t
  on (Open p x until) never = quiet-one s (Open p x until) tt t
  on (Reach p x until) never = quiet-one s (Reach p x until) tt t
  on (Extend d) never = quiet-one s (Extend d) tt t

-- ---- a send

-- what a node told is told of a run with one message more
told-more : (run : Run) (m : Message) (number : Option ℕ) → IsSentNumber run number → told_in (length run.peers) run.sent number ≡ told_in (length run.peers) (run.sent ++ m ∷ []) number
told-more run m None h = refl
told-more run m (Some i) h = sym (at-append run.sent (m ∷ []) i no_message h)

number-more : (run : Run) (m : Message) (number : Option ℕ) → IsSentNumber run number → IfSome number (λ i. i < length (run.sent ++ m ∷ []))
number-more run m None h = tt
number-more run m (Some i) h = omega (arith, h, length-push run.sent m)

module _ (s : Gossip) (p : ℕ) (travels : Travels s) (member : p < length s.run.peers) where
  abbrev message : Message
  message = message_at s.run.graph (peer_at s.run.peers p)

  abbrev sent : Run
  sent = effect s.run (Post p)

  abbrev number : Option ℕ
  number = slice_index_or s.last p None

  new-last : (q : ℕ) → q < length s.run.peers → IsTold sent q (slice_index_or (slice_set s.last p (Some (length s.run.sent))) q None)
  new-last q low =
      at-set (λ (o : Option ℕ). IsTold sent q o) s.last p (Some (length s.run.sent)) None q (omega (arith, low, travels.nodes))
      (λ e. record {
        there = omega (arith, length-push s.run.sent message);
        counted = subst (λ (m : Message). AreCountsAtMost m.counts (peer_at s.run.peers q).counts) (sym (at-last s.run.sent message no_message))
            (subst (λ (k : ℕ). AreCountsAtMost message.counts (peer_at s.run.peers k).counts) (sym e) (counts-itself message.counts));
      })
      (λ n.
      let h = travels.told q low in
      let o = slice_index_or s.last q None in
      record { there = number-more s.run message o h.there; counted = subst (λ (m : Message). AreCountsAtMost m.counts (peer_at s.run.peers q).counts) (told-more s.run message o h.there) h.counted })

  abbrev new_deltas : List Delta
  new_deltas = s.deltas ++ delta_of (last_told s p) message ∷ []

  new-delta : IsMessage (last_told s p) → IsMessage message → IsBefore (last_told s p) message → (i : ℕ) → i < length sent.sent → IsDeltaTo sent (sent_number sent.sent i) (slice_index_or new_deltas i no_delta)
  new-delta lawful whole earlier i low = choose (below-or-not i (length s.run.sent)) where
    choose : (i < length s.run.sent) ⊎ (length s.run.sent ≤ i) → IsDeltaTo sent (sent_number sent.sent i) (slice_index_or new_deltas i no_delta)
    choose (inl h) =
        let d = travels.deltas i h in
        let same = told-more s.run message d.number d.there in
        let here : sent_number s.run.sent i ≡ sent_number sent.sent i = sym (at-append s.run.sent (message ∷ []) i no_message h) in
        let there : delta_number s i ≡ slice_index_or new_deltas i no_delta = sym (at-append s.deltas (delta_of (last_told s p) message ∷ []) i no_delta (omega (arith, h, travels.many))) in
        record {
          number = d.number;
          there = number-more s.run message d.number d.there;
          lawful = subst IsMessage same d.lawful;
          whole = subst IsMessage here d.whole;
          earlier = subst (λ (m : Message). IsBefore m (sent_number sent.sent i)) same (subst (λ (m : Message). IsBefore (told_by s.run d.number) m) here d.earlier);
          delta = sym there ∙ d.delta ∙ (λ k. delta_of (same k) (here k));
        }
    choose (inr h) =
        let last : length s.run.sent ≡ i = omega (arith, h, low, length-push s.run.sent message) in
        let told = (travels.told p member).there in
        let same = told-more s.run message number told in
        let here : message ≡ sent_number sent.sent i = sym (at-last s.run.sent message no_message) ∙ ap (λ (k : ℕ). sent_number sent.sent k) last in
        let there : delta_of (last_told s p) message ≡ slice_index_or new_deltas i no_delta = sym (at-last s.deltas (delta_of (last_told s p) message) no_delta) ∙ ap (λ (k : ℕ). slice_index_or new_deltas k no_delta) (travels.many ∙ last) in
        record {
          number = number;
          there = number-more s.run message number told;
          lawful = subst IsMessage same lawful;
          whole = subst IsMessage here whole;
          earlier = subst (λ (m : Message). IsBefore m (sent_number sent.sent i)) same (subst (λ (m : Message). IsBefore (last_told s p) m) here earlier);
          delta = sym there ∙ (λ k. delta_of (same k) (here k));
        }

  -- the message has its delta, from what the node told last
  pub travels-post : IsMessage (last_told s p) → IsMessage message → IsBefore (last_told s p) message → Travels (gossip_after s (Post p) sent)
  travels-post lawful whole earlier = record {
    nodes = set-length s.last p (Some (length s.run.sent)) ∙ travels.nodes;
    told = new-last;
    many = omega (arith, length-push s.deltas (delta_of (last_told s p) message), length-push s.run.sent message, travels.many);
    deltas = new-delta lawful whole earlier;
  }

module _ (nodes c p : ℕ) (stage : Stage) (s : Gossip) (going : IsGoing nodes stage s) (member : p < length s.run.peers) where
  -- what it told last it holds still, so there is a delta from it
  pub tells-more : Holds s.run.graph nodes going.followed.deltas (peer_at s.run.peers p).contents (peer_at s.run.peers p).counts → IsSentTo nodes s.run.graph (last_told s p) → IsBefore (last_told s p) (message_at s.run.graph (peer_at s.run.peers p))
  tells-more holds to = record {
    nodes = to.wide ∙ sym holds.wide;
    counts = (going.travels.told p member).counted;
    sources = before-from (last_told s p).sources (message_at s.run.graph (peer_at s.run.peers p)).sources (begins-by nodes s.run.graph (peer_at s.run.peers p) (last_told s p) holds.long to)
        (holds-more s.run.graph nodes going.followed.deltas (last_told s p) (message_at s.run.graph (peer_at s.run.peers p)) (carries (slice_index_or s.last p None) refl) (sends-known s.run.graph nodes going.followed.deltas (peer_at s.run.peers p).contents (peer_at s.run.peers p).counts holds)
        (omega (arith, to.wide, holds.wide)) (going.travels.told p member).counted);
  } where
    carries : (o : Option ℕ) → slice_index_or s.last p None ≡ o → Carries s.run.graph nodes going.followed.deltas (told_by s.run (slice_index_or s.last p None))
    carries None e =
        subst (λ (o : Option ℕ). Carries s.run.graph nodes going.followed.deltas (told_by s.run o)) (sym e)
        (subst (λ (n : ℕ). Carries s.run.graph nodes going.followed.deltas (nothing_told n)) (sym many) (nothing-carries s.run.graph nodes going.followed.deltas)) where
          many : length s.run.peers ≡ nodes
          many = ap (λ (r : Run). length r.peers) (sym going.run) ∙ going.at.sound.many
    carries (Some i) e =
        subst (λ (o : Option ℕ). Carries s.run.graph nodes going.followed.deltas (told_by s.run o)) (sym e)
        (subst (λ (r : Run). Carries r.graph nodes going.followed.deltas (sent_number r.sent i)) going.run (going.at.sound.carries i))

  pub going-post : (next : Run) → IsMessage (last_told s p) → IsMessage (message_at s.run.graph (peer_at s.run.peers p)) → IsBefore (last_told s p) (message_at s.run.graph (peer_at s.run.peers p)) → act c s.run (Post p) ≡ Ok next
      → IsGoing nodes (stage_after nodes stage (command.Send p)) (gossip_after s (Post p) next)
  going-post next lawful whole earlier e =
      subst (λ (r : Run). IsGoing nodes (stage_after nodes stage (command.Send p)) (gossip_after s (Post p) r)) (sym (act-effect c s.run next (Post p) e))
      (record {
        followed = followed going.followed (Post p);
        run = ap (λ (r : Run). effect r (Post p)) going.run;
        at = record {
          sound = sound-act nodes going.followed (Post p) going.at.sound tt;
          stands = ap (λ (z : Stage). stage_after nodes z (command.Send p)) going.at.stands
              ∙ (λ i. record { graph = going.followed.run.graph; marked = going.followed.marked; sent = (sym (length-push going.followed.run.sent (message_at going.followed.run.graph (peer_at going.followed.run.peers p)))) i });
        };
        travels = travels-post s p going.travels member lawful whole earlier;
      })

-- ---- what a delivery by a delta brings

module _ (nodes : ℕ) (stage : Stage) (s : Gossip) (p i : ℕ) (going : IsGoing nodes stage s) (member : p < nodes) (within : i < length s.run.sent) (to : IsSentTo nodes s.run.graph (sent_number s.run.sent i)) where
  abbrev mine : Message
  mine = message_at s.run.graph (peer_at s.run.peers p)

  many-peers : length s.run.peers ≡ nodes
  many-peers = ap (λ (r : Run). length r.peers) (sym going.run) ∙ going.at.sound.many

  mine-holds : Holds s.run.graph nodes going.followed.deltas (peer_at s.run.peers p).contents (peer_at s.run.peers p).counts
  mine-holds = subst (λ (r : Run). Holds r.graph nodes going.followed.deltas (peer_at r.peers p).contents (peer_at r.peers p).counts) going.run (going.at.sound.holds p member)

  carries-told : (o : Option ℕ) → Carries s.run.graph nodes going.followed.deltas (told_by s.run o)
  carries-told None = subst (λ (n : ℕ). Carries s.run.graph nodes going.followed.deltas (nothing_told n)) (sym many-peers) (nothing-carries s.run.graph nodes going.followed.deltas)
  carries-told (Some j) = subst (λ (r : Run). Carries r.graph nodes going.followed.deltas (sent_number r.sent j)) going.run (going.at.sound.carries j)

  pub alike-sent : AreAlike mine (sent_number s.run.sent i)
  alike-sent = record { nodes = mine-holds.wide ∙ sym to.wide; sources = alike-from mine.sources (sent_number s.run.sent i).sources (begins-by nodes s.run.graph (peer_at s.run.peers p) (sent_number s.run.sent i) mine-holds.long to) }

  -- the delta may be applied to what the node would send
  pub alike-delta : AreAlike mine (carried (delta_number s i))
  alike-delta =
      let d = going.travels.deltas i within in
      let begins = begins-by nodes s.run.graph (peer_at s.run.peers p) (sent_number s.run.sent i) mine-holds.long to in
      subst (λ (e : Delta). AreAlike mine (carried e)) (sym d.delta)
      (record {
        nodes = mine-holds.wide ∙ sym to.wide;
        sources = alike-from mine.sources (carried (delta_of (told_by s.run d.number) (sent_number s.run.sent i))).sources
            (begins.0, ap (λ (ds : List Decl). ds ++ begins.0) (decls-changed (told_by s.run d.number).sources 0 (sent_number s.run.sent i).sources) ∙ begins.1);
      })

  -- and brings what the message brings
  pub applied-delta : applied mine (delta_number s i) ≡ unless (first_gap 0 (peer_at s.run.peers p).counts (delta_number s i).from) (limited (joined mine (sent_number s.run.sent i)))
  applied-delta =
      let d = going.travels.deltas i within in
      let by = delta-known s.run.graph nodes going.followed.deltas (told_by s.run d.number) (sent_number s.run.sent i) mine (carries-told d.number)
      (sends-known s.run.graph nodes going.followed.deltas (peer_at s.run.peers p).contents (peer_at s.run.peers p).counts mine-holds) (message-ordered (sent_number s.run.sent i) d.whole) d.earlier alike-sent in
      subst (λ (e : Delta). applied mine e ≡ unless (first_gap 0 (peer_at s.run.peers p).counts e.from) (limited (joined mine (sent_number s.run.sent i)))) (sym d.delta) by

  pub delta-wide : length (peer_at s.run.peers p).counts ≡ length (delta_number s i).from
  delta-wide =
      let d = going.travels.deltas i within in
      mine-holds.wide ∙ sym to.wide ∙ sym d.earlier.nodes ∙ ap (λ (e : Delta). length e.from) (sym d.delta)

  -- a node that counts all that the delta goes on from is brought as much by what the delta carries as by the message
  pub brings-delta : first_gap 0 (peer_at s.run.peers p).counts (delta_number s i).from ≡ None → BringsAsMuch s.run.graph (peer_at s.run.peers p).contents (sent_number s.run.sent i) (carried (delta_number s i))
  brings-delta none =
      let d = going.travels.deltas i within in
      subst (λ (e : Delta). BringsAsMuch s.run.graph (peer_at s.run.peers p).contents (sent_number s.run.sent i) (carried e)) (sym d.delta)
      (delta-brings s.run.graph nodes going.followed.deltas (told_by s.run d.number) (sent_number s.run.sent i) (peer_at s.run.peers p) (carries-told d.number)
      (sends-known s.run.graph nodes going.followed.deltas (peer_at s.run.peers p).contents (peer_at s.run.peers p).counts mine-holds) mine-holds.long (mine-holds.wide ∙ sym to.wide) (message-ordered (sent_number s.run.sent i) d.whole) d.earlier
      (subst (λ (e : Delta). first_gap 0 (peer_at s.run.peers p).counts e.from ≡ None) d.delta none))

-- ---- the beginning

abbrev no_number : Option ℕ
no_number = None

none-at : (n p : ℕ) → slice_index_or (replicate n no_number) p None ≡ no_number
none-at zero p = refl
none-at (suc n) zero = refl
none-at (suc n) (suc p) = none-at n p

pub going-start : (g : List Decl) (nodes : ℕ) → IsGoing nodes (opening_stage g) (gossip_start g nodes)
going-start g nodes = record {
  followed = begin g nodes;
  run = refl;
  at = record { sound = sound-begin g nodes; stands = refl };
  travels = record {
    nodes = length-replicate nodes no_number ∙ sym (length-replicate nodes (fresh_peer g nodes));
    told = λ p low. subst (λ (o : Option ℕ). IsTold (start g nodes) p o) (sym (none-at nodes p)) (record { there = tt; counted = λ q. omega (arith, count_at-zeros (length (start g nodes).peers) q) });
    many = refl;
    deltas = λ i low. absurd (omega (arith, low));
  };
}
