-- From a place of a run to a later one: what messages carry is carried on, the graph grows at its end, and no count falls; and what is sent on the way was told by a node there.
use Rattle.std.proofs.Common.{◌≡◌, ℕ, zero, suc, ◌+◌, ◌≤◌, ◌<◌, ◌⊎◌, inl, inr, List, [], ◌∷◌, ◌++◌, length, map, flat_map, filter, not, ◌==◌, Ok, refl, sym, ap, subst, ◌∙◌, append_assoc, append-nil, arith}
use Rattle.std.specs.List.{range_with_len}
use Rattle.model_states.specs.Counts.{AreCountsAtMost}
use Rattle.model_states.specs.Update.{Add, Remove, Insert, Inc, Max, Join}
use Rattle.model_graph.specs.Graph.{Decl}
use Rattle.model_graph.proofs.PlaceLaws.{below-or-not, at-append, at-last, length-push}
use Rattle.model_graph.specs.Message.{Message}
use Rattle.model_world.specs.Command.{Command}
use Rattle.model_world.specs.Command as command
use Rattle.model_world.specs.Lawful.{Stage, opening_stage, stage_after, MayBeDone, AreLawful}
use Rattle.model_world.specs.World.{Act, Update, Keep, Post, Take, Point, Show, Open, Reach, Extend, peer_at, mark_at, no_message, sent_number, takes, sync_acts, acts}
use Rattle.model_world.specs.Follow.{Followed, delta_of, begin, follow_step, follow, followed, afters}
use Rattle.model_world.specs.Holds.{Carries, IsPlaceOf}
use Rattle.model_world.specs.Known.{Each, IsOfSource}
use Rattle.model_world.proofs.FollowLaws.{bound, step-effect}
use Rattle.model_world.proofs.HoldLaws.{carries-longer}
use Rattle.model_world.proofs.KnownLaws.{first-place}
use Rattle.model_world.proofs.PlaceLaws.{follow-more}
use Rattle.model_world.proofs.PlayLaws.{stage_of, stage_after_all, follow-sound, place-sound}
use Rattle.model_world.proofs.RoundLaws.{AreCalm, calm-sync}
use Rattle.model_world.proofs.SoundLaws.{sound-begin}
use Rattle.model_world.proofs.UpdateLaws.{carries-kept}
use Rattle.model_deltas.specs.World.{told_at, IsToldAmong}
use Rattle.model_deltas.proofs.RiseLaws.{counts-itself, counts-rise, peers-stay}

-- ---- what goes on

pub record GoesOn (nodes : ℕ) (f next : Followed) : Type 0 where
  pub carries : (m : Message) → Carries f.run.graph nodes f.deltas m → Carries next.run.graph nodes next.deltas m
  pub more : List Decl
  pub graph : f.run.graph ++ more ≡ next.run.graph
  pub many : length next.run.peers ≡ length f.run.peers
  pub rise : (q : ℕ) → q < length f.run.peers → AreCountsAtMost (peer_at f.run.peers q).counts (peer_at next.run.peers q).counts

goes-itself : (nodes : ℕ) (f : Followed) → GoesOn nodes f f
goes-itself nodes f = record { carries = λ m c. c; more = []; graph = append-nil f.run.graph; many = refl; rise = λ q low. counts-itself (peer_at f.run.peers q).counts }

goes-chain : (nodes : ℕ) (f g h : Followed) → GoesOn nodes f g → GoesOn nodes g h → GoesOn nodes f h
goes-chain nodes f g h a b = record {
  carries = λ m c. b.carries m (a.carries m c);
  more = a.more ++ b.more;
  graph = sym (append_assoc f.run.graph a.more b.more) ∙ ap (λ (ds : List Decl). ds ++ b.more) a.graph ∙ b.graph;
  many = b.many ∙ a.many;
  rise = λ q low node. omega (arith, a.rise q low node, b.rise q (omega (arith, low, a.many)) node);
}

goes-act : (nodes : ℕ) (f : Followed) (a : Act) → Each (IsOfSource f.run.graph) f.deltas → GoesOn nodes f (followed f a)
goes-act nodes f (Update p x op) s = record {
  carries = carries-kept f.run.graph nodes f.deltas p (delta_of (peer_at f.run.peers p) p x op);
  more = [];
  graph = append-nil f.run.graph;
  many = peers-stay f.run (Update p x op);
  rise = counts-rise f.run (Update p x op);
}
goes-act nodes f (Extend d) s = record {
  carries = carries-longer f.run.graph nodes f.deltas d s;
  more = d ∷ [];
  graph = refl;
  many = peers-stay f.run (Extend d);
  rise = counts-rise f.run (Extend d);
}
goes-act nodes f (Take p i) s = record { carries = λ m c. c; more = []; graph = append-nil f.run.graph; many = peers-stay f.run (Take p i); rise = counts-rise f.run (Take p i) }
goes-act nodes f (Keep p x) s = record { carries = λ m c. c; more = []; graph = append-nil f.run.graph; many = refl; rise = counts-rise f.run (Keep p x) }
goes-act nodes f (Post p) s = record { carries = λ m c. c; more = []; graph = append-nil f.run.graph; many = refl; rise = counts-rise f.run (Post p) }
goes-act nodes f Point s = record { carries = λ m c. c; more = []; graph = append-nil f.run.graph; many = refl; rise = counts-rise f.run Point }
goes-act nodes f (Show p x) s = record { carries = λ m c. c; more = []; graph = append-nil f.run.graph; many = refl; rise = counts-rise f.run (Show p x) }
goes-act nodes f (Open p x until) s = record { carries = λ m c. c; more = []; graph = append-nil f.run.graph; many = refl; rise = counts-rise f.run (Open p x until) }
goes-act nodes f (Reach p x until) s = record { carries = λ m c. c; more = []; graph = append-nil f.run.graph; many = refl; rise = counts-rise f.run (Reach p x until) }

-- sends and deliveries
goes-calm : (nodes : ℕ) (f : Followed) (many : List Act) → AreCalm many → Each (IsOfSource f.run.graph) f.deltas → GoesOn nodes f (afters f many)
goes-calm nodes f [] h s = goes-itself nodes f
goes-calm nodes f (Post p ∷ rest) h s = goes-chain nodes f (followed f (Post p)) (afters (followed f (Post p)) rest) (goes-act nodes f (Post p) s) (goes-calm nodes (followed f (Post p)) rest h.1 s)
goes-calm nodes f (Take p i ∷ rest) h s = goes-chain nodes f (followed f (Take p i)) (afters (followed f (Take p i)) rest) (goes-act nodes f (Take p i) s) (goes-calm nodes (followed f (Take p i)) rest h.1 s)
goes-calm nodes f (Update p x op ∷ rest) h s = absurd h.0
goes-calm nodes f (Keep p x ∷ rest) h s = absurd h.0
goes-calm nodes f (Point ∷ rest) h s = absurd h.0
goes-calm nodes f (Show p x ∷ rest) h s = absurd h.0
goes-calm nodes f (Open p x until ∷ rest) h s = absurd h.0
goes-calm nodes f (Reach p x until ∷ rest) h s = absurd h.0
goes-calm nodes f (Extend d ∷ rest) h s = absurd h.0

-- a point, and another act
goes-pointed : (nodes : ℕ) (f : Followed) (a : Act) → Each (IsOfSource f.run.graph) f.deltas → GoesOn nodes f (followed (followed f Point) a)
goes-pointed nodes f a s = goes-chain nodes f (followed f Point) (followed (followed f Point) a) (goes-act nodes f Point s) (goes-act nodes (followed f Point) a s)

goes-command : (nodes : ℕ) (f : Followed) (k : Command) → Each (IsOfSource f.run.graph) f.deltas → GoesOn nodes f (afters f (acts f.run k))
goes-command nodes f (command.Add p x v) s = goes-act nodes f (Update p x (Add v)) s
goes-command nodes f (command.Remove p x v) s = goes-act nodes f (Update p x (Remove v)) s
goes-command nodes f (command.Insert p x v) s = goes-act nodes f (Update p x (Insert v)) s
goes-command nodes f (command.Inc p x by) s = goes-act nodes f (Update p x (Inc by)) s
goes-command nodes f (command.Max p x n) s = goes-act nodes f (Update p x (Max n)) s
goes-command nodes f (command.Mark p x) s = goes-act nodes f (Keep p x) s
goes-command nodes f (command.Bind p x m) s = goes-act nodes f (Update p x (Join (mark_at f.run.marks m).content)) s
goes-command nodes f (command.Send p) s = goes-act nodes f (Post p) s
goes-command nodes f (command.Deliver p i) s = goes-act nodes f (Take p i) s
goes-command nodes f command.Sync s = goes-calm nodes f (sync_acts (length f.run.peers) (length f.run.sent)) (calm-sync (length f.run.peers) (length f.run.sent)) s
goes-command nodes f command.Settle s = goes-act nodes f Point s
goes-command nodes f (command.Print p x) s = goes-pointed nodes f (Show p x) s
goes-command nodes f (command.Read p x until) s = goes-act nodes f (Open p x until) s
goes-command nodes f (command.Await p x until) s = goes-pointed nodes f (Reach p x until) s
goes-command nodes f (command.Declare d) s = goes-pointed nodes f (Extend d) s

-- ---- along the places of a run

end-is : (c : ℕ) (f last : Followed) → follow c f [] ≡ Ok last → f ≡ last
unfolding follow
end-is c f last e = cc

only-step : (c : ℕ) (f next : Followed) (k : Command) → follow c f (k ∷ []) ≡ Ok next → next ≡ afters f (acts f.run k)
unfolding follow
only-step c f next k e =
    let both = bound (follow_step c f k) (λ mid. follow (c + 1) mid []) next e in
    sym (end-is (c + 1) both.0 next both.2) ∙ step-effect c f both.0 k both.1

begin-place : (g : List Decl) (nodes : ℕ) → IsPlaceOf g nodes [] (begin g nodes)
unfolding follow
begin-place g nodes = record { lawful = tt; reached = refl }

rest-lawful : (nodes : ℕ) (stage : Stage) (commands more : List Command) → AreLawful nodes stage (commands ++ more) → AreLawful nodes (stage_after_all nodes stage commands) more
rest-lawful nodes stage [] more h = h
rest-lawful nodes stage (k ∷ rest) more h = rest-lawful nodes (stage_after nodes stage k) rest more h.1

-- the next command may be done
may-next : (g : List Decl) (nodes : ℕ) (done rest : List Command) (k : Command) (f last : Followed) → IsPlaceOf g nodes done f → IsPlaceOf g nodes (done ++ k ∷ rest) last → MayBeDone nodes (stage_of f) k
may-next g nodes done rest k f last at there =
    subst (λ (z : Stage). MayBeDone nodes z k) (follow-sound nodes 1 (opening_stage g) (begin g nodes) f done (record { sound = sound-begin g nodes; stands = refl }) at.lawful at.reached).stands
    (rest-lawful nodes (opening_stage g) done (k ∷ rest) there.lawful).0

-- what holds at a place, and is kept by each command behind it, holds at the later ones
module _ (g : List Decl) (nodes : ℕ) (commands : List Command) (P : Followed → Type 0) (kept : (done rest : List Command) (k : Command) (f : Followed) → done ++ k ∷ rest ≡ commands → IsPlaceOf g nodes done f → MayBeDone nodes (stage_of f) k → P f → P (afters f (acts f.run k))) where
  along : (done rest : List Command) (f last : Followed) → done ++ rest ≡ commands → IsPlaceOf g nodes done f → IsPlaceOf g nodes (done ++ rest) last → P f → P last
  along done [] f last all at there h = subst P (end-is (1 + length done) f last (follow-more 1 (begin g nodes) f last done [] at.reached there.reached)) h
  along done (k ∷ rest) f last all at there h =
      let one : done ++ k ∷ rest ≡ (done ++ k ∷ []) ++ rest = sym (append_assoc done (k ∷ []) rest) in
      let again : IsPlaceOf g nodes ((done ++ k ∷ []) ++ rest) last = subst (λ (ks : List Command). IsPlaceOf g nodes ks last) one there in
      let mid = first-place g nodes (done ++ k ∷ []) rest last again in
      let is : mid.0 ≡ afters f (acts f.run k) = only-step (1 + length done) f mid.0 k (follow-more 1 (begin g nodes) f mid.0 done (k ∷ []) at.reached mid.1.reached) in
      along (done ++ k ∷ []) rest mid.0 last (sym one ∙ all) mid.1 again (subst P (sym is) (kept done rest k f all at (may-next g nodes done rest k f last at there) h))

pub goes-on : (g : List Decl) (nodes : ℕ) (commands more : List Command) (f last : Followed) → IsPlaceOf g nodes commands f → IsPlaceOf g nodes (commands ++ more) last → GoesOn nodes f last
goes-on g nodes commands more f last at there =
    along g nodes (commands ++ more) (λ (next : Followed). GoesOn nodes f next)
    (λ done rest k next all place may way. goes-chain nodes f next (afters next (acts next.run k)) way (goes-command nodes next k (place-sound g nodes done next place).sources))
    commands more f last refl at there (goes-itself nodes f)

-- ---- what is sent

-- message i of the later place is one of the earlier place, or what a node told there
abbrev WasSent : ℕ → Followed → Followed → ℕ → Type 0
WasSent nodes f next i =
    ((i < length f.run.sent) × (sent_number next.run.sent i ≡ sent_number f.run.sent i)) ⊎ ((p : ℕ) × (p < nodes) × (sent_number next.run.sent i ≡ told_at f p))

abbrev AreSent : ℕ → Followed → Followed → Type 0
AreSent nodes f next = (i : ℕ) → i < length next.run.sent → WasSent nodes f next i

sent-same : (nodes : ℕ) (f mid next : Followed) → next.run.sent ≡ mid.run.sent → AreSent nodes f mid → AreSent nodes f next
sent-same nodes f mid next e h i low = choose (h i (omega (arith, low, ap (λ (ms : List Message). length ms) e))) where
  there : sent_number next.run.sent i ≡ sent_number mid.run.sent i
  there = ap (λ (ms : List Message). sent_number ms i) e

  choose : WasSent nodes f mid i → WasSent nodes f next i
  choose (inl old) = inl (old.0, there ∙ old.1)
  choose (inr new) = inr (new.0, new.1, there ∙ new.2)

sent-still : (nodes : ℕ) (f next : Followed) → next.run.sent ≡ f.run.sent → AreSent nodes f next
sent-still nodes f next e = sent-same nodes f f next e (λ i low. inl (low, refl))

sent-post : (nodes : ℕ) (f : Followed) (p : ℕ) → p < nodes → AreSent nodes f (followed f (Post p))
sent-post nodes f p member i low = choose (below-or-not i (length f.run.sent)) where
  choose : (i < length f.run.sent) ⊎ (length f.run.sent ≤ i) → WasSent nodes f (followed f (Post p)) i
  choose (inl old) = inl (old, at-append f.run.sent (told_at f p ∷ []) i no_message old)
  choose (inr new) =
      let here : length f.run.sent ≡ i = omega (arith, new, low, length-push f.run.sent (told_at f p)) in
      inr (p, member, ap (λ (n : ℕ). sent_number (f.run.sent ++ told_at f p ∷ []) n) (sym here) ∙ at-last f.run.sent (told_at f p) no_message)

-- where what nodes tell stays the same meanwhile
sent-then : (nodes : ℕ) (f mid next : Followed) → ((p : ℕ) → told_at mid p ≡ told_at f p) → AreSent nodes f mid → AreSent nodes mid next → AreSent nodes f next
sent-then nodes f mid next same first second i low = choose (second i low) where
  again : sent_number next.run.sent i ≡ sent_number mid.run.sent i → WasSent nodes f mid i → WasSent nodes f next i
  again e (inl old) = inl (old.0, e ∙ old.1)
  again e (inr new) = inr (new.0, new.1, e ∙ new.2)

  choose : WasSent nodes mid next i → WasSent nodes f next i
  choose (inl old) = again old.1 (first i old.0)
  choose (inr new) = inr (new.0, new.1, new.2 ∙ same new.0)

-- ---- a round of sends and deliveries

abbrev AreNodes : ℕ → List ℕ → Type 0
AreNodes n [] = Unit {0}
AreNodes n (p ∷ ps) = (p < n) × AreNodes n ps

nodes-from : (a n : ℕ) → AreNodes (a + n) (range_with_len a n)
nodes-from a zero = tt
nodes-from a (suc n) = (omega arith, subst (λ (m : ℕ). AreNodes m (range_with_len (a + 1) n)) (let there : (a + 1) + n ≡ a + suc n = omega arith in there) (nodes-from (a + 1) n))

nodes-all : (n : ℕ) → AreNodes n (range_with_len 0 n)
nodes-all n = subst (λ (m : ℕ). AreNodes m (range_with_len 0 n)) (let here : 0 + n ≡ n = omega arith in here) (nodes-from 0 n)

abbrev IsTake : Act → Type 0
IsTake (Take p i) = Unit {0}
IsTake _ = ⊥

abbrev AreTakes : List Act → Type 0
AreTakes [] = Unit {0}
AreTakes (a ∷ rest) = IsTake a × AreTakes rest

takes-append : (many bs : List Act) → AreTakes many → AreTakes bs → AreTakes (many ++ bs)
takes-append [] bs h g = g
takes-append (a ∷ many) bs h g = (h.0, takes-append many bs h.1 g)

takes-one : (p i : ℕ) (qs : List ℕ) → AreTakes (map (λ q. Take p (i + q)) qs)
takes-one p i [] = tt
takes-one p i (q ∷ qs) = (tt, takes-one p i qs)

takes-all : (nodes i : ℕ) (ps : List ℕ) → AreTakes (flat_map (takes nodes i) ps)
takes-all nodes i [] = tt
takes-all nodes i (p ∷ ps) = takes-append (takes nodes i p) (flat_map (takes nodes i) ps) (takes-one p i (filter (λ q. not (q == p)) (range_with_len 0 nodes))) (takes-all nodes i ps)

takes-sent : (f : Followed) (many : List Act) → AreTakes many → (afters f many).run.sent ≡ f.run.sent
takes-sent f [] h = refl
takes-sent f (Take p i ∷ rest) h = takes-sent (followed f (Take p i)) rest h.1
takes-sent f (Post p ∷ rest) h = absurd h.0
takes-sent f (Update p x op ∷ rest) h = absurd h.0
takes-sent f (Keep p x ∷ rest) h = absurd h.0
takes-sent f (Point ∷ rest) h = absurd h.0
takes-sent f (Show p x ∷ rest) h = absurd h.0
takes-sent f (Open p x until ∷ rest) h = absurd h.0
takes-sent f (Reach p x until ∷ rest) h = absurd h.0
takes-sent f (Extend d ∷ rest) h = absurd h.0

posts-sent : (nodes : ℕ) (f : Followed) (ps : List ℕ) → AreNodes nodes ps → AreSent nodes f (afters f (map Post ps))
posts-sent nodes f [] h = sent-still nodes f f refl
posts-sent nodes f (p ∷ ps) h = sent-then nodes f (followed f (Post p)) (afters (followed f (Post p)) (map Post ps)) (λ q. refl) (sent-post nodes f p h.0) (posts-sent nodes (followed f (Post p)) ps h.1)

afters-append : (f : Followed) (many bs : List Act) → afters f (many ++ bs) ≡ afters (afters f many) bs
afters-append f [] bs = refl
afters-append f (a ∷ many) bs = afters-append (followed f a) many bs

sync-sent : (nodes n first : ℕ) (f : Followed) → n ≡ nodes → AreSent nodes f (afters f (sync_acts n first))
sync-sent nodes n first f e =
    sent-same nodes f (afters f (map Post (range_with_len 0 n))) (afters f (sync_acts n first))
    (ap (λ (z : Followed). z.run.sent) (afters-append f (map Post (range_with_len 0 n)) (flat_map (takes n first) (range_with_len 0 n)))
    ∙ takes-sent (afters f (map Post (range_with_len 0 n))) (flat_map (takes n first) (range_with_len 0 n)) (takes-all n first (range_with_len 0 n)))
    (posts-sent nodes f (range_with_len 0 n) (subst (λ (m : ℕ). AreNodes m (range_with_len 0 n)) e (nodes-all n)))

-- ---- the commands

command-sent : (nodes : ℕ) (f : Followed) (k : Command) → length f.run.peers ≡ nodes → MayBeDone nodes (stage_of f) k → AreSent nodes f (afters f (acts f.run k))
command-sent nodes f (command.Send p) many may = sent-post nodes f p may
command-sent nodes f command.Sync many may = sync-sent nodes (length f.run.peers) (length f.run.sent) f many
command-sent nodes f (command.Add p x v) many may = sent-still nodes f (followed f (Update p x (Add v))) refl
command-sent nodes f (command.Remove p x v) many may = sent-still nodes f (followed f (Update p x (Remove v))) refl
command-sent nodes f (command.Insert p x v) many may = sent-still nodes f (followed f (Update p x (Insert v))) refl
command-sent nodes f (command.Inc p x by) many may = sent-still nodes f (followed f (Update p x (Inc by))) refl
command-sent nodes f (command.Max p x n) many may = sent-still nodes f (followed f (Update p x (Max n))) refl
command-sent nodes f (command.Mark p x) many may = sent-still nodes f (followed f (Keep p x)) refl
command-sent nodes f (command.Bind p x m) many may = sent-still nodes f (followed f (Update p x (Join (mark_at f.run.marks m).content))) refl
command-sent nodes f (command.Deliver p i) many may = sent-still nodes f (followed f (Take p i)) refl
command-sent nodes f command.Settle many may = sent-still nodes f (followed f Point) refl
command-sent nodes f (command.Print p x) many may = sent-still nodes f (followed (followed f Point) (Show p x)) refl
command-sent nodes f (command.Read p x until) many may = sent-still nodes f (followed f (Open p x until)) refl
command-sent nodes f (command.Await p x until) many may = sent-still nodes f (followed (followed f Point) (Reach p x until)) refl
command-sent nodes f (command.Declare d) many may = sent-still nodes f (followed (followed f Point) (Extend d)) refl

pub sent-told : (g : List Decl) (nodes : ℕ) (commands : List Command) (f : Followed) → IsPlaceOf g nodes commands f → (i : ℕ) → i < length f.run.sent → IsToldAmong g nodes commands (sent_number f.run.sent i)
sent-told g nodes commands f place =
    along g nodes commands (λ (next : Followed). (i : ℕ) → i < length next.run.sent → IsToldAmong g nodes commands (sent_number next.run.sent i)) kept [] commands (begin g nodes) f refl (begin-place g nodes) place (λ i low. absurd (omega (arith, low))) where
      told : (done rest : List Command) (k : Command) (at : Followed) (i : ℕ) → done ++ k ∷ rest ≡ commands → IsPlaceOf g nodes done at → ((j : ℕ) → j < length at.run.sent → IsToldAmong g nodes commands (sent_number at.run.sent j)) → WasSent nodes at (afters at (acts at.run k)) i
          → IsToldAmong g nodes commands (sent_number (afters at (acts at.run k)).run.sent i)
      told done rest k at i all there old (inl earlier) = subst (IsToldAmong g nodes commands) (sym earlier.1) (old i earlier.0)
      told done rest k at i all there old (inr new) = record { done = done; rest = k ∷ rest; all = all; at = at; place = there; node = new.0; member = new.1; is = new.2 }

      kept : (done rest : List Command) (k : Command) (at : Followed) → done ++ k ∷ rest ≡ commands → IsPlaceOf g nodes done at → MayBeDone nodes (stage_of at) k → ((j : ℕ) → j < length at.run.sent → IsToldAmong g nodes commands (sent_number at.run.sent j))
          → (i : ℕ) → i < length (afters at (acts at.run k)).run.sent → IsToldAmong g nodes commands (sent_number (afters at (acts at.run k)).run.sent i)
      kept done rest k at all there may old i low = told done rest k at i all there old (command-sent nodes at k (place-sound g nodes done at there).many may i low)
