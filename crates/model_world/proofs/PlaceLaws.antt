-- Two places of one run with equal counts have equal contents: what is known stays known, and known by the counts alone.
use Rattle.std.proofs.Common.{◌≡◌, ℕ, zero, suc, ◌+◌, ◌≤◌, ◌<◌, List, [], ◌∷◌, ◌++◌, length, map, Ok, refl, sym, ap, subst, ◌∙◌, arith}
use Rattle.std.specs.List.{range_with_len}
use Rattle.std.proofs.lemmas.List.FromFn.{length-map-range_with_len}
use Rattle.model_states.specs.Counts.{count_at, larger, AreCountsAtMost}
use Rattle.model_states.specs.Content.{Content, least}
use Rattle.model_states.proofs.CountLaws.{larger-commutative, larger-at_most}
use Rattle.model_graph.specs.Graph.{Decl}
use Rattle.model_graph.specs.Evaluation.{content_at}
use Rattle.model_graph.proofs.PlaceLaws.{same-lists, length-push}
use Rattle.model_graph.specs.Message.{Message}
use Rattle.model_world.specs.Command.{Command}
use Rattle.model_world.specs.World.{Peer, Act, Update, Keep, Post, Take, Point, Show, Open, Reach, Extend, peer_at, sent_number, delivered, acts}
use Rattle.model_world.specs.Delta.{Delta, known, known_contents}
use Rattle.model_world.specs.Follow.{Followed, delta_of, follow_step, follow, begin, followed, afters}
use Rattle.model_world.specs.Holds.{AreMade, Holds, IsPlaceOf}
use Rattle.model_world.proofs.UpdateLaws.{made-more, known-kept}
use Rattle.model_world.proofs.VariableLaws.{known-append}
use Rattle.model_world.proofs.HoldLaws.{takes-known}
use Rattle.model_world.proofs.SoundLaws.{IsSound}
use Rattle.model_world.proofs.FollowLaws.{bound, step-effect}
use Rattle.model_world.proofs.PlayLaws.{place-sound}

-- ---- what a replica holds, as a list

known-range : (f : ℕ → Content) (a n x : ℕ) → x < n → content_at (map f (range_with_len a n)) x ≡ f (a + x)
known-range f a zero x h = absurd (omega (arith, h))
known-range f a (suc n) zero h = ap f (let here : a ≡ a + 0 = omega arith in here)
known-range f a (suc n) (suc x) h = known-range f (a + 1) n x (omega (arith, h)) ∙ ap f (let there : (a + 1) + x ≡ a + suc x = omega arith in there)

pub known_contents-length : (g : List Decl) (nodes : ℕ) (all : List (List Delta)) (cs : List ℕ) → length (known_contents g nodes all cs) ≡ length g
unfolding known_contents
known_contents-length g nodes all cs = length-map-range_with_len (known g nodes all cs) 0 (length g)

pub known_contents-at : (g : List Decl) (nodes : ℕ) (all : List (List Delta)) (cs : List ℕ) (x : ℕ) → x < length g → content_at (known_contents g nodes all cs) x ≡ known g nodes all cs x
unfolding known_contents
known_contents-at g nodes all cs x low = known-range (known g nodes all cs) 0 (length g) x low ∙ ap (known g nodes all cs) (let here : 0 + x ≡ x = omega arith in here)

pub holds-contents : (g : List Decl) (nodes : ℕ) (all : List (List Delta)) (ss : List Content) (cs : List ℕ) → Holds g nodes all ss cs → ss ≡ known_contents g nodes all cs
holds-contents g nodes all ss cs h =
    same-lists ss (known_contents g nodes all cs) least (omega (arith, h.long, known_contents-length g nodes all cs))
    (λ x low. let declared : x < length g = omega (arith, low, h.long) in h.knows x declared ∙ sym (known_contents-at g nodes all cs x declared))

-- a message whose counts are all counted already changes nothing
pub late-nothing : (nodes : ℕ) (f : Followed) (p i : ℕ) → IsSound nodes f → p < nodes → AreCountsAtMost (sent_number f.run.sent i).counts (peer_at f.run.peers p).counts
    → delivered f.run.graph (sent_number f.run.sent i) (peer_at f.run.peers p) ≡ peer_at f.run.peers p
late-nothing nodes f p i s member a = λ j. record { contents = contents j; counts = counts j } where
  r : Peer
  r = peer_at f.run.peers p

  m : Message
  m = sent_number f.run.sent i

  h : Holds f.run.graph nodes f.deltas (peer_at f.run.peers p).contents (peer_at f.run.peers p).counts
  h = s.holds p member

  counts : larger (peer_at f.run.peers p).counts (sent_number f.run.sent i).counts ≡ (peer_at f.run.peers p).counts
  counts = larger-commutative r.counts m.counts ∙ larger-at_most m.counts r.counts (omega (arith, (s.carries i).narrow, h.wide)) a

  contents : (delivered f.run.graph (sent_number f.run.sent i) (peer_at f.run.peers p)).contents ≡ (peer_at f.run.peers p).contents
  contents =
      holds-contents f.run.graph nodes f.deltas (delivered f.run.graph m r).contents (larger r.counts m.counts) (takes-known f.run.graph nodes f.deltas r.contents r.counts m s.sources h (s.carries i))
      ∙ ap (known_contents f.run.graph nodes f.deltas) counts ∙ sym (holds-contents f.run.graph nodes f.deltas r.contents r.counts h)

-- ---- later places

-- what is known by counts is known by them later
pub record IsLater (nodes : ℕ) (f next : Followed) : Type 0 where
  pub longer : length f.run.graph ≤ length next.run.graph
  pub made : (cs : List ℕ) → AreMade f.deltas cs → AreMade next.deltas cs
  pub knows : (cs : List ℕ) → AreMade f.deltas cs → (x : ℕ) → x < length f.run.graph → known next.run.graph nodes next.deltas cs x ≡ known f.run.graph nodes f.deltas cs x

pub later-itself : (nodes : ℕ) (f : Followed) → IsLater nodes f f
later-itself nodes f = record { longer = omega arith; made = λ cs h. h; knows = λ cs h x low. refl }

pub later-chain : (nodes : ℕ) (f g h : Followed) → IsLater nodes f g → IsLater nodes g h → IsLater nodes f h
later-chain nodes f g h a b = record {
  longer = omega (arith, a.longer, b.longer);
  made = λ cs m. b.made cs (a.made cs m);
  knows = λ cs m x low. b.knows cs (a.made cs m) x (omega (arith, low, a.longer)) ∙ a.knows cs m x low;
}

later-act : (nodes : ℕ) (f : Followed) (a : Act) → IsLater nodes f (followed f a)
later-act nodes f (Update p x op) =
    let d = delta_of (peer_at f.run.peers p) p x op in
    record {
      longer = omega arith;
      made = λ cs h q. made-more f.run.graph nodes f.deltas p d q (count_at cs q) (h q);
      knows = λ cs h y low. known-kept f.run.graph nodes f.deltas p d cs h y;
    }
later-act nodes f (Extend d) = record {
  longer = omega (arith, length-push f.run.graph d);
  made = λ cs h. h;
  knows = λ cs h x low. known-append f.run.graph d nodes f.deltas cs x low;
}
later-act nodes f (Keep p x) = record { longer = omega arith; made = λ cs h. h; knows = λ cs h x low. refl }
later-act nodes f (Post p) = record { longer = omega arith; made = λ cs h. h; knows = λ cs h x low. refl }
later-act nodes f (Take p i) = record { longer = omega arith; made = λ cs h. h; knows = λ cs h x low. refl }
later-act nodes f Point = record { longer = omega arith; made = λ cs h. h; knows = λ cs h x low. refl }
later-act nodes f (Show p x) = record { longer = omega arith; made = λ cs h. h; knows = λ cs h x low. refl }
later-act nodes f (Open p x until) = record { longer = omega arith; made = λ cs h. h; knows = λ cs h x low. refl }
later-act nodes f (Reach p x until) = record { longer = omega arith; made = λ cs h. h; knows = λ cs h x low. refl }

pub later-afters : (nodes : ℕ) (f : Followed) (many : List Act) → IsLater nodes f (afters f many)
later-afters nodes f [] = later-itself nodes f
later-afters nodes f (a ∷ rest) = later-chain nodes f (followed f a) (afters (followed f a) rest) (later-act nodes f a) (later-afters nodes (followed f a) rest)

later-follow : (nodes c : ℕ) (f last : Followed) (commands : List Command) → follow c f commands ≡ Ok last → IsLater nodes f last
unfolding follow
later-follow nodes c f last [] e = subst (IsLater nodes f) (let same : f ≡ last = cc in same) (later-itself nodes f)
later-follow nodes c f last (k ∷ rest) e =
    let both = bound (follow_step c f k) (λ next. follow (c + 1) next rest) last e in
    later-chain nodes f both.0 last (subst (IsLater nodes f) (sym (step-effect c f both.0 k both.1)) (later-afters nodes f (acts f.run k))) (later-follow nodes (c + 1) both.0 last rest both.2)

-- the place after more commands is reached from the place after the first
pub follow-more : (c : ℕ) (f mid last : Followed) (commands more : List Command) → follow c f commands ≡ Ok mid → follow c f (commands ++ more) ≡ Ok last → follow (c + length commands) mid more ≡ Ok last
unfolding follow
follow-more c f mid last [] more e h =
    let same : f ≡ mid = cc in
    ap (λ (n : ℕ). follow n mid more) (let here : c + 0 ≡ c = omega arith in here) ∙ ap (λ (z : Followed). follow c z more) (sym same) ∙ h
follow-more c f mid last (k ∷ rest) more e h =
    let first = bound (follow_step c f k) (λ next. follow (c + 1) next rest) mid e in
    let second = bound (follow_step c f k) (λ next. follow (c + 1) next (rest ++ more)) last h in
    let one : Ok second.0 ≡ Ok first.0 = sym second.1 ∙ first.1 in
    let same : second.0 ≡ first.0 = cc in
    ap (λ (n : ℕ). follow n mid more) (let there : c + suc (length rest) ≡ (c + 1) + length rest = omega arith in there)
    ∙ follow-more (c + 1) first.0 mid last rest more first.2 (subst (λ (z : Followed). follow (c + 1) z (rest ++ more) ≡ Ok last) same second.2)

pub place-later : (g : List Decl) (nodes : ℕ) (commands more : List Command) (f last : Followed) → IsPlaceOf g nodes commands f → IsPlaceOf g nodes (commands ++ more) last → IsLater nodes f last
place-later g nodes commands more f last at there =
    later-follow nodes (1 + length commands) f last more (follow-more 1 (begin g nodes) f last commands more at.reached there.reached)

-- equal counts, equal contents
pub equal-counts : (g : List Decl) (nodes : ℕ) (commands more : List Command) (f last : Followed) → IsPlaceOf g nodes commands f → IsPlaceOf g nodes (commands ++ more) last
    → f.run.graph ≡ last.run.graph → (p q : ℕ) → p < nodes → q < nodes → (peer_at f.run.peers p).counts ≡ (peer_at last.run.peers q).counts
    → (peer_at f.run.peers p).contents ≡ (peer_at last.run.peers q).contents
equal-counts g nodes commands more f last at there same p q member other e =
    same-lists r.contents z.contents least long (λ x low.
    let declared : x < length f.run.graph = omega (arith, low, h.long) in
    let still : x < length last.run.graph = omega (arith, declared, ap (λ (c : List Decl). length c) same) in
    h.knows x declared ∙ sym (later.knows r.counts h.made x declared) ∙ ap (λ (cs : List ℕ). known last.run.graph nodes last.deltas cs x) e ∙ sym (k.knows x still)) where
      r : Peer
      r = peer_at f.run.peers p

      z : Peer
      z = peer_at last.run.peers q

      h : Holds f.run.graph nodes f.deltas (peer_at f.run.peers p).contents (peer_at f.run.peers p).counts
      h = (place-sound g nodes commands f at).holds p member

      k : Holds last.run.graph nodes last.deltas (peer_at last.run.peers q).contents (peer_at last.run.peers q).counts
      k = (place-sound g nodes (commands ++ more) last there).holds q other

      later : IsLater nodes f last
      later = place-later g nodes commands more f last at there

      long : length (peer_at f.run.peers p).contents ≡ length (peer_at last.run.peers q).contents
      long = omega (arith, h.long, k.long, ap (λ (c : List Decl). length c) same)
