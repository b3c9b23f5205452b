-- Who holds what is known at the places of a run in which nothing stops, and places that are alike.
use Rattle.std.proofs.Common.{◌≡◌, ℕ, ◌<◌, List, [], ◌∷◌, ◌++◌, length, slice_index_or, refl, sym, ap, subst, ◌∙◌, arith}
use Rattle.model_states.specs.Counts.{count_at, AreCountsAtMost}
use Rattle.model_graph.specs.Graph.{Decl, kind_at}
use Rattle.model_graph.specs.Evaluation.{content_at, eval}
use Rattle.model_world.specs.Command.{Command}
use Rattle.model_world.specs.Line.{shown_content}
use Rattle.model_world.specs.World.{Peer, peer_at, delivered, sent_number, mark_at, acts, shown_at}
use Rattle.model_world.specs.Delta.{deltas_at, known_contents}
use Rattle.model_world.specs.Follow.{Followed, begin, afters}
use Rattle.model_world.specs.Holds.{Holds, Carries, Keeps}
use Rattle.model_world.proofs.PlaceLaws.{holds-contents, late-nothing, IsLater, later-itself, later-chain, later-afters}
use Rattle.model_dots.specs.Unlimited.{IsUnlimitedPlaceOf}
use Rattle.model_dots.proofs.UnlimitedLaws.{followed_all, all-place, place-sound}

-- ---- who holds what is known

pub replica-holds : (g : List Decl) (nodes : ℕ) (commands : List Command) (f : Followed) → IsUnlimitedPlaceOf g nodes commands f → (p : ℕ) → p < nodes
    → Holds f.run.graph nodes f.deltas (peer_at f.run.peers p).contents (peer_at f.run.peers p).counts
replica-holds g nodes commands f place p member = (place-sound g nodes commands f place).holds p member

pub replica-contents : (g : List Decl) (nodes : ℕ) (commands : List Command) (f : Followed) → IsUnlimitedPlaceOf g nodes commands f → (p : ℕ) → p < nodes
    → (peer_at f.run.peers p).contents ≡ known_contents f.run.graph nodes f.deltas (peer_at f.run.peers p).counts
replica-contents g nodes commands f place p member =
    holds-contents f.run.graph nodes f.deltas (peer_at f.run.peers p).contents (peer_at f.run.peers p).counts (replica-holds g nodes commands f place p member)

pub replica-own : (g : List Decl) (nodes : ℕ) (commands : List Command) (f : Followed) → IsUnlimitedPlaceOf g nodes commands f → (p : ℕ) → p < nodes
    → count_at (peer_at f.run.peers p).counts p ≡ length (deltas_at f.deltas p)
replica-own g nodes commands f place p member = (place-sound g nodes commands f place).own p member

pub message-carries : (g : List Decl) (nodes : ℕ) (commands : List Command) (f : Followed) → IsUnlimitedPlaceOf g nodes commands f → (i : ℕ) → Carries f.run.graph nodes f.deltas (sent_number f.run.sent i)
message-carries g nodes commands f place i = (place-sound g nodes commands f place).carries i

pub mark-keeps : (g : List Decl) (nodes : ℕ) (commands : List Command) (f : Followed) → IsUnlimitedPlaceOf g nodes commands f → (m : ℕ) → m < length f.marked
    → Keeps f.run.graph nodes f.deltas (slice_index_or f.marked m 0) (mark_at f.run.marks m).content
mark-keeps g nodes commands f place m made = (place-sound g nodes commands f place).keeps m made

-- ---- later places

later-all : (nodes : ℕ) (f : Followed) (commands : List Command) → IsLater nodes f (followed_all f commands)
later-all nodes f [] = later-itself nodes f
later-all nodes f (k ∷ rest) =
    later-chain nodes f (afters f (acts f.run k)) (followed_all (afters f (acts f.run k)) rest) (later-afters nodes f (acts f.run k)) (later-all nodes (afters f (acts f.run k)) rest)

all-append : (f : Followed) (commands more : List Command) → followed_all f (commands ++ more) ≡ followed_all (followed_all f commands) more
all-append f [] more = refl
all-append f (k ∷ rest) more = all-append (afters f (acts f.run k)) rest more

place-later : (g : List Decl) (nodes : ℕ) (commands more : List Command) (f last : Followed) → IsUnlimitedPlaceOf g nodes commands f → IsUnlimitedPlaceOf g nodes (commands ++ more) last → IsLater nodes f last
place-later g nodes commands more f last at there =
    let first : followed_all (begin g nodes) commands ≡ f = all-place (begin g nodes) commands ∙ sym at.reached in
    subst (IsLater nodes f) (ap (λ (z : Followed). followed_all z more) (sym first) ∙ sym (all-append (begin g nodes) commands more) ∙ all-place (begin g nodes) (commands ++ more) ∙ sym there.reached) (later-all nodes f more)

-- ---- places that are alike

pub equal-counts : (g : List Decl) (nodes : ℕ) (commands more : List Command) (f last : Followed) → IsUnlimitedPlaceOf g nodes commands f → IsUnlimitedPlaceOf g nodes (commands ++ more) last
    → f.run.graph ≡ last.run.graph → (p q : ℕ) → p < nodes → q < nodes → (peer_at f.run.peers p).counts ≡ (peer_at last.run.peers q).counts
    → (peer_at f.run.peers p).contents ≡ (peer_at last.run.peers q).contents
equal-counts g nodes commands more f last at there same p q member other e =
    holds-contents last.run.graph nodes last.deltas r.contents r.counts still ∙ ap (known_contents last.run.graph nodes last.deltas) e ∙ sym (replica-contents g nodes (commands ++ more) last there q other) where
      r : Peer
      r = peer_at f.run.peers p

      h : Holds f.run.graph nodes f.deltas (peer_at f.run.peers p).contents (peer_at f.run.peers p).counts
      h = replica-holds g nodes commands f at p member

      later : IsLater nodes f last
      later = place-later g nodes commands more f last at there

      long : length f.run.graph ≡ length last.run.graph
      long = ap (λ (c : List Decl). length c) same

      still : Holds last.run.graph nodes last.deltas (peer_at f.run.peers p).contents (peer_at f.run.peers p).counts
      still = record {
        long = h.long ∙ long;
        wide = h.wide;
        made = later.made r.counts h.made;
        knows = λ x low. let declared : x < length f.run.graph = omega (arith, low, long) in h.knows x declared ∙ sym (later.knows r.counts h.made x declared);
      }

pub equal-shown : (g : List Decl) (nodes : ℕ) (commands more : List Command) (f last : Followed) → IsUnlimitedPlaceOf g nodes commands f → IsUnlimitedPlaceOf g nodes (commands ++ more) last
    → f.run.graph ≡ last.run.graph → (p q : ℕ) → p < nodes → q < nodes → (peer_at f.run.peers p).counts ≡ (peer_at last.run.peers q).counts
    → shown_at f.run.graph (peer_at f.run.peers p) ≡ shown_at last.run.graph (peer_at last.run.peers q)
equal-shown g nodes commands more f last at there same p q member other e = λ i. eval (same i) (equal-counts g nodes commands more f last at there same p q member other e i)

pub equal-printed : (g : List Decl) (nodes : ℕ) (commands more : List Command) (f last : Followed) → IsUnlimitedPlaceOf g nodes commands f → IsUnlimitedPlaceOf g nodes (commands ++ more) last
    → f.run.graph ≡ last.run.graph → (p q : ℕ) → p < nodes → q < nodes → (peer_at f.run.peers p).counts ≡ (peer_at last.run.peers q).counts → (x : ℕ)
    → shown_content (kind_at f.run.graph x) (content_at (shown_at f.run.graph (peer_at f.run.peers p)) x) ≡ shown_content (kind_at last.run.graph x) (content_at (shown_at last.run.graph (peer_at last.run.peers q)) x)
equal-printed g nodes commands more f last at there same p q member other e x =
    λ i. shown_content (kind_at (same i) x) (content_at (equal-shown g nodes commands more f last at there same p q member other e i) x)

pub late-delivery : (g : List Decl) (nodes : ℕ) (commands : List Command) (f : Followed) → IsUnlimitedPlaceOf g nodes commands f → (p i : ℕ) → p < nodes
    → AreCountsAtMost (sent_number f.run.sent i).counts (peer_at f.run.peers p).counts → delivered f.run.graph (sent_number f.run.sent i) (peer_at f.run.peers p) ≡ peer_at f.run.peers p
late-delivery g nodes commands f place p i member a = late-nothing nodes f p i (place-sound g nodes commands f place) member a

pub ruleset alike = (equal-counts, equal-shown, equal-printed, late-delivery)
