-- Places with equal counts are alike in all that they show.
use Rattle.std.proofs.Common.{◌≡◌, ℕ, ◌<◌, List, ◌++◌}
use Rattle.model_states.specs.Counts.{AreCountsAtMost}
use Rattle.model_graph.specs.Graph.{Decl, kind_at}
use Rattle.model_graph.specs.Evaluation.{content_at, eval}
use Rattle.model_world.specs.Command.{Command}
use Rattle.model_world.specs.Line.{shown_content}
use Rattle.model_world.specs.World.{peer_at, sent_number, delivered, shown_at}
use Rattle.model_world.specs.Follow.{Followed}
use Rattle.model_world.specs.Holds.{IsPlaceOf}
use Rattle.model_world.proofs.PlayLaws.{place-sound}
use Rattle.model_world.proofs.PlaceLaws.{equal-counts, late-nothing}

pub equal-shown : (g : List Decl) (nodes : ℕ) (commands more : List Command) (f last : Followed) → IsPlaceOf g nodes commands f → IsPlaceOf g nodes (commands ++ more) last
    → f.run.graph ≡ last.run.graph → (p q : ℕ) → p < nodes → q < nodes → (peer_at f.run.peers p).counts ≡ (peer_at last.run.peers q).counts
    → shown_at f.run.graph (peer_at f.run.peers p) ≡ shown_at last.run.graph (peer_at last.run.peers q)
equal-shown g nodes commands more f last at there same p q member other e = λ i. eval (same i) (equal-counts g nodes commands more f last at there same p q member other e i)

pub equal-printed : (g : List Decl) (nodes : ℕ) (commands more : List Command) (f last : Followed) → IsPlaceOf g nodes commands f → IsPlaceOf g nodes (commands ++ more) last
    → f.run.graph ≡ last.run.graph → (p q : ℕ) → p < nodes → q < nodes → (peer_at f.run.peers p).counts ≡ (peer_at last.run.peers q).counts → (x : ℕ)
    → shown_content (kind_at f.run.graph x) (content_at (shown_at f.run.graph (peer_at f.run.peers p)) x) ≡ shown_content (kind_at last.run.graph x) (content_at (shown_at last.run.graph (peer_at last.run.peers q)) x)
equal-printed g nodes commands more f last at there same p q member other e x =
    λ i. shown_content (kind_at (same i) x) (content_at (equal-shown g nodes commands more f last at there same p q member other e i) x)

pub late-delivery : (g : List Decl) (nodes : ℕ) (commands : List Command) (f : Followed) → IsPlaceOf g nodes commands f → (p i : ℕ) → p < nodes → AreCountsAtMost (sent_number f.run.sent i).counts (peer_at f.run.peers p).counts
    → delivered f.run.graph (sent_number f.run.sent i) (peer_at f.run.peers p) ≡ peer_at f.run.peers p
late-delivery g nodes commands f place p i member a = late-nothing nodes f p i (place-sound g nodes commands f place) member a

pub ruleset alike = (equal-counts, equal-shown, equal-printed, late-delivery)
