-- Tokens, what is shown and the report, at the places of lawful runs.
use Rattle.std.proofs.Common.{◌≡◌, ℕ, ◌<◌, List, length, ap, ◌∙◌}
use Rattle.model_sets.specs.Values.{visible}
use Rattle.model_states.specs.Content.{Content}
use Rattle.model_graph.specs.Graph.{Decl}
use Rattle.model_graph.specs.Evaluation.{content_at, rows_at}
use Rattle.model_graph.specs.Algebra.{values_at, algebra, visible_sets, AreMarkedSources}
use Rattle.model_graph.proofs.ShownLaws.{eval-algebra}
use Rattle.model_world.specs.Command.{Command}
use Rattle.model_world.specs.Line.{print_line}
use Rattle.model_world.specs.World.{peer_at, shown_at}
use Rattle.model_world.specs.Direct.{direct_line, known_at}
use Rattle.model_world.specs.Follow.{Followed}
use Rattle.model_world.specs.Holds.{IsPlaceOf}
use Rattle.model_world.specs.Owner.{AreOwned, is_dead_in}
use Rattle.model_world.proofs.TokenLaws.{owned-once}
use Rattle.model_world.proofs.PlayLaws.{place-sound}
use Rattle.model_world.proofs.KnownLaws.{replica-contents}
use Rattle.model_world.proofs.DirectLaws.{node-owned, node-marked, line-direct, report-direct}

pub place-owned : (g : List Decl) (nodes : ℕ) (commands : List Command) (f : Followed) → IsPlaceOf g nodes commands f → (p x : ℕ) → p < nodes → x < length f.run.graph → AreOwned f.deltas x (rows_at (peer_at f.run.peers p).contents x)
place-owned g nodes commands f place p x member low = node-owned nodes f p x (place-sound g nodes commands f place) member low

pub place-marked : (g : List Decl) (nodes : ℕ) (commands : List Command) (f : Followed) → IsPlaceOf g nodes commands f → (p : ℕ) → p < nodes → AreMarkedSources (is_dead_in f.deltas (peer_at f.run.peers p).contents) f.run.graph (peer_at f.run.peers p).contents
place-marked g nodes commands f place p member = node-marked nodes f p (place-sound g nodes commands f place) member

pub place-shown : (g : List Decl) (nodes : ℕ) (commands : List Command) (f : Followed) → IsPlaceOf g nodes commands f → (p x : ℕ) → p < nodes
    → visible (rows_at (shown_at f.run.graph (peer_at f.run.peers p)) x) ≡ values_at (algebra f.run.graph (visible_sets (known_at nodes f p))) x
place-shown g nodes commands f place p x member =
    eval-algebra (is_dead_in f.deltas (peer_at f.run.peers p).contents) f.run.graph (peer_at f.run.peers p).contents (place-marked g nodes commands f place p member) x
    ∙ ap (λ (sources : List Content). values_at (algebra f.run.graph (visible_sets sources)) x) (replica-contents g nodes commands f place p member)

pub place-line : (g : List Decl) (nodes : ℕ) (commands : List Command) (f : Followed) → IsPlaceOf g nodes commands f → (p x : ℕ) → p < nodes → x < length f.run.graph
    → print_line f.run.graph p x (content_at (shown_at f.run.graph (peer_at f.run.peers p)) x) ≡ direct_line f.run.graph p x (known_at nodes f p)
place-line g nodes commands f place p x member low = line-direct nodes f p x (place-sound g nodes commands f place) member low

pub ruleset tokens = (owned-once, place-owned)

pub ruleset reports = (place-shown, place-line, report-direct)
