-- Which messages a node may take.
use Rattle.std.proofs.Common.{◌≡◌, ◌↔◌, ◌&&◌, ◌==◌, IsTrue, Bool, List, length}
use Rattle.std.proofs.lemmas.Bool.Decides.{same_from_decides, Decides-and, Decides-eqb}
use Rattle.model_graph.specs.Graph.{Decl}
use Rattle.model_graph.specs.Message.{Message}
use Rattle.model_world.specs.World.{Peer}
use Rattle.model_program.specs.Merge.{may_take}
use Rattle.model_program.proofs.MergeLaws.{take-Decides}
use Rattle.lasp_replica.specs.Replica.{IsBeginning}

-- a message may be taken where its sources are the first of the graph's, and it is of as many nodes
pub taken-test : (g : List Decl) (r : Peer) (m : Message) (first : Bool) → IsTrue first ↔ IsBeginning m g → (first && (length m.counts == length r.counts)) ≡ may_take g r m
taken-test g r m first is =
    same_from_decides (first && (length m.counts == length r.counts)) (may_take g r m)
    (Decides-and first (length m.counts == length r.counts) (λ t. let begins = is.0 t in record { rest = begins.0; is = begins.1 }, λ p. is.1 (p.rest, p.is)) (Decides-eqb (length m.counts) (length r.counts)))
    (take-Decides g r m)
