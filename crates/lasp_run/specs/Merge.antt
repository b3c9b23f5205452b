-- The node into which the messages of files are joined, and how far the plan of a merge has come.
use Rattle.std.specs.Prelude.{◌≡◌, ℕ, List, length, Result, Ok, Err}
use Rattle.model_graph.specs.Graph.{Decl}
use Rattle.model_runs.specs.Held.{IsHeld}
use Rattle.lasp_drive.specs.Node.{NodeView}
use Rattle.model_program.specs.Plan.{Plan}
use Rattle.model_program.specs.Follows.{View, IsPartOf, Follows}
use Rattle.model_program.specs.declared.failure.Failure.{Failure}

-- the first node of a graph, among as many as it has counts, within the ranges of the message format
pub record IsReplica (g : List Decl) (n : NodeView) : Type 0 where
  pub graph : n.decls ≡ g
  pub replica : n.number ≡ 0
  pub nodes : n.among ≡ length n.peer.counts
  pub held : IsHeld (length n.peer.counts) g n.peer

-- a call that came from the first plan to the second: whoever follows from there on follows from the first
abbrev pub Leads : List (List ℕ) → View → Plan → Plan → Type 0
Leads words v p q = (w : View) → IsPartOf v w → (r : Result (List ℕ) Failure) → Follows words w q r → Follows words w p r

-- a call that came to its end in the plan
abbrev pub Ends : List (List ℕ) → View → Plan → Failure → Type 0
Ends words v p failure = (w : View) → IsPartOf v w → Follows words w p (Err failure)

-- the call came to what the plan goes on with after it
abbrev pub ComesTo : {A B : Type 0} → (A → B) → List (List ℕ) → View → Plan → (B → Plan) → Result A Failure → Type 0
ComesTo shown words v p next (Ok a) = Leads words v p (next (shown a))
ComesTo shown words v p next (Err failure) = Ends words v p failure
