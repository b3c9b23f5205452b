-- The node of a site, what it may be told, and how far the plan of its files has come.
use Rattle.std.specs.Prelude.{◌≡◌, ℕ, ◌<◌, ◌≤◌, IsTrue, is_some, List, Option, Some, None, Result, Ok, Err}
use Rattle.model_graph.specs.Graph.{Decl}
use Rattle.model_world.specs.Command.{Command}
use Rattle.model_world.specs.Lawful.{opening_stage, MayBeDone}
use Rattle.model_runs.specs.Held.{AreBelow, IsHeld}
use Rattle.model_wire.specs.Lawful.{IsSpellable}
use Rattle.model_program.specs.Follows.{View, IsPartOf}
use Rattle.model_site.specs.Follows.{Follows}
use Rattle.model_site.specs.Plan.{Plan}
use Rattle.model_site.specs.Site.{own, IsOwn}
use Rattle.model_site.specs.declared.site_failure.SiteFailure.{SiteFailure}
use Rattle.lasp_drive.specs.Node.{NodeView}
use Rattle.lasp_state.specs.State.{op_of}
use Rattle.lasp_state.specs.declared.op.Op.{Op}
use Rattle.lasp_state.specs.declared.op.Op.TheVariants as op
use Rattle.lasp_value.specs.Value.{val_of}

-- node p of a graph, within the ranges of the message format
pub record IsSiteNode (p : ℕ) (g : List Decl) (n : NodeView) : Type 0 where
  pub graph : n.decls ≡ g
  pub replica : n.number ≡ p
  pub member : p < n.among
  pub few : n.among ≤ 8
  pub held : IsHeld n.among g n.peer
  pub below : AreBelow 100001 n.peer.counts

-- the node was asked something, and is node p of the graph still, among as many, with the sources and counts that it had
pub record IsAsked (p : ℕ) (g : List Decl) (old new : NodeView) : Type 0 where
  pub node : IsSiteNode p g new
  pub peer : new.peer ≡ old.peer
  pub among : new.among ≡ old.among

-- ---- updates

-- each value of the operation has a spelling
abbrev pub IsSpelled : Op → Type 0
IsSpelled (op.Add v) = IsSpellable (val_of v)
IsSpelled (op.Remove v) = IsSpellable (val_of v)
IsSpelled (op.Insert v) = IsSpellable (val_of v)
IsSpelled (op.Inc by) = Unit {0}
IsSpelled (op.Max n) = Unit {0}
IsSpelled (op.Join s) = Unit {0}

-- some command does the operation at node p among so many, and may be done there
pub record MayDo (nodes : ℕ) (g : List Decl) (p x : ℕ) (o : Op) : Type 0 where
  pub k : Command
  pub own : IsOwn p k x (op_of o)
  pub may : MayBeDone nodes (opening_stage g) k
  pub spelled : IsSpelled o

-- what is told of a command is its variable and its operation, of whichever node it is an update; nothing of one that is none
abbrev pub IsOperationOf : Command → Option (ℕ × Op) → Type 0
IsOperationOf k (Some u) = ((p : ℕ) → IsTrue (is_some (own p k)) → own p k ≡ Some (u.0, op_of u.1)) × IsSpelled u.1
IsOperationOf k None = (p : ℕ) → own p k ≡ None

-- ---- files

-- a call that came from the first plan to the second: whoever follows from there on follows from the first
abbrev pub Leads : List (List ℕ) → View → Plan → Plan → Type 0
Leads words v p q = (w : View) → IsPartOf v w → (r : Result (List ℕ) SiteFailure) → Follows words w q r → Follows words w p r

-- a call that came to its end in the plan
abbrev pub EndsIn : List (List ℕ) → View → Plan → SiteFailure → Type 0
EndsIn words v p failure = (w : View) → IsPartOf v w → Follows words w p (Err failure)

-- the call came to what the plan goes on with after it
abbrev pub ComesTo : {A B : Type 0} → (A → B) → List (List ℕ) → View → Plan → (B → Plan) → Result A SiteFailure → Type 0
ComesTo shown words v p next (Ok a) = Leads words v p (next (shown a))
ComesTo shown words v p next (Err failure) = EndsIn words v p failure
