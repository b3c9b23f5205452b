-- What the commands of a script are at a node, one by one.
use Rattle.std.proofs.Common.{◌≡◌, ℕ, zero, suc, ◌+◌, ◌<◌, ◌==◌, Bool, true, false, if◌then◌else◌, IsTrue, List, [], ◌∷◌, length, Some, refl, subst, ◌∙◌}
use Rattle.std.specs.Prelude.{slice_get}
use Rattle.std.proofs.lemmas.Option.{same_Some}
use Rattle.model_graph.specs.Graph.{Decl, kind_at}
use Rattle.model_graph.specs.Lawful.{shape_of}
use Rattle.model_states.specs.Threshold.{suits}
use Rattle.model_states.specs.Update.{Op}
use Rattle.model_states.specs.Update as op
use Rattle.model_values.specs.Size.{IsOfWidth}
use Rattle.model_world.specs.Command as command
use Rattle.model_world.specs.Command.{Command, Script, Until}
use Rattle.model_world.specs.Lawful.{Stage, stage_after, opening_stage, AreLawful, IsLawful, MayAsk, MayBeDone}
use Rattle.model_world.specs.World as world
use Rattle.model_live.specs.Steps.{Updates, Sends, Prints, Step, Does, Waits, step_at}
use Rattle.model_live.specs.Words.{AreLive, AreLiveFrom, IsLiveCommand, IsLiveUntil}
use Rattle.lasp_replica.specs.Replica.{IsSmall}
use Rattle.lasp_state.specs.State.{op_of}
use Rattle.lasp_state.specs.declared.op.Op as declared
use Rattle.lasp_state.specs.declared.op.Op.TheVariants as act

-- ---- what may be done

-- a command that nodes know, and that may be done over the graph
pub record IsKnown (g : List Decl) (nodes : ℕ) (k : Command) : Type 0 where
  pub live : IsLiveCommand k
  pub stage : Stage
  pub graph : stage.graph ≡ g
  pub may : MayBeDone nodes stage k

-- such a command declares nothing
graph-stays : (nodes : ℕ) (s : Stage) (k : Command) → IsLiveCommand k → (stage_after nodes s k).graph ≡ s.graph
graph-stays nodes s (command.Add p x v) live = refl
graph-stays nodes s (command.Remove p x v) live = refl
graph-stays nodes s (command.Insert p x v) live = refl
graph-stays nodes s (command.Inc p x by) live = refl
graph-stays nodes s (command.Max p x n) live = refl
graph-stays nodes s (command.Mark p x) live = absurd live
graph-stays nodes s (command.Bind p x m) live = absurd live
graph-stays nodes s (command.Send p) live = refl
graph-stays nodes s (command.Deliver p i) live = absurd live
graph-stays nodes s command.Sync live = absurd live
graph-stays nodes s command.Settle live = absurd live
graph-stays nodes s (command.Print p x) live = refl
graph-stays nodes s (command.Read p x until) live = absurd live
graph-stays nodes s (command.Await p x until) live = refl
graph-stays nodes s (command.Declare d) live = absurd live

known-from : (g : List Decl) (nodes number : ℕ) (s : Stage) (commands : List Command) → s.graph ≡ g → AreLiveFrom number commands → AreLawful nodes s commands → (i : ℕ) (k : Command) → slice_get commands i ≡ Some k → IsKnown g nodes k
known-from g nodes number s [] is live lawful i k at = absurd cc
known-from g nodes number s (c ∷ rest) is live lawful zero k at = subst (IsKnown g nodes) (same_Some c k at) (record { live = live.0.0; stage = s; graph = is; may = lawful.0 })
known-from g nodes number s (c ∷ rest) is live lawful (suc i) k at = known-from g nodes (number + 1) (stage_after nodes s c) rest (graph-stays nodes s c live.0.0 ∙ is) live.1 lawful.1 i k at

pub command-known : (g : List Decl) (script : Script) (i : ℕ) (k : Command) → IsLawful g script → AreLive script.commands → slice_get script.commands i ≡ Some k → IsKnown g script.nodes k
command-known g script i k lawful live at = known-from g script.nodes 1 (opening_stage g) script.commands refl live lawful.each i k at

-- ---- what it is at a node

-- an operation of a script, whose value is small
abbrev pub IsSmallOp : Op → Type 0
IsSmallOp (op.Add v) = IsOfWidth 1 v
IsSmallOp (op.Remove v) = IsOfWidth 1 v
IsSmallOp (op.Insert v) = IsOfWidth 1 v
IsSmallOp (op.Inc by) = Unit {0}
IsSmallOp (op.Max n) = Unit {0}
IsSmallOp (op.Join s) = ⊥

pub small-op : (nodes : ℕ) (o : declared.Op) → IsSmallOp (op_of o) → IsSmall nodes o
small-op nodes (act.Add v) small = small
small-op nodes (act.Remove v) small = small
small-op nodes (act.Insert v) small = small
small-op nodes (act.Inc by) small = tt
small-op nodes (act.Max n) small = tt
small-op nodes (act.Join s) small = absurd small

-- a threshold that a variable of the graph may be asked for
pub record IsAsked (g : List Decl) (nodes x : ℕ) (until : Until) : Type 0 where
  pub var : x < length g
  pub live : IsLiveUntil until
  pub suits_it : IsTrue (suits (world.threshold_of [] until) (shape_of nodes (kind_at g x)))

-- a step that a node may do over the graph
abbrev pub MayDo : List Decl → ℕ → Step → Type 0
MayDo g nodes (Does (Updates x o)) = IsSmallOp o
MayDo g nodes (Does Sends) = Unit {0}
MayDo g nodes (Does (Prints x)) = x < length g
MayDo g nodes (Waits c x until) = IsAsked g nodes x until

abbrev AllMay : List Decl → ℕ → List Step → Type 0
AllMay g nodes [] = Unit {0}
AllMay g nodes (s ∷ rest) = MayDo g nodes s × AllMay g nodes rest

asked : (g : List Decl) (nodes : ℕ) (s : Stage) (x : ℕ) (until : Until) → s.graph ≡ g → IsLiveUntil until → x < length s.graph → MayAsk nodes s x until → IsAsked g nodes x until
asked g nodes s x until is live low may = subst (λ (h : List Decl). IsAsked h nodes x until) is (record { var = low; live = live; suits_it = choose until live may }) where
  choose : (u : Until) → IsLiveUntil u → MayAsk nodes s x u → IsTrue (suits (world.threshold_of [] u) (shape_of nodes (kind_at s.graph x)))
  choose (command.AtLeast m) live may = absurd live
  choose (command.Above m) live may = absurd live
  choose (command.Count k) live may = may
  choose (command.Added vs) live may = may
  choose (command.Removed vs) live may = may

all-may : (g : List Decl) (nodes p c : ℕ) (k : Command) → IsKnown g nodes k → AllMay g nodes (step_at p c k)
all-may g nodes p c k known = choose k known.live known.may where
  one : (b : Bool) (t : Step) → MayDo g nodes t → AllMay g nodes (if b then t ∷ [] else [])
  one true t h = (h, tt)
  one false t h = tt

  choose : (k : Command) → IsLiveCommand k → MayBeDone nodes known.stage k → AllMay g nodes (step_at p c k)
  choose (command.Add q x v) live h = one (q == p) (Does (Updates x (op.Add v))) h.2.0
  choose (command.Remove q x v) live h = one (q == p) (Does (Updates x (op.Remove v))) h.2.0
  choose (command.Insert q x v) live h = one (q == p) (Does (Updates x (op.Insert v))) h.2.0
  choose (command.Inc q x by) live h = one (q == p) (Does (Updates x (op.Inc by))) tt
  choose (command.Max q x n) live h = one (q == p) (Does (Updates x (op.Max n))) tt
  choose (command.Mark q x) live h = tt
  choose (command.Bind q x m) live h = tt
  choose (command.Send q) live h = one (q == p) (Does Sends) tt
  choose (command.Deliver q i) live h = tt
  choose command.Sync live h = tt
  choose command.Settle live h = tt
  choose (command.Print q x) live h = one (q == p) (Does (Prints x)) (subst (λ (d : List Decl). x < length d) known.graph h.1)
  choose (command.Read q x until) live h = tt
  choose (command.Await q x until) live h = one (q == p) (Waits c x until) (asked g nodes known.stage x until known.graph live h.0.1 h.1)
  choose (command.Declare d) live h = tt

pub command-may : (g : List Decl) (script : Script) (p c i : ℕ) (k : Command) (s : Step) → IsLawful g script → AreLive script.commands → slice_get script.commands i ≡ Some k → step_at p c k ≡ s ∷ [] → MayDo g script.nodes s
command-may g script p c i k s lawful live at is = (subst (AllMay g script.nodes) is (all-may g script.nodes p c k (command-known g script i k lawful live at))).0

pub ruleset known = (command-may, small-op)
