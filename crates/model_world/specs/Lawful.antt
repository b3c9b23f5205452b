-- Which commands may follow which: what a script has to be so that each of its commands means something.
use Rattle.std.specs.Prelude.{◌≡◌, ℕ, ◌+◌, ◌^◌, ◌<◌, ◌≤◌, Bool, true, false, IsTrue, List, [], ◌∷◌, ◌++◌, length, filter, slice_index_or, FitsSigned}
use mir.Syntax.{w64}
use Rattle.model_values.specs.Value.{Val}
use Rattle.model_values.specs.Size.{IsOfWidth, HasSmallInts}
use Rattle.model_states.specs.Threshold.{Threshold, suits}
use Rattle.model_states.specs.Threshold as threshold
use Rattle.model_graph.specs.Graph.{OrSet, GSet, Counter, MaxReg, Decl, is_source, kind_at}
use Rattle.model_graph.specs.Lawful.{MayFollow, shape_of}
use Rattle.model_world.specs.Command as command
use Rattle.model_world.specs.Command.{Until, Command, Script}

-- what stands before a command by the commands alone: the graph, the variable of each mark, and how many messages were sent
pub record Stage : Type 0 where
  pub graph : List Decl
  pub marked : List ℕ
  pub sent : ℕ

abbrev pub opening_stage : List Decl → Stage
opening_stage g = record { graph = g; marked = []; sent = 0 }

-- what stands after a command
abbrev pub stage_after : ℕ → Stage → Command → Stage
stage_after nodes s (command.Mark p x) = record { graph = s.graph; marked = s.marked ++ x ∷ []; sent = s.sent }
stage_after nodes s (command.Send p) = record { graph = s.graph; marked = s.marked; sent = s.sent + 1 }
stage_after nodes s command.Sync = record { graph = s.graph; marked = s.marked; sent = s.sent + nodes }
stage_after nodes s (command.Declare d) = record { graph = s.graph ++ d ∷ []; marked = s.marked; sent = s.sent }
stage_after nodes s _ = s

-- the node is one of the nodes, and the variable is declared
abbrev pub IsPlace : ℕ → Stage → ℕ → ℕ → Type 0
IsPlace nodes s p x = (p < nodes) × (x < length s.graph)

-- a value that a source may be given
abbrev pub IsSourceValue : Val → Type 0
IsSourceValue v = IsOfWidth 1 v × HasSmallInts v

-- the mark was made, of this variable
abbrev pub IsMarkOf : Stage → ℕ → ℕ → Type 0
IsMarkOf s x m = (m < length s.marked) × (slice_index_or s.marked m 0 ≡ x)

-- a variable of the kind may be asked for the threshold
abbrev pub MayAsk : ℕ → Stage → ℕ → Until → Type 0
MayAsk nodes s x (command.AtLeast m) = IsMarkOf s x m
MayAsk nodes s x (command.Above m) = IsMarkOf s x m
MayAsk nodes s x (command.Count k) = IsTrue (suits (threshold.Count k) (shape_of nodes (kind_at s.graph x)))
MayAsk nodes s x (command.Added vs) = IsTrue (suits (threshold.Added vs) (shape_of nodes (kind_at s.graph x)))
MayAsk nodes s x (command.Removed vs) = IsTrue (suits (threshold.Removed vs) (shape_of nodes (kind_at s.graph x)))

-- the command may be done there: its node, variable, mark and message are there, its operation is one of the variable's kind, and what it declares may follow
abbrev pub MayBeDone : ℕ → Stage → Command → Type 0
MayBeDone nodes s (command.Add p x v) = IsPlace nodes s p x × (kind_at s.graph x ≡ OrSet) × IsSourceValue v
MayBeDone nodes s (command.Remove p x v) = IsPlace nodes s p x × (kind_at s.graph x ≡ OrSet) × IsSourceValue v
MayBeDone nodes s (command.Insert p x v) = IsPlace nodes s p x × (kind_at s.graph x ≡ GSet) × IsSourceValue v
MayBeDone nodes s (command.Inc p x k) = IsPlace nodes s p x × (kind_at s.graph x ≡ Counter) × (1 ≤ k) × (k ≤ 4294967295)
MayBeDone nodes s (command.Max p x n) = IsPlace nodes s p x × (kind_at s.graph x ≡ MaxReg) × FitsSigned w64 n
MayBeDone nodes s (command.Mark p x) = IsPlace nodes s p x × IsTrue (is_source (kind_at s.graph x))
MayBeDone nodes s (command.Bind p x m) = IsPlace nodes s p x × IsTrue (is_source (kind_at s.graph x)) × IsMarkOf s x m
MayBeDone nodes s (command.Send p) = p < nodes
MayBeDone nodes s (command.Deliver p i) = (p < nodes) × (i < s.sent)
MayBeDone nodes s command.Sync = Unit {0}
MayBeDone nodes s command.Settle = Unit {0}
MayBeDone nodes s (command.Print p x) = IsPlace nodes s p x
MayBeDone nodes s (command.Read p x until) = IsPlace nodes s p x × MayAsk nodes s x until
MayBeDone nodes s (command.Await p x until) = IsPlace nodes s p x × MayAsk nodes s x until
MayBeDone nodes s (command.Declare d) = MayFollow s.graph d

-- each command may be done after those before it
abbrev pub AreLawful : ℕ → Stage → List Command → Type 0
AreLawful nodes s [] = Unit {0}
AreLawful nodes s (k ∷ rest) = MayBeDone nodes s k × AreLawful nodes (stage_after nodes s k) rest

-- a script over a graph: there is a node, the commands are few, and each may be done in its turn
pub record IsLawful (g : List Decl) (script : Script) : Type 0 where
  pub some : 1 ≤ script.nodes
  pub few : length script.commands ≤ 100000
  pub each : AreLawful script.nodes (opening_stage g) script.commands

-- ---- limits

-- the most nodes, and the most marks and the most reads
abbrev pub node_limit : ℕ
node_limit = 8

abbrev pub mark_limit : ℕ
mark_limit = 1000

abbrev pub read_limit : ℕ
read_limit = 1000

abbrev pub is_mark : Command → Bool
is_mark (command.Mark p x) = true
is_mark _ = false

abbrev pub is_read : Command → Bool
is_read (command.Read p x until) = true
is_read _ = false

abbrev pub AreSourceValues : List Val → Type 0
AreSourceValues [] = Unit {0}
AreSourceValues (v ∷ vs) = IsSourceValue v × AreSourceValues vs

-- a threshold has a number of 64 bits, and values that a source may be given
abbrev pub IsSmallUntil : Until → Type 0
IsSmallUntil (command.AtLeast m) = Unit {0}
IsSmallUntil (command.Above m) = Unit {0}
IsSmallUntil (command.Count k) = k < 2 ^ 64
IsSmallUntil (command.Added vs) = AreSourceValues vs
IsSmallUntil (command.Removed vs) = AreSourceValues vs

-- what a command asks for is small
abbrev pub AsksSmall : Command → Type 0
AsksSmall (command.Read p x until) = IsSmallUntil until
AsksSmall (command.Await p x until) = IsSmallUntil until
AsksSmall _ = Unit {0}

abbrev pub AskSmall : List Command → Type 0
AskSmall [] = Unit {0}
AskSmall (k ∷ rest) = AsksSmall k × AskSmall rest

-- the limits of a script; the laws hold of lawful scripts past them, too
pub record IsWithinLimits (script : Script) : Type 0 where
  pub nodes : script.nodes ≤ node_limit
  -- the command that tells the nodes is the first of 100,000
  pub few : length script.commands < 100000
  pub marks : length (filter is_mark script.commands) ≤ mark_limit
  pub reads : length (filter is_read script.commands) ≤ read_limit
  pub asked : AskSmall script.commands
