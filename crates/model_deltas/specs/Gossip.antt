-- A run whose messages travel as deltas: a machine beside the run, which changes nothing of it.
use Rattle.std.specs.Prelude.{ℕ, ◌+◌, List, [], ◌∷◌, ◌++◌, length, map, sum, codes, if◌then◌else◌, Option, Some, None, is_some, Result, Ok, slice_index_or, slice_set, replicate}
use Rattle.std.specs.Fmt.{decimal}
use Rattle.model_graph.specs.Chain.{◌>>=◌}
use Rattle.model_graph.specs.Graph.{Decl}
use Rattle.model_graph.specs.Message.{Message}
use Rattle.model_world.specs.Command.{Command, Script}
use Rattle.model_world.specs.Line.{line}
use Rattle.model_world.specs.Report.{report_of}
use Rattle.model_world.specs.World.{Run, Act, Post, Take, Point, start, peer_at, message_at, sent_number, act, acts}
use Rattle.model_world.specs.declared.stop.Stop.{Stop}
use Rattle.model_deltas.specs.Delta.{Delta, delta_of}
use Rattle.model_deltas.specs.Applied.{first_gap}
use Rattle.model_deltas.specs.Spelling.{spelled_delta}
pub use Rattle.model_deltas.specs.World.{nothing_told}

-- a run, of each node the number of the message that it sent last, the delta as which each message travels, how many deliveries there were, and at how many of them the receiver knew too little for the delta
pub record Gossip : Type 0 where
  pub run : Run
  pub last : List (Option ℕ)
  pub deltas : List Delta
  pub deliveries : ℕ
  pub gaps : ℕ

-- the message with a number, or nothing
abbrev pub told_in : ℕ → List Message → Option ℕ → Message
told_in nodes sent None = nothing_told nodes
told_in nodes sent (Some i) = sent_number sent i

abbrev pub told_by : Run → Option ℕ → Message
told_by run number = told_in (length run.peers) run.sent number

-- what node p sent last
abbrev pub last_told : Gossip → ℕ → Message
last_told s p = told_by s.run (slice_index_or s.last p None)

abbrev pub no_delta : Delta
no_delta = record { from = []; counts = []; sources = [] }

-- the delta as which message i travels
abbrev pub delta_number : Gossip → ℕ → Delta
delta_number s i = slice_index_or s.deltas i no_delta

-- node p knows too little for the delta of message i
abbrev pub gap_at : Gossip → ℕ → ℕ → ℕ
gap_at s p i = if is_some (first_gap 0 (peer_at s.run.peers p).counts (delta_number s i).from) then 1 else 0

-- what an act leads to, the run being what it is after the act: a message goes as the delta from its sender's message before, and of a delivery it counts whether there was a gap
abbrev pub gossip_after : Gossip → Act → Run → Gossip
gossip_after s (Post p) next = record {
  run = next;
  last = slice_set s.last p (Some (length s.run.sent));
  deltas = s.deltas ++ delta_of (last_told s p) (message_at s.run.graph (peer_at s.run.peers p)) ∷ [];
  deliveries = s.deliveries;
  gaps = s.gaps;
}
gossip_after s (Take p i) next = record { run = next; last = s.last; deltas = s.deltas; deliveries = s.deliveries + 1; gaps = s.gaps + gap_at s p i }
gossip_after s _ next = record { run = next; last = s.last; deltas = s.deltas; deliveries = s.deliveries; gaps = s.gaps }

abbrev pub gossip_act : ℕ → Gossip → Act → Result Gossip Stop
gossip_act c s a = act c s.run a >>= (λ next. Ok (gossip_after s a next))

abbrev pub gossip_each : ℕ → Gossip → List Act → Result Gossip Stop
gossip_each c s [] = Ok s
gossip_each c s (a ∷ rest) = gossip_act c s a >>= (λ next. gossip_each c next rest)

abbrev pub gossip_step : ℕ → Gossip → Command → Result Gossip Stop
gossip_step c s k = gossip_each c s (acts s.run k)

-- the commands that are left, the first of them being number c; the end of the script is a point
unfoldable pub gossip : ℕ → Gossip → List Command → Result Gossip Stop
gossip c s [] = gossip_act c s Point
gossip c s (k ∷ rest) = gossip_step c s k >>= (λ next. gossip (c + 1) next rest)

-- before the first command nobody sent anything
abbrev pub gossip_start : List Decl → ℕ → Gossip
gossip_start g nodes = record { run = start g nodes; last = replicate nodes None; deltas = []; deliveries = 0; gaps = 0 }

-- the whole run of a script by deltas: its last world, or its first stop
abbrev pub gossiped : List Decl → Script → Result Gossip Stop
gossiped g script = gossip 1 (gossip_start g script.nodes) script.commands

-- the bytes of all deltas
abbrev pub delta_size : List Delta → ℕ
delta_size deltas = sum (map (λ d. length (spelled_delta d)) deltas)

-- `delta DELIVERIES GAPS BYTES`
abbrev pub delta_line : Gossip → List ℕ
delta_line s = line (codes "delta" ∷ decimal s.deliveries ∷ decimal s.gaps ∷ decimal (delta_size s.deltas) ∷ [])

-- the report of the run, and behind it how it travelled
abbrev pub gossip_output : Gossip → List ℕ
gossip_output s = report_of s.run ++ delta_line s
