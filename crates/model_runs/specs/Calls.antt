-- What a run of a script does at one node, as the entries of that node's journal.
use Rattle.std.specs.Prelude.{ℕ, ◌+◌, ◌==◌, Bool, true, false, not, if◌then◌else◌, List, [], ◌∷◌, ◌++◌, filter, Result, Ok, Err}
use Rattle.model_graph.specs.Graph.{Decl}
use Rattle.model_world.specs.Command.{Command}
use Rattle.model_world.specs.World as world
use Rattle.model_world.specs.World.{Run, sent_number, acts, act, step}
use Rattle.model_world.specs.declared.stop.Stop.{Stop}
use Rattle.model_journal.specs.Entry.{Act, Update, Deliver, Bind, Extend, Entry, Frame}

-- node p among so many, with the graph that the script opens with
abbrev pub frame_of : List Decl → ℕ → ℕ → Frame
frame_of g nodes p = record { opening = g; replica = p; nodes = nodes }

-- caller 0 feeds a replica
abbrev pub fed : Act → Entry
fed a = record { by = 0; act = a }

-- what an act of the run is at node p: its own updates, the deliveries to it, and every declaration
abbrev pub call_of : Run → ℕ → world.Act → List Entry
call_of run p (world.Update q x op) = if q == p then fed (Update x op) ∷ [] else []
call_of run p (world.Take q i) = if q == p then fed (Deliver i (sent_number run.sent i)) ∷ [] else []
call_of run p (world.Extend d) = fed (Extend d) ∷ []
call_of run p _ = []

-- what comes after an act or a command that could be done
abbrev pub when_done : Result Run Stop → (Run → List Entry) → List Entry
when_done (Ok next) rest = rest next
when_done (Err stop) rest = []

abbrev pub calls_of_acts : ℕ → Run → ℕ → List world.Act → List Entry
calls_of_acts c run p [] = []
calls_of_acts c run p (a ∷ rest) = call_of run p a ++ when_done (act c run a) (λ next. calls_of_acts c next p rest)

-- the calls at node p of these commands, the first of which has number c
unfoldable pub calls : ℕ → Run → ℕ → List Command → List Entry
calls c run p [] = []
calls c run p (k ∷ rest) = calls_of_acts c run p (acts run k) ++ when_done (step c run k) (λ next. calls (c + 1) next p rest)

abbrev pub is_bind : Act → Bool
is_bind (Update x op) = false
is_bind (Deliver i m) = false
is_bind (Bind y n) = true
is_bind (Extend d) = false

-- the entries of a journal that are no binds, in their order
abbrev pub unbound : List Entry → List Entry
unbound entries = filter (λ e. not (is_bind e.act)) entries
