-- What a site does with its replica: it takes states in, and then makes the updates of a script.
use Rattle.std.specs.Prelude.{◌≡◌, ℕ, ◌+◌, ◌==◌, Bool, nat_lt, nat_le, if◌then◌else◌, List, [], ◌∷◌, take, slice_get, Option, Some, None, is_some, Result, Ok, Err}
use Rattle.model_states.specs.Content.{size_of, row_limit}
use Rattle.model_states.specs.Counts.{count_at}
use Rattle.model_states.specs.Update.{Op, Add, Remove, Insert, Inc, Max}
use Rattle.model_graph.specs.Chain.{◌>>=◌, check, refusing}
use Rattle.model_graph.specs.Graph.{Decl, name_at}
use Rattle.model_graph.specs.Evaluation.{content_at, first_large}
use Rattle.model_graph.specs.Message.{Message}
use Rattle.model_wire.specs.Message.{decoded}
use Rattle.model_wire.specs.declared.wire_why.WireWhy.{WireWhy}
use Rattle.model_world.specs.Command as command
use Rattle.model_world.specs.Command.{Command}
use Rattle.model_world.specs.World.{Peer, updated, delivered, shown_at}
use Rattle.model_program.specs.Merge.{may_take}
use Rattle.model_program.specs.declared.refusal.Refusal.TheVariants as shared
use Rattle.model_program.specs.declared.state_why.StateWhy.TheVariants.{Wire, WrongGraph}
use Rattle.model_site.specs.declared.site_refusal.SiteRefusal.{SiteRefusal}
use Rattle.model_site.specs.declared.site_refusal.SiteRefusal.TheVariants.{Shared, FileTooLarge, UpdatesFull}

-- ---- which commands are a site's own

abbrev pub own_where : Bool → ℕ → Op → Option (ℕ × Op)
own_where is x op = if is then Some (x, op) else None

-- the variable and the operation of an update of replica p; none of any other command
abbrev pub own : ℕ → Command → Option (ℕ × Op)
own p (command.Add q x v) = own_where (q == p) x (Add v)
own p (command.Remove q x v) = own_where (q == p) x (Remove v)
own p (command.Insert q x v) = own_where (q == p) x (Insert v)
own p (command.Inc q x k) = own_where (q == p) x (Inc k)
own p (command.Max q x n) = own_where (q == p) x (Max n)
own p _ = None

-- the number of the first command that is no update of replica p, the first command having this number
unfoldable pub first_other : ℕ → ℕ → List Command → Option ℕ
first_other p number [] = None
first_other p number (k ∷ rest) = if is_some (own p k) then first_other p (number + 1) rest else Some number

-- the command is an update of replica p
pub data IsOwn (p : ℕ) : Command → ℕ → Op → Type 0 where
  adds : {x : ℕ} {v : _} → IsOwn p (command.Add p x v) x (Add v)
  removes : {x : ℕ} {v : _} → IsOwn p (command.Remove p x v) x (Remove v)
  inserts : {x : ℕ} {v : _} → IsOwn p (command.Insert p x v) x (Insert v)
  counts : {x : ℕ} {k : _} → IsOwn p (command.Inc p x k) x (Inc k)
  raises : {x : ℕ} {n : _} → IsOwn p (command.Max p x n) x (Max n)

-- each command is
abbrev pub AreOwn : ℕ → List Command → Type 0
AreOwn p [] = Unit {0}
AreOwn p (k ∷ commands) = ((x : ℕ) × (op : Op) × IsOwn p k x op) × AreOwn p commands

-- the command at this place is none, and those before it are
pub record IsFirstOther (p : ℕ) (commands : List Command) (place : ℕ) : Type 0 where
  pub other : Command
  pub at : slice_get commands place ≡ Some other
  pub foreign : (x : ℕ) (op : Op) → ¬ IsOwn p other x op
  pub before : AreOwn p (take place commands)

-- ---- states

abbrev pub state_refused : ℕ → ℕ × WireWhy → SiteRefusal
state_refused f e = Shared (shared.State f e.0 (Wire e.1))

-- a variable is too large, if there is one
abbrev pub large_refused : (ℕ → SiteRefusal) → Option ℕ → Result (Unit {0}) SiteRefusal
large_refused refused None = Ok tt
large_refused refused (Some x) = Err (refused x)

-- replica p after the message of file f
abbrev pub message_taken : ℕ → List Decl → ℕ → Peer → Message → Result Peer SiteRefusal
message_taken p g f r m = do
  _ ← check (may_take g r m) (Shared (shared.State f 0 WrongGraph))
  _ ← large_refused (λ x. FileTooLarge f p (name_at g x)) (first_large 0 (delivered g m r).contents)
  Ok (delivered g m r)

-- replica p after the bytes of file f
unfoldable pub file_taken : ℕ → List Decl → ℕ → Peer → List ℕ → Result Peer SiteRefusal
file_taken p g f r bytes = refusing (state_refused f) (decoded bytes) >>= λ m. message_taken p g f r m

-- replica p after its own last state, which no bytes are of a replica to which nothing has happened
abbrev pub state_taken : ℕ → List Decl → ℕ → Peer → List ℕ → Result Peer SiteRefusal
state_taken p g f r [] = Ok r
state_taken p g f r (b ∷ bytes) = file_taken p g f r (b ∷ bytes)

-- ---- updates

-- the most updates of a replica
abbrev pub update_limit : ℕ
update_limit = 100000

-- replica p after an update by command number c
abbrev pub update_done : ℕ → List Decl → ℕ → Peer → ℕ × Op → Result Peer SiteRefusal
update_done p g c r u = do
  _ ← check (nat_lt (count_at r.counts p) update_limit) (UpdatesFull c p)
  _ ← check (nat_le (size_of (content_at (updated p u.0 u.1 r).contents u.0)) row_limit) (Shared (shared.TooLarge c p (name_at g u.0)))
  Ok (updated p u.0 u.1 r)

abbrev pub done_by : ℕ → List Decl → ℕ → Peer → Option (ℕ × Op) → Result Peer SiteRefusal
done_by p g c r None = Ok r
done_by p g c r (Some u) = update_done p g c r u

-- replica p after the commands that are left, the first of which is number c
unfoldable pub updates_done : ℕ → List Decl → ℕ → Peer → List Command → Result Peer SiteRefusal
updates_done p g c r [] = Ok r
updates_done p g c r (k ∷ rest) = done_by p g c r (own p k) >>= λ next. updates_done p g (c + 1) next rest

-- what replica p shows is within the limit at command number c
abbrev pub shown_checked : ℕ → List Decl → ℕ → Peer → Result (Unit {0}) SiteRefusal
shown_checked p g c r = large_refused (λ x. Shared (shared.TooLarge c p (name_at g x))) (first_large 0 (shown_at g r))
