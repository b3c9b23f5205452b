-- What a delivery makes of states and histories: first each source is joined and its growth made ready, then the growths are recorded.
use Rattle.std.specs.Prelude.{◌≡◌, ◌≢◌, ℕ, ◌<◌, ◌≤◌, Bool, false, IsTrue, IsFalse, if◌then◌else◌, List, length, slice_get, slice_index_or, Option, Some, None, Result, Ok, Err}
use Rattle.model_states.specs.Content.{Content, join_contents, size_of, row_limit, IsContentAtMost}
use Rattle.model_graph.specs.Graph.{Decl, is_source, kind_at}
use Rattle.model_graph.specs.Evaluation.{first_large}
use Rattle.model_graph.specs.Lawful.{shape_of}
use Rattle.model_graph.specs.Message.{Message, Sent, source_number, brought, with_gain, gained}
use Rattle.lasp_graph.specs.States.{Held, held_at, contents_of}
use Rattle.lasp_replica.specs.History.{History, grown, AreBelow}
use Rattle.lasp_replica.specs.Kept.{Kept}
use Rattle.lasp_replica.specs.Replica.{kept_at}
use Rattle.lasp_replica.specs.Parts.{news_of, AreRowsOf}
use Rattle.lasp_replica.specs.declared.refused.DeliverRefused.{DeliverRefused}
use Rattle.lasp_replica.specs.declared.refused.DeliverRefused.TheVariants.{WrongGraph, TooManyRows, Memory}

-- whether variable x grows
abbrev pub grows_at : List Bool → ℕ → Bool
grows_at grow x = slice_index_or grow x false

-- the state of the variable at a place is of the shape of a message's source
abbrev pub IsLike : List Held → ℕ → ℕ → Message → Type 0
IsLike states x i m = (s : Sent) → slice_get m.sources i ≡ Some s → (held_at states x).shape ≡ shape_of (length m.counts) s.decl.kind

-- no state has more rows or elements than it may have
abbrev pub AreSmall : List Held → Type 0
AreSmall states = (x : ℕ) → x < length states → size_of (held_at states x).content ≤ row_limit

-- a content was joined into the state at a place, and the other states are as before
pub record IsJoined (old : List Held) (x : ℕ) (c : Content) (new : List Held) : Type 0 where
  pub long : length new ≡ length old
  pub shapes : (y : ℕ) → (held_at new y).shape ≡ (held_at old y).shape
  pub content : (held_at new x).content ≡ join_contents (held_at old x).content c
  pub others : (y : ℕ) → y ≢ x → held_at new y ≡ held_at old y

-- a state grows exactly where the content brings it more, and then the history has the rows made ready
pub record IsReady (h : Held) (c : Content) (grows : Bool) (history : Kept) : Type 0 where
  pub still : IsFalse grows → IsContentAtMost c h.content
  pub grew : IsTrue grows → IsContentAtMost c h.content → ⊥
  pub prepared : IsTrue grows → IsTrue history.prepared
  pub pending : IsTrue grows → AreRowsOf (news_of h.shape h.content c) history.pending

-- a content was joined into the state at a place, which is within the limit with it, and its history is ready
pub record IsTaken (old : List Held) (x : ℕ) (c : Content) (grows : Bool) (new : List Held) (history : Kept) : Type 0 where
  pub joined : IsJoined old x c new
  pub ready : IsReady (held_at old x) c grows history
  pub small : size_of (join_contents (held_at old x).content c) ≤ row_limit

-- what was refused at a variable, if anything: it would have this content, which is too large, or memory was wanting
abbrev pub IsRefusedAt : {A : Type 0} → ℕ → Content → Result A DeliverRefused → Type 0
IsRefusedAt x c (Ok a) = Unit {0}
IsRefusedAt x c (Err WrongGraph) = ⊥
IsRefusedAt x c (Err (TooManyRows y)) = (y ≡ x) × (row_limit < size_of c)
IsRefusedAt x c (Err Memory) = Unit {0}

-- a variable that gains nothing doesn't grow
abbrev pub IsReadyFor : Held → Option Content → Bool → Kept → Type 0
IsReadyFor h None grows history = IsFalse grows
IsReadyFor h (Some c) grows history = IsReady h c grows history

-- the first x variables have what a message brings, and i of them are sources; the others are as before
pub record AreTaken (g : List Decl) (m : Message) (old : List Held) (x i : ℕ) (new : List Held) (histories : List Kept) (grow : List Bool) : Type 0 where
  pub number : i ≡ source_number g x
  pub long : length new ≡ length old
  pub shapes : (y : ℕ) → (held_at new y).shape ≡ (held_at old y).shape
  pub derived : (y : ℕ) → IsFalse (is_source (kind_at g y)) → held_at new y ≡ held_at old y
  pub done : (y : ℕ) → y < x → (held_at new y).content ≡ with_gain (held_at old y).content (brought g m y)
  pub left : (y : ℕ) → x ≤ y → held_at new y ≡ held_at old y
  pub small : (y : ℕ) → y < x → size_of (held_at new y).content ≤ row_limit
  pub many : length grow ≡ x
  pub ready : (y : ℕ) → y < x → IsReadyFor (held_at old y) (brought g m y) (grows_at grow y) (kept_at histories y)

-- the message was joined into all variables, and its growths are ready
pub record AreJoined (g : List Decl) (m : Message) (old new : List Held) (histories : List Kept) (grow : List Bool) : Type 0 where
  pub contents : contents_of new ≡ gained (brought g m) 0 (contents_of old)
  pub shapes : (y : ℕ) → (held_at new y).shape ≡ (held_at old y).shape
  pub derived : (y : ℕ) → IsFalse (is_source (kind_at g y)) → held_at new y ≡ held_at old y
  pub small : first_large 0 (gained (brought g m) 0 (contents_of old)) ≡ None
  pub many : length grow ≡ length g
  pub ready : (y : ℕ) → y < length g → IsReadyFor (held_at old y) (brought g m y) (grows_at grow y) (kept_at histories y)

-- what was refused of a message, if anything: this variable is the first that would be too large with what it gains, or memory was wanting
abbrev pub IsRefused : {A : Type 0} → List Content → Result A DeliverRefused → Type 0
IsRefused contents (Ok a) = Unit {0}
IsRefused contents (Err WrongGraph) = ⊥
IsRefused contents (Err (TooManyRows y)) = first_large 0 contents ≡ Some y
IsRefused contents (Err Memory) = Unit {0}

-- the history of each variable that grows is to be recorded at an entry behind all its growths
abbrev pub AreRecordable : List Bool → ℕ → List Kept → Type 0
AreRecordable grow entry histories = (x : ℕ) → IsTrue (grows_at grow x) → IsTrue (kept_at histories x).prepared × AreBelow entry (kept_at histories x).history.growths

-- the history after it was recorded, where it grows
abbrev pub recorded : Bool → Kept → ℕ → History
recorded grows history entry = if grows then grown history.history history.pending entry else history.history

-- the histories below a place were recorded, the others are as before
pub record AreRecordedTo (x : ℕ) (grow : List Bool) (entry : ℕ) (old new : List Kept) : Type 0 where
  pub many : length new ≡ length old
  pub done : (y : ℕ) → y < x → (kept_at new y).history ≡ recorded (grows_at grow y) (kept_at old y) entry
  pub left : (y : ℕ) → x ≤ y → kept_at new y ≡ kept_at old y
