-- What parked reads are known to lack of the values that they wait for.
use Rattle.std.specs.Prelude.{◌≡◌, ℕ, ◌<◌, Bool, true, false, IsTrue, List, Some, length, take, slice_get}
use Rattle.model_values.specs.Value.{Val}
use Rattle.model_values.specs.Row.{Row}
use Rattle.model_sets.specs.Reads.{HasRowOf}
use Rattle.model_states.specs.Content.{Content, of_set}
use Rattle.model_states.specs.Threshold as plain
use Rattle.model_graph.specs.Graph.{is_set, kind_at}
use Rattle.model_journal.specs.Entry.{Entry, Frame}
use Rattle.model_journal.specs.Journal.{graph, val}
use Rattle.lasp_state.specs.Threshold.{is_in}
use Rattle.lasp_replica.specs.Parts.{history_at}
use Rattle.lasp_replica.specs.Reading.{rows_since}
use Rattle.lasp_replica.specs.Replica.{frame_of, entries_of, parts_of}
use Rattle.lasp_replica.specs.declared.replica.Replica.{Replica}
use Rattle.lasp_core.specs.Reads.{read_of}
use Rattle.lasp_core.specs.declared.news.Came.{Came}
use Rattle.lasp_core.specs.declared.news.News.{News}
use Rattle.lasp_core.specs.declared.read.ReadNo.{ReadNo}

-- ---- values that are lacking

-- the value at a place of a list wasn't added, or removed where that is asked
pub record LacksAt (dead : Bool) (s : Content) (values : List Val) (place : ℕ) : Type 0 where
  pub value : Val
  pub at : slice_get values place ≡ Some value
  pub lacks : is_in dead s value ≡ false

-- the same of those that a threshold asks for
abbrev pub LacksValue : plain.Threshold → Content → ℕ → Type 0
LacksValue (plain.AtLeast shape t) s place = ⊥
LacksValue (plain.Above shape t) s place = ⊥
LacksValue (plain.Count k) s place = ⊥
LacksValue (plain.Added vs) s place = LacksAt false s vs place
LacksValue (plain.Removed vs) s place = LacksAt true s vs place

-- what a read is known to lack is lacking after the entries
abbrev pub IsWaiting : Frame → List Entry → ReadNo → Type 0
IsWaiting X entries r = IsTrue r.is_lacking → LacksValue (read_of r).threshold (val X entries (read_of r).var) r.place

-- a read of a declared variable: what it is known to lack was lacking after the first n entries
pub record WasWaiting (r : Replica) (n : ℕ) (read : ReadNo) : Type 0 where
  pub declared : (read_of read).var < length (graph (frame_of r) (entries_of r))
  pub waits : IsWaiting (frame_of r) (take n (entries_of r)) read

-- ---- rows that came

-- the rows that came to a set since the first n entries
pub record IsNews (r : Replica) (n x : ℕ) (rows : List Row) : Type 0 where
  pub declared : x < length (graph (frame_of r) (entries_of r))
  pub set : IsTrue (is_set (kind_at (graph (frame_of r) (entries_of r)) x))
  pub flat : val (frame_of r) (entries_of r) x ≡ of_set (val (frame_of r) (entries_of r) x).rows
  pub rows_are : rows ≡ rows_since (history_at (parts_of r).histories x) n

abbrev pub HaveCome : Replica → ℕ → Came → Type 0
HaveCome r n came = IsNews r n came.var came.rows

abbrev pub AreNews : Replica → ℕ → News → Type 0
AreNews r n news = IsNews r n news.var news.rows.items

-- none of some rows is of the value at a place of a list
pub record IsSparedAt (values : List Val) (rows : List Row) (place : ℕ) : Type 0 where
  pub value : Val
  pub at : slice_get values place ≡ Some value
  pub spared : HasRowOf rows value false → ⊥

-- the same of those that a threshold asks for
abbrev pub IsSpared : plain.Threshold → List Row → ℕ → Type 0
IsSpared (plain.AtLeast shape t) rows place = ⊥
IsSpared (plain.Above shape t) rows place = ⊥
IsSpared (plain.Count k) rows place = ⊥
IsSpared (plain.Added vs) rows place = IsSparedAt vs rows place
IsSpared (plain.Removed vs) rows place = IsSparedAt vs rows place

-- a read is known to lack a value of its variable, and none of the rows that came to that is of the value
pub record Spares (news : News) (read : ReadNo) : Type 0 where
  pub var : news.var ≡ (read_of read).var
  pub lacking : IsTrue read.is_lacking
  pub spared : IsSpared (read_of read).threshold news.rows.items read.place
