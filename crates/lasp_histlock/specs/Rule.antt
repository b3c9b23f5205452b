-- What holds of the lock's table between any two steps.
use Rattle.std.specs.Prelude.{◌≡◌, ◌≢◌, ◌⊎◌, ℕ, ◌<◌, ◌≤◌, Bool, true, false, List, [], ◌∷◌, All, length, Option, Some, None}
use mathlib.Core.Option.{some}
use mathlib.Core.Option as maybe
use mathlib.Core.List.{IsPrefix}
use lib.ListN.{get_elem?}
use Rattle.atomic_table.specs.Table.{State, Me, opening}
use Rattle.atomic_table.specs.Seated.{TableId}
use Rattle.lasp_histlock.specs.declared.view.TableName.{TableName}
use Rattle.lasp_histlock.specs.declared.view.View.{View}
use Rattle.lasp_histlock.specs.Names.{name_of}
use Rattle.lasp_histlock.specs.History.{entries_of, Allowed, among}
use Rattle.lasp_histlock.specs.Views.{founder}

-- what the slot holds: nothing, or a table's name and the views that lie beside the value
abbrev pub Slot : Type 0 → Type 0 → Type 0
Slot E F = Option (TableId × List (View E F))

abbrev pub Mine : Type 0 → Type 0 → Type 0
Mine E F = Me (Slot E F) (View E F)

abbrev pub Lock : Type 0 → Type 0 → Type 0
Lock E F = State (Slot E F) (View E F)

-- what the rule's facts share: the two words and the slot as they are, the history, and the places of the views that matter
pub record Setting (E F : Type 0) : Type 0 where
  pub word : ℕ
  -- the slot, or none while a seat has it
  pub home : maybe.Option (Slot E F)
  pub history : List E
  -- a view that isn't spent has a turn, and where
  pub held : Bool
  pub holder : ℕ
  -- where the view that carries is
  pub carrier : ℕ
  -- how many numbers were given out, which came back, and where each number's view is
  pub made : ℕ
  pub back : List ℕ
  pub seat : ℕ → ℕ
  -- the number that is out for good, where nobody has the turn and the word is 1
  pub lost : ℕ
  pub lock : TableName
  pub frame : F

module _ {E F : Type 0} where
  -- the slot is at home with a value in it
  abbrev pub IsFull : maybe.Option (Slot E F) → Type 0
  IsFull home = (content : TableId × List (View E F)) × (home ≡ some (Some content))

  -- the slot is at home and empty
  abbrev pub IsBare : maybe.Option (Slot E F) → Type 0
  IsBare home = home ≡ some None

  abbrev pub IsLive : View E F → Type 0
  IsLive v = v.spent ≡ false

  -- it has the name of its table, and wasn't joined into another view
  abbrev pub IsReady : View E F → Type 0
  IsReady v = (v.fresh ≡ false) × (v.spent ≡ false)

  abbrev pub IsBearer : View E F → Type 0
  IsBearer v = (v.spent ≡ false) × (v.carries ≡ true)

  abbrev pub IsHolder : View E F → Type 0
  IsHolder v = (v.spent ≡ false) × (v.turn ≡ true)

-- the view is of this lock, and what it has seen and was told is of the one history
pub record Knows {E F : Type 0} (lock : TableName) (frame : F) (history : List E) (fresh : Bool) (own_lock : TableName) (own_frame : Option F) (seen : List E) (told : ℕ) : Type 0 where
  pub old : fresh ≡ false
  pub lock_is : own_lock ≡ lock
  pub frame_is : own_frame ≡ Some frame
  pub prefix : IsPrefix seen history
  pub below : told ≤ length history

-- one view has the turn, and with it what the slot lacks
pub record Turns {E F : Type 0} (word : ℕ) (held : Bool) (holder : ℕ) (home : maybe.Option (Slot E F)) (i : ℕ) (turn pass out lifted : Bool) : Type 0 where
  pub one : turn ≡ true → (i ≡ holder) × (held ≡ true) × (word ≡ 1)
  pub passes : turn ≡ true → pass ≡ true
  pub outs : out ≡ true → turn ≡ true
  pub lifts : lifted ≡ true → out ≡ true
  pub full : turn ≡ true → out ≡ false → IsFull home
  pub bare : turn ≡ true → out ≡ true → lifted ≡ false → IsBare home

-- one view carries the history; a pass that carries out of turn holds the lock shut for good
pub record Bears {E : Type 0} (word : ℕ) (held : Bool) (carrier : ℕ) (history : List E) (i : ℕ) (carries pass turn : Bool) (seen : List E) : Type 0 where
  pub one : carries ≡ true → (i ≡ carrier) × (seen ≡ history)
  pub waits : carries ≡ true → pass ≡ true → turn ≡ false → (held ≡ false) × (word ≡ 1)

-- numbers of passes differ, and none of a live pass came back
pub record Counts (seat : ℕ → ℕ) (made : ℕ) (back : List ℕ) (i : ℕ) (pass : Bool) (number own_made : ℕ) (own_back : List ℕ) : Type 0 where
  pub one : pass ≡ true → i ≡ seat number
  pub below : pass ≡ true → number < made
  pub first : pass ≡ true → number ≡ 0 → (own_made ≡ made) × (own_back ≡ back)
  pub absent : pass ≡ true → among number back ≡ false

-- the number that is out for good isn't this pass's
abbrev pub IsNotLost : ℕ → Bool → ℕ → Bool → ℕ → Type 0
IsNotLost word held lost pass number = pass ≡ true → held ≡ false → word ≡ 1 → number ≢ lost

-- a pass's own entries are all that the history has of its number, and it has seen them
pub record Owns {E : Type 0} (names : E → ℕ) (history : List E) (pass : Bool) (number : ℕ) (own seen : List E) : Type 0 where
  pub whole : pass ≡ true → own ≡ entries_of names number history
  pub part : pass ≡ true → own ≡ entries_of names number seen

-- what a joining brought together
pub record Notes {E F : Type 0} (names : E → ℕ) (noted : Bool) (before beside seen : List E) (whose : ℕ) (theirs : List E) (mark frame : Option F) : Type 0 where
  pub earlier : noted ≡ true → IsPrefix before seen
  pub other : noted ≡ true → IsPrefix beside seen
  pub entries : noted ≡ true → theirs ≡ entries_of names whose seen
  pub frames : noted ≡ true → mark ≡ frame

module _ {E F : Type 0} (names : E → ℕ) (may : ℕ → E → Type 0) where
  -- what holds of the view at seat i, if it isn't spent
  pub record Fits (c : Setting E F) (i : ℕ) (v : View E F) : Type 0 where
    pub knows : Knows c.lock c.frame c.history v.fresh v.lock v.frame v.seen v.told
    pub turns : Turns c.word c.held c.holder c.home i v.turn v.pass v.out v.lifted
    pub bears : Bears c.word c.held c.carrier c.history i v.carries v.pass v.turn v.seen
    pub counts : Counts c.seat c.made c.back i v.pass v.number v.made v.back
    pub lost : IsNotLost c.word c.held c.lost v.pass v.number
    pub owns : Owns names c.history v.pass v.number v.own v.seen
    pub notes : Notes names v.noted v.before v.beside v.seen v.whose v.theirs v.mark v.frame

  pub record Law (c : Setting E F) (s : Lock E F) : Type 0 where
    pub words : s.words ≡ c.word ∷ length c.history ∷ []
    pub homes : s.homes ≡ c.home ∷ []
    pub bit : (c.word ≡ 0) ⊎ (c.word ≡ 1)
    pub at_home : (content : TableId × List (View E F)) → c.home ≡ some (Some content) → name_of content.0 ≡ c.lock
    pub free : c.word ≡ 0 → (c.held ≡ false) × IsFull c.home
    pub each : (i : ℕ) (v : View E F) → get_elem? s.views i ≡ some v → IsLive v → Fits c i v
    pub carrier : (v : View E F) × (get_elem? s.views c.carrier ≡ some v) × IsBearer v
    pub holder : c.held ≡ true → (v : View E F) × (get_elem? s.views c.holder ≡ some v) × IsHolder v
    pub entries : All (λ e. (names e < c.made) × Allowed names may e) c.history
    pub returned : All (λ k. (0 < k) × (k < c.made)) c.back
    pub lost : c.held ≡ false → c.word ≡ 1 → (0 < c.lost) × (c.lost < c.made) × (among c.lost c.back ≡ false)

  -- the table as it is made, before its name is written into the first view; or the law, in some setting with this frame
  abbrev pub Keeps : F → Lock E F → Type 0
  Keeps frame s = (s ≡ opening (1 ∷ 0 ∷ []) (None ∷ []) (founder frame)) ⊎ ((c : Setting E F) × (c.frame ≡ frame) × Law c s)
