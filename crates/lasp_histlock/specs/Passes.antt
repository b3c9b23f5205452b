-- A pass as contracts see it, and what each call makes of it.
use Rattle.std.specs.Prelude.{◌≡◌, ℕ, ◌+◌, Bool, true, false, if◌then◌else◌, List, [], ◌∷◌, ◌++◌, All, length, Option, Some}
use Rattle.atomic_table.specs.Seated.{TableId}
use Rattle.lasp_histlock.specs.declared.view.View.{View}
use Rattle.lasp_histlock.specs.Names.{LockId, name_of}
use Rattle.lasp_histlock.specs.History.{entries_of, Allowed, added, longer}
use Rattle.lasp_histlock.specs.Rule.{Mine, IsReady}

pub record PassView (E F : Type 0) : Type 0 where
  pub lock : LockId
  pub number : ℕ
  -- the numbers given out so far, at the first pass
  pub made : ℕ
  -- a Held that it took wasn't given back
  pub turn : Bool
  -- a beginning of the history
  pub seen : List E
  -- its own entries, in order, each once
  pub own : List E
  -- the numbers of the passes that were rejoined into it out of turn
  pub back : List ℕ
  -- how many of its exchanges saw the lock taken
  pub misses : ℕ
  -- how many loads of the count it made
  pub looks : ℕ
  -- the count at the last of them
  pub told : ℕ
  pub frame : Option F

module _ {E F : Type 0} where
  abbrev pub pass_view : TableId → View E F → PassView E F
  pass_view table v = record {
    lock = table;
    number = v.number;
    made = v.made;
    turn = v.turn;
    seen = v.seen;
    own = v.own;
    back = v.back;
    misses = v.misses;
    looks = v.looks;
    told = v.told;
    frame = v.frame;
  }

  -- the pass that comes with a new lock
  abbrev pub first_pass : LockId → F → PassView E F
  first_pass lock frame = record { lock = lock; number = 0; made = 1; turn = false; seen = []; own = []; back = []; misses = 0; looks = 0; told = 0; frame = Some frame }

  -- the pass that is split from the first one
  abbrev pub new_pass : PassView E F → PassView E F
  new_pass p = record p { number = p.made; made = 0; turn = false; own = []; back = []; misses = 0; looks = 0 }

  -- after an exchange that saw the lock taken
  abbrev pub after_miss : PassView E F → PassView E F
  after_miss p = record p { misses = p.misses + 1 }

  -- after a turn began in which the value stands for the list
  abbrev pub after_take : List E → PassView E F → PassView E F
  after_take list p = record p { turn = true; seen = list; looks = p.looks + 1; told = length list }

  -- after a turn ended with the list
  abbrev pub after_give : List E → PassView E F → PassView E F
  after_give list p = record p { turn = false; seen = list; own = p.own ++ added p.seen list }

  -- after a load of the count
  abbrev pub after_look : ℕ → PassView E F → PassView E F
  after_look count p = record p { looks = p.looks + 1; told = count }

  abbrev pub after_split : PassView E F → PassView E F
  after_split p = record p { made = p.made + 1 }

  abbrev pub after_rejoin : PassView E F → PassView E F → PassView E F
  after_rejoin other p = record p { seen = longer p.seen other.seen; back = if other.turn then p.back else p.back ++ other.number ∷ [] }

-- what a pass is made of: a seat's place at its table, and the numbers that the program reads
pub record IsPass {E F : Type 0} (names : E → ℕ) (may : ℕ → E → Type 0) (table : TableId) (me : Mine E F) (number made entries : ℕ) (turn : Bool) : Type 0 where
  pub ready : IsReady me.0
  pub pass : me.0.pass ≡ true
  pub empty : me.1 ≡ []
  pub lock : me.0.lock ≡ name_of table
  pub carries : me.0.turn ≡ true → me.0.carries ≡ true
  pub out : me.0.out ≡ me.0.turn
  pub lifted : me.0.lifted ≡ false
  pub own : me.0.own ≡ entries_of names me.0.number me.0.seen
  pub allowed : All (Allowed names may) me.0.seen
  pub number_is : number ≡ me.0.number
  pub made_is : made ≡ me.0.made
  pub entries_is : entries ≡ length me.0.seen
  pub turn_is : turn ≡ me.0.turn
