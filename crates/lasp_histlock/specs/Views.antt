-- What each step makes of the view of the seat that takes it.
use Rattle.std.specs.Prelude.{ℕ, ◌+◌, Bool, true, false, ◌||◌, if◌then◌else◌, List, [], ◌∷◌, ◌++◌, Some, None}
use Rattle.atomic_table.specs.Seated.{TableId}
use Rattle.lasp_histlock.specs.declared.view.TableName.{TableName}
use Rattle.lasp_histlock.specs.declared.view.View.{View}
use Rattle.lasp_histlock.specs.Names.{name_of}
use Rattle.lasp_histlock.specs.History.{longer}

abbrev pub no_table : TableId
no_table = record { words = 0; slots = 0; views_name = 0; atom = 0; block = 0; offset = 0; slot_names = [] }

abbrev pub no_name : TableName
no_name = name_of no_table

module _ {E F : Type 0} where
  -- a view that was joined into another one
  abbrev pub nobody : View E F
  nobody = record {
    spent = true;
    fresh = false;
    lock = no_name;
    frame = None;
    pass = false;
    number = 0;
    made = 0;
    back = [];
    turn = false;
    out = false;
    lifted = false;
    carries = false;
    seen = [];
    own = [];
    misses = 0;
    looks = 0;
    told = 0;
    noted = false;
    before = [];
    beside = [];
    whose = 0;
    theirs = [];
    mark = None;
  }

  -- the first view: the first pass, in a turn, with the whole history, and the content out
  abbrev pub founder : F → View E F
  founder frame = record nobody { spent = false; fresh = true; frame = Some frame; pass = true; made = 1; turn = true; out = true; carries = true }

  abbrev pub landed : TableId → View E F → View E F
  landed table v = record v { fresh = false; lock = name_of table }

  -- a turn begins or ends
  abbrev pub turned_to : Bool → View E F → View E F
  turned_to turn v = record v { turn = turn }

  abbrev pub missed : View E F → View E F
  missed v = record v { misses = v.misses + 1 }

  -- where the content and the slot are: out with this pass, or not
  abbrev pub placed : Bool → Bool → View E F → View E F
  placed out lifted v = record v { out = out; lifted = lifted }

  -- the count word was loaded
  abbrev pub looked : ℕ → View E F → View E F
  looked told v = record v { looks = v.looks + 1; told = told; noted = false }

  abbrev pub recalled : View E F → View E F
  recalled v = record v { noted = false }

  abbrev pub grown : List E → View E F → View E F
  grown entries v = record v { seen = v.seen ++ entries; own = v.own ++ entries; noted = false }

  -- the carrier is cut from the pass's view
  abbrev pub unburdened : View E F → View E F
  unburdened v = record v { carries = false; noted = false }

  abbrev pub carrier_of : View E F → View E F
  carrier_of v = record nobody { spent = false; lock = v.lock; frame = v.frame; carries = true; seen = v.seen }

  -- the carrier is joined into the pass's view
  abbrev pub burdened : View E F → View E F → View E F
  burdened v w = record v { carries = true; seen = w.seen; noted = true; before = v.seen; beside = w.seen; whose = v.number; theirs = v.own; mark = w.frame }

  -- a new pass is cut from the first one
  abbrev pub parent : View E F → View E F
  parent v = record v { made = v.made + 1; noted = false }

  abbrev pub child : View E F → View E F
  child v = record nobody { spent = false; lock = v.lock; frame = v.frame; pass = true; number = v.made; seen = v.seen; told = v.told }

  -- a pass is joined into the first one
  abbrev pub merged : View E F → View E F → View E F
  merged v w = record v {
    seen = longer v.seen w.seen;
    back = if w.turn then v.back else v.back ++ w.number ∷ [];
    carries = v.carries || w.carries;
    noted = true;
    before = v.seen;
    beside = w.seen;
    whose = w.number;
    theirs = w.own;
    mark = w.frame;
  }
