-- What the functions made of several steps ask of a view, and make of it.
use Rattle.std.specs.Prelude.{◌≡◌, ◌+◌, true, false, List, length, Option}
use Rattle.lasp_histlock.specs.declared.view.View.{View}
use Rattle.lasp_histlock.specs.Rule.{IsReady}

module _ {E F : Type 0} where
  -- a pass that has the turn and doesn't have the content out
  abbrev pub HasTurn : View E F → Type 0
  HasTurn v = IsReady v × (v.pass ≡ true) × (v.turn ≡ true) × (v.out ≡ false)

  -- a pass that has the turn, the whole history, and the content out
  abbrev pub HasContent : View E F → Type 0
  HasContent v = IsReady v × (v.pass ≡ true) × (v.turn ≡ true) × (v.carries ≡ true) × (v.out ≡ true) × (v.lifted ≡ false)

  -- the content was taken out: the list of the value was seen, and its length told
  abbrev pub begun : List E → Option F → View E F → View E F
  begun list frame v = record v {
    out = true;
    lifted = false;
    carries = true;
    seen = list;
    looks = v.looks + 1;
    told = length list;
    noted = false;
    before = v.seen;
    beside = list;
    whose = v.number;
    theirs = v.own;
    mark = frame;
  }

  -- the content was put back, and the turn ended
  abbrev pub settled : View E F → View E F
  settled v = record v { turn = false; out = false; lifted = false; carries = false; noted = false }
