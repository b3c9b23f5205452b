-- What the rule says, in words, of every moment between two steps, also in the middle of a turn.
use Rattle.std.specs.Prelude.{◌≡◌, ◌≢◌, ◌⊎◌, ℕ, ◌<◌, ◌≤◌, true, false, All, length, slice_index, Some, None}
use mathlib.Core.Option.{some, none}
use mathlib.Core.List.{IsPrefix}
use lib.ListN.{get_elem?}
use Rattle.lasp_histlock.specs.declared.view.View.{View}
use Rattle.lasp_histlock.specs.History.{entries_of, added, Allowed, among}
use Rattle.lasp_histlock.specs.Rule.{Lock}

module _ {E F : Type 0} where
  -- the view at seat i, which wasn't joined into another one. A view whose pass was dropped stands, too
  abbrev pub Stands : Lock E F → ℕ → View E F → Type 0
  Stands s i v = (get_elem? s.views i ≡ some v) × (v.spent ≡ false)

  -- the view of the first pass
  abbrev pub IsFirst : Lock E F → ℕ → View E F → Type 0
  IsFirst s i v = Stands s i v × (v.pass ≡ true) × (v.number ≡ 0)

  -- the view whose list is the history
  abbrev pub HasHistory : Lock E F → ℕ → View E F → Type 0
  HasHistory s i v = Stands s i v × (v.carries ≡ true)

  abbrev pub turn_word : Lock E F → ℕ
  turn_word s = slice_index s.words 0

  abbrev pub count_word : Lock E F → ℕ
  count_word s = slice_index s.words 1

  -- the slot is out, or at home with nothing in it
  abbrev pub IsSlotEmpty : Lock E F → Type 0
  IsSlotEmpty s = (get_elem? s.homes 0 ≡ some none) ⊎ (get_elem? s.homes 0 ≡ some (some None))

  -- no pass that stands has the number k
  abbrev pub IsAway : Lock E F → ℕ → Type 0
  IsAway s k = (i : ℕ) (v : View E F) → Stands s i v → v.pass ≡ true → v.number ≢ k

pub record OneTurn {E F : Type 0} (s : Lock E F) : Type 0 where
  pub bit : (turn_word s ≡ 0) ⊎ (turn_word s ≡ 1)
  pub one : (i j : ℕ) (v u : View E F) → Stands s i v → Stands s j u → v.turn ≡ true → u.turn ≡ true → i ≡ j
  pub free : turn_word s ≡ 0 → (i : ℕ) (v : View E F) → Stands s i v → v.turn ≡ false
  pub out : (i : ℕ) (v : View E F) → Stands s i v → v.out ≡ true → v.turn ≡ true
  -- while the slot is empty the lock is taken, and who has the turn has the content out
  pub empty : IsSlotEmpty s → (turn_word s ≡ 1) × ((i : ℕ) (v : View E F) → Stands s i v → v.turn ≡ true → v.out ≡ true)

pub record OneHistory {E F : Type 0} (s : Lock E F) : Type 0 where
  pub there : (i : ℕ) × (v : View E F) × HasHistory s i v
  pub one : (i j : ℕ) (v u : View E F) → HasHistory s i v → HasHistory s j u → i ≡ j
  pub seen : (i j : ℕ) (v u : View E F) → Stands s i v → HasHistory s j u → IsPrefix v.seen u.seen
  pub count : (j : ℕ) (u : View E F) → HasHistory s j u → count_word s ≡ length u.seen
  pub told : (i : ℕ) (v : View E F) → Stands s i v → v.told ≤ count_word s
  -- a pass has the history in its turn only; or it was rejoined in its turn, nobody has the turn, and the lock stays taken
  pub turn : (i : ℕ) (v : View E F) → HasHistory s i v → v.pass ≡ true → v.turn ≡ false → (turn_word s ≡ 1) × ((j : ℕ) (u : View E F) → Stands s j u → u.turn ≡ false)

pub record Numbered {E F : Type 0} (names : E → ℕ) (may : ℕ → E → Type 0) (s : Lock E F) : Type 0 where
  pub differ : (i j : ℕ) (v u : View E F) → Stands s i v → v.pass ≡ true → Stands s j u → u.pass ≡ true → v.number ≡ u.number → i ≡ j
  pub below : (i j : ℕ) (v first : View E F) → Stands s i v → v.pass ≡ true → IsFirst s j first → v.number < first.made
  pub entries : (i j : ℕ) (v first : View E F) → HasHistory s i v → IsFirst s j first → All (λ e. (names e < first.made) × Allowed names may e) v.seen
  -- a pass's own entries are those of its number, and it has seen them all
  pub own : (i j : ℕ) (v u : View E F) → Stands s i v → v.pass ≡ true → HasHistory s j u → (v.own ≡ entries_of names v.number u.seen) × All (λ e. names e ≢ v.number) (added v.seen u.seen)

pub record Returned {E F : Type 0} (s : Lock E F) : Type 0 where
  pub back : (j : ℕ) (first : View E F) → IsFirst s j first → (k : ℕ) → among k first.back ≡ true → (0 < k) × (k < first.made) × IsAway s k
  -- while the lock is taken a view has the turn, or a number that was given out is away and didn't come back
  pub taken : (j : ℕ) (first : View E F) → IsFirst s j first → turn_word s ≡ 1
      → ((i : ℕ) × (v : View E F) × Stands s i v × (v.turn ≡ true)) ⊎ ((k : ℕ) × (0 < k) × (k < first.made) × (among k first.back ≡ false) × IsAway s k)

pub record IsOrderly {E F : Type 0} (names : E → ℕ) (may : ℕ → E → Type 0) (frame : F) (s : Lock E F) : Type 0 where
  pub turn : OneTurn s
  pub history : OneHistory s
  pub frames : (i : ℕ) (v : View E F) → Stands s i v → v.frame ≡ Some frame
  pub numbers : Numbered names may s
  pub returned : Returned s
