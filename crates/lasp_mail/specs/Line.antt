-- What the queue's passes know of the parcels in it, and what holds between any two steps.
use Rattle.std.specs.Prelude.{◌≡◌, ℕ, suc, ◌+◌, true, false, List, [], ◌∷◌, length, ⊤}
use mathlib.Core.Option.{some}
use lib.ListN.{get_elem?}
use Rattle.atomic_table.specs.Seated.{TableId}
use Rattle.lasp_mail.specs.declared.item.Item.{Item}
use Rattle.lasp_mail.specs.declared.line.Line.{Line}
use Rattle.lasp_mail.specs.Parcel.{ParcelView}

abbrev pub no_table : TableId
no_table = record { words = 0; slots = 0; views_name = 0; atom = 0; block = 0; offset = 0; slot_names = [] }

-- the pass of a new queue, which is both ends
abbrev pub both_ends : Line
both_ends = record { sends = true; takes = true; count = 0; place = record { table = no_table } }

-- the sender's pass after n parcels, and the taker's
abbrev pub sending : TableId → ℕ → Line
sending table n = record { sends = true; takes = false; count = n; place = record { table = table } }

abbrev pub taking : TableId → ℕ → Line
taking table n = record { sends = false; takes = true; count = n; place = record { table = table } }

abbrev pub counted : Line → Line
counted v = record v { count = suc v.count }

-- what holds of the pass i, where the queue has the numbers from low up to high
pub record Fits (from to low high : ℕ) (table : TableId) (i : ℕ) (v : Line) : Type 0 where
  pub sends : v.sends ≡ true → (i ≡ from) × (v.count ≡ high) × (v.place.table ≡ table)
  pub takes : v.takes ≡ true → (i ≡ to) × (v.count ≡ low) × (v.place.table ≡ table)

module _ {T F : Type 0} where
  -- the parcels have the numbers from n on, in order, and marks of one ledger
  abbrev pub Numbered : TableId → ℕ → List (ParcelView (Item T) F) → Type 0
  Numbered table n [] = ⊤
  Numbered table n (x ∷ xs) = (x.item.number ≡ n) × (x.table ≡ table) × Numbered table (suc n) xs

  -- one pass sends and one takes; each counts, and between the two counts lies what is in the queue
  pub record InOrder (parcels : List (ParcelView (Item T) F)) (views : List Line) : Type 0 where
    pub from : ℕ
    pub to : ℕ
    pub low : ℕ
    pub table : TableId
    pub numbered : Numbered table low parcels
    pub each : (i : ℕ) (v : Line) → get_elem? views i ≡ some v → Fits from to low (low + length parcels) table i v

  -- what a push and a pop tell
  abbrev pub Puts : Line → ParcelView (Item T) F → Line → Type 0
  Puts v x w = w ≡ counted v

  abbrev pub Takes : Line → ParcelView (Item T) F → Line → Type 0
  Takes v x w = (w ≡ counted v) × (x.item.number ≡ v.count) × (x.table ≡ v.place.table)
