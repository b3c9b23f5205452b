-- What seats at the ledger know of what was put, what each step makes of it, and what holds between any two steps.
use Rattle.std.specs.Prelude.{◌≡◌, ◌⊎◌, ℕ, true, false, List, [], ◌∷◌, ◌++◌, All, Some, None}
use mathlib.Core.Option.{some}
use mathlib.Core.List.{IsPrefix}
use lib.ListN.{get_elem?}
use Rattle.atomic_table.specs.Table.{State, Me, Step}
use Rattle.lasp_mail.specs.declared.witness.Witness.{Witness}

module _ {E F : Type 0} where
  -- one that was joined into another one
  abbrev pub nobody : Witness E F
  nobody = record { spent = true; owner = false; frame = None; list = []; next = []; noted = false; beside = [] }

  -- the outlet's, of a new mailbox
  abbrev pub founder : F → Witness E F
  founder frame = record nobody { spent = false; owner = true; frame = Some frame }

  -- all that it knows to be put
  abbrev pub all_of : Witness E F → List E
  all_of v = v.list ++ v.next

  abbrev pub reader_of : Witness E F → Witness E F
  reader_of v = record nobody { spent = false; frame = v.frame }

  abbrev pub issued : List E → Witness E F → Witness E F
  issued items v = record v { list = v.list ++ v.next; next = items; noted = false }

  -- the mark that goes with the items
  abbrev pub mark_of : List E → Witness E F → Witness E F
  mark_of items v = record nobody { spent = false; frame = v.frame; list = (v.list ++ v.next) ++ items }

  abbrev pub withdrawn : Witness E F → Witness E F
  withdrawn v = record v { next = []; noted = false }

  abbrev pub gathered : Witness E F → Witness E F → Witness E F
  gathered v w = record v { list = w.list; noted = true; beside = v.list }

  abbrev pub compared : Witness E F → Witness E F → Witness E F
  compared v w = record v { noted = true; beside = w.list }

  abbrev pub recalled : Witness E F → Witness E F
  recalled v = record v { noted = false }

  -- an inlet that took one item more
  abbrev pub took : E → Witness E F → Witness E F
  took item v = record v { list = v.list ++ item ∷ []; noted = false; beside = v.list }

  abbrev pub IsOwner : Witness E F → Type 0
  IsOwner v = (v.spent ≡ false) × (v.owner ≡ true)

  -- it has a beginning of what was put, and can't add to it
  abbrev pub IsReader : Witness E F → Type 0
  IsReader v = (v.spent ≡ false) × (v.owner ≡ false)

-- what was put, whether the last item stays isn't known until its mark is gone, and where the outlet's seat and that mark are
pub record Setting (E : Type 0) : Type 0 where
  pub list : List E
  pub next : List E
  pub owner : ℕ
  pub mark : ℕ

-- a reader has a beginning of the list, or is the one that has the last item too
abbrev pub Follows : {E : Type 0} → Setting E → ℕ → List E → Type 0
Follows c i list = IsPrefix list c.list ⊎ ((i ≡ c.mark) × (list ≡ c.list ++ c.next))

module _ {E F : Type 0} (frame : F) (c : Setting E) where
  -- what holds of the seat i, if it isn't spent
  pub record Fits (i : ℕ) (v : Witness E F) : Type 0 where
    pub frame_is : v.frame ≡ Some frame
    pub owns : v.owner ≡ true → (i ≡ c.owner) × (v.list ≡ c.list) × (v.next ≡ c.next)
    pub follows : v.owner ≡ false → (v.next ≡ []) × Follows c i v.list
    pub notes : v.noted ≡ true → IsPrefix v.beside (all_of v)

module _ {S E F : Type 0} (frame_of : E → F) (frame : F) where
  pub record Law (c : Setting E) (s : State S (Witness E F)) : Type 0 where
    pub each : (i : ℕ) (v : Witness E F) → get_elem? s.views i ≡ some v → v.spent ≡ false → Fits frame c i v
    pub frames : All (λ x. frame_of x ≡ frame) (c.list ++ c.next)

  abbrev pub Keeps : State S (Witness E F) → Type 0
  Keeps s = (c : Setting E) × Law c s

module _ {E F : Type 0} (frame_of : E → F) where
  -- what a load tells
  pub record Told (v : Witness E F) : Type 0 where
    pub beside : v.noted ≡ true → IsPrefix v.beside (all_of v)
    pub frames : All (λ x. Some (frame_of x) ≡ v.frame) (all_of v)

  abbrev pub Recalls : {S : Type 0} → Step S → Me S (Witness E F) → ℕ → Me S (Witness E F) → Type 0
  Recalls s m n after = (after ≡ (recalled m.0, m.1)) × Told m.0
