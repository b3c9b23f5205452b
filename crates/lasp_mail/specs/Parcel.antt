-- An item on its way, with the mark that attests what was put before it.
use Rattle.std.specs.Prelude.{◌≡◌, ℕ, List, [], ◌∷◌, ◌++◌, length}
use Rattle.atomic_table.specs.Seated.{TableId}
use Rattle.lasp_mail.specs.declared.witness.Witness.{Witness}
use Rattle.lasp_mail.specs.Witness.{IsReader}

pub record ParcelView (E F : Type 0) : Type 0 where
  pub item : E
  -- the ledger that the mark is of
  pub table : TableId
  pub marks : List (Witness E F)

-- the one mark knows of as many items as the number says, and then of this one
abbrev pub Attests : {E F : Type 0} → E → ℕ → List (Witness E F) → Type 0
Attests {E} {F} item number marks = (v : Witness E F) × (marks ≡ v ∷ []) × IsReader v × (older : List E) × (v.list ≡ older ++ item ∷ []) × (length older ≡ number)
