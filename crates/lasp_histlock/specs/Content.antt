-- The carrier that lies in the slot beside the value.
use Rattle.std.specs.Prelude.{◌≡◌, true, false, List, [], ◌∷◌, Some}
use Rattle.lasp_histlock.specs.declared.view.View.{View}
use Rattle.lasp_histlock.specs.Rule.{IsReady}

module _ {E F : Type 0} where
  abbrev pub IsCarrier : View E F → Type 0
  IsCarrier v = IsReady v × (v.pass ≡ false) × (v.carries ≡ true)

  -- the one view of the carrier has the value's list and frame
  abbrev pub CarriesValue : List (View E F) → List E → F → Type 0
  CarriesValue views list frame = (v : View E F) × (views ≡ v ∷ []) × IsCarrier v × (list ≡ v.seen) × (Some frame ≡ v.frame)
