-- What a shelf and its spies know of what was published, and the rule between them.
use Rattle.std.specs.Prelude.{◌≡◌, ℕ, ◌+◌, List, [], ◌∷◌, ◌++◌, length, Option, Some, None, Result, IfOk, IfSome, IfNone, MatchResult}
use Rattle.std.specs.List.{AllByRecursion}
use mathlib.Core.Option.{some}
use mathlib.Core.List.{IsPrefix}
use lib.ListN.{get_elem?}
use Rattle.logbook.specs.Pages.{Book}
use Rattle.lasp_snap.specs.Version.{Version, IsSmall, AreRising}
use Rattle.lasp_snap.specs.Log.{shown_in, EndsOffering}
use Rattle.lasp_snap.specs.declared.name.Name.{Name}
use Rattle.lasp_snap.specs.declared.rule.Known.{Known}
use Rattle.lasp_snap.specs.declared.shown.Shown.{Shown}

-- all that was published where this is shown: what its log tells, and then the version itself
abbrev pub published_at : Shown → List Version
published_at x = shown_in x.front.log ++ x.version ∷ []

-- the value counts the versions, each later than the one before, and its log ends with the last one's offer
pub record IsShown (x : Shown) : Type 0 where
  pub count : length (published_at x) ≡ x.published
  pub rises : AreRising (published_at x)
  pub small : AllByRecursion IsSmall (published_at x)
  pub offer : EndsOffering x.version x.front.log

abbrev pub named : Book → Name
named b = record { book = b }

-- what one of them knows
pub record Knows (x : Shown) (v : Known) : Type 0 where
  pub seen : IsPrefix v.seen (published_at x)
  pub shelf : (b : Book) → v.shelf ≡ Some (named b) → x.front.book ≡ b

pub record Keeps (x : Shown) (views : List Known) : Type 0 where
  pub shown : IsShown x
  pub each : (seat : ℕ) (v : Known) → get_elem? views seat ≡ some v → Knows x v

-- a new one knows nothing
abbrev pub nothing : Known
nothing = record { seen = []; shelf = None; readings = 0 }

-- who published this knows all that was published, and which shelf it is, and was given no reading
abbrev pub knowing : Shown → Known
knowing x = record { seen = published_at x; shelf = Some (named x.front.book); readings = 0 }

-- what is shown next is of the same log, and goes on from what is shown
pub record Follows (x y : Shown) : Type 0 where
  pub shown : IsShown y
  pub shelf : y.front.book ≡ x.front.book
  pub more : IsPrefix (published_at x) (published_at y)

-- what a publication tells
abbrev pub Publishes : Known → Shown → Shown → Known → Type 0
Publishes v x y w = w ≡ knowing y

-- what a reading tells: all that was published by then, which goes on from what was seen before. It is one more that was given
pub record Looks (v : Known) (x y : Shown) (w : Known) : Type 0 where
  pub before : IsPrefix v.seen (published_at y)
  pub seen : w.seen ≡ published_at y
  pub same : w.shelf ≡ v.shelf
  pub shelf : (b : Book) → v.shelf ≡ Some (named b) → y.front.book ≡ b
  pub shown : IsShown y
  pub given : w.readings ≡ v.readings + 1

module _ {E : Type 0} where
  -- what one reading found: none where the shelf is closed, and an error where the share was refused
  pub record Found (v : Known) (found : Option (Result Shown E)) (w : Known) : Type 0 where
    pub same : w.shelf ≡ v.shelf
    pub before : IsPrefix v.seen w.seen
    pub shown : IfSome found (λ x. IfOk x (λ y. Looks v y y w))
    pub none : IfNone found (w.readings ≡ v.readings)
    pub given : IfSome found (λ _. w.readings ≡ v.readings + 1)

  -- the next one is shown, or what was shown is
  abbrev pub Showed : {A : Type 0} → Result A E → Shown → Shown → Known → Shown → Known → Type 0
  Showed result next x v y w = MatchResult result (λ _. (y ≡ next) × (w ≡ knowing next)) (λ _. (y ≡ x) × (w ≡ v))
