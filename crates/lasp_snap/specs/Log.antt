-- The log of a shelf: each version is told of before readers may take it, and once more when they do.
use Rattle.std.specs.Prelude.{◌≡◌, ◌⊎◌, ℕ, ◌==◌, ◌≤◌, Bool, true, false, if◌then◌else◌, List, [], ◌∷◌, ◌++◌, length, MatchBool, flat_map, refl}
use Rattle.std.specs.Coded.{Coded, code_by, coded×, coded_bool, coded_list}
use mathlib.Core.List.{IsPrefix}
use Rattle.logbook.specs.Pages as book
use Rattle.logbook.specs.Pages.{Cell, Step, Book, Named, book_coded}
use Rattle.lasp_snap.specs.Version.{Version, coded_version}
use Rattle.lasp_snap.specs.declared.entry.Entry.{Entry}

abbrev pub offered : Version → Entry
offered v = record { version = v; shown = false }

abbrev pub confirmed : Version → Entry
confirmed v = record { version = v; shown = true }

abbrev pub shown_by : Entry → List Version
shown_by e = if e.shown then e.version ∷ [] else []

-- the versions that readers could take, in order
abbrev pub shown_in : List Entry → List Version
shown_in log = flat_map shown_by log

-- the last entry offers this version
abbrev pub EndsOffering : Version → List Entry → Type 0
EndsOffering v log = (older : List Entry) × (log ≡ older ++ offered v ∷ [])

-- nothing, or the last two entries offer a version and show it
abbrev pub IsTold : List Entry → Type 0
IsTold log = (log ≡ []) ⊎ ((older : List Entry) × (v : Version) × (log ≡ (older ++ offered v ∷ []) ++ confirmed v ∷ []))

-- the shorter begins the longer
pub record AreOfOne (xs ys : List Entry) : Type 0 where
  pub first : length xs ≤ length ys → IsPrefix xs ys
  pub second : length ys ≤ length xs → IsPrefix ys xs

-- a beginning of the log that was seen, and of which book it is
pub record FrontView : Type 0 where
  pub book : Book
  pub log : List Entry

abbrev pub coded_entry : Coded Entry
coded_entry = code_by (Version × Bool) (coded× coded_version coded_bool) (λ e. (e.version, e.shown)) (λ p. record { version = p.0; shown = p.1 }) (λ _. refl)

abbrev pub coded_front : Coded FrontView
coded_front = code_by (Book × List Entry) (coded× book_coded (coded_list coded_entry)) (λ f. (f.book, f.log)) (λ p. record { book = p.0; log = p.1 }) (λ _. refl)

-- the first word is the length of the log; the second stays 0
abbrev pub IsKept : List Cell → List Entry → Type 0
IsKept cells log = cells ≡ (length log, true) ∷ (0, true) ∷ []

abbrev pub head_of : Book → Named
head_of b = record { tracked = true; key = 0; book = b }

-- the entry was added to all that had been seen, or the log was longer
abbrev pub Adds : Step Entry → book.View Entry ℕ → ℕ → book.View Entry ℕ → Type 0
Adds s v found w = MatchBool (found == s.old) (w.0 ≡ v.0 ++ s.ask ∷ []) (Unit {0})
