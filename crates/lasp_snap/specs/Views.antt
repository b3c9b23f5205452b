-- What contracts see of shelves and of spies, and what these are made of.
use Rattle.std.specs.Prelude.{◌≡◌, ◌⊎◌, ℕ, ◌+◌, ◌≤◌, List, [], ◌∷◌, ◌++◌, length, take, Option, Some, None, refl}
use Rattle.std.specs.Coded.{Coded, code_by, coded×, coded_ℕ, coded_list}
use mathlib.Core.List.{IsPrefix}
use Rattle.logbook.specs.Pages.{Book, Named, book_coded}
use Rattle.lasp_snap.specs.Version.{Version, IsSmall, AreRising, last_of, coded_version}
use Rattle.lasp_snap.specs.Log.{FrontView, IsTold, head_of, offered, shown_in}
use Rattle.lasp_snap.specs.Rule.{IsShown, named, knowing, published_at}
use Rattle.lasp_snap.specs.declared.entry.Entry.{Entry}
use Rattle.lasp_snap.specs.declared.rule.Known.{Known}
use Rattle.lasp_snap.specs.declared.shown.Shown.{Shown}

-- a shelf: which one it is, and all that it published. What a shelf told is seen so, too
pub record ShelfView : Type 0 where
  pub shelf : Book
  pub published : List Version

-- a spy: whose it is, the versions that it saw, the longest list of those that it was told of, how many readings it took, how many it was given, and all that was published at the last of these
pub record SpyView : Type 0 where
  pub shelf : Book
  pub seen : List Version
  pub heard : List Version
  pub looks : ℕ
  pub readings : ℕ
  pub last : List Version

abbrev pub coded_shelf : Coded ShelfView
coded_shelf = code_by (Book × List Version) (coded× book_coded (coded_list coded_version)) (λ s. (s.shelf, s.published)) (λ p. record { shelf = p.0; published = p.1 }) (λ _. refl)

abbrev pub coded_spy : Coded SpyView
coded_spy =
    code_by (Book × (List Version × (List Version × (ℕ × (ℕ × List Version))))) (coded× book_coded (coded× (coded_list coded_version) (coded× (coded_list coded_version) (coded× coded_ℕ (coded× coded_ℕ (coded_list coded_version))))))
    (λ s. (s.shelf, (s.seen, (s.heard, (s.looks, (s.readings, s.last)))))) (λ p. record { shelf = p.0; seen = p.1.0; heard = p.1.1.0; looks = p.1.1.1.0; readings = p.1.1.1.1.0; last = p.1.1.1.1.1 }) (λ _. refl)

-- ---- the shelf

abbrev pub shelf_view : Shown → ShelfView
shelf_view x = record { shelf = x.front.book; published = published_at x }

abbrev pub told_view : FrontView → ShelfView
told_view f = record { shelf = f.book; published = shown_in f.log }

-- the log tells that the version is shown, if this is known already, and after that only of refused ones
abbrev pub AgreesWith : Shown → FrontView → Option FrontView → Type 0
AgreesWith x front None = front.log ≡ x.front.log
AgreesWith x front (Some told) = (told.book ≡ front.book) × IsTold told.log × (shown_in told.log ≡ published_at x) × (shown_in front.log ≡ published_at x)

-- the whole log of what is shown
pub record IsJournalOf (x : Shown) (head : Named) (front : FrontView) (told : Option FrontView) : Type 0 where
  pub head_is : head ≡ head_of front.book
  pub shelf : front.book ≡ x.front.book
  pub agrees : AgreesWith x front told

-- what is told of the version that is shown
pub record IsToldOf (x : Shown) (f : FrontView) : Type 0 where
  pub shelf : f.book ≡ x.front.book
  pub told : IsTold f.log
  pub all : shown_in f.log ≡ published_at x

-- the log up to the offer of a version, before which all that is published was shown
pub record IsOfferOf (x : Shown) (v : Version) (f : FrontView) : Type 0 where
  pub shelf : f.book ≡ x.front.book
  pub older : List Entry
  pub log : f.log ≡ older ++ offered v ∷ []
  pub all : shown_in older ≡ published_at x

-- who publishes knows all that is shown
pub record IsWriting (x : Shown) (v : Known) : Type 0 where
  pub shown : IsShown x
  pub knows : v ≡ knowing x

-- ---- spies

abbrev pub spy_view : Known → FrontView → ℕ → ℕ → SpyView
spy_view v heard place looks = record { shelf = heard.book; seen = take place v.seen; heard = shown_in heard.log; looks = looks; readings = v.readings; last = v.seen }

-- a spy keeps the last version that it saw
pub record IsSpy (last : Version) (place : ℕ) (heard : FrontView) (v : Known) : Type 0 where
  pub shelf : v.shelf ≡ Some (named heard.book)
  pub few : place ≤ length v.seen
  pub kept : last_of (take place v.seen) ≡ Some last
  pub rises : AreRising (take place v.seen)
  pub small : IsSmall last
  pub told : IsTold heard.log

-- a spy of this shelf that saw all that was published, was told nothing, and was given no reading
pub record IsNewSpy (of : ShelfView) (s : SpyView) : Type 0 where
  pub shelf : s.shelf ≡ of.shelf
  pub seen : s.seen ≡ of.published
  pub heard : s.heard ≡ []
  pub looks : s.looks ≡ 0
  pub readings : s.readings ≡ 0
  pub last : s.last ≡ of.published

-- at most one reading was given. One was taken, and then all that it has is seen, in it what was seen and heard before; or none was, and what was seen stays
pub record Looked (old new : SpyView) : Type 0 where
  pub shelf : new.shelf ≡ old.shelf
  pub heard : new.heard ≡ old.heard
  pub before : IsPrefix old.seen new.seen
  pub rises : AreRising new.seen
  pub given : (new.readings ≡ old.readings) ⊎ (new.readings ≡ old.readings + 1)
  pub look : ((new.looks ≡ old.looks + 1) × (new.readings ≡ old.readings + 1) × IsPrefix old.heard new.seen × (new.seen ≡ new.last)) ⊎ ((new.looks ≡ old.looks) × (new.seen ≡ old.seen))

-- of the readings that were given in between each was counted
abbrev pub CountsEach : SpyView → SpyView → Type 0
CountsEach old new = new.looks + old.readings ≡ old.looks + new.readings
