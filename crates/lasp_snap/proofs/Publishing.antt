-- What is shown after a publication.
use Rattle.std.proofs.Common.{◌≡◌, ◌+◌, true, List, [], ◌∷◌, ◌++◌, length, fold, Option, None, Result, Ok, Err, refl, sym, ap, ◌∙◌, subst}
use Rattle.std.specs.Prelude.{MatchResult, is_ok}
use Rattle.logbook.specs.Pages.{Named}
use Rattle.lasp_snap.specs.declared.rule.Known.{Known}
use Rattle.lasp_snap.specs.declared.shown.Shown.{Shown}
use Rattle.lasp_snap.specs.Version.{IsSmall, MayFollow, last_of}
use Rattle.lasp_snap.specs.Log.{FrontView}
use Rattle.lasp_snap.specs.Rule.{Follows, IsShown, Showed, knowing}
use Rattle.lasp_snap.specs.Views.{ShelfView, shelf_view, IsJournalOf, IsOfferOf, IsWriting}
use Rattle.lasp_snap.proofs.Logs.{follows}

-- each operation puts its own value in place, so the last one stays
pub fold_last : {A : Type 0} (s : A) (xs : List A) (a : A) → fold (λ _ next. next) s (xs ++ a ∷ []) ≡ a
fold_last s [] a = refl
fold_last s (x ∷ xs) a = fold_last x xs a

module _ {A E : Type 0} (next x y : Shown) (v w : Known) where
  -- what a publication of an operation that puts the next value in place leaves
  pub showed : (P Q : Type 0) (r : Result A E) (put : Shown) → put ≡ next → MatchResult r (λ _. (y ≡ put) × P) (λ _. (y ≡ x) × Q) → MatchResult r (λ _. w ≡ knowing y) (λ _. w ≡ v) → Showed r next x v y w
  showed P Q (Ok a) put is values rule = (values.0 ∙ is, rule ∙ ap knowing (values.0 ∙ is))
  showed P Q (Err e) put is values rule = (values.0, rule)

  -- the next value is shown where the publication was made
  pub showed-next : (r : Result A E) → is_ok r ≡ true → Showed r next x v y w → (y ≡ next) × (w ≡ knowing next)
  showed-next (Ok a) ok showed = showed
  showed-next (Err e) ok showed = absurd (cc (ok))

-- the version that was offered may be shown behind what a shelf shows
pub next-follows : (x next : Shown) (s : ShelfView) → IsShown x → shelf_view x ≡ s → IsOfferOf x next.version next.front → next.published ≡ length s.published + 1 → MayFollow (last_of s.published) next.version → IsSmall next.version → Follows x next
next-follows x next s is view o count may small =
    let place : next.published ≡ x.published + 1 = count ∙ ap (λ n. n + 1) (sym (ap (λ (s : ShelfView). length s.published) view) ∙ is.count) in
    follows x is next o.older o.log o.all o.shelf place (subst (λ (s : ShelfView). MayFollow (last_of s.published) next.version) (sym view) may) small

-- a shelf after a push: it knows what is shown, and its log ends with that offer
module _ (next y : Shown) (w : Known) (shown : (y ≡ next) × (w ≡ knowing next)) where
  pub writes-next : IsShown next → IsWriting y w
  writes-next is = record { shown = subst IsShown (sym shown.0) is; knows = shown.1 ∙ ap knowing (sym shown.0) }

  pub journal-next : (x : Shown) (head : Named) (front : FrontView) (told : Option FrontView) → IsJournalOf x head front told → front ≡ next.front → IsJournalOf y head front None
  journal-next x head front told j same =
      let is : front ≡ y.front = same ∙ ap (λ (s : Shown). s.front) (sym shown.0) in record {
        head_is = j.head_is;
        shelf = ap (λ (f : FrontView). f.book) is;
        agrees = ap (λ (f : FrontView). f.log) is;
      }
