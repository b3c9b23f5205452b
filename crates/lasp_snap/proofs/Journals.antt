-- What a shelf's log tells after each entry.
use Rattle.std.proofs.Common.{◌≡◌, [], ◌∷◌, ◌++◌, Some, None, refl, sym, ap, ◌∙◌, inr}
use Rattle.logbook.specs.Pages.{Named}
use Rattle.lasp_snap.specs.declared.shown.Shown.{Shown}
use Rattle.lasp_snap.specs.Version.{Version}
use Rattle.lasp_snap.specs.Log.{FrontView, EndsOffering, head_of, offered, confirmed, shown_in}
use Rattle.lasp_snap.specs.Views.{IsJournalOf, IsToldOf, IsOfferOf}
use Rattle.lasp_snap.proofs.Logs.{shown_in-offered, shown_in-confirmed}

module _ (x : Shown) (head : Named) (front : FrontView) where
  -- where the log tells already that the version is shown
  pub told_already : (told : FrontView) → IsJournalOf x head front (Some told) → IsToldOf x told
  told_already told j = record { shelf = j.agrees.0 ∙ j.shelf; told = j.agrees.1; all = j.agrees.2 }

  module _ (f : FrontView) (book : f.book ≡ front.book) where
    -- the log with the entry that the version is shown
    pub confirms : IsJournalOf x head front None → EndsOffering x.version x.front.log → f.log ≡ front.log ++ confirmed x.version ∷ [] → IsToldOf x f
    confirms j offer log =
        let is : f.log ≡ x.front.log ++ confirmed x.version ∷ [] = log ∙ ap (λ l. l ++ confirmed x.version ∷ []) j.agrees in record {
          shelf = book ∙ j.shelf;
          told = inr (offer.0, x.version, is ∙ ap (λ l. l ++ confirmed x.version ∷ []) offer.1);
          all = ap shown_in is ∙ shown_in-confirmed x.front.log x.version;
        }

    pub confirmed_journal : IsJournalOf x head front None → IsToldOf x f → IsJournalOf x head f (Some f)
    confirmed_journal j t = record { head_is = j.head_is ∙ ap head_of (sym book); shelf = t.shelf; agrees = (refl, t.told, t.all, t.all) }

    -- the log with the offer of a version
    module _ (told : FrontView) (v : Version) (j : IsJournalOf x head front (Some told)) (log : f.log ≡ front.log ++ offered v ∷ []) where
      pub offers : IsOfferOf x v f
      offers = record { shelf = book ∙ j.shelf; older = front.log; log = log; all = j.agrees.3 }

      pub offered_journal : IsJournalOf x head f (Some told)
      offered_journal = record {
        head_is = j.head_is ∙ ap head_of (sym book);
        shelf = book ∙ j.shelf;
        agrees = (j.agrees.0 ∙ sym book, j.agrees.1, j.agrees.2, ap shown_in log ∙ (shown_in-offered front.log v ∙ j.agrees.3));
      }

pub ruleset journals = (told_already, confirms, confirmed_journal, offers, offered_journal)
