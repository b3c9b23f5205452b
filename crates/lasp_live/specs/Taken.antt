-- What was taken from a node's mailboxes.
use Rattle.std.specs.Prelude.{◌≡◌, ℕ, List, [], ◌∷◌, ◌++◌, length, slice_get, slice_set, Some}
use Rattle.lasp_mail.specs.declared.item.Item.{Item}
use Rattle.lasp_live.specs.Ends.{In}
use Rattle.lasp_live.specs.Mail.{plan_of}
use Rattle.lasp_live.specs.declared.mail.Mail.{Mail}

-- the end of a mailbox from which one more item was taken
abbrev pub taken : In → Item Mail → In
taken i item = record { of = i.of; got = i.got ++ item ∷ [] }

-- this is the next item that came from node q, and nothing else was taken
pub record IsTakenFrom (q : ℕ) (item : Item Mail) (old new : List In) : Type 0 where
  pub inlet : In
  pub at : slice_get old q ≡ Some inlet
  pub is : new ≡ slice_set old q (taken inlet item)
  pub number : item.number ≡ length inlet.got
  pub planned : Some (plan_of item.body) ≡ inlet.of.frame
