-- What a post puts into a node's mailboxes.
use Rattle.std.specs.Prelude.{◌≡◌, ◌≢◌, ℕ, ◌<◌, ◌≤◌, List, [], ◌∷◌, ◌++◌, length, slice_get, slice_set, Option, Some, None}
use Rattle.model_graph.specs.Message.{Message}
use Rattle.model_live.specs.Letter.{IsLetter}
use Rattle.lasp_live.specs.Ends.{Out}
use Rattle.lasp_live.specs.Mail.{mails, message_in, plan_of}
use Rattle.lasp_live.specs.Sealed.{Plan}
use Rattle.lasp_live.specs.declared.mail.Mail.{Mail}

-- a message that may be a letter of the plan; to tell none is to tell the end
abbrev pub MayPost : Plan → Option Message → Type 0
MayPost plan None = Unit {0}
MayPost plan (Some m) = IsLetter plan.0 plan.1 m

-- the mail tells this, of this plan
pub record IsMailOf (plan : Plan) (message : Option Message) (mail : Mail) : Type 0 where
  pub planned : plan_of mail ≡ plan
  pub message_is : message_in mail ≡ message

-- the ends are of the mailboxes that they were of
pub record AreOfTheSame (old new : List Out) : Type 0 where
  pub many : length new ≡ length old
  pub of : (p : ℕ) (o n : Out) → slice_get old p ≡ Some o → slice_get new p ≡ Some n → n.of ≡ o.of

-- one more item lies in the mailbox to node p, and nothing else has changed
pub record IsPutTo (p : ℕ) (message : Option Message) (old new : List Out) : Type 0 where
  pub before : Out
  pub after : Out
  pub at : slice_get old p ≡ Some before
  pub is : new ≡ slice_set old p after
  pub of : after.of ≡ before.of
  pub more : mails after.put ≡ mails before.put ++ message ∷ []

-- one more item lies in each mailbox to another node before node k; those from there on, and the node's own, are as they were
pub record ArePutBefore (me k : ℕ) (message : Option Message) (old new : List Out) : Type 0 where
  pub same : AreOfTheSame old new
  pub put : (p : ℕ) (o n : Out) → slice_get old p ≡ Some o → slice_get new p ≡ Some n → p < k → p ≢ me → mails n.put ≡ mails o.put ++ message ∷ []
  pub left : (p : ℕ) → k ≤ p → slice_get new p ≡ slice_get old p
  pub itself : slice_get new me ≡ slice_get old me

-- one more item lies in each mailbox to another node, and the node's own is as it was
pub record HavePut (me : ℕ) (message : Option Message) (old new : List Out) : Type 0 where
  pub each : (p : ℕ) (o n : Out) → slice_get old p ≡ Some o → slice_get new p ≡ Some n → p ≢ me → mails n.put ≡ mails o.put ++ message ∷ []
  pub itself : slice_get new me ≡ slice_get old me
