-- The ends of a node's mailboxes.
use Rattle.std.specs.Prelude.{◌≡◌, ℕ, ◌+◌, ◌*◌, List, [], length, slice_get, Some}
use Rattle.lasp_mail.specs.Ends.{BoxId, OutletView, InletView}
use Rattle.lasp_mail.specs.declared.item.Item.{Item}
use Rattle.lasp_live.specs.Sealed.{Plan}
use Rattle.lasp_live.specs.declared.mail.Mail.{Mail}

abbrev pub Box : Type 0
Box = BoxId Plan

abbrev pub Out : Type 0
Out = OutletView (Item Mail) Plan

abbrev pub In : Type 0
In = InletView (Item Mail) Plan

-- Mailboxes of so many nodes, all of this plan: number q * nodes + p goes from q to p. These are the ends of node me, to each other node and from each.
pub record AreEnds (plan : Plan) (nodes me : ℕ) (boxes : List Box) (outs : List Out) (ins : List In) : Type 0 where
  pub many : length boxes ≡ nodes * nodes
  pub outs_many : length outs ≡ nodes
  pub ins_many : length ins ≡ nodes
  pub planned : (b : ℕ) (box : Box) → slice_get boxes b ≡ Some box → box.frame ≡ Some plan
  pub outs_of : (p : ℕ) (o : Out) → slice_get outs p ≡ Some o → slice_get boxes (me * nodes + p) ≡ Some o.of
  pub ins_of : (q : ℕ) (i : In) → slice_get ins q ≡ Some i → slice_get boxes (q * nodes + me) ≡ Some i.of

-- nothing was put into the mailbox to node p
abbrev pub IsUnput : List Out → ℕ → Type 0
IsUnput outs p = (o : Out) → slice_get outs p ≡ Some o → o.put ≡ []

-- nothing was taken from the mailbox of node q
abbrev pub IsUntaken : List In → ℕ → Type 0
IsUntaken ins q = (i : In) → slice_get ins q ≡ Some i → i.got ≡ []

-- ends through which nothing went
pub record AreUnused (outs : List Out) (ins : List In) : Type 0 where
  pub outs_are : (p : ℕ) (o : Out) → slice_get outs p ≡ Some o → o.put ≡ []
  pub ins_are : (q : ℕ) (i : In) → slice_get ins q ≡ Some i → i.got ≡ []
