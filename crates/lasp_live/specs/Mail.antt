-- What goes through the mailboxes of a run.
use Rattle.std.specs.Prelude.{Bool, true, false, List, [], ◌∷◌, ◌++◌, map, Option, Some, None}
use Rattle.std.specs.Arc.{arc_value}
use Rattle.model_graph.specs.Message.{Message}
use Rattle.lasp_mail.specs.declared.item.Item.{Item}
use Rattle.lasp_live.specs.Sealed.{Plan}
use Rattle.lasp_live.specs.declared.mail.Mail.{Mail}
use Rattle.lasp_live.specs.declared.mail.Mail.TheVariants.{Letter, End}

-- the graph and the script that it is of
abbrev pub plan_of : Mail → Plan
plan_of (Letter l) = l.1
plan_of (End graph script) = (arc_value graph, arc_value script)

-- the message in it; none at the sender's end
abbrev pub message_in : Mail → Option Message
message_in (Letter l) = Some l.0
message_in (End graph script) = None

-- what went through a mailbox, in order
abbrev pub mails : List (Item Mail) → List (Option Message)
mails items = map (λ i. message_in i.body) items

-- these messages, and no end yet
abbrev pub letters_so_far : List Message → List (Option Message)
letters_so_far ms = map (λ m. Some m) ms

-- these messages, and then the end
abbrev pub letters_and_end : List Message → List (Option Message)
letters_and_end ms = letters_so_far ms ++ None ∷ []

-- these messages, and the end where it was taken
abbrev pub if_ended : Bool → List Message → List (Option Message)
if_ended true ms = letters_and_end ms
if_ended false ms = letters_so_far ms
