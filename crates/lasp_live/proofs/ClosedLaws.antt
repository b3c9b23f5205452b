-- What the two ends of a closed mailbox tell of each other.
use Rattle.std.proofs.Common.{◌≡◌, List, [], ◌∷◌, ◌++◌, Option, refl, sym, ap, ◌∙◌}
use Rattle.std.proofs.lemmas.List.{map-append}
use mathlib.Core.List.{IsPrefix}
use Rattle.model_graph.specs.Message.{Message}
use Rattle.lasp_mail.specs.declared.item.Item.{Item}
use Rattle.lasp_live.specs.Mail.{mails, message_in, letters_and_end}
use Rattle.lasp_live.specs.declared.mail.Mail.{Mail}

-- where letters and the end stand before something, and that is letters and the end, they are all of it
ends-same : (ns ms : List Message) (rest : List (Option Message)) → letters_and_end ns ++ rest ≡ letters_and_end ms → ns ≡ ms
ends-same [] [] rest e = refl
ends-same [] (m ∷ ms) rest e = absurd cc
ends-same (n ∷ ns) [] rest e = absurd cc
ends-same (n ∷ ns) (m ∷ ms) rest e =
    let head : n ≡ m = cc in
    let tail : letters_and_end ns ++ rest ≡ letters_and_end ms = cc in
    λ i. head i ∷ ends-same ns ms rest tail i

-- what was got to the end is what was put
pub closed-same : (got put : List (Item Mail)) (ns ms : List Message) → IsPrefix got put → mails put ≡ letters_and_end ms → mails got ≡ letters_and_end ns → ns ≡ ms
closed-same got put ns ms (rest, is) all some =
    ends-same ns ms (mails rest)
    (sym (ap (λ (l : List (Option Message)). l ++ mails rest) some) ∙ sym (map-append (λ (i : Item Mail). message_in i.body) got rest) ∙ ap mails is ∙ all)
