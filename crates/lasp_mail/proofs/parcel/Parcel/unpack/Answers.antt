use Rattle.std.proofs.Common.{◌≡◌, ◌∷◌, ◌++◌, [], false, Some, All, refl, sym, ap, subst, ◌∙◌, length, length-append, arith}
use Rattle.lasp_mail.specs.Witness.{IsReader}
use Rattle.lasp_mail.proofs.Prefixes.{next_list, All-last}
use Rattle.lasp_mail.proofs.parcel.Parcel.unpack.Goals as goal

pub gather-requires-clause-mark : goal.gather-requires-clause-mark
gather-requires-clause-mark g c =
    let opened = c.open-item.ensures in
    let a = opened.attests in
    let m = c.open-item.result.1.me.0 in
    let is : m ≡ a.0 = cc (a.1) in
    let number = ap (λ x. x.number) opened.item ∙ c.requires.number in
    let longer = ap (λ v. length v.list) is ∙ (ap length a.4 ∙ length-append a.3 (c.open-item.result.0 ∷ [])) in
    (subst IsReader (sym is) a.2, opened.mark.1, omega (arith, longer, a.5, number))

pub returns-clause-seat : goal.returns-clause-seat
returns-clause-seat g c =
    let opened = c.open-item.ensures in
    let a = opened.attests in
    let v = c.args.seat.now.me.0 in
    let m = c.open-item.result.1.me.0 in
    let item = c.open-item.result.0 in
    let is : m ≡ a.0 = cc (a.1) in
    let list = next_list v.list a.3 m.list v.next item (c.gather.ensures.told.beside refl) (ap (λ u. u.list) is ∙ a.4) (a.5 ∙ (ap (λ x. x.number) opened.item ∙ c.requires.number)) in
    (c.gather.ensures.seat.0, c.gather.ensures.seat.1 ∙ ap (λ l. (record v { list = l; noted = false; beside = v.list }, c.args.seat.now.me.1)) list)

pub returns-clause-frame : goal.returns-clause-frame
returns-clause-frame g c =
    let a = c.open-item.ensures.attests in
    let v = c.args.seat.now.me.0 in
    let m = c.open-item.result.1.me.0 in
    let is : m ≡ a.0 = cc (a.1) in
    let all = subst (λ l. All (λ x. Some (g.T.Framed.frame x.body) ≡ v.frame) (l ++ v.next)) (ap (λ u. u.list) is ∙ a.4) c.gather.ensures.told.frames in
    All-last (λ x. Some (g.T.Framed.frame x.body) ≡ v.frame) a.3 v.next c.open-item.result.0 all
