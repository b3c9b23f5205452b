use Rattle.std.proofs.Common.{rules, ℕ, zero, suc, ◌≡◌, ◌+◌, ◌*◌, ◌<◌, ◌≤◌, ◌++◌, ◌∷◌, [], List, Option, length, refl, sym, ap, ◌∙◌, arith}
use Rattle.std.specs.Prelude.{Some, None, IfSome, slice_get, slice_set}
use Rattle.std.proofs.lemmas.Option.{slice_get_read, slice_get_within, same_Some}
use Rattle.lasp_mail.specs.declared.item.Item.{Item}
use Rattle.lasp_live.specs.Ends.{Box, In}
use Rattle.lasp_live.specs.Mail.{plan_of}
use Rattle.lasp_live.specs.Taken.{IsTakenFrom}
use Rattle.lasp_live.specs.declared.mail.Mail.{Mail}
use Rattle.lasp_live.proofs.PostLaws.{times-few}
use Rattle.lasp_live.proofs.takes.take_from.Goals as goal

-- an end that is there
found : (l : List In) (q : ℕ) → q < length l → (i : In) × (slice_get l q ≡ Some i)
found [] q low = absurd (omega (arith, low))
found (i ∷ l) zero low = (i, refl)
found (i ∷ l) (suc q) low = found l q (omega (arith, low))

-- the mailbox is there
mailbox-there : (boxes : List Box) (ins : List In) (q me : ℕ) → q < length ins → ((i : In) → slice_get ins q ≡ Some i → slice_get boxes (q * length ins + me) ≡ Some i.of) → q * length ins + me < length boxes
mailbox-there boxes ins q me low of = let i = found ins q low in slice_get_within boxes (q * length ins + me) i.0.of (of i.0 i.1)

-- what the mailbox gave was taken from it
took-there : (r : Option (Item Mail)) (q n : ℕ) (box : Box) (ins : List In) (before after : In) → n ≡ q → slice_get ins q ≡ Some before → before.of ≡ box
    → IfSome r (λ item. after ≡ record before { got = before.got ++ item ∷ [] }) → IfSome r (λ item. item.number ≡ length before.got) → IfSome r (λ item. Some (plan_of item.body) ≡ box.frame)
    → IfSome r (λ item. IsTakenFrom q item ins (slice_set ins n after))
took-there None q n box ins before after same at of more number planned = tt
took-there (Some item) q n box ins before after same at of more number planned = record {
  inlet = before;
  at = at;
  is = (λ i. slice_set ins (same i) (more i));
  number = number;
  planned = planned ∙ ap (λ (b : Box). b.frame) (sym of);
}

pub overflow_mul-mailbox : goal.overflow_mul-mailbox
overflow_mul-mailbox g c =
    let few : c.from.result * c.len.result ≤ 2040 = times-few c.from.result c.len.result (omega (arith, c.from.ensures, c.ranges.q.fits)) (omega (arith, c.len.ensures, c.requires.few)) in
    omega (arith, few)

pub overflow_add-mailbox : goal.overflow_add-mailbox
overflow_add-mailbox g c =
    let few : c.from.result * c.len.result ≤ 2040 = times-few c.from.result c.len.result (omega (arith, c.from.ensures, c.ranges.q.fits)) (omega (arith, c.len.ensures, c.requires.few)) in
    omega (arith, few, c.from-2.ensures, c.ranges.me.fits)

pub offset_bounds-boxes-from : goal.offset_bounds-boxes-from
offset_bounds-boxes-from g c =
    let few : c.from.result * c.len.result ≤ 2040 = times-few c.from.result c.len.result (omega (arith, c.from.ensures, c.ranges.q.fits)) (omega (arith, c.len.ensures, c.requires.few)) in
    omega (arith, few, c.from-2.ensures, c.ranges.me.fits)

pub bounds-boxes-from : goal.bounds-boxes-from
bounds-boxes-from g c =
    let ins = c.args.ins.now.items in
    let boxes = c.args.boxes.now in
    let there = mailbox-there boxes ins c.args.q c.args.me c.requires.there c.requires.of in
    let place : c.from.result * c.len.result + c.from-2.result ≡ c.args.q * length ins + c.args.me =
    (let q : c.from.result ≡ c.args.q = omega (arith, c.from.ensures) in let many : c.len.result ≡ length ins = omega (arith, c.len.ensures) in let me : c.from-2.result ≡ c.args.me = omega (arith, c.from-2.ensures) in λ i. q i * many i + me i) in
    omega (arith, there, place)

-- ---- the inlet and its mailbox

pub take-requires : goal.take-requires
take-requires g c =
    let ins = c.args.ins.now.items in
    let boxes = c.args.boxes.now in
    let low = mailbox-there boxes ins c.args.q c.args.me c.requires.there c.requires.of in
    let place : c.from.result * c.len.result + c.from-2.result ≡ c.args.q * length ins + c.args.me =
    (let q : c.from.result ≡ c.args.q = omega (arith, c.from.ensures) in let many : c.len.result ≡ length ins = omega (arith, c.len.ensures) in let me : c.from-2.result ≡ c.args.me = omega (arith, c.from-2.ensures) in λ i. q i * many i + me i) in
    let q : c.from-3.result ≡ c.args.q = omega (arith, c.from-3.ensures) in
    let at : slice_get ins c.from-3.result ≡ Some c.index_mut.result.now = slice_get_read ins (length ins) c.from-3.result c.index_mut.result.now refl (omega (arith, q, c.requires.there)) (search rules) in
    let there : slice_get boxes (c.from.result * c.len.result + c.from-2.result) ≡ Some c.index-boxes-from.result =
    slice_get_read boxes (length boxes) (c.from.result * c.len.result + c.from-2.result) c.index-boxes-from.result refl (omega (arith, low, place)) (search rules) in
    record { of = same_Some c.index_mut.result.now.of c.index-boxes-from.result (sym (c.requires.of c.index_mut.result.now (ap (slice_get ins) (sym q) ∙ at)) ∙ ap (slice_get boxes) (sym place) ∙ there) }

pub returns-clause-some : goal.returns-clause-some
returns-clause-some g c =
    let ins = c.args.ins.now.items in
    let boxes = c.args.boxes.now in
    let low = mailbox-there boxes ins c.args.q c.args.me c.requires.there c.requires.of in
    let place : c.from.result * c.len.result + c.from-2.result ≡ c.args.q * length ins + c.args.me =
    (let q : c.from.result ≡ c.args.q = omega (arith, c.from.ensures) in let many : c.len.result ≡ length ins = omega (arith, c.len.ensures) in let me : c.from-2.result ≡ c.args.me = omega (arith, c.from-2.ensures) in λ i. q i * many i + me i) in
    let q : c.from-3.result ≡ c.args.q = omega (arith, c.from-3.ensures) in
    let at : slice_get ins c.from-3.result ≡ Some c.index_mut.result.now = slice_get_read ins (length ins) c.from-3.result c.index_mut.result.now refl (omega (arith, q, c.requires.there)) (search rules) in
    let there : slice_get boxes (c.from.result * c.len.result + c.from-2.result) ≡ Some c.index-boxes-from.result =
    slice_get_read boxes (length boxes) (c.from.result * c.len.result + c.from-2.result) c.index-boxes-from.result refl (omega (arith, low, place)) (search rules) in
    let same = same_Some c.index_mut.result.now.of c.index-boxes-from.result (sym (c.requires.of c.index_mut.result.now (ap (slice_get ins) (sym q) ∙ at)) ∙ ap (slice_get boxes) (sym place) ∙ there) in
    took-there c.take.result c.args.q c.from-3.result c.index-boxes-from.result ins c.index_mut.result.now c.take.new.i q (ap (slice_get ins) (sym q) ∙ at) same c.take.ensures.some c.take.ensures.number c.take.ensures.frame
