use Rattle.std.proofs.Common.{rules, ℕ, ◌≡◌, ◌+◌, ◌*◌, ◌<◌, ◌≤◌, ◌++◌, ◌∷◌, [], List, Option, length, refl, sym, ap, ◌∙◌, arith}
use Rattle.std.specs.Prelude.{Some, Ok, Err, Result, OnOk, slice_get, slice_set}
use Rattle.std.proofs.lemmas.Option.{slice_get_read, slice_get_within, same_Some}
use Rattle.model_graph.specs.Message.{Message}
use Rattle.lasp_live.specs.Ends.{Box, Out}
use Rattle.lasp_live.specs.Mail.{mails, message_in}
use Rattle.lasp_live.specs.Posted.{IsPutTo}
use Rattle.lasp_live.proofs.PostLaws.{found, same-set, times-few}
use Rattle.lasp_live.proofs.post.put_to.Goals as goal

pub overflow_mul-mailbox : goal.overflow_mul-mailbox
overflow_mul-mailbox g c =
    let few : c.from.result * c.len.result ≤ 2040 = times-few c.from.result c.len.result (omega (arith, c.from.ensures, c.ranges.me.fits)) (omega (arith, c.len.ensures, c.requires.few)) in
    omega (arith, few)

pub overflow_add-mailbox : goal.overflow_add-mailbox
overflow_add-mailbox g c =
    let few : c.from.result * c.len.result ≤ 2040 = times-few c.from.result c.len.result (omega (arith, c.from.ensures, c.ranges.me.fits)) (omega (arith, c.len.ensures, c.requires.few)) in
    omega (arith, few, c.requires.there, c.requires.few)

pub offset_bounds-boxes-from : goal.offset_bounds-boxes-from
offset_bounds-boxes-from g c =
    let few : c.from.result * c.len.result ≤ 2040 = times-few c.from.result c.len.result (omega (arith, c.from.ensures, c.ranges.me.fits)) (omega (arith, c.len.ensures, c.requires.few)) in
    omega (arith, few, c.requires.there, c.requires.few)

pub bounds-boxes-from : goal.bounds-boxes-from
bounds-boxes-from g c =
    let outs = c.args.outs.now.items in
    let boxes = c.args.boxes.now in
    let o = found outs c.args.p c.requires.there in
    let place : c.from.result * c.len.result + c.args.p ≡ c.args.me * length outs + c.args.p =
    (let me : c.from.result ≡ c.args.me = omega (arith, c.from.ensures) in let many : c.len.result ≡ length outs = omega (arith, c.len.ensures) in λ i. me i * many i + c.args.p) in
    let low : c.args.me * length outs + c.args.p < length boxes = slice_get_within boxes (c.args.me * length outs + c.args.p) o.0.of (c.requires.of o.0 o.1) in
    omega (arith, low, place)

pub put_one-requires-clause-of : goal.put_one-requires-clause-of
put_one-requires-clause-of g c =
    let outs = c.args.outs.now.items in
    let boxes = c.args.boxes.now in
    let o = found outs c.args.p c.requires.there in
    let place : c.from.result * c.len.result + c.args.p ≡ c.args.me * length outs + c.args.p =
    (let me : c.from.result ≡ c.args.me = omega (arith, c.from.ensures) in let many : c.len.result ≡ length outs = omega (arith, c.len.ensures) in λ i. me i * many i + c.args.p) in
    let low : c.args.me * length outs + c.args.p < length boxes = slice_get_within boxes (c.args.me * length outs + c.args.p) o.0.of (c.requires.of o.0 o.1) in
    let at : slice_get outs c.args.p ≡ Some c.index_mut.result.now = slice_get_read outs (length outs) c.args.p c.index_mut.result.now refl c.requires.there (search rules) in
    let there : slice_get boxes (c.from.result * c.len.result + c.args.p) ≡ Some c.index-boxes-from.result =
    slice_get_read boxes (length boxes) (c.from.result * c.len.result + c.args.p) c.index-boxes-from.result refl (omega (arith, low, place)) (search rules) in
    let same : c.index_mut.result.now.of ≡ c.index-boxes-from.result =
    same_Some c.index_mut.result.now.of c.index-boxes-from.result (sym (c.requires.of c.index_mut.result.now at) ∙ ap (slice_get boxes) (sym place) ∙ there) in
    same

pub put_one-requires-clause-number : goal.put_one-requires-clause-number
put_one-requires-clause-number g c =
    let outs = c.args.outs.now.items in
    let at : slice_get outs c.args.p ≡ Some c.index_mut.result.now = slice_get_read outs (length outs) c.args.p c.index_mut.result.now refl c.requires.there (search rules) in
    sym (c.requires.number c.index_mut.result.now at)

pub put_one-requires-clause-small : goal.put_one-requires-clause-small
put_one-requires-clause-small g c =
    let outs = c.args.outs.now.items in
    let at : slice_get outs c.args.p ≡ Some c.index_mut.result.now = slice_get_read outs (length outs) c.args.p c.index_mut.result.now refl c.requires.there (search rules) in
    omega (arith, c.requires.number c.index_mut.result.now at, c.requires.small)

pub put_one-requires-clause-plan : goal.put_one-requires-clause-plan
put_one-requires-clause-plan g c =
    let outs = c.args.outs.now.items in
    let boxes = c.args.boxes.now in
    let o = found outs c.args.p c.requires.there in
    let place : c.from.result * c.len.result + c.args.p ≡ c.args.me * length outs + c.args.p =
    (let me : c.from.result ≡ c.args.me = omega (arith, c.from.ensures) in let many : c.len.result ≡ length outs = omega (arith, c.len.ensures) in λ i. me i * many i + c.args.p) in
    let low : c.args.me * length outs + c.args.p < length boxes = slice_get_within boxes (c.args.me * length outs + c.args.p) o.0.of (c.requires.of o.0 o.1) in
    let at : slice_get outs c.args.p ≡ Some c.index_mut.result.now = slice_get_read outs (length outs) c.args.p c.index_mut.result.now refl c.requires.there (search rules) in
    let there : slice_get boxes (c.from.result * c.len.result + c.args.p) ≡ Some c.index-boxes-from.result =
    slice_get_read boxes (length boxes) (c.from.result * c.len.result + c.args.p) c.index-boxes-from.result refl (omega (arith, low, place)) (search rules) in
    let same : c.index_mut.result.now.of ≡ c.index-boxes-from.result =
    same_Some c.index_mut.result.now.of c.index-boxes-from.result (sym (c.requires.of c.index_mut.result.now at) ∙ ap (slice_get boxes) (sym place) ∙ there) in
    sym (c.requires.plan c.index_mut.result.now at) ∙ ap (λ (b : Box). b.frame) same

pub returns-clause-of : goal.returns-clause-of
returns-clause-of g c =
    let outs = c.args.outs.now.items in
    let at : slice_get outs c.args.p ≡ Some c.index_mut.result.now = slice_get_read outs (length outs) c.args.p c.index_mut.result.now refl c.requires.there (search rules) in
    same-set outs c.args.p c.index_mut.result.now c.put_one.new.o at c.put_one.ensures.of

-- where it was put, it was put there
put-there : {E : Type 0} (r : Result (Unit {0}) E) (p : ℕ) (message : Option Message) (outs : List Out) (before after : Out) → slice_get outs p ≡ Some before → after.of ≡ before.of → OnOk r (mails after.put ≡ mails before.put ++ message ∷ []) → OnOk r (IsPutTo p message outs (slice_set outs p after))
put-there (Ok done) p message outs before after at of more = record { before = before; after = after; at = at; is = refl; of = of; more = more }
put-there (Err why) p message outs before after at of more = tt

pub returns-clause-put : goal.returns-clause-put
returns-clause-put g c =
    let outs = c.args.outs.now.items in
    let at : slice_get outs c.args.p ≡ Some c.index_mut.result.now = slice_get_read outs (length outs) c.args.p c.index_mut.result.now refl c.requires.there (search rules) in
    put-there c.put_one.result c.args.p (message_in c.args.body) outs c.index_mut.result.now c.put_one.new.o at c.put_one.ensures.of c.put_one.ensures.ok
