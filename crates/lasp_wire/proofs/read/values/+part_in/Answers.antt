use Rattle.std.proofs.Common.{rules}
use Rattle.model_wire.specs.Value.{part}
use Rattle.lasp_value.specs.Value.{val_of}
use Rattle.lasp_wire.proofs.Parts.{second_read}
use Rattle.lasp_wire.proofs.read.values.+part_in.Goals as goal

pub returns-in_err-second-in_default-clause-exact :
    goal.returns-in_err-second-in_default-clause-exact
returns-in_err-second-in_default-clause-exact t c =
    let tag = c.in_ok-tag.tag in
    let first = c.in_ok-first-in_default.first in
    let e = second_read c.args.pairs c.args.room c.args.bytes.now (tag, c.in_ok-tag.rest.now) (part (val_of first.value) first.pairs first.room, c.in_ok-first-in_default.rest.now)
    c.in_ok-tag.ensures.exact (search rules) (search rules) c.in_ok-first-in_default.ensures.exact in
    rw e (search rules)

pub returns-in_ok-new-in_default-2-clause-exact : goal.returns-in_ok-new-in_default-2-clause-exact
returns-in_ok-new-in_default-2-clause-exact t c =
    let tag = c.in_ok-tag.tag in
    let first = c.in_ok-first-in_default.first in
    let e = second_read c.args.pairs c.args.room c.args.bytes.now (tag, c.in_ok-tag.rest.now) (part (val_of first.value) first.pairs first.room, c.in_ok-first-in_default.rest.now)
    c.in_ok-tag.ensures.exact (search rules) (search rules) c.in_ok-first-in_default.ensures.exact in
    rw e (search rules)
