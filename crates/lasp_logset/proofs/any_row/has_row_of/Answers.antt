use Rattle.std.proofs.Common.{length, arith}
use Rattle.lasp_value.specs.Value.{val_of}
use Rattle.lasp_logset.proofs.AnyLaws.{any-found, any-rest}
use Rattle.lasp_logset.proofs.any_row.has_row_of.Goals as goal

pub returns-then-has_in_chain : goal.returns-then-has_in_chain
returns-then-has_in_chain c = any-found c.args.rows.now.entries (val_of c.args.value.now) c.args.dead (c.has_in_chain.ensures.some c.if-has_in_chain.true)

pub returns : goal.returns
returns c =
    any-rest c.args.rows.now.entries (val_of c.args.value.now) c.args.dead c.has_from.result (length c.args.places.now.older.items) c.len.result (c.has_in_chain.ensures.none c.if-has_in_chain.false)
    (omega (arith, c.len.ensures, c.args.places.now.older.ok.0)) c.has_from.ensures.some c.has_from.ensures.none
