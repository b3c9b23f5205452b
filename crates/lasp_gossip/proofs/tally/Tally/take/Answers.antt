use Rattle.std.proofs.Common.{length, map, refl, sym, arith}
use Rattle.std.specs.Arc.{arc_value}
use Rattle.std.proofs.lemmas.List.{length-map}
use Rattle.lasp_gossip.proofs.SizeLaws.{on_refusal, tally-more, tally-counted, tally-known, tally-within}
use Rattle.lasp_gossip.proofs.tally.Tally.take.Goals as goal

pub returns-then-most-limit-clause-ok : goal.returns-then-most-limit-clause-ok
returns-then-most-limit-clause-ok c =
    let old = c.args.self.now in
    tally-more (map arc_value c.args.messages.now) c.args.limit old.counted old.size old.most c.args.m.now c.most_len-most.result c.requires.tally c.most_len-most.ensures c.if-most-limit.true

pub returns-in_err-size-clause-err : goal.returns-in_err-size-clause-err
returns-in_err-size-clause-err c =
    let old = c.args.self.now in
    on_refusal c.from_residual-in_err-size.result
    (tally-counted (map arc_value c.args.messages.now) c.args.limit old.counted old.size old.most (length c.args.messages.now) c.in_ok-all.all c.requires.tally (sym (length-map c.args.messages.now arc_value)) c.in_ok-all.ensures)

pub overflow_sub-limit-3 : goal.overflow_sub-limit-3
overflow_sub-limit-3 c =
    let old = c.args.self.now in
    omega (arith, c.in_ok-all.ensures, tally-within (map arc_value c.args.messages.now) c.args.limit old.counted old.size old.most c.requires.tally)

pub returns-then-size-limit-clause-err : goal.returns-then-size-limit-clause-err
returns-then-size-limit-clause-err c =
    let old = c.args.self.now in
    tally-counted (map arc_value c.args.messages.now) c.args.limit old.counted old.size old.most (length c.args.messages.now) c.in_ok-all.all c.requires.tally (sym (length-map c.args.messages.now arc_value)) c.in_ok-all.ensures

pub returns-clause-ok : goal.returns-clause-ok
returns-clause-ok c =
    let old = c.args.self.now in
    let n = length c.args.messages.now in
    let counted = tally-counted (map arc_value c.args.messages.now) c.args.limit old.counted old.size old.most n c.in_ok-all.all c.requires.tally (sym (length-map c.args.messages.now arc_value)) c.in_ok-all.ensures in
    tally-known (map arc_value c.args.messages.now) c.args.limit n c.in_ok-all.all 0 c.args.m.now c.in_ok-size.size counted (sym (length-map c.args.messages.now arc_value)) refl c.in_ok-size.ensures c.if-size-limit.false
