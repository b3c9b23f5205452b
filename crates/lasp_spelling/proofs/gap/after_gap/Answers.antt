use Rattle.std.proofs.Common.{◌∙◌, sym, ap, ◌+◌, get_or, drop}
use Rattle.std.proofs.lemmas.List.{drop_more}
use Rattle.json.specs.Lex.{between, lex}
use Rattle.lasp_spelling.proofs.Lexemes.{lex-space}
use Rattle.lasp_spelling.proofs.gap.after_gap.Goals as goal

pub loop-i-preserved : goal.loop-i-preserved
loop-i-preserved c =
    sym (lex-space (get_or c.args.rest.now c.loop-i.i 0) (drop (c.loop-i.i + 1) c.args.rest.now) (sym c.is_space.ensures ∙ c.if-not-is_space.false))
    ∙ ap (lex between) (sym (drop_more c.args.rest.now c.loop-i.i 0 c.loop-i-test.true)) ∙ c.loop-i.invariant
