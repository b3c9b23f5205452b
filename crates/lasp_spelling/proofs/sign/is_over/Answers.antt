use Rattle.std.proofs.Common.{◌∙◌, sym}
use Rattle.lasp_spelling.proofs.Lexemes.{lex-over}
use Rattle.lasp_spelling.proofs.sign.is_over.Goals as goal

pub returns : goal.returns
returns c = λ over. sym c.after_gap.ensures ∙ lex-over c.after_gap.result.now (sym c.is_empty.ensures ∙ over)
