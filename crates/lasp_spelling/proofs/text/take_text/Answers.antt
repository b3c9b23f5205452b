use Rattle.std.proofs.Common.{◌∙◌, sym, ap, ◌∷◌, take, drop}
use Rattle.std.proofs.lemmas.List.{take-append-drop}
use Rattle.json.specs.Lex.{between, lex, token}
use Rattle.json.specs.Token.{string}
use Rattle.lasp_spelling.proofs.Lexemes.{lex-quoted, plain-take}
use Rattle.lasp_spelling.proofs.text.take_text.Goals as goal

pub returns-in-Ok : goal.returns-in-Ok
returns-in-Ok c =
    let inside = c.in_ok-first.inside.now in
    let n = c.plain_len.result in
    sym c.after_gap.ensures
    ∙ lex-quoted c.after_gap.result.now inside (take n inside) (drop n inside) c.in_ok-last.behind.now c.in_ok-first.first.now c.in_ok-last.last.now c.in_ok-first.ensures.cases.0 c.if-first-ne34.false
    (sym (take-append-drop n inside)) (sym c.split_at.ensures.back ∙ c.in_ok-last.ensures.cases.0) c.if-last-ne34.false (plain-take inside n c.plain_len.ensures.within c.plain_len.ensures.plain)
    ∙ ap (λ s. token (string s) ∷ lex between c.in_ok-last.behind.now) (sym (c.in-Ok.ensures.cases.0 ∙ c.split_at.ensures.front))
