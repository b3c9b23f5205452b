use Rattle.std.proofs.Common.{◌≡◌, drop}
use Rattle.json.specs.Lex.{between, lex}
use Rattle.lasp_spelling.proofs.gap.after_gap.Given as goal

abbrev pub invariant-loop-i : goal.invariant-loop-i
invariant-loop-i l = lex between (drop l.i l.rest) ≡ lex between l.rest
