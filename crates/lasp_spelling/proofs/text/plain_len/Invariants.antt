use Rattle.std.proofs.Common.{◌≡◌, ℕ, ◌<◌, get_or, true}
use Rattle.json.specs.Run.{is_plain}
use Rattle.lasp_spelling.proofs.text.plain_len.Given as goal

abbrev pub invariant-loop-i : goal.invariant-loop-i
invariant-loop-i l = (i : ℕ) → i < l.i → is_plain (get_or l.bytes i 0) ≡ true
