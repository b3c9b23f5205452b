use Rattle.std.proofs.Common.{◌≡◌, ◌+◌, get_or, arith}
use Rattle.std.specs.Char.{digit_value}
use Rattle.std.specs.Int.{IsInRange}
use Rattle.std.proofs.lemmas.Int.Digits.{digits_more, digits_value_more}
use Rattle.std.proofs.lemmas.Str.{digit_value_digit}
use Rattle.lasp_spelling.proofs.number.value_of_digits.Goals as goal

pub loop-i-preserved : goal.loop-i-preserved
loop-i-preserved c =
    let byte = get_or c.args.bytes.now c.loop-i.i 0 in
    let is_one : IsInRange 48 57 byte = c.is_digit.ensures c.if-not-is_digit.false in
    let told : digit_value byte + 48 ≡ byte = digit_value_digit byte is_one in
    record {
      digits = digits_more 10 c.args.bytes.now c.loop-i.i c.loop-i-test.true c.loop-i.invariant.digits (omega (arith, told, is_one));
      value = omega (arith, digits_value_more 10 c.args.bytes.now c.loop-i.i c.loop-i-test.true, c.loop-i.invariant.value, told, is_one, c.from.ensures);
      small = omega (arith, c.if-n-ge-LIMIT.false, told, is_one, c.from.ensures);
    }
