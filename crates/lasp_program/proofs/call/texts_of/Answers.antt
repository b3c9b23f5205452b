use Rattle.std.proofs.Common.{◌≡◌, List, ℕ, ap, subst, ◌∙◌, arith, refl, length}
use Rattle.std.specs.Prelude.{slice_get, Some}
use Rattle.std.specs.Str.{IsUtf8}
use Rattle.std.proofs.lemmas.Option.{slice_get_read}
use Rattle.lasp_call.specs.Words.{words_of}
use Rattle.lasp_program.proofs.CallLaws.{texts-more, bytes-more, texts-none, texts-all}
use Rattle.lasp_program.proofs.call.texts_of.Goals as goal

pub loop-word-init : goal.loop-word-init
loop-word-init c = record { texts = ap (λ ts. words_of ts) c.new-texts.ensures.items; good = tt }

pub returns-in-Err : goal.returns-in-Err
returns-in-Err c =
    let at : slice_get c.args.words.now c.loop-word.word-index ≡ Some c.word-item.result = slice_get_read c.args.words.now (length c.args.words.now) c.loop-word.word-index c.word-item.result refl (omega (arith, c.loop-word-test.true)) c.word-item.is in
    texts-none c.args.words.now c.loop-word.word-index c.word-item.result at (subst (λ (bytes : List ℕ). ¬ IsUtf8 bytes) c.deref.ensures.value c.in-Err.ensures.cases.0)

pub loop-word-preserved : goal.loop-word-preserved
loop-word-preserved c =
    let at : slice_get c.args.words.now c.loop-word.word-index ≡ Some c.word-item.result = slice_get_read c.args.words.now (length c.args.words.now) c.loop-word.word-index c.word-item.result refl (omega (arith, c.loop-word-test.true)) c.word-item.is in
    record {
      texts = ap (λ ts. words_of ts) c.in_ok-push-in-Ok.ensures.items
          ∙ bytes-more c.args.words.now c.loop-word.texts.items c.loop-word.word-index c.word-item.result c.in_ok-from_str-in-Ok.field-0 at c.loop-word.invariant.texts
          (c.in_ok-from_str-in-Ok.ensures.ok ∙ c.in-Ok.ensures.cases.0 ∙ c.deref.ensures.value);
      good = texts-more c.args.words.now c.loop-word.word-index c.word-item.result at c.loop-word.invariant.good (subst (λ (bytes : List ℕ). IsUtf8 bytes) c.deref.ensures.value c.in-Ok.ensures.cases.1);
    }

pub returns : goal.returns
returns c = texts-all c.args.words.now c.loop-word.texts.items c.loop-word.word-index (omega (arith, c.loop-word-test.false)) c.loop-word.invariant.texts c.loop-word.invariant.good
