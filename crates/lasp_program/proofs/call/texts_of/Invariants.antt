use Rattle.std.proofs.Common.{◌≡◌, take}
use Rattle.model_program.specs.Call.{AreTexts}
use Rattle.lasp_call.specs.Words.{words_of}
use Rattle.lasp_program.specs.Call.{bytes_of}
use Rattle.lasp_program.proofs.call.texts_of.Given as goal

abbrev pub invariant-loop-word : goal.invariant-loop-word
invariant-loop-word l = record {
  texts : words_of l.texts.items ≡ bytes_of (take l.word-index l.words);
  good : AreTexts (bytes_of (take l.word-index l.words));
}
