use Rattle.std.proofs.Common.{◌≡◌, ◌≤◌, ◌++◌, drop, length}
use Rattle.std.specs.Prelude.{string_bytes}
use Rattle.model_live.specs.Lived.{stories_lines}
use Rattle.lasp_live.specs.Texts.{stories_of}
use Rattle.lasp_live.proofs.text.push_stories.Given as goal

abbrev pub invariant-loop-p : goal.invariant-loop-p
invariant-loop-p l = record {
  end : l.p-end ≡ length l.cores;
  within : l.p ≤ length l.cores;
  text : string_bytes l.text ++ stories_lines l.graph (length l.cores) l.p (drop l.p (stories_of l.cores l.diaries)) ≡ string_bytes l.fn.text ++ stories_lines l.graph (length l.cores) 0 (stories_of l.cores l.diaries);
}
