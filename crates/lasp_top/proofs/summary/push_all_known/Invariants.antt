use Rattle.std.proofs.Common.{◌≡◌, ◌++◌, length, drop}
use Rattle.std.specs.Prelude.{string_bytes}
use Rattle.lasp_top.specs.Summary.{known_by}
use Rattle.lasp_top.proofs.summary.push_all_known.Given as goal

abbrev pub invariant-loop-p : goal.invariant-loop-p
invariant-loop-p l = record {
  end : l.p-end ≡ length l.cores;
  text : string_bytes l.text ++ known_by l.p (drop l.p l.cores) ≡ string_bytes l.fn.text ++ known_by 0 l.cores;
}
