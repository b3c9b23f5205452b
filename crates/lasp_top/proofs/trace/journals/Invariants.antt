use Rattle.std.proofs.Common.{◌≡◌, ◌++◌, length, drop}
use Rattle.std.specs.Prelude.{string_bytes}
use Rattle.lasp_top.specs.Closed.{traces_of}
use Rattle.lasp_top.proofs.trace.journals.Given as goal

abbrev pub invariant-loop-p : goal.invariant-loop-p
invariant-loop-p l = record {
  end : l.p-end ≡ length l.cores;
  text : string_bytes l.text ++ traces_of l.p (drop l.p l.cores) ≡ traces_of 0 l.cores;
}
