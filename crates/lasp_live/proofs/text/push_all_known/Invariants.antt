use Rattle.std.proofs.Common.{◌≡◌, ◌≤◌, ◌++◌, drop, length, map}
use Rattle.std.specs.Prelude.{string_bytes}
use Rattle.model_world.specs.Report.{known_lines}
use Rattle.lasp_live.specs.Texts.{peer_in}
use Rattle.lasp_live.proofs.text.push_all_known.Given as goal

abbrev pub invariant-loop-p : goal.invariant-loop-p
invariant-loop-p l = record {
  end : l.p-end ≡ length l.cores;
  within : l.p ≤ length l.cores;
  text : string_bytes l.text ++ known_lines l.p (drop l.p (map peer_in l.cores)) ≡ string_bytes l.fn.text ++ known_lines 0 (map peer_in l.cores);
}
