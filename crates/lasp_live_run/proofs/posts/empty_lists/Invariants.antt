use Rattle.std.proofs.Common.{◌≡◌, ℕ, [], length}
use Rattle.std.specs.Prelude.{slice_get, Some}
use Rattle.std.specs.declared.alloc.Global.{Global}
use Rattle.std.specs.declared.vec.Vec.{Vec}
use Rattle.lasp_live.specs.Ends.{In}
use Rattle.lasp_live_run.proofs.posts.empty_lists.Given as goal

abbrev pub invariant-loop : goal.invariant-loop
invariant-loop l = record {
  size : length l.lists.items ≡ l.counter;
  empty : (p : ℕ) (es : Vec In Global) → slice_get l.lists.items p ≡ Some es → es.items ≡ [];
}
