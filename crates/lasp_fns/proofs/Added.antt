-- What an insertion that may find no memory leaves.
use Rattle.std.proofs.Common.{◌≡◌, ℕ, ◌+◌, ◌<◌, ◌≤◌, List, length, Result, Ok, Err, IfOk, OnErr, IsErr, IsErrAnd, Option, Some, None, is_some, if◌then◌else◌, ap, arith, Bool, true, false, sym, ◌∙◌, IsTrue}
use Rattle.lasp_fns.specs.declared.refused.LibraryRefused.{LibraryRefused}
use Rattle.lasp_fns.specs.declared.refused.LibraryRefused.TheVariants.{NameTaken, Memory}

-- at most one entry is more
pub few-after : {A E X : Type 0} (es fs : List X) (r : Result (Option A) E) (n : ℕ) → IfOk r (λ old. length fs ≡ length es + (if is_some old then 0 else 1)) → OnErr r (fs ≡ es) → length es < n → length fs ≤ n
few-after es fs (Ok (Some a)) n more same room = omega (arith, more, room)
few-after es fs (Ok None) n more same room = omega (arith, more, room)
few-after es fs (Err e) n more same room = omega (arith, ap length same, room)

-- want of memory is no taken name
pub memory-taken : (r : Result (Unit {0}) LibraryRefused) → IsErrAnd r (λ x. x ≡ Memory) → r ≡ Err NameTaken → ⊥
memory-taken (Ok x) m t = cc
memory-taken (Err e) m t = cc

pub not-both : (b c : Bool) → b ≡ c → c ≡ false → IsTrue b → ⊥
not-both b c e f t = cc
