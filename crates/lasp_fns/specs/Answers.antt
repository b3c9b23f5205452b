-- What a stored map function has to answer.
use Rattle.std.specs.Prelude.{◌≡◌, List, Result, Ok, Err}
use Rattle.std.specs.Coded.{Coded-set, Unit-prop}
use Rattle.std.specs.declared.alloc.AllocError.{AllocError}
use Rattle.model_values.specs.Value.{Val, coded_val}
use Rattle.model_functions.specs.Map.{MapOp, mapped}
use Rattle.lasp_value.specs.declared.value.Value.{Value}
use Rattle.lasp_value.specs.Value.{val_of}

-- the operations' value, or want of memory
abbrev pub Answers : List MapOp → Val → Result Value AllocError → Type 0
Answers ops v (Ok w) = val_of w ≡ mapped ops v
Answers ops v (Err e) = Unit {0}

pub Answers-prop : (ops : List MapOp) (v : Val) (r : Result Value AllocError) → IsProp (Answers ops v r)
Answers-prop ops v (Ok w) = Coded-set coded_val (val_of w) (mapped ops v)
Answers-prop ops v (Err e) = Unit-prop
