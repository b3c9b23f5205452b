-- Functions under names, as they are kept.
use Rattle.std.specs.Prelude.{ℕ, List, map, String, string_bytes}
use Rattle.std.specs.declared.alloc.Global.{Global}
use Rattle.lasp_fns.specs.declared.named.Named.{Named}

-- the functions with their names, in order
abbrev pub named_of : {F : Type 0} → Named F → List (List ℕ × F)
named_of a = map (λ e. (string_bytes e.0, e.1)) a.entries.entries
