use Rattle.std.proofs.Common.{◌≡◌, ◌++◌, length, map}
use Rattle.std.specs.Vec.Iter.{into_iter_items, into_iter_len}
use Rattle.lasp_value.specs.Value.{val_of}
use Rattle.lasp_state.specs.Members.{member}
use Rattle.lasp_state.proofs.gset.GSet.from_ascending.Given as goal

abbrev pub invariant-loop-value : goal.invariant-loop-value
invariant-loop-value l = (l.yielded ++ into_iter_items l.value-iterator ≡ into_iter_items l.initial.value-iterator)
    × (l.rows.items ≡ map member (map val_of l.yielded))
    × (into_iter_len l.value-iterator ≡ length (into_iter_items l.value-iterator))
