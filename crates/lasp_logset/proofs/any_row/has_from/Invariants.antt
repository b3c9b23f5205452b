use Rattle.std.proofs.Common.{ℕ, ◌<◌, IsTrue, slice_get}
use Rattle.lasp_value.specs.Value.{val_of}
use Rattle.lasp_logset.specs.Places.{is_row_as}
use Rattle.lasp_logset.proofs.any_row.has_from.Given as goal

abbrev pub invariant-loop-place : goal.invariant-loop-place
invariant-loop-place l = (i : ℕ) → IsTrue (is_row_as (val_of l.value) l.dead (slice_get l.rows.entries i)) → i < l.place → i < l.begin
