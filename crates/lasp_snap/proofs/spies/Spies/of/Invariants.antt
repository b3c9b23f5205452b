use Rattle.std.proofs.Common.{◌≡◌, All, length}
use Rattle.left_right.specs.Sides.{view}
use Rattle.lasp_snap.specs.Views.{IsNewSpy, shelf_view}
use Rattle.lasp_snap.proofs.spies.Spies.of.Given as goal

abbrev pub invariant-loop-made : goal.invariant-loop-made
invariant-loop-made l =
    (l.writer.desk.shown.value ≡ l.fn.writer.desk.shown.value) × (view l.writer.desk.place ≡ view l.fn.writer.desk.place)
    × (length l.spies.items ≡ l._made) × All (IsNewSpy (shelf_view l.fn.writer.desk.shown.value)) l.spies.items
