use Rattle.std.proofs.Common.{◌-◌, length}
use Rattle.std.specs.Prelude.{string_bytes}
use Rattle.lasp_live.specs.Diary.{notes_of}
use Rattle.lasp_live.proofs.TextLaws.{AreTelling}
use Rattle.lasp_live.proofs.text.push_notes.Given as goal

abbrev pub invariant-loop-n : goal.invariant-loop-n
invariant-loop-n l = AreTelling l.graph l.core.frame l.core.entries l.p l.place (length l.core.entries) l.n (notes_of l.diary) (string_bytes l.fn.text) (string_bytes l.text)

abbrev pub decreases-loop-n : goal.decreases-loop-n
decreases-loop-n l = length l.diary.notes.items - l.n
