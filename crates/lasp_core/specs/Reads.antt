-- Reads as plain data.
use Rattle.std.specs.Arc.{arc_value}
use Rattle.model_core.specs.Core.{Read}
use Rattle.lasp_state.specs.Threshold.{threshold_of}
use Rattle.lasp_core.specs.declared.read.ReadNo.{ReadNo}

abbrev pub read_of : ReadNo → Read
read_of r = record { number = r.number; var = r.var; threshold = threshold_of (arc_value r.threshold) }
