-- For what a part of a message can be refused.
use Rattle.std.specs.Prelude.{◌≢◌}
use Rattle.model_wire.specs.declared.wire_why.WireWhy.{WireWhy}
use Rattle.model_wire.specs.declared.wire_why.WireWhy.TheVariants.{Magic, Rest}

-- a cause of the part itself: neither the beginning of the whole, nor what follows its end
abbrev pub IsOfPart : WireWhy → Type 0
IsOfPart why = (why ≢ Magic) × (why ≢ Rest)
