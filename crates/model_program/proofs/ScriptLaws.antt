-- A worked script.
use Rattle.std.proofs.Common.{◌≡◌, codes, refl}
use Rattle.std.specs.Fmt.{digits}
use Rattle.model_program.specs.Generator.{commands, load_script}

pub four_commands : load_script 1 4 ≡ codes "[[\"nodes\",4],[\"add\",2,\"a\",526],[\"inc\",2,\"c\",180],[\"add\",1,\"a\",316],[\"add\",3,\"b\",547],[\"sync\"]]"
unfolding commands digits
four_commands = refl
