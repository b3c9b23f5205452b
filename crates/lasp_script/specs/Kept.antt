-- How a script is kept: its nodes and its commands.
use Rattle.std.specs.Prelude.{ℕ, List}
use Rattle.model_world.specs.Command.{Script}
use Rattle.lasp_script.specs.declared.command.Command as rust
use Rattle.lasp_script.specs.Command.{commands_of}

abbrev pub script_of_parts : ℕ → List rust.Command → Script
script_of_parts nodes ks = record { nodes = nodes; commands = commands_of ks }
