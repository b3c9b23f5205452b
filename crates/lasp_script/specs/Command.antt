-- Commands as plain data.
use Rattle.std.specs.Prelude.{List, map}
use Rattle.model_world.specs.Command as plain
use Rattle.lasp_value.specs.Value.{val_of}
use Rattle.lasp_graph.specs.Decl.{decl_of}
use Rattle.lasp_script.specs.declared.command.Until.{Until}
use Rattle.lasp_script.specs.declared.command.Until.TheVariants.{AtLeast, Above, Count, Added, Removed}
use Rattle.lasp_script.specs.declared.command.Command.{Command}
use Rattle.lasp_script.specs.declared.command.Command.TheVariants.{Add, Remove, Insert, Inc, Max, Mark, Bind, Send, Deliver, Sync, Settle, Print, Read, Await, Declare}

abbrev pub until_of : Until → plain.Until
until_of (AtLeast mark) = plain.AtLeast mark
until_of (Above mark) = plain.Above mark
until_of (Count n) = plain.Count n
until_of (Added values) = plain.Added values
until_of (Removed values) = plain.Removed values

abbrev pub command_of : Command → plain.Command
command_of (Add node var value) = plain.Add node var (val_of value)
command_of (Remove node var value) = plain.Remove node var (val_of value)
command_of (Insert node var value) = plain.Insert node var (val_of value)
command_of (Inc node var count) = plain.Inc node var count
command_of (Max node var top) = plain.Max node var top
command_of (Mark node var) = plain.Mark node var
command_of (Bind node var mark) = plain.Bind node var mark
command_of (Send node) = plain.Send node
command_of (Deliver node message) = plain.Deliver node message
command_of Sync = plain.Sync
command_of Settle = plain.Settle
command_of (Print node var) = plain.Print node var
command_of (Read node var until) = plain.Read node var (until_of until)
command_of (Await node var until) = plain.Await node var (until_of until)
command_of (Declare decl) = plain.Declare (decl_of decl)

abbrev pub commands_of : List Command → List plain.Command
commands_of ks = map command_of ks
