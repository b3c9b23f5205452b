use Rattle.lasp_graph.specs.Library.{library_of}
use Rattle.lasp_graph.specs.Written.{form_view}
use Rattle.lasp_graph.proofs.Declared.{kind_inputs}
use Rattle.lasp_graph.proofs.read.read_sound_kind.Goals as goal

pub returns-clause-inputs : goal.returns-clause-inputs
returns-clause-inputs g c = kind_inputs (library_of c.args.lib.now) c.args.g.now (form_view c.args.form.now) c.read_kind.result c.read_kind.ensures
