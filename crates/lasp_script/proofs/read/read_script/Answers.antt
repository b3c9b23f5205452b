use Rattle.model_readings.specs.Lawful.{IsGraph, FitsAll}
use Rattle.model_world.specs.Command.{Script}
use Rattle.model_world.specs.Lawful.{IsLawful, IsWithinLimits}
use Rattle.model_scripts.specs.Progress.{grown}
use Rattle.model_scripts.proofs.Reached.{accepted-script_of}
use Rattle.lasp_graph.specs.Library.{library_of}
use Rattle.lasp_script.proofs.Accepted.{of-accepted}
use Rattle.lasp_script.proofs.read.read_script.Goals as goal

pub returns-clause-lawful : goal.returns-clause-lawful
returns-clause-lawful g c =
    of-accepted (λ (s : Script). IsLawful c.args.g.now s) (library_of c.args.lib.now) c.args.g.now c.args.bytes.now c.read_bytes.result
    (λ s e. (accepted-script_of (library_of c.args.lib.now) c.args.g.now c.args.bytes.now s e).lawful) c.read_bytes.ensures

pub returns-clause-limits : goal.returns-clause-limits
returns-clause-limits g c =
    of-accepted IsWithinLimits (library_of c.args.lib.now) c.args.g.now c.args.bytes.now c.read_bytes.result
    (λ s e. (accepted-script_of (library_of c.args.lib.now) c.args.g.now c.args.bytes.now s e).limits) c.read_bytes.ensures

pub returns-clause-graph : goal.returns-clause-graph
returns-clause-graph g c =
    of-accepted (λ (s : Script). IsGraph (grown c.args.g.now s.commands)) (library_of c.args.lib.now) c.args.g.now c.args.bytes.now c.read_bytes.result
    (λ s e. (accepted-script_of (library_of c.args.lib.now) c.args.g.now c.args.bytes.now s e).graph c.recall.ensures) c.read_bytes.ensures

pub returns-clause-fits : goal.returns-clause-fits
returns-clause-fits g c = λ fits.
    of-accepted (λ (s : Script). FitsAll (library_of c.args.lib.now) (grown c.args.g.now s.commands)) (library_of c.args.lib.now) c.args.g.now c.args.bytes.now c.read_bytes.result
    (λ s e. (accepted-script_of (library_of c.args.lib.now) c.args.g.now c.args.bytes.now s e).fits fits) c.read_bytes.ensures
