use Rattle.model_scripts.proofs.Reached.{accepted-script_of}
use Rattle.model_scripts.proofs.accepted.accepted_scripts_are_lawful.Goals as goal

pub returns-clause-lawful : goal.returns-clause-lawful
returns-clause-lawful c = λ lib g bytes s e. (accepted-script_of lib g bytes s e).lawful

pub returns-clause-limits : goal.returns-clause-limits
returns-clause-limits c = λ lib g bytes s e. (accepted-script_of lib g bytes s e).limits

pub returns-clause-graph : goal.returns-clause-graph
returns-clause-graph c = λ lib g bytes s e. (accepted-script_of lib g bytes s e).graph

pub returns-clause-fits : goal.returns-clause-fits
returns-clause-fits c = λ lib g bytes s e. (accepted-script_of lib g bytes s e).fits
