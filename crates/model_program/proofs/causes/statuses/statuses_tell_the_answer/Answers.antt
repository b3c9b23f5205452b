use Rattle.model_program.proofs.StatusLaws.{done-text, usage-told, graph-told, script-told, long-file, fault-text, limit-told, unreached-told, state-told}
use Rattle.model_program.proofs.causes.statuses.statuses_tell_the_answer.Goals as goal

pub returns-clause-done : goal.returns-clause-done
returns-clause-done g c = λ p words files out err answer all decides. done-text p words files out err answer all decides

pub returns-clause-usage : goal.returns-clause-usage
returns-clause-usage g c = λ p words files out err answer all decides. usage-told p words files out err answer all decides

pub returns-clause-graph : goal.returns-clause-graph
returns-clause-graph g c = λ p words files out err answer all decides. graph-told p words files out err answer all decides

pub returns-clause-script : goal.returns-clause-script
returns-clause-script g c = λ p words files out err answer all decides. script-told p words files out err answer all decides

pub returns-clause-file : goal.returns-clause-file
returns-clause-file g c = λ p words files out err answer all decides. long-file p words files out err answer all decides

pub returns-clause-fault : goal.returns-clause-fault
returns-clause-fault g c = λ p words files out err answer all decides. fault-text p words files out err answer all decides

pub returns-clause-limit : goal.returns-clause-limit
returns-clause-limit g c = λ p words files out err answer all decides. limit-told p words files out err answer all decides

pub returns-clause-unreached : goal.returns-clause-unreached
returns-clause-unreached g c = λ p words files out err answer all decides. unreached-told p words files out err answer all decides

pub returns-clause-state : goal.returns-clause-state
returns-clause-state g c = λ p words files out err answer all decides. state-told p words files out err answer all decides
