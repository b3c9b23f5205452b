use Rattle.model_scripts.proofs.CommandLaws.{command-shape, command-declared, row-node, row-var, row-mark, row-new_mark, row-right, row-brought, row-sent, row-room, command-accepted, command-only}
use Rattle.model_scripts.proofs.causes.causes_of_commands.Goals as goal

pub returns-clause-shape : goal.returns-clause-shape
returns-clause-shape c = command-shape

pub returns-clause-declared : goal.returns-clause-declared
returns-clause-declared c = command-declared

pub returns-clause-no_such_node : goal.returns-clause-no_such_node
returns-clause-no_such_node c = row-node

pub returns-clause-unknown_var : goal.returns-clause-unknown_var
returns-clause-unknown_var c = row-var

pub returns-clause-unknown_mark : goal.returns-clause-unknown_mark
returns-clause-unknown_mark c = row-mark

pub returns-clause-mark_taken : goal.returns-clause-mark_taken
returns-clause-mark_taken c = row-new_mark

pub returns-clause-wrong_op : goal.returns-clause-wrong_op
returns-clause-wrong_op c = row-right

pub returns-clause-value_refused : goal.returns-clause-value_refused
returns-clause-value_refused c = row-brought

pub returns-clause-not_sent : goal.returns-clause-not_sent
returns-clause-not_sent c = row-sent

pub returns-clause-too_many : goal.returns-clause-too_many
returns-clause-too_many c = row-room

pub returns-clause-accepted : goal.returns-clause-accepted
returns-clause-accepted c = command-accepted

pub returns-clause-only : goal.returns-clause-only
returns-clause-only c = command-only
