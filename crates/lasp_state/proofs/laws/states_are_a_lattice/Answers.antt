use Rattle.lasp_state.proofs.JoinLaws as laws
use Rattle.lasp_state.proofs.laws.states_are_a_lattice.Goals as goal

pub returns-clause-same : goal.returns-clause-same
returns-clause-same c = laws.same

pub returns-clause-kept : goal.returns-clause-kept
returns-clause-kept c = laws.kept

pub returns-clause-idempotent : goal.returns-clause-idempotent
returns-clause-idempotent c = laws.idempotent

pub returns-clause-commutative : goal.returns-clause-commutative
returns-clause-commutative c = laws.commutative

pub returns-clause-associative : goal.returns-clause-associative
returns-clause-associative c = laws.associative

pub returns-clause-left : goal.returns-clause-left
returns-clause-left c = laws.left

pub returns-clause-right : goal.returns-clause-right
returns-clause-right c = laws.right

pub returns-clause-upper : goal.returns-clause-upper
returns-clause-upper c = laws.upper

pub returns-clause-antisymmetric : goal.returns-clause-antisymmetric
returns-clause-antisymmetric c = laws.antisymmetric
