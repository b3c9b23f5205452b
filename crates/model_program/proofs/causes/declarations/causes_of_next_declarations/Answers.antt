use Rattle.model_program.proofs.DeclarationLaws.{next-many, next-room}
use Rattle.model_program.proofs.causes.declarations.causes_of_next_declarations.Goals as goal

pub returns-clause-too_many : goal.returns-clause-too_many
returns-clause-too_many c = next-many

pub returns-clause-room : goal.returns-clause-room
returns-clause-room c = next-room
