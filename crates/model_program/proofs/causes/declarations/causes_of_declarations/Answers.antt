use Rattle.model_program.proofs.DeclarationLaws.{decl-shape, decl-name, decl-taken, decl-input, decl-kind, decl-function, decl-wide, decl-accepted, form-kind, decl-only}
use Rattle.model_program.proofs.causes.declarations.causes_of_declarations.Goals as goal

pub returns-clause-shape : goal.returns-clause-shape
returns-clause-shape c = decl-shape

pub returns-clause-name_shape : goal.returns-clause-name_shape
returns-clause-name_shape c = decl-name

pub returns-clause-name_taken : goal.returns-clause-name_taken
returns-clause-name_taken c = decl-taken

pub returns-clause-unknown_input : goal.returns-clause-unknown_input
returns-clause-unknown_input c = decl-input

pub returns-clause-wrong_kind : goal.returns-clause-wrong_kind
returns-clause-wrong_kind c = decl-kind

pub returns-clause-unknown_function : goal.returns-clause-unknown_function
returns-clause-unknown_function c = decl-function

pub returns-clause-too_wide : goal.returns-clause-too_wide
returns-clause-too_wide c = λ lib before d w kind is. decl-wide lib before d w is kind

pub returns-clause-accepted : goal.returns-clause-accepted
returns-clause-accepted c = λ lib before d w kind is. decl-accepted lib before d w is kind

pub returns-clause-kind : goal.returns-clause-kind
returns-clause-kind c = form-kind

pub returns-clause-only : goal.returns-clause-only
returns-clause-only c = decl-only
