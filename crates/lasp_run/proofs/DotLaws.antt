-- The graph of one set, and what is answered of a script over it.
use Rattle.std.proofs.Common.{ℕ, sym, ap, ◌∙◌}
use Rattle.std.specs.Prelude.{◌≡◌, List, None, Option, Ok}
use Rattle.model_world.specs.Command.{Script}
use Rattle.model_dots.specs.DotReport.{dot_output}
use Rattle.model_dots.specs.Words.{first_other}
use Rattle.model_program.specs.Dots.{dots_or, dots_answer}

-- the text of any other
pub answer-text : (s : Script) (first : Option ℕ) (text : List ℕ) → first ≡ first_other 1 s.commands → first ≡ None → text ≡ dot_output s.nodes s.commands → dots_answer s ≡ Ok text
answer-text s first text told none is = ap (dots_or s) (sym told ∙ none) ∙ ap (λ (t : List ℕ). Ok t) (sym is)
