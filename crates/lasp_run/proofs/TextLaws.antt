-- The lines of what variables show, one after the other.
use Rattle.std.proofs.Common.{◌≡◌, ℕ, ◌+◌, List, [], ◌∷◌, ◌++◌, drop, Some, sym, ap, ◌∙◌, append_assoc}
use Rattle.std.specs.Prelude.{slice_get}
use Rattle.model_values.proofs.ListLaws.{drop-at}
use Rattle.model_states.specs.Content.{Content}
use Rattle.model_graph.specs.Graph.{Decl}
use Rattle.model_graph.specs.Evaluation.{content_at}
use Rattle.model_program.specs.Merge.{value_lines}
use Rattle.model_world.specs.Line.{line, shown_content}

-- one line more
pub values-next : (g : List Decl) (x : ℕ) (d : Decl) (shown : List Content) (drawn text more whole : List ℕ) → slice_get g x ≡ Some d → drawn ≡ shown_content d.kind (content_at shown x)
    → more ≡ text ++ line (d.name ∷ drawn ∷ []) → text ++ value_lines x (drop x g) shown ≡ whole → more ++ value_lines (x + 1) (drop (x + 1) g) shown ≡ whole
values-next g x d shown drawn text more whole at is new before =
    let rest : List ℕ = value_lines (x + 1) (drop (x + 1) g) shown in
    ap (λ (t : List ℕ). t ++ rest) new
    ∙ append_assoc text (line (d.name ∷ drawn ∷ [])) rest
    ∙ ap (λ (t : List ℕ). text ++ (line (d.name ∷ t ∷ []) ++ rest)) is
    ∙ ap (λ (ds : List Decl). text ++ value_lines x ds shown) (sym (drop-at g x d at))
    ∙ before
