-- Values as an array of JSON, one after the other.
use Rattle.std.proofs.Common.{◌≡◌, ℕ, ◌+◌, List, [], ◌∷◌, ◌++◌, drop, sym, ap, ◌∙◌}
use Rattle.std.specs.Prelude.{Some, slice_get}
use Rattle.std.proofs.lemmas.List.{append_assoc}
use Rattle.model_values.specs.Value.{Val}
use Rattle.model_values.specs.Text.{shown, shown_after}
use Rattle.model_values.proofs.ListLaws.{drop-at}

-- a comma and the next value were written
pub values-next : (before middle after : List ℕ) (vs : List Val) (i : ℕ) (v : Val) → slice_get vs i ≡ Some v → middle ≡ before ++ 44 ∷ [] → after ≡ middle ++ shown v
    → after ++ shown_after (drop (i + 1) vs) ≡ before ++ shown_after (drop i vs)
values-next before middle after vs i v at comma next =
    ap (λ (t : List ℕ). t ++ shown_after (drop (i + 1) vs)) (next ∙ ap (λ (t : List ℕ). t ++ shown v) comma ∙ append_assoc before (44 ∷ []) (shown v))
    ∙ append_assoc before (44 ∷ shown v) (shown_after (drop (i + 1) vs))
    ∙ ap (λ (rest : List Val). before ++ shown_after rest) (sym (drop-at vs i v at))
