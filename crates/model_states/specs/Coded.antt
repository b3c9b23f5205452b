-- Shapes and contents as trees of numbers.
use Rattle.std.specs.Prelude.{◌≡◌, ℕ, ℤ, List, Option, refl, if◌then◌else◌, ◌==◌}
use Rattle.std.specs.Coded.{Coded, code_by, coded×, coded_ℕ, coded_ℤ, coded_list, coded_option}
use Rattle.model_values.specs.Value.{Val, coded_val}
use Rattle.model_values.specs.Row.{Row, coded_rows}
use Rattle.model_states.specs.Content.{Content}
use Rattle.model_states.specs.Threshold.{Shape, set, grow, counter, register, fold}

-- a shape as its place among the shapes and a number of nodes
abbrev pub shape_parts : Shape → ℕ × ℕ
shape_parts set = (0, 0)
shape_parts grow = (1, 0)
shape_parts (counter nodes) = (2, nodes)
shape_parts register = (3, 0)
shape_parts fold = (4, 0)

abbrev pub shape_from : ℕ × ℕ → Shape
shape_from p = if p.0 == 0 then set else (if p.0 == 1 then grow else (if p.0 == 2 then counter p.1 else (if p.0 == 3 then register else fold)))

pub shape_from-parts : (s : Shape) → shape_from (shape_parts s) ≡ s
shape_from-parts set = refl
shape_from-parts grow = refl
shape_from-parts (counter nodes) = refl
shape_from-parts register = refl
shape_from-parts fold = refl

abbrev pub coded_shape : Coded Shape
coded_shape = code_by (ℕ × ℕ) (coded× coded_ℕ coded_ℕ) shape_parts shape_from shape_from-parts

abbrev Parts : Type 0
Parts = (List Row × List Val) × (List ℕ × Option ℤ)

abbrev pub coded_content : Coded Content
coded_content =
    code_by Parts (coded× (coded× coded_rows (coded_list coded_val)) (coded× (coded_list coded_ℕ) (coded_option coded_ℤ)))
    (λ s. ((s.rows, s.values), (s.counts, s.top))) (λ p. record { rows = p.0.0; values = p.0.1; counts = p.1.0; top = p.1.1 }) (λ _. refl)
