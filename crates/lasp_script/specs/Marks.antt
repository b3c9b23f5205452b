-- The marks of a script: the name of each, and the variable that it was made of, by the marks' numbers.
use Rattle.std.specs.Prelude.{ℕ, List, map}

abbrev pub Mark : Type 0
Mark = List ℕ × ℕ

abbrev pub names_of : List Mark → List (List ℕ)
names_of ms = map (λ m. m.0) ms

abbrev pub marked_of : List Mark → List ℕ
marked_of ms = map (λ m. m.1) ms
