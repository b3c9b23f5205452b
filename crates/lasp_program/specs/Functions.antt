-- The library of the program: the functions that its graphs may name, in order, each with the operations whose meaning it has.
use Rattle.std.specs.Prelude.{ℕ, pos, negsuc, List, [], ◌∷◌, codes}
use Rattle.model_functions.specs.Library.{Library}
use Rattle.model_functions.specs.Map.{MapOp, Add, Times, Neg, Abs, First, Second, Swap, Length, Lower}
use Rattle.model_functions.specs.Predicate.{PredOp, Even, Above, Below, IsText, StartsWith, KeyMatch, Same}
use Rattle.model_functions.specs.Lift as lift

unfoldable pub program_maps : List (List ℕ × List MapOp)
program_maps =
    (codes "id", []) ∷
    (codes "succ", Add (pos 1) ∷ []) ∷
    (codes "double", Times (pos 2) ∷ []) ∷
    (codes "neg", Neg ∷ []) ∷
    (codes "abs", Abs ∷ []) ∷
    (codes "first", First ∷ []) ∷
    (codes "second", Second ∷ []) ∷
    (codes "swap", Swap ∷ []) ∷
    (codes "length", Length ∷ []) ∷
    (codes "lower", Lower ∷ []) ∷
    (codes "key", First ∷ First ∷ []) ∷ []

-- `negsuc 0` is -1
unfoldable pub program_predicates : List (List ℕ × List PredOp)
program_predicates =
    (codes "all", []) ∷
    (codes "even", Even ∷ []) ∷
    (codes "positive", Above (pos 0) ∷ []) ∷
    (codes "negative", Below (pos 0) ∷ []) ∷
    (codes "small", Above (negsuc 0) ∷ Below (pos 100) ∷ []) ∷
    (codes "text", IsText ∷ []) ∷
    (codes "key_match", KeyMatch ∷ []) ∷
    (codes "same", Same ∷ []) ∷
    (codes "tagged", IsText ∷ StartsWith (codes "#") ∷ []) ∷ []

unfoldable pub program_lifts : List (List ℕ × lift.LiftOp)
program_lifts =
    (codes "one", lift.One) ∷
    (codes "itself", lift.Itself) ∷
    (codes "length", lift.Length) ∷
    (codes "first", lift.First) ∷ []

unfoldable pub program_library : Library
program_library = record { maps = program_maps; predicates = program_predicates; lifts = program_lifts }
