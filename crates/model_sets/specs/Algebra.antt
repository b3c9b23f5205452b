-- The plain algebra of sets, without tokens, and when a set state shows just what the plain operations give.
use Rattle.std.specs.Prelude.{◌≡◌, ℕ, Bool, ◌||◌, ◌==◌, List, map, filter, flat_map}
use Rattle.model_values.specs.Value.{Val, pair}
use Rattle.model_values.specs.Token.{Tok, single, both}
use Rattle.model_values.specs.Row.{Row}
use Rattle.model_sets.specs.Rows.{level, mark, HasRow}
use Rattle.model_sets.specs.Values.{held, of_values, unite}

-- The image of a set.
abbrev pub plain_map : (Val → Val) → List Val → List Val
plain_map f s = of_values (map f s)

-- The values of a set that pass the test.
abbrev pub plain_filter : (Val → Bool) → List Val → List Val
plain_filter p s = filter p s

-- The values of either set.
abbrev pub plain_union : List Val → List Val → List Val
plain_union s t = unite s t

-- The pairs of a value of the one and a value of the other.
abbrev pub plain_product : List Val → List Val → List Val
plain_product s t = of_values (flat_map (λ v. map (pair v) t) s)

-- The values that both sets have.
abbrev pub plain_intersection : List Val → List Val → List Val
plain_intersection s t = filter (λ v. held t v == 1) s

-- The value has a row with the token, and it is live.
abbrev pub IsLive : List Row → Val → Tok → Type 0
IsLive s v t = mark s v t ≡ 1

-- Whether a single token in the token is one of the dead.
abbrev pub is_gone : (ℕ → ℕ → Bool) → Tok → Bool
is_gone dead (single q k) = dead q k
is_gone dead (both t s) = is_gone dead t || is_gone dead s

-- Each row is dead exactly where a single token in its token is one of the dead. A token that is dead on one side of a union and live on the other breaks this.
abbrev pub IsMarkedBy : (ℕ → ℕ → Bool) → List Row → Type 0
IsMarkedBy dead s = (v : Val) (t : Tok) → HasRow s v t → mark s v t ≡ level (is_gone dead t)
